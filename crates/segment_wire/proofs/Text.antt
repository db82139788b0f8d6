-- How long the text of a segment is.
use Rattle.std.proofs.Common.{◌≡◌, ℕ, ◌+◌, ◌++◌, length, refl, arith, length-append}
use Rattle.segment_wire.specs.declared.head.Head.{Head}
use Rattle.segment_wire.specs.Segment.{Segment, fixed_header, octets_with}

pub length-fixed_header : (checksum : ℕ) (head : Head) (options_len : ℕ) → length (fixed_header checksum head options_len) ≡ 20
unfolding fixed_header
length-fixed_header checksum head options_len = refl

pub length-octets_with : (checksum : ℕ) (segment : Segment) → length (octets_with checksum segment) ≡ 20 + length segment.options + length segment.payload
length-octets_with checksum segment =
    omega (arith, length-append (fixed_header checksum segment.head (length segment.options)) (segment.options ++ segment.payload), length-append segment.options segment.payload, length-fixed_header checksum segment.head (length segment.options))
