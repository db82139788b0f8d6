-- What octets have whose lengths are those of a segment.
use Rattle.std.proofs.Common.{◌≡◌, refl, ℕ, ◌≤◌, Bool, true, false, cond, nat_lt, List, length, Ok, Err}
use Rattle.std.proofs.lemmas.Bool.{ltb-false}
use Rattle.segment_wire.specs.declared.reading.SegmentFault.TheVariants.{Short, DataOffset}
use Rattle.segment_wire.specs.Reading.{has_wrong_offset, segment_in}
use Rattle.segment_wire.specs.Parts.{parts_meaning}
use Rattle.segment_wire.specs.Segment.{Segment}

-- there are at least 20 octets
pub long_enough : (octets : List ℕ) (segment : Segment) → Ok segment ≡ parts_meaning octets → 20 ≤ length octets
unfolding parts_meaning
long_enough octets segment is = by (nat_lt (length octets) 20) refl is
  where
    by : (b : Bool) → nat_lt (length octets) 20 ≡ b
        → Ok segment ≡ cond b (Err Short) (cond (has_wrong_offset octets) (Err DataOffset) (Ok (segment_in octets))) → 20 ≤ length octets
    by true short is = absurd cc
    by false long is = ltb-false (length octets) 20 long
