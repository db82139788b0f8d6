-- Two changes that can be made to a segment on its way. The checksum is made anew after them; octets that are no segment
-- stay as they are.
use Rattle.std.specs.Prelude.{ℕ, ◌-◌, ◌%◌, Bool, false, not, ◌==◌, List, [], ◌∷◌, ◌++◌, length, replicate, filter, flat_map, bit_xor, Result, Ok, Err}
use Rattle.segment_wire.specs.declared.head.Addresses.{Addresses}
use Rattle.segment_wire.specs.declared.reading.SegmentFault.{SegmentFault}
use Rattle.segment_wire.specs.Options.{option_octets}
use Rattle.segment_wire.specs.Segment.{Segment, segment_text}
use Rattle.segment_wire.specs.Reading.{segment_meaning}

-- an option of Multipath TCP has kind 30 (RFC 8684, section 3)
abbrev pub is_multipath : List ℕ → Bool
is_multipath [] = false
is_multipath (kind ∷ rest) = kind == 30

-- options one after the other
abbrev pub packed : List (List ℕ) → List ℕ
packed options = flat_map (λ option. option) options

-- zeros up to a multiple of four octets
abbrev pub padded : List ℕ → List ℕ
padded options = options ++ replicate ((4 - length options % 4) % 4) 0

-- the options but those of Multipath TCP, packed and padded anew
abbrev pub other_options : List ℕ → List ℕ
other_options options = padded (packed (filter (λ option. not (is_multipath option)) (option_octets options)))

-- the segment without its Multipath TCP options
abbrev pub stripped : Segment → Segment
stripped segment = record segment { options = other_options segment.options }

-- octets with the lowest bit of the first one turned
abbrev pub with_turned_bit : List ℕ → List ℕ
with_turned_bit [] = []
with_turned_bit (first ∷ rest) = bit_xor first 1 ∷ rest

-- the segment with the lowest bit of its first payload octet turned
abbrev pub altered : Segment → Segment
altered segment = record segment { payload = with_turned_bit segment.payload }

-- the text of the segment that octets mean, changed
abbrev pub changed_text : (Segment → Segment) → Addresses → List ℕ → Result Segment SegmentFault → List ℕ
changed_text change addresses octets (Ok segment) = segment_text addresses (change segment)
changed_text change addresses octets (Err fault) = octets

-- the octets without their Multipath TCP options
unfoldable pub text_stripped : Addresses → List ℕ → List ℕ
text_stripped addresses octets = changed_text stripped addresses octets (segment_meaning addresses octets)

-- the octets with the lowest bit of their first payload octet turned
unfoldable pub text_altered : Addresses → List ℕ → List ℕ
text_altered addresses octets = changed_text altered addresses octets (segment_meaning addresses octets)
