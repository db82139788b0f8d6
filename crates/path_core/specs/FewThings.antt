-- What the options of a segment say at most: they have forty octets (RFC 9293, section 3.1).
use Rattle.std.specs.Prelude.{◌≡◌, ℕ, ◌≤◌, Bool, true, false, Some, List, length, filter}
use Rattle.sides.specs.declared.side.Side.{Side}
use Rattle.key_material.specs.Octets.{AreOctets}
use Rattle.path_segments.specs.declared.expected.Expected.{Expected}
use Rattle.path_segments.specs.declared.segment.PathOption.TheVariants.{Prio}
use Rattle.path_segments.specs.declared.spelling.Spelling.{Spelling}
use Rattle.path_segments.specs.Heard.{heard_in, HeardSegment}
use Rattle.path_core.specs.DssIn.{HeardOption}
use Rattle.path_core.specs.OptionsIn.{SaysFew}

-- octets that are a segment say 37 things at most, as many as one REMOVE_ADDR has room for
abbrev pub CopiesSayFew : Type 0
CopiesSayFew = (spelling : Spelling) (from : Side) (expected : Expected) (octets : List ℕ) → AreOctets octets → (heard : HeardSegment)
    → heard_in spelling from expected octets ≡ Some heard → SaysFew heard.options

abbrev pub is_priority : HeardOption → Bool
is_priority (Prio backup) = true
is_priority _ = false

-- 13 of its options are MP_PRIO at most
abbrev pub CopiesHaveFewPriorities : Type 0
CopiesHaveFewPriorities = (spelling : Spelling) (from : Side) (expected : Expected) (octets : List ℕ) → AreOctets octets → (heard : HeardSegment)
    → heard_in spelling from expected octets ≡ Some heard → length (filter is_priority heard.options) ≤ 13
