-- The rule `dss-sum`: a mapping's checksum, tried once, in the segment with which all its octets were held (RFC 8684, section 3.3.1).
use Rattle.std.specs.Prelude.{ℕ, zero, suc, pos, ◌+◌, ◌%◌, ◌^◌, Bool, not, ◌&&◌, ◌||◌, ◌==◌, is_some, if◌then◌else◌, Option, Some, None, List, [], ◌∷◌, ◌++◌, filter}
use Rattle.std.specs.Int.{int_rem_euclid}
use Rattle.std.specs.Option.{unwrap_or}
use Rattle.dss_checksum.specs.Checksum.{dss_checksum}
use Rattle.seq_units.specs.declared.mapping.Mapping.{Mapping}
use Rattle.seen_octets.specs.declared.octet.Octet.{Octet}
use Rattle.seen_octets.specs.Octets.{all_held}
use Rattle.judge_rules.specs.declared.finding.Finding.{Finding}
use Rattle.judge_rules.specs.declared.finding.Finding.TheVariants.{WrongSum}
use Rattle.judge_rules.specs.declared.finding.Rule.TheVariants as rule
use Rattle.seen_streams.specs.declared.told.ToldMapping.{ToldMapping}
use Rattle.seen_streams.specs.declared.told.Waiting.{Waiting}
use Rattle.seen_streams.specs.State.{LaneValue, StreamValue, counted, tell_found}
use Rattle.seen_streams.specs.Mapped.{octets_of}
use Rattle.judge_rules.specs.Mappings.{natural}
use Rattle.seen_streams.specs.Same.{same_mapping}

-- ---- each mapping once

abbrev pub with_sum : ℕ → ToldMapping → LaneValue → LaneValue
with_sum packet mapping lane =
    if lane.summed mapping then lane
    else record lane {
      summed = λ other. lane.summed other || same_mapping other mapping;
      waiting = lane.waiting ++ record { mapping = mapping; packet = packet } ∷ [];
    }

abbrev pub summed_by : ℕ → ToldMapping → LaneValue → LaneValue
summed_by packet mapping lane = if is_some mapping.checksum then with_sum packet mapping lane else lane

abbrev pub with_sums : ℕ → List ToldMapping → LaneValue → LaneValue
with_sums packet [] lane = lane
with_sums packet (mapping ∷ mappings) lane = with_sums packet mappings (summed_by packet mapping lane)

-- ---- one whose octets are held

abbrev pub is_whole : (ℕ → Option Octet) → Waiting → Bool
is_whole octet waiting = all_held octet (natural waiting.mapping.position) (octets_of waiting.mapping)

abbrev pub octet_or_0 : Option Octet → ℕ
octet_or_0 None = 0
octet_or_0 (Some octet) = octet.octet

-- the octets of so many positions from one on
abbrev pub held_octets : (ℕ → Option Octet) → ℕ → ℕ → List ℕ
held_octets octet position zero = []
held_octets octet position (suc count) = octet_or_0 (octet position) ∷ held_octets octet (position + 1) count

-- the pseudo-header of a mapping, where place 0 has this data number
abbrev pub header_of : ℕ → ToldMapping → Mapping
header_of first mapping = record {
  number = (first + mapping.place) % 2 ^ 64;
  relative = natural (int_rem_euclid mapping.position (pos (2 ^ 32)));
  length = mapping.length;
  checksum = 0;
}

abbrev pub expected_sum : ℕ → (ℕ → Option Octet) → ToldMapping → ℕ
expected_sum first octet mapping =
    dss_checksum (header_of first mapping) (held_octets octet (natural mapping.position) (octets_of mapping))

-- 0000 and ffff are one
abbrev pub are_alike : ℕ → ℕ → Bool
are_alike expected was = expected == was || (expected % 65535 == 0 && was % 65535 == 0)

abbrev pub wrong_sum : ℕ → ℕ → Waiting → Option Finding
wrong_sum expected was waiting =
    if are_alike expected was then None
    else Some (WrongSum waiting.mapping.place waiting.mapping.length waiting.packet expected was)

abbrev pub sum_fault : ℕ → (ℕ → Option Octet) → Waiting → Option Finding
sum_fault first octet waiting =
    wrong_sum (expected_sum first octet waiting.mapping) (unwrap_or waiting.mapping.checksum 0) waiting

abbrev pub tried_sum : ℕ → ℕ → (ℕ → Option Octet) → Waiting → StreamValue → StreamValue
tried_sum packet first octet waiting stream =
    tell_found rule.DssSum packet (sum_fault first octet waiting) (record stream { sums = counted stream.sums })

abbrev pub tried_if_whole : ℕ → ℕ → (ℕ → Option Octet) → Waiting → StreamValue → StreamValue
tried_if_whole packet first octet waiting stream = if is_whole octet waiting then tried_sum packet first octet waiting stream else stream

-- those that are whole, in the order in which they were told
abbrev pub tried_sums : ℕ → ℕ → (ℕ → Option Octet) → List Waiting → StreamValue → StreamValue
tried_sums packet first octet [] stream = stream
tried_sums packet first octet (waiting ∷ more) stream =
    tried_sums packet first octet more (tried_if_whole packet first octet waiting stream)

-- those that wait on
abbrev pub still_waiting : LaneValue → LaneValue
still_waiting lane = record lane { waiting = filter (λ waiting. not (is_whole lane.octet waiting)) lane.waiting }
