-- A flow, as the packets of a capture tell it (RFC 8684, sections 3.1 and 3.2).
use Rattle.std.specs.Prelude.{ℕ, ◌+◌, ◌-◌, ◌%◌, ◌^◌, Bool, false, not, is_none, ◌&&◌, ◌||◌, ◌==◌, nat_le, max, if◌then◌else◌, Option, Some, None, List, [], ◌∷◌}
use Rattle.std.specs.Int.{from_bool}
use Rattle.std.specs.Option.{option_or}
use Rattle.std.specs.List.{slice_get}
use Rattle.capture_reader.specs.Seen.{Seen}
use Rattle.seen_connections.specs.declared.ends.Ends.{Ends}
use Rattle.seen_connections.specs.declared.flow.Opening.{Opening}
use Rattle.seen_connections.specs.declared.flow.Opening.TheVariants as opening
use Rattle.seen_connections.specs.declared.flow.Belongs.{Belongs}
use Rattle.seen_connections.specs.declared.flow.Flow.{Flow}
use Rattle.seen_connections.specs.declared.flow_list.Found.{Found}
use Rattle.seen_connections.specs.SameEnds.{same_end, same_ends, turned}

-- the flow that the SYN of a packet begins
abbrev pub begun : ℕ → Seen → Opening → Option Belongs → Flow
begun packet seen opening belongs = record {
  opener = seen.source;
  other = seen.destination;
  first = packet;
  number = seen.segment.head.seq;
  opening = opening;
  syn_octets = seen.payload_len;
  belongs = belongs;
  opened = None;
  packets = 1;
  cut = from_bool seen.is_cut;
  wrong_sums = 0;
  was_reset = false;
  is_over = false;
}

-- its SYN again: from its opener, with the same number
abbrev pub is_again : Seen → Flow → Bool
is_again seen flow = same_end seen.source flow.opener && seen.segment.head.seq == flow.number

-- with one packet more, cut or not, with a good sum or not
abbrev pub counted : Bool → Bool → Flow → Flow
counted is_cut is_good flow = record flow {
  packets = flow.packets + 1;
  cut = flow.cut + from_bool is_cut;
  wrong_sums = flow.wrong_sums + from_bool (not is_good);
}

-- how far one number is behind another, modulo 2^32
abbrev pub behind : ℕ → ℕ → ℕ
behind number other = (number + (2 ^ 32 - other)) % 2 ^ 32

-- an acknowledgement of the SYN, and of at most its payload
abbrev pub is_acknowledged_by : ℕ → Flow → Bool
is_acknowledged_by ack flow = nat_le (behind ack ((flow.number + 1) % 2 ^ 32)) flow.syn_octets

-- a join whose connection isn't known
abbrev pub is_stray_with : Opening → Option Belongs → Bool
is_stray_with (opening.Join token nonce) belongs = is_none belongs
is_stray_with (opening.Capable checksums) belongs = false

abbrev pub is_stray : Flow → Bool
is_stray flow = is_stray_with flow.opening flow.belongs

-- ---- all flows, in the order in which they began

abbrev pub ends_of : Flow → Ends
ends_of flow = record { from = flow.opener; to = flow.other }

-- from and to these ends
abbrev pub goes : Ends → Flow → Bool
goes ends flow = same_ends (ends_of flow) ends

-- between these ends, in either direction
abbrev pub is_between : Ends → Flow → Bool
is_between ends flow = goes ends flow || goes (turned ends) flow

-- the last that passes a test, where the first has this number
abbrev pub last_that : (Flow → Bool) → ℕ → List Flow → Option ℕ
last_that test number [] = None
last_that test number (flow ∷ flows) = option_or (last_that test (number + 1) flows) (if test flow then Some number else None)

-- this one, unless it is over
abbrev pub unless_over : ℕ → Option Flow → Option Found
unless_over index None = None
unless_over index (Some flow) = if flow.is_over then None else Some (record { index = index; flow = flow })

-- the one with a number, if there is one, unless it is over
abbrev pub going_on : List Flow → Option ℕ → Option Found
going_on flows None = None
going_on flows (Some index) = unless_over index (slice_get flows index)

-- The flow between two ends: the one that began last, unless it is over.
abbrev pub flow_between : Ends → List Flow → Option Found
flow_between ends flows = going_on flows (last_that (is_between ends) 0 flows)

-- the higher number of two, if there is one
abbrev pub later : Option ℕ → Option ℕ → Option ℕ
later None other = other
later (Some one) None = Some one
later (Some one) (Some other) = Some (max one other)
