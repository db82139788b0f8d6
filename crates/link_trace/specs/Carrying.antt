-- What a segment carries, counted from the beginnings of its subflow and of the streams (RFC 9293, section 3.4; RFC 8684,
-- section 3.3).
use Rattle.std.specs.Prelude.{ℕ, ◌+◌, ◌-◌, ◌%◌, ◌^◌, ◌==◌, ◌&&◌, nat_lt, min, Bool, true, false, if◌then◌else◌, Option, Some, None, unwrap_or, option_map, Result, Ok, Err, List, [], ◌∷◌, length, slice_get}
use Rattle.std.specs.Option.{option_or}
use Rattle.sides.specs.declared.side.Side.{Side}
use Rattle.sides.specs.declared.side.Side.TheVariants.{A, B}
use Rattle.sides.specs.Side.{peer}
use Rattle.key_material.specs.KeyDigest.{idsn_of}
use Rattle.mptcp_options.specs.declared.dss.DataNumber.{DataNumber}
use Rattle.mptcp_options.specs.declared.dss.DataNumber.TheVariants.{Whole, Low}
use Rattle.mptcp_options.specs.declared.dss.DssMap.{DssMap}
use Rattle.mptcp_options.specs.Meaning.{option_meaning}
use Rattle.mptcp_options.specs.Value as wire
use Rattle.segment_wire.specs.declared.reading.SegmentFault.{SegmentFault}
use Rattle.segment_wire.specs.Options.{option_octets}
use Rattle.segment_wire.specs.Segment.{Segment}
use Rattle.link_trace.specs.declared.carried.Base.{Base}
use Rattle.link_trace.specs.declared.carried.Carried.{Carried}
use Rattle.link_trace.specs.declared.carried.Dss.{Dss}
use Rattle.link_trace.specs.declared.carried.PathInitials.{PathInitials}
use Rattle.link_trace.specs.declared.sent.Sent.{Sent}
use Rattle.link_trace.specs.declared.shifts.Shift.{Shift}
use Rattle.link_trace.specs.Fates.{is_full, is_lost}
use Rattle.link_trace.specs.Meanings.{meaning_in}
use Rattle.link_trace.specs.Shifts.{shift_in, with_shift}

-- how far a number of 32 bits stands behind another one
abbrev pub behind : ℕ → ℕ → ℕ
behind number base = (number + (2 ^ 32 - base)) % 2 ^ 32

abbrev pub low_half : ℕ → ℕ
low_half number = number % 2 ^ 32

-- the low half of a data number, of eight octets or of four
abbrev pub low_number : DataNumber → ℕ
low_number (Whole number) = low_half number
low_number (Low low) = low

-- ---- the numbers of a run

-- the low half of the number of the first byte of the stream of a side with this key: one above its initial data sequence
-- number (RFC 8684, section 3.1)
abbrev pub first_number : ℕ → ℕ
first_number key = (low_half (idsn_of key) + 1) % 2 ^ 32

abbrev pub base_of : ℕ → ℕ → Bool → Base
base_of key_a key_b checksums = record { first_a = first_number key_a; first_b = first_number key_b; checksums = checksums }

-- the low half of the number of the first byte of this side's stream
abbrev pub first_byte : Base → Side → ℕ
first_byte base A = base.first_a
first_byte base B = base.first_b

-- the initial sequence number of a side on a path
abbrev pub initial_at : Option PathInitials → Side → ℕ
initial_at None side = 0
initial_at (Some initials) A = initials.a
initial_at (Some initials) B = initials.b

-- path i has the i-th of them
abbrev pub initial_in : List PathInitials → ℕ → Side → ℕ
initial_in initials path side = initial_at (slice_get initials path) side

-- ---- the DSS

abbrev pub no_dss : Dss
no_dss = record { ack = None; mapping = None }

abbrev pub value_dss : wire.OptionValue → Option Dss
value_dss (wire.Dss ack mapping fin) = Some (record { ack = ack; mapping = mapping })
value_dss _ = None

abbrev pub dss_read : wire.Meaning → Option Dss
dss_read (wire.Known value) = value_dss value
dss_read _ = None

-- the first one among these options
abbrev pub dss_in : Bool → List (List ℕ) → Dss
dss_in checksums [] = no_dss
dss_in checksums (option ∷ options) = unwrap_or (dss_read (option_meaning option checksums)) (dss_in checksums options)

-- ---- the place of a payload

-- the place that the mapping of a piece gives to a position
abbrev pub mapped : DssMap → ℕ → ℕ → Option ℕ
mapped map first position =
    if map.length == 0 then None else Some ((behind (low_number map.number) first + behind position map.relative) % 2 ^ 32)

abbrev pub place_mapped : Option DssMap → ℕ → ℕ → Option ℕ
place_mapped None first position = None
place_mapped (Some map) first position = mapped map first position

-- the place of a position, so far behind it, in a direction of a path that sends without mappings of pieces
abbrev pub shifted : Option ℕ → ℕ → Option ℕ
shifted shift position = option_map (λ by. (position + by) % 2 ^ 32) shift

-- by the mapping of its piece, or else as the direction sends
abbrev pub place_of : Option DssMap → ℕ → Option ℕ → ℕ → Option ℕ
place_of mapping first shift position = option_or (place_mapped mapping first position) (shifted shift position)

-- ---- a segment

-- how many bytes of the other side's stream a Data ACK acknowledges, the DATA_FIN among them
abbrev pub acknowledged_by : Base → Side → Option DataNumber → Option ℕ
acknowledged_by base from ack = option_map (λ number. behind (low_number number) (first_byte base (peer from))) ack

-- a segment has less than 2^16 octets
abbrev pub payload_len : Segment → ℕ
payload_len segment = min (length segment.payload) 65535

-- of the segment of a side with this initial number, after these infinite mappings
abbrev pub carries : Base → Sent → ℕ → List Shift → Segment → Carried
carries base s initial shifts segment =
    let dss = dss_in base.checksums (option_octets segment.options) in let position = behind segment.head.seq initial in record {
      tick = s.tick;
      path = s.path;
      from = s.from;
      lost = is_lost s.fate.arrival;
      full = is_full s.fate.arrival;
      queued = s.fate.queued;
      position = position;
      len = payload_len segment;
      place = place_of dss.mapping (first_byte base s.from) (shift_in shifts s.path s.from) position;
      acknowledged = acknowledged_by base s.from dss.ack;
    }

abbrev pub carries_nothing : Sent → Carried
carries_nothing s = record {
  tick = s.tick;
  path = s.path;
  from = s.from;
  lost = is_lost s.fate.arrival;
  full = is_full s.fate.arrival;
  queued = s.fate.queued;
  position = 0;
  len = 0;
  place = None;
  acknowledged = None;
}

-- octets that are no segment carry nothing
abbrev pub carried_in : Base → Sent → ℕ → List Shift → Result Segment SegmentFault → Carried
carried_in base s initial shifts (Ok segment) = carries base s initial shifts segment
carried_in base s initial shifts (Err fault) = carries_nothing s

-- what a segment carries on paths with these initial numbers, after these infinite mappings, its own among them
abbrev pub carried_of : Base → List PathInitials → List Shift → Sent → Carried
carried_of base initials shifts s = carried_in base s (initial_in initials s.path s.from) shifts (meaning_in s)

-- ---- infinite mappings

-- the infinite mapping of a payload
abbrev pub shift_told : Option DssMap → ℕ → ℕ → Option ℕ
shift_told None first len = None
shift_told (Some map) first len =
    if map.length == 0 && nat_lt 0 len then Some (behind (behind (low_number map.number) first) map.relative) else None

-- how far behind its position a segment's infinite mapping has the place
abbrev pub shift_by : Base → Side → Segment → Option ℕ
shift_by base from segment =
    shift_told (dss_in base.checksums (option_octets segment.options)).mapping (first_byte base from) (payload_len segment)

abbrev pub shifts_in : Base → Sent → List Shift → Result Segment SegmentFault → List Shift
shifts_in base s shifts (Ok segment) = with_shift (shift_by base s.from segment) s.path s.from shifts
shifts_in base s shifts (Err fault) = shifts

-- the infinite mappings after this segment
abbrev pub shifts_after : Base → Sent → List Shift → List Shift
shifts_after base s shifts = shifts_in base s shifts (meaning_in s)

-- ---- a trace

-- behind these infinite mappings
abbrev pub carried_behind : Base → List PathInitials → List Shift → List Sent → List Carried
carried_behind base initials shifts [] = []
carried_behind base initials shifts (s ∷ trace) =
    carried_of base initials (shifts_after base s shifts) s ∷ carried_behind base initials (shifts_after base s shifts) trace

-- what each segment of a trace carries, on paths with these initial numbers
abbrev pub all_carried : Base → List PathInitials → List Sent → List Carried
all_carried base initials trace = carried_behind base initials [] trace
