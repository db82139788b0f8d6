-- What the octets of a segment say to the end that expects these positions and places next (RFC 9293, section 3.4; RFC
-- 8684, section 3).
use Rattle.std.specs.Prelude.{ℕ, ◌+◌, ◌-◌, ◌*◌, ◌^◌, Bool, ◌&&◌, ◌==◌, nat_lt, if◌then◌else◌, Option, Some, None, option_map, option_and_then, List, [], ◌∷◌, map}
use Rattle.std.specs.Result.{result_ok}
use Rattle.sides.specs.declared.side.Side.{Side}
use Rattle.sides.specs.Side.{peer}
use Rattle.seq_units.specs.Number.{number_of, position_near, below}
use Rattle.seq_units.specs.Widening.{widened}
use Rattle.segment_wire.specs.Options.{option_octets, mss_of}
use Rattle.segment_wire.specs.Segment.{Segment}
use Rattle.segment_wire.specs.Reading.{segment_meaning}
use Rattle.segment_wire.specs.Paths.{addresses_from}
use Rattle.mptcp_options.specs.declared.dss.DataNumber.{DataNumber}
use Rattle.mptcp_options.specs.declared.dss.DataNumber.TheVariants.{Whole, Low}
use Rattle.mptcp_options.specs.declared.dss.DssMap.{DssMap}
use Rattle.mptcp_options.specs.Value as wire
use Rattle.mptcp_options.specs.Meaning.{option_meaning}
use Rattle.path_segments.specs.declared.expected.Expected.{Expected}
use Rattle.path_segments.specs.declared.position.HeardPosition.{HeardPosition}
use Rattle.path_segments.specs.declared.position.HeardPosition.TheVariants.{At, Nowhere}
use Rattle.path_segments.specs.declared.segment.PathSegment.{PathSegment}
use Rattle.path_segments.specs.declared.segment.PathOption.{PathOption}
use Rattle.path_segments.specs.declared.segment.PathOption.TheVariants.{Capable, Join, Dss, AddAddr, Remove, Prio, Fail, FastClose, Reset}
use Rattle.path_segments.specs.declared.segment.PathMapping.{PathMapping}
use Rattle.path_segments.specs.declared.segment.PathMapping.TheVariants.{Bytes, End, Infinite}
use Rattle.path_segments.specs.declared.spelling.Spelling.{Spelling}
use Rattle.path_segments.specs.Spelling.{numbers_of}

-- the position of a side's subflow that a number means
abbrev pub position_heard : Spelling → Side → ℕ → ℕ → Option ℕ
position_heard spelling side expected number = position_near (2 ^ 32) (numbers_of spelling side).initial.0 expected number

-- a position, or else the number that means none
abbrev pub position_or : ℕ → Option ℕ → HeardPosition
position_or number (Some position) = At position
position_or number None = Nowhere number

-- what a number of a header means
abbrev pub number_means : Spelling → Side → ℕ → ℕ → HeardPosition
number_means spelling side expected number = position_or number (position_heard spelling side expected number)

-- all 64 bits of a data number, the half that isn't there by the expected place
abbrev pub number_heard : Spelling → Side → ℕ → DataNumber → ℕ
number_heard spelling side expected (Whole number) = number
number_heard spelling side expected (Low low) = widened (number_of (2 ^ 64) (numbers_of spelling side).idsn.0 (expected + 1)) low

-- the place behind a position: the initial number has none
abbrev pub place_behind : ℕ → Option ℕ
place_behind position = if nat_lt 0 position then Some (position - 1) else None

-- the place of a side's stream that a data number means, if it is below 2 ^ 62
unfoldable pub place_heard : Spelling → Side → ℕ → DataNumber → Option ℕ
place_heard spelling side expected number =
    option_and_then place_behind
    (below (2 ^ 62) (position_near (2 ^ 64) (numbers_of spelling side).idsn.0 (expected + 1) (number_heard spelling side expected number)))

-- ---- options

-- a mapping of length 0 is the infinite one; flag F with relative number 0 and length 1 is a DATA_FIN without payload
unfoldable pub heard_mapping : Spelling → Side → Expected → DssMap → Bool → PathMapping (Option ℕ)
heard_mapping spelling from expected map fin =
    let place = place_heard spelling from expected.place map.number in
    let position = position_near (2 ^ 32) 0 expected.edge map.relative in
    if map.length == 0 then Infinite place position
    else (if fin && (map.relative == 0 && map.length == 1) then End place map.checksum
    else Bytes place position map.length fin map.checksum)

-- an option by places: a mapping's are of the sender's stream, those of a Data ACK and of MP_FAIL of the peer's
abbrev pub heard_option : Spelling → Side → Expected → wire.OptionValue → PathOption (Option ℕ) (List ℕ)
heard_option spelling from expected (wire.Capable flag_a flag_c keys) = Capable flag_a flag_c keys
heard_option spelling from expected (wire.Join form) = Join form
heard_option spelling from expected (wire.Dss ack mapping fin) =
    Dss (option_map (place_heard spelling (peer from) expected.told) ack)
    (option_map (λ (map : DssMap). heard_mapping spelling from expected map fin) mapping)
heard_option spelling from expected (wire.AddAddr echo id address port hmac) = AddAddr echo id address port hmac
heard_option spelling from expected (wire.RemoveAddr ids) = Remove ids
heard_option spelling from expected (wire.Prio backup) = Prio backup
heard_option spelling from expected (wire.Fail number) = Fail (place_heard spelling (peer from) expected.told (Whole number))
heard_option spelling from expected (wire.FastClose key) = FastClose key
heard_option spelling from expected (wire.Reset transient reason) = Reset transient reason

-- the option that is meant before these, or these alone
abbrev pub known_or : wire.Meaning → List wire.OptionValue → List wire.OptionValue
known_or (wire.Known option) others = option ∷ others
known_or wire.Unknown others = others
known_or wire.Malformed others = others

-- the options that are known, in their order
abbrev pub known_in : Bool → List (List ℕ) → List wire.OptionValue
known_in checksums [] = []
known_in checksums (octets ∷ others) = known_or (option_meaning octets checksums) (known_in checksums others)

-- what they say
abbrev pub heard_options : Spelling → Side → Expected → List (List ℕ) → List (PathOption (Option ℕ) (List ℕ))
heard_options spelling from expected options = map (heard_option spelling from expected) (known_in spelling.checksums options)

-- the first one, or else the others
abbrev mss_or : Option ℕ → Option ℕ → Option ℕ
mss_or None others = others
mss_or (Some mss) others = Some mss

-- the first maximum segment size that an option tells
abbrev pub first_mss : List (List ℕ) → Option ℕ
first_mss [] = None
first_mss (octets ∷ others) = mss_or (mss_of octets) (first_mss others)

-- ---- the segment

-- a segment as it is heard: a number may mean no position or place
abbrev pub HeardSegment : Type 0
HeardSegment = PathSegment HeardPosition (List (PathOption (Option ℕ) (List ℕ))) (List ℕ)

-- a SYN's window is told as it is, all others in units of 32 octets
abbrev pub window_heard : Bool → ℕ → ℕ
window_heard syn window = if syn then window else 32 * window

-- a segment by positions, at these expected ones; a maximum segment size counts on a SYN alone
abbrev pub heard_segment : Spelling → Side → Expected → Segment → HeardSegment
heard_segment spelling from expected s = record {
  position = number_means spelling from expected.edge s.head.seq;
  acknowledged = (if s.head.ack_set
      then Some (number_means spelling (peer from) expected.unacknowledged s.head.ack)
      else None);
  syn = s.head.syn;
  fin = s.head.fin;
  rst = s.head.rst;
  window = window_heard s.head.syn s.head.window;
  mss = (if s.head.syn then first_mss (option_octets s.options) else None);
  options = heard_options spelling from expected (option_octets s.options);
  payload = s.payload;
}

-- what octets say that a side sent, where they are a segment
abbrev pub heard_in : Spelling → Side → Expected → List ℕ → Option HeardSegment
heard_in spelling from expected octets =
    option_map (heard_segment spelling from expected) (result_ok (segment_meaning (addresses_from spelling.path from) octets))
