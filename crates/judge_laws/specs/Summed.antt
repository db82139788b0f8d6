-- Mappings with checksums, and the octets that came first at their positions (RFC 8684, section 3.3.1).
use Rattle.std.specs.Prelude.{ℕ, ◌≡◌, Bool, true, Option, Some, List}
use Rattle.std.specs.List.{slice_get}
use Rattle.sides.specs.declared.side.Side.{Side}
use Rattle.sides.specs.declared.side.Side.TheVariants.{A, B}
use Rattle.capture_reader.specs.Captured.{Captured}
use Rattle.dss_checksum.specs.Checksum.{dss_checksum}
use Rattle.judge_rules.specs.Mappings.{natural}
use Rattle.seen_connections.specs.declared.connections.Keys.{Keys}
use Rattle.seen_connections.specs.declared.flow.Belongs.{Belongs}
use Rattle.seen_connections.specs.declared.flow.Flow.{Flow}
use Rattle.seen_octets.specs.Octets.{all_held}
use Rattle.seen_streams.specs.declared.told.ToldMapping.{ToldMapping}
use Rattle.seen_streams.specs.Mapped.{octets_of}
use Rattle.seen_streams.specs.State.{LaneValue, StreamValue}
use Rattle.seen_streams.specs.Sums.{are_alike, header_of, held_octets}
use Rattle.rule_book.specs.Facts.{first_of}
use Rattle.rule_book.specs.State.{JudgedValue, LanesValue}
use Rattle.judge_laws.specs.GoesOn.{stream_in}
use Rattle.judge_laws.specs.Behind.{judged_first}

-- what a side sent on a flow that a side opened
abbrev pub lane_at : Side → Side → LanesValue → LaneValue
lane_at A A lanes = lanes.opener
lane_at B B lanes = lanes.opener
lane_at opener side lanes = lanes.other

-- a mapping with a checksum that a side told on a subflow
pub record IsTold (state : JudgedValue) (connection : ℕ) (side : Side) (mapping : ToldMapping) : Type 0 where
  pub index : ℕ
  pub flow : Flow
  pub belongs : Belongs
  pub lanes : LanesValue
  pub has_flow : slice_get state.seen.flows index ≡ Some flow
  pub has_belongs : flow.belongs ≡ Some belongs
  pub of_connection : belongs.connection ≡ connection
  pub has_lanes : slice_get state.lanes index ≡ Some lanes
  pub was_told : (lane_at belongs.opener side lanes).summed mapping ≡ true

-- one all of whose octets came there: these are the ones that came first
pub record IsWhole (state : JudgedValue) (connection : ℕ) (side : Side) (mapping : ToldMapping) (octets : List ℕ) : Type 0 where
  pub told : IsTold state connection side mapping
  pub whole : all_held (lane_at told.belongs.opener side told.lanes).octet (natural mapping.position) (octets_of mapping) ≡ true
  pub are_first : held_octets (lane_at told.belongs.opener side told.lanes).octet (natural mapping.position) (octets_of mapping) ≡ octets

-- Its side's key is known, whose place 0 has the number `first`, and the checksum that was told is that of its pseudo-header and the
-- octets; 0000 and ffff are one.
pub record HasItsSum (state : JudgedValue) (connection : ℕ) (side : Side) (mapping : ToldMapping) (octets : List ℕ) : Type 0 where
  pub keys : Keys
  pub first : ℕ
  pub sum : ℕ
  pub has_keys : slice_get state.seen.connections connection ≡ Some keys
  pub has_first : first_of side keys ≡ Some first
  pub has_sum : mapping.checksum ≡ Some sum
  pub right : are_alike (dss_checksum (header_of first mapping) octets) sum ≡ true

-- What a capture shows of a mapping with a checksum: the octets that came first at its positions, what its side's stream is, and which
-- number its place 0 has.
pub record ShowsMapping (packets : List Captured) (stream : StreamValue) (first : ℕ) (mapping : ToldMapping) (octets : List ℕ) : Type 0 where
  pub at : Option Side
  pub check_sums : Bool
  pub connection : ℕ
  pub side : Side
  pub keys : Keys
  pub has_stream : stream_in (judged_first at check_sums packets) connection side ≡ Some stream
  pub has_keys : slice_get (judged_first at check_sums packets).seen.connections connection ≡ Some keys
  pub has_first : first_of side keys ≡ Some first
  pub whole : IsWhole (judged_first at check_sums packets) connection side mapping octets
