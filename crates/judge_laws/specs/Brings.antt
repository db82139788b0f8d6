-- What a segment brings to its sender's stream.
use Rattle.std.specs.Prelude.{ℕ, ◌≡◌, ◌-◌, ◌≤◌, Bool, true, false, not, ◌||◌, Option, Some}
use Rattle.std.specs.List.{slice_get}
use Rattle.sides.specs.declared.side.Side.{Side}
use Rattle.sides.specs.Side.{peer}
use Rattle.capture_reader.specs.Seen.{Seen}
use Rattle.seen_connections.specs.declared.connections.Keys.{Keys}
use Rattle.seen_connections.specs.declared.connections.Place.{Place}
use Rattle.seen_connections.specs.declared.flow.Belongs.{Belongs}
use Rattle.seen_connections.specs.declared.flow.Flow.{Flow}
use Rattle.seen_connections.specs.declared.flow.Opened.{Opened}
use Rattle.seen_connections.specs.Connections.{Taken, taken}
use Rattle.seen_streams.specs.Content.{is_between}
use Rattle.seen_streams.specs.Positions.{position_of}
use Rattle.seen_streams.specs.State.{place_of}
use Rattle.rule_book.specs.Facts.{Facts, own_base, own_lane, payload_at}
use Rattle.rule_book.specs.Judged.{grown, judged, opened_facts, side_of, with_wrong_token}
use Rattle.rule_book.specs.State.{BookValue, JudgedValue, LanesValue, stream_at}

-- the flow of a segment, if it has one
abbrev pub taken_by : Bool → JudgedValue → ℕ → Seen → Taken
taken_by check_sums state packet seen = taken state.seen packet seen (seen.has_good_sum || not check_sums)

-- behind what was seen of flows and connections, before the segment's own sides are judged
abbrev pub ready_for : Bool → JudgedValue → ℕ → Seen → Place → JudgedValue
ready_for check_sums state packet seen place =
    with_wrong_token place.wrong_token (grown (taken_by check_sums state packet seen).now state)

-- A segment of a side of a connection, no SYN, in a flow that is open, at a position.
pub record IsOf (at : Option Side) (check_sums : Bool) (state : JudgedValue) (packet : ℕ) (seen : Seen) (connection : ℕ) (side : Side) : Type 0 where
  pub place : Place
  pub flow : Flow
  pub belongs : Belongs
  pub opened : Opened
  pub keys : Keys
  pub book : BookValue
  pub lanes : LanesValue
  pub facts : Facts
  pub position : ℕ
  pub in_flow : (taken_by check_sums state packet seen).place ≡ Some place
  pub has_flow : slice_get (ready_for check_sums state packet seen place).seen.flows place.flow ≡ Some flow
  pub has_belongs : flow.belongs ≡ Some belongs
  pub has_opened : flow.opened ≡ Some opened
  pub has_keys : slice_get (ready_for check_sums state packet seen place).seen.connections belongs.connection ≡ Some keys
  pub has_book : slice_get (ready_for check_sums state packet seen place).books belongs.connection ≡ Some book
  pub has_lanes : slice_get (ready_for check_sums state packet seen place).lanes place.flow ≡ Some lanes
  pub of_connection : belongs.connection ≡ connection
  pub of_side : side_of flow belongs seen ≡ side
  pub no_syn : seen.segment.head.syn ≡ false
  pub has_facts : opened_facts at packet seen place.flow flow opened side ≡ facts
  pub has_position : position_of (own_base facts) (own_lane facts lanes) seen.segment.head.seq seen.payload_len ≡ Some position

-- An octet of its payload, at a position that a mapping places, as was learnt up to this segment; the other side hadn't acknowledged the
-- place in a Data ACK before.
pub record Brings (at : Option Side) (check_sums : Bool) (state : JudgedValue) (packet : ℕ) (seen : Seen) (connection : ℕ) (side : Side)
    (it : IsOf at check_sums state packet seen connection side) (place octet : ℕ) : Type 0 where
  pub position : ℕ
  pub lanes : LanesValue
  pub within : is_between (payload_at it.facts it.position).from (payload_at it.facts it.position).to position ≡ true
  pub held : slice_get (payload_at it.facts it.position).held (position - (payload_at it.facts it.position).from) ≡ Some octet
  pub has_lanes : slice_get (judged at check_sums state packet seen).lanes it.place.flow ≡ Some lanes
  pub placed : place_of (own_lane it.facts lanes) position ≡ Some place
  pub unacknowledged : (stream_at (peer side) it.book).acknowledged ≤ place
