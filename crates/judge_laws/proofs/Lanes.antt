-- What came first at positions stays, and which mappings were told, over the packets of a capture; flows that are open stay.
use Rattle.std.proofs.Common.{◌≡◌, refl, ap, ◌∙◌, sym, subst, ℕ, ◌+◌, ◌⊎◌, inl, inr, Bool, true, false, not, ◌||◌, if◌then◌else◌, Option, Some, None, List, [], ◌∷◌, ◌++◌, length}
use Rattle.std.proofs.Math.ListN.{set}
use Rattle.std.specs.List.{slice_get}
use Rattle.std.specs.Option.{option_or}
use Rattle.std.proofs.lemmas.Bool.{or_left}
use Rattle.sides.specs.declared.side.Side.{Side}
use Rattle.sides.specs.Side.{peer}
use Rattle.capture_reader.specs.Captured.{Captured}
use Rattle.capture_reader.specs.Seen.{Seen, segment_in_packet}
use Rattle.mptcp_options.specs.Value.{OptionValue}
use Rattle.seen_connections.specs.declared.connections.Keys.{Keys}
use Rattle.seen_connections.specs.declared.connections.Place.{Place}
use Rattle.seen_connections.specs.declared.connections.WrongToken.{WrongToken}
use Rattle.seen_connections.specs.declared.flow.Belongs.{Belongs}
use Rattle.seen_connections.specs.declared.flow.Flow.{Flow}
use Rattle.seen_connections.specs.declared.flow.Opened.{Opened}
use Rattle.seen_connections.specs.Connections.{SeenFlows, taken}
use Rattle.seen_connections.specs.SeenOptions.{SeenValue, seen_options}
use Rattle.seen_octets.specs.declared.octet.Octet.{Octet}
use Rattle.seen_octets.specs.Octets.{octet_by}
use Rattle.seen_streams.specs.declared.told.ToldMapping.{ToldMapping}
use Rattle.seen_streams.specs.Positions.{position_of}
use Rattle.seen_streams.specs.Same.{same_mapping}
use Rattle.seen_streams.specs.State.{LaneValue, StreamValue}
use Rattle.seen_streams.specs.Sums.{with_sum}
use Rattle.rule_book.specs.Facts.{Facts, first_of, own_base, own_lane}
use Rattle.rule_book.specs.Judged.{Told, empty_lanes, grown, judged, judged_belonging, judged_flow, judged_formed, judged_in_flow, judged_known, judged_place, opened_facts, put_back, side_of, with_wrong_token}
use Rattle.rule_book.specs.Signals.{KeyedValue, judged_options, told_formless}
use Rattle.rule_book.specs.State.{BookValue, JudgedValue, LanesValue, stream_at, with_stream}
use Rattle.rule_book.specs.Stream.{Left, judged_at, judged_from, judged_positions, with_plain}
use Rattle.capture_verdict.specs.Judging.{judged_if_seen, judged_packets}
use Rattle.judge_laws.proofs.Books.{grown_stays, set_either}
use Rattle.judge_laws.proofs.Flows.{FlowsGo, flows_same, key_flows, taken_flows}
use Rattle.judge_laws.proofs.Folds.{StepsKeep}
use Rattle.judge_laws.proofs.Positions.{at_so}
use Rattle.judge_laws.proofs.Standing.{some_same}
use Rattle.judge_laws.proofs.Trying.{OctetsStay}

-- ---- a lane

abbrev pub LaneGoes : LaneValue → LaneValue → Type 0
LaneGoes old new = OctetsStay old.octet new.octet × ((m : ToldMapping) → old.summed m ≡ true → new.summed m ≡ true)

lane_same : (l : LaneValue) → LaneGoes l l
lane_same l = (λ p o e. e, λ m e. e)

lane_then : (a b c : LaneValue) → LaneGoes a b → LaneGoes b c → LaneGoes a c
lane_then a b c first next = (λ p o e. next.0 p o (first.0 p o e), λ m e. next.1 m (first.1 m e))

stays_or : (was add : Option Octet) (o : Octet) → was ≡ Some o → option_or was add ≡ Some o
stays_or (Some x) add o e = e
stays_or None add o e = cc

with_sum_goes : (packet : ℕ) (mapping : ToldMapping) (was l : LaneValue) → LaneGoes was l → LaneGoes was (with_sum packet mapping l)
with_sum_goes packet mapping was l h = elim (l.summed mapping) as (λ b. LaneGoes was (if b then l else record l {
  summed = λ other. l.summed other || same_mapping other mapping;
  waiting = l.waiting ++ record { mapping = mapping; packet = packet } ∷ [];
})) [ true ↦ h | false ↦ (h.0, λ m e. or_left (l.summed m) (same_mapping m mapping) (h.1 m e)) ]

steps : (first : Option ℕ) (was : LaneValue) → StepsKeep first (λ (s : StreamValue) (l : LaneValue). LaneGoes was l)
steps first was = record {
  acks = record {
    telling = λ l. record { tells = λ rule packet fault s h. h; counts = λ s keys joins mappings sums data_acks h. h };
    acks = λ place s l h. h;
  };
  ends = λ position s l h. h;
  maps = λ teller offer position place s l e h. h;
  lines = λ teller place line s l h. h;
  fins = λ packet s l h. h;
  pays = λ payload packet s l h. (λ p o e. stays_or (l.octet p) (octet_by payload.from payload.held packet p) o (h.0 p o e), h.1);
  shows = λ acknowledged packet p place octet s l e h. h;
  sums = λ packet known mapping s l is e h. with_sum_goes packet mapping was l h;
  tries = λ packet known s l e h. h;
}

-- ---- both lanes of a flow

abbrev pub BothGo : LanesValue → LanesValue → Type 0
BothGo old new = LaneGoes old.opener new.opener × LaneGoes old.other new.other

both_same : (lanes : LanesValue) → BothGo lanes lanes
both_same lanes = (lane_same lanes.opener, lane_same lanes.other)

one_goes : (is : Bool) (l : LaneValue) (lanes : LanesValue) → LaneGoes (if is then lanes.opener else lanes.other) l
    → BothGo lanes (if is then record lanes { opener = l } else record lanes { other = l })
one_goes true l lanes goes = (goes, lane_same lanes.other)
one_goes false l lanes goes = (lane_same lanes.opener, goes)

from_lanes : (facts : Facts) (position : Option ℕ) (options : List OptionValue) (keys : Keys) (left : Left)
    → BothGo left.lanes (judged_from facts position options keys left).lanes
from_lanes facts None options keys left = both_same left.lanes
from_lanes facts (Some position) options keys left =
    let lane = own_lane facts left.lanes in
    let peers = stream_at (peer facts.side) left.book in
    let stream = stream_at facts.side left.book in
    one_goes facts.is_opener (judged_at (with_plain options left facts) position options keys peers stream lane).lane left.lanes
    (at_so (with_plain options left facts) position options keys peers stream lane (steps (first_of facts.side keys) lane) (lane_same lane))

positions_lanes : (facts : Facts) (options : List OptionValue) (keys : Keys) (left : Left) → BothGo left.lanes (judged_positions facts options keys left).lanes
positions_lanes facts options keys left =
    by facts.seen.segment.head.syn (position_of (own_base facts) (own_lane facts left.lanes) facts.seen.segment.head.seq facts.seen.payload_len)
  where
    by : (b : Bool) (at : Option ℕ) → BothGo left.lanes (if b then left else judged_from facts at options keys left).lanes
    by true at = both_same left.lanes
    by false at = from_lanes facts at options keys left

formed_lanes : (at : Option Side) (packet : ℕ) (seen : Seen) (index : ℕ) (flow : Flow) (opened : Option Opened) (side : Side) (options : List SeenValue) (keys : Keys)
    (left : Left) → BothGo left.lanes (judged_formed at packet seen index flow opened side options keys left).left.lanes
formed_lanes at packet seen index flow None side options keys left = both_same left.lanes
formed_lanes at packet seen index flow (Some opened) side options keys left =
    let facts = opened_facts at packet seen index flow opened side in
    let start : KeyedValue = record { options = []; keys = keys; stream = stream_at side left.book } in
    let made = judged_options facts options start in
    positions_lanes facts made.options made.keys (record left { book = with_stream side made.stream left.book })

flow_lanes : (at : Option Side) (packet : ℕ) (seen : Seen) (index : ℕ) (flow : Flow) (b : Belongs) (keys : Keys) (left : Left)
    → BothGo left.lanes (judged_flow at packet seen index flow b keys left).left.lanes
flow_lanes at packet seen index flow b keys left =
    let side = side_of flow b seen in
    let options = seen_options keys.checksums seen.segment.options in
    formed_lanes at packet seen index flow flow.opened side options keys
    (record left { book = with_stream side (told_formless packet options (stream_at side left.book)) left.book })

-- ---- all flows

pub record StateGoes (old new : JudgedValue) : Type 0 where
  pub flows : FlowsGo old.seen.flows new.seen.flows
  pub lanes : (i : ℕ) (lanes : LanesValue) → slice_get old.lanes i ≡ Some lanes → (later : LanesValue) × (slice_get new.lanes i ≡ Some later) × BothGo lanes later

state_same : (state : JudgedValue) → StateGoes state state
state_same state = record { flows = flows_same state.seen.flows; lanes = λ i lanes h. (lanes, h, both_same lanes) }

state_then : (a b c : JudgedValue) → StateGoes a b → StateGoes b c → StateGoes a c
state_then a b c first next = record {
  flows = λ i flow belongs opened h e f.
      let mid = first.flows i flow belongs opened h e f in
      next.flows i mid.0 belongs opened mid.1 mid.2 mid.3;
  lanes = λ i lanes h.
      let mid = first.lanes i lanes h in
      let last = next.lanes i mid.0 mid.1 in
      (last.0, last.1, (lane_then lanes.opener mid.0.opener last.0.opener mid.2.0 last.2.0, lane_then lanes.other mid.0.other last.0.other mid.2.1 last.2.1));
}

grown_goes : (now : SeenFlows) (state : JudgedValue) → FlowsGo state.seen.flows now.flows → StateGoes state (grown now state)
grown_goes now state flows = record {
  flows = flows;
  lanes = λ i lanes h. (lanes, grown_stays (length now.flows) empty_lanes state.lanes i lanes h, both_same lanes);
}

wrong_goes : (wrong : Option WrongToken) (state : JudgedValue) → StateGoes state (with_wrong_token wrong state)
wrong_goes None state = state_same state
wrong_goes (Some wrong) state = record { flows = flows_same state.seen.flows; lanes = λ i lanes h. (lanes, h, both_same lanes) }

put_goes : (state : JudgedValue) (index connection : ℕ) (keys : Keys) (was : LanesValue) (told : Told) → slice_get state.lanes index ≡ Some was → BothGo was told.left.lanes
    → StateGoes state (put_back index connection keys told state)
put_goes state index connection keys was told there goes = record {
  flows = subst (FlowsGo state.seen.flows) (sym (key_flows connection keys.a told.keys.a state.seen)) (flows_same state.seen.flows);
  lanes = λ i lanes h. by i lanes h (set_either state.lanes index i told.left.lanes lanes h);
}
  where
    new : List LanesValue
    new = set state.lanes index told.left.lanes

    by : (i : ℕ) (lanes : LanesValue) → slice_get state.lanes i ≡ Some lanes → ((index ≡ i) × (slice_get new i ≡ Some told.left.lanes)) ⊎ (slice_get new i ≡ Some lanes)
        → (later : LanesValue) × (slice_get new i ≡ Some later) × BothGo lanes later
    by i lanes h (inl both) =
        let same : was ≡ lanes = some_same was lanes (sym there ∙ ap (slice_get state.lanes) both.0 ∙ h) in
        (told.left.lanes, both.1, subst (λ (l : LanesValue). BothGo l told.left.lanes) same goes)
    by i lanes h (inr other) = (lanes, other, both_same lanes)

known_goes : (at : Option Side) (packet : ℕ) (seen : Seen) (index : ℕ) (flow : Flow) (b : Belongs) (keys : Option Keys) (book : Option BookValue)
    (lanes : Option LanesValue) (state : JudgedValue) → slice_get state.lanes index ≡ lanes → StateGoes state (judged_known at packet seen index flow b keys book lanes state)
known_goes at packet seen index flow b (Some keys) (Some book) (Some lanes) state h =
    let left : Left = record { book = book; lanes = lanes } in
    put_goes state index b.connection keys lanes (judged_flow at packet seen index flow b keys left) h (flow_lanes at packet seen index flow b keys left)
known_goes at packet seen index flow b (Some keys) (Some book) None state h = state_same state
known_goes at packet seen index flow b (Some keys) None lanes state h = state_same state
known_goes at packet seen index flow b None book lanes state h = state_same state

belonging_goes : (at : Option Side) (packet : ℕ) (seen : Seen) (index : ℕ) (flow : Flow) (b : Option Belongs) (state : JudgedValue)
    → StateGoes state (judged_belonging at packet seen index flow b state)
belonging_goes at packet seen index flow None state = state_same state
belonging_goes at packet seen index flow (Some b) state =
    known_goes at packet seen index flow b (slice_get state.seen.connections b.connection) (slice_get state.books b.connection) (slice_get state.lanes index) state refl

in_flow_goes : (at : Option Side) (packet : ℕ) (seen : Seen) (index : ℕ) (flow : Option Flow) (state : JudgedValue)
    → StateGoes state (judged_in_flow at packet seen index flow state)
in_flow_goes at packet seen index None state = state_same state
in_flow_goes at packet seen index (Some flow) state = belonging_goes at packet seen index flow flow.belongs state

place_goes : (at : Option Side) (packet : ℕ) (seen : Seen) (place : Option Place) (state : JudgedValue) → StateGoes state (judged_place at packet seen place state)
place_goes at packet seen None state = state_same state
place_goes at packet seen (Some place) state =
    let told = with_wrong_token place.wrong_token state in
    state_then state told (judged_place at packet seen (Some place) state) (wrong_goes place.wrong_token state)
    (in_flow_goes at packet seen place.flow (slice_get told.seen.flows place.flow) told)

judged_goes : (at : Option Side) (check_sums : Bool) (state : JudgedValue) (packet : ℕ) (seen : Seen) → StateGoes state (judged at check_sums state packet seen)
judged_goes at check_sums state packet seen =
    let is_good = seen.has_good_sum || not check_sums in
    let it = taken state.seen packet seen is_good in
    state_then state (grown it.now state) (judged at check_sums state packet seen) (grown_goes it.now state (taken_flows state.seen packet seen is_good))
    (place_goes at packet seen it.place (grown it.now state))

if_seen_goes : (at : Option Side) (check_sums : Bool) (state : JudgedValue) (n : ℕ) (seen : Option Seen) → StateGoes state (judged_if_seen at check_sums state n seen)
if_seen_goes at check_sums state n None = state_same state
if_seen_goes at check_sums state n (Some seen) = judged_goes at check_sums state n seen

pub packets_goes : (at : Option Side) (check_sums : Bool) (state : JudgedValue) (n : ℕ) (packets : List Captured)
    → StateGoes state (judged_packets at check_sums state n packets)
packets_goes at check_sums state n [] = state_same state
packets_goes at check_sums state n (packet ∷ packets) =
    let next = judged_if_seen at check_sums state n (segment_in_packet packet) in
    state_then state next (judged_packets at check_sums next (n + 1) packets) (if_seen_goes at check_sums state n (segment_in_packet packet))
    (packets_goes at check_sums next (n + 1) packets)
