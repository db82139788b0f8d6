-- Octets that a segment brings to places.
use Rattle.std.proofs.Common.{◌≡◌, refl, ap, ◌∙◌, sym, subst, ℕ, ◌-◌, ◌≤◌, Bool, true, false, ◌==◌, is_some, if◌then◌else◌, Option, Some, None, option_map, List, [], ◌∷◌, ◌++◌}
use Rattle.std.proofs.Math.ListN.{set}
use Rattle.std.specs.List.{slice_get}
use Rattle.sides.specs.declared.side.Side.{Side}
use Rattle.sides.specs.Side.{peer}
use Rattle.capture_reader.specs.Seen.{Seen}
use Rattle.mptcp_options.specs.declared.dss.DataNumber.{DataNumber}
use Rattle.mptcp_options.specs.declared.dss.DssMap.{DssMap}
use Rattle.mptcp_options.specs.Value.{OptionValue, Dss}
use Rattle.judge_rules.specs.declared.finding.Rule.TheVariants as rule
use Rattle.judge_rules.specs.Numbers.{first_number}
use Rattle.seen_connections.specs.declared.connections.Keys.{Keys}
use Rattle.seen_connections.specs.declared.connections.Place.{Place}
use Rattle.seen_connections.specs.declared.flow.Belongs.{Belongs}
use Rattle.seen_connections.specs.declared.flow.Flow.{Flow}
use Rattle.seen_connections.specs.declared.flow.Opened.{Opened}
use Rattle.seen_connections.specs.SeenOptions.{SeenValue, seen_options}
use Rattle.seen_connections.specs.Connections.{key_of}
use Rattle.seen_streams.specs.declared.told.ToldMapping.{ToldMapping}
use Rattle.seen_streams.specs.Acks.{Acked}
use Rattle.seen_streams.specs.Content.{is_between}
use Rattle.seen_streams.specs.Positions.{position_of}
use Rattle.seen_streams.specs.State.{LaneValue, StreamValue, place_of}
use Rattle.rule_book.specs.Facts.{Facts, first_of, own_base, own_lane, payload_at, peers_lane}
use Rattle.rule_book.specs.Signals.{KeyedValue, judged_options, keyed_each, told_formless}
use Rattle.rule_book.specs.State.{BookValue, JudgedValue, LanesValue, stream_at, with_stream}
use Rattle.rule_book.specs.Stream.{Left, gap_counted, judged_at, judged_by, judged_from, plain_beside, plain_on, with_plain}
use Rattle.rule_book.specs.Judged.{Told, judged, judged_belonging, judged_flow, judged_formed, judged_in_flow, judged_known, judged_opened, judged_place, judged_side, opened_facts, grown, put_back}
use Rattle.judge_laws.specs.Acknowledges.{Acknowledges, WasSeen, plain_for}
use Rattle.judge_laws.specs.Brings.{Brings, IsOf, ready_for, taken_by}
use Rattle.judge_laws.specs.GoesOn.{broke, stream_in}
use Rattle.judge_laws.specs.Laws.{has_octet}
use Rattle.judge_laws.specs.Tells.{IsMeant, KeepsMappings, Tells}
use Rattle.judge_laws.proofs.Acknowledged.{each_fast, each_key, option_stays}
use Rattle.judge_laws.proofs.Books.{own_stream, peers_stream, set_there}
use Rattle.judge_laws.proofs.Flows.{KeyStays, key_flows, told_stay}
use Rattle.judge_laws.proofs.Keyed.{keys_told}
use Rattle.judge_laws.proofs.Positions.{at_acks, at_shows, at_tells}

pub some_same : {X : Type 0} → (x y : X) → Some x ≡ Some y → x ≡ y
some_same x y e = cc

pub lane_there : (b : Bool) (lane : LaneValue) (lanes : LanesValue)
    → (if b then (if b then record lanes { opener = lane } else record lanes { other = lane }).opener
    else (if b then record lanes { opener = lane } else record lanes { other = lane }).other) ≡ lane
lane_there true lane lanes = refl
lane_there false lane lanes = refl

-- ---- where the facts are those of a segment of a side, and it is no SYN

module _ (facts : Facts) (position : ℕ) (options : List SeenValue) (keys : Keys) (left : Left) where
  abbrev first : KeyedValue
  first = record { options = []; keys = keys; stream = stream_at facts.side left.book }

  abbrev made : KeyedValue
  made = judged_options facts options first

  abbrev before : Left
  before = record left { book = with_stream facts.side made.stream left.book }

  abbrev acked : Acked
  acked = judged_at (with_plain made.options before facts) position made.options made.keys (stream_at (peer facts.side) before.book) (stream_at facts.side before.book) (own_lane facts before.lanes)

  abbrev told : Told
  told = record { left = judged_by facts position made.options made.keys before; keys = made.keys }

  abbrev with_keys : Left → Told
  with_keys l = record { left = l; keys = made.keys }

  opened_is : facts.seen.segment.head.syn ≡ false
      → position_of (own_base facts) (own_lane facts left.lanes) facts.seen.segment.head.seq facts.seen.payload_len ≡ Some position
      → judged_opened facts options keys left ≡ told
  opened_is no_syn at =
      ap (λ (b : Bool). with_keys (if b then before else judged_from facts (position_of (own_base facts) (own_lane facts left.lanes) facts.seen.segment.head.seq facts.seen.payload_len) made.options made.keys before)) no_syn
      ∙ ap (λ (p : Option ℕ). with_keys (judged_from facts p made.options made.keys before)) at

  brought : (p place octet : ℕ) → broke rule.PlaceContent (stream_at facts.side told.left.book) ≡ false
      → is_between (payload_at facts position).from (payload_at facts position).to p ≡ true
      → slice_get (payload_at facts position).held (p - (payload_at facts position).from) ≡ Some octet
      → place_of (own_lane facts told.left.lanes) p ≡ Some place → (stream_at (peer facts.side) left.book).acknowledged ≤ place
      → has_octet (stream_at facts.side told.left.book) place octet
  brought p place octet kept within held placed few =
      let own : stream_at facts.side told.left.book ≡ acked.stream = own_stream facts.side acked.stream (gap_counted facts before).book in
      let lane : own_lane facts told.left.lanes ≡ acked.lane = lane_there facts.is_opener acked.lane (gap_counted facts before).lanes in
      let peers : stream_at (peer facts.side) before.book ≡ stream_at (peer facts.side) left.book = peers_stream facts.side made.stream left.book in
      ap (λ (s : StreamValue). option_map (λ o. o.octet) (s.octet place)) own
      ∙ at_shows (with_plain made.options before facts) position made.options made.keys (stream_at (peer facts.side) before.book) (stream_at facts.side before.book) (own_lane facts before.lanes)
      p place octet (ap (broke rule.PlaceContent) (sym own) ∙ kept) within held (ap (λ (l : LaneValue). place_of l p) (sym lane) ∙ placed)
      (subst (λ (s : StreamValue). s.acknowledged ≤ place) (sym peers) few)

  told_acks : (known : ℕ) (number : DataNumber) (mapping : Option DssMap) (fin : Bool) (front back : List OptionValue)
      → first_of (peer facts.side) made.keys ≡ Some known → made.options ≡ front ++ Dss (Some number) mapping fin ∷ back
      → broke rule.DataAck (stream_at facts.side told.left.book) ≡ false
      → WasSeen (stream_at (peer facts.side) left.book) (plain_beside made.options facts.flow.opening (stream_at (peer facts.side) left.book) (peers_lane facts left.lanes)) known number
  told_acks known number mapping fin front back key among kept =
      let own : stream_at facts.side told.left.book ≡ acked.stream = own_stream facts.side acked.stream (gap_counted facts before).book in
      subst (λ (s : StreamValue). WasSeen s (plain_beside made.options facts.flow.opening s (peers_lane facts left.lanes)) known number) (peers_stream facts.side made.stream left.book)
      (at_acks (with_plain made.options before facts) position made.options made.keys (stream_at (peer facts.side) before.book) (stream_at facts.side before.book) (own_lane facts before.lanes)
      known number mapping fin front back key among (ap (broke rule.DataAck) (sym own) ∙ kept))

  told_learns : (known : ℕ) (ack : Option DataNumber) (mapping : DssMap) (fin : Bool) (front back : List OptionValue) → first_of facts.side made.keys ≡ Some known
      → made.options ≡ front ++ Dss ack (Some mapping) fin ∷ back → (mapping.length == 0) ≡ false → is_some mapping.checksum ≡ true
      → KeepsMappings (stream_at facts.side told.left.book)
      → (m : ToldMapping) × IsMeant known position mapping fin m × ((own_lane facts told.left.lanes).summed m ≡ true)
  told_learns known ack mapping fin front back key among finite checksum kept =
      let own : stream_at facts.side told.left.book ≡ acked.stream = own_stream facts.side acked.stream (gap_counted facts before).book in
      let lane : own_lane facts told.left.lanes ≡ acked.lane = lane_there facts.is_opener acked.lane (gap_counted facts before).lanes in
      let is = at_tells (with_plain made.options before facts) position made.options made.keys (stream_at (peer facts.side) before.book) (stream_at facts.side before.book) (own_lane facts before.lanes)
      known ack mapping fin front back key among finite checksum (subst KeepsMappings own kept) in
      (is.0, is.1, ap (λ (l : LaneValue). l.summed is.0) lane ∙ is.2)

-- the number of place 0 stays, where the key is known
first_stays : (side : Side) (keys later : Keys) (first : ℕ) → KeyStays keys later → first_of side keys ≡ Some first → first_of side later ≡ Some first
first_stays side keys later first stays is = by (key_of side keys) (key_of side later) (stays side) is
  where
    by : (a b : Option ℕ) → ((k : ℕ) → a ≡ Some k → b ≡ Some k) → option_map first_number a ≡ Some first → option_map first_number b ≡ Some first
    by None b go e = cc
    by (Some k) b go e = ap (option_map first_number) (go k refl) ∙ e

-- ---- a segment of a side of a connection

module _ (at : Option Side) (check_sums : Bool) (state : JudgedValue) (packet : ℕ) (seen : Seen) (connection : ℕ) (side : Side)
    (it : IsOf at check_sums state packet seen connection side) where
  abbrev ready : JudgedValue
  ready = ready_for check_sums state packet seen it.place

  abbrev known : Facts
  known = opened_facts at packet seen it.place.flow it.flow it.opened side

  abbrev options_of : List SeenValue
  options_of = seen_options it.keys.checksums seen.segment.options

  abbrev found : Left
  found = record { book = it.book; lanes = it.lanes }

  abbrev formed : Left
  formed = record found { book = with_stream side (told_formless packet options_of (stream_at side it.book)) it.book }

  abbrev left_told : Told
  left_told = told known it.position options_of it.keys formed

  flow_is : judged_flow at packet seen it.place.flow it.flow it.belongs it.keys found ≡ left_told
  flow_is =
      ap (λ (s : Side). judged_side at packet seen it.place.flow it.flow s it.keys found) it.of_side
      ∙ ap (λ (o : Option Opened). judged_formed at packet seen it.place.flow it.flow o side options_of it.keys formed) it.has_opened
      ∙ opened_is known it.position options_of it.keys formed it.no_syn
      (subst (λ (f : Facts). position_of (own_base f) (own_lane f it.lanes) seen.segment.head.seq seen.payload_len ≡ Some it.position) (sym it.has_facts) it.has_position)

  judged_is : judged at check_sums state packet seen ≡ put_back it.place.flow it.belongs.connection it.keys left_told ready
  judged_is =
      ap (λ (p : Option Place). judged_place at packet seen p (grown (taken_by check_sums state packet seen).now state)) it.in_flow
      ∙ ap (λ (f : Option Flow). judged_in_flow at packet seen it.place.flow f ready) it.has_flow
      ∙ ap (λ (b : Option Belongs). judged_belonging at packet seen it.place.flow it.flow b ready) it.has_belongs
      ∙ ap (λ (k : Option Keys). judged_known at packet seen it.place.flow it.flow it.belongs k (slice_get ready.books it.belongs.connection) (slice_get ready.lanes it.place.flow) ready) it.has_keys
      ∙ ap (λ (b : Option BookValue). judged_known at packet seen it.place.flow it.flow it.belongs (Some it.keys) b (slice_get ready.lanes it.place.flow) ready) it.has_book
      ∙ ap (λ (l : Option LanesValue). judged_known at packet seen it.place.flow it.flow it.belongs (Some it.keys) (Some it.book) l ready) it.has_lanes
      ∙ ap (λ (t : Told). put_back it.place.flow it.belongs.connection it.keys t ready) flow_is

  stream_is : stream_in (judged at check_sums state packet seen) connection side ≡ Some (stream_at side left_told.left.book)
  stream_is =
      ap (λ (j : JudgedValue). option_map (stream_at side) (slice_get j.books connection)) judged_is
      ∙ ap (λ (c : ℕ). option_map (stream_at side) (slice_get (set ready.books it.belongs.connection left_told.left.book) c)) (sym it.of_connection)
      ∙ ap (option_map (stream_at side)) (set_there ready.books it.belongs.connection left_told.left.book it.book it.has_book)

  pub stream_there : (s : StreamValue) × (stream_in (judged at check_sums state packet seen) connection side ≡ Some s)
  stream_there = (stream_at side left_told.left.book, stream_is)

  lanes_are : slice_get (judged at check_sums state packet seen).lanes it.place.flow ≡ Some left_told.left.lanes
  lanes_are =
      ap (λ (j : JudgedValue). slice_get j.lanes it.place.flow) judged_is
      ∙ set_there ready.lanes it.place.flow left_told.left.lanes it.lanes it.has_lanes

  pub segment_brought : (place octet : ℕ) (stream : StreamValue) → stream_in (judged at check_sums state packet seen) connection side ≡ Some stream
      → broke rule.PlaceContent stream ≡ false → Brings at check_sums state packet seen connection side it place octet → has_octet stream place octet
  segment_brought place octet stream there kept brings =
      let same : stream_at side left_told.left.book ≡ stream = some_same (stream_at side left_told.left.book) stream (sym stream_is ∙ there) in
      let lanes : left_told.left.lanes ≡ brings.lanes = some_same left_told.left.lanes brings.lanes (sym lanes_are ∙ brings.has_lanes) in
      let back : it.facts ≡ known = sym it.has_facts in
      subst (λ (s : StreamValue). has_octet s place octet) same
      (brought known it.position options_of it.keys formed brings.position place octet
      (ap (broke rule.PlaceContent) same ∙ kept)
      (subst (λ (f : Facts). is_between (payload_at f it.position).from (payload_at f it.position).to brings.position ≡ true) back brings.within)
      (subst (λ (f : Facts). slice_get (payload_at f it.position).held (brings.position - (payload_at f it.position).from) ≡ Some octet) back brings.held)
      (ap (λ (l : LanesValue). place_of (own_lane known l) brings.position) lanes
      ∙ subst (λ (f : Facts). place_of (own_lane f brings.lanes) brings.position ≡ Some place) back brings.placed)
      (subst (λ (s : StreamValue). s.acknowledged ≤ place) (sym (peers_stream side (told_formless packet options_of (stream_at side it.book)) it.book)) brings.unacknowledged))

  pub segment_acks : (number : DataNumber) (stream : StreamValue) → stream_in (judged at check_sums state packet seen) connection side ≡ Some stream
      → broke rule.DataAck stream ≡ false → (ack : Acknowledges at check_sums state packet seen connection side it number)
      → WasSeen (stream_at (peer side) it.book) (plain_for it.keys.checksums seen it.flow.opening (stream_at (peer side) it.book) (peers_lane it.facts it.lanes)) ack.first number
  segment_acks number stream there kept ack =
      let same : stream_at side left_told.left.book ≡ stream = some_same (stream_at side left_told.left.book) stream (sym stream_is ∙ there) in
      let start = first known it.position options_of it.keys formed in
      let stays = option_stays known ack.before (Some number) ack.mapping ack.fin ack.after start in
      subst (λ (f : Facts). WasSeen (stream_at (peer side) it.book) (plain_for it.keys.checksums seen it.flow.opening (stream_at (peer side) it.book) (peers_lane f it.lanes)) ack.first number) it.has_facts
      (subst (λ (b : Bool). WasSeen (stream_at (peer side) it.book) (if b then plain_on it.flow.opening (stream_at (peer side) it.book) (peers_lane known it.lanes) else 0) ack.first number)
      (each_fast known options_of start)
      (subst (λ (s : StreamValue). WasSeen s (plain_beside (keyed_each known options_of start).options it.flow.opening s (peers_lane known it.lanes)) ack.first number)
      (peers_stream side (told_formless packet options_of (stream_at side it.book)) it.book)
      (told_acks known it.position options_of it.keys formed ack.first number ack.mapping ack.fin stays.0 stays.1
      (ap (option_map first_number) (each_key known options_of start) ∙ ack.has_first)
      (ap (λ (os : List SeenValue). (keyed_each known os start).options) ack.among ∙ stays.2)
      (ap (broke rule.DataAck) same ∙ kept))))

  pub segment_tells : (mapping : DssMap) (fin : Bool) (stream : StreamValue) → stream_in (judged at check_sums state packet seen) connection side ≡ Some stream
      → KeepsMappings stream → (t : Tells at check_sums state packet seen connection side it mapping fin)
      → (m : ToldMapping) × IsMeant t.first it.position mapping fin m × ((own_lane known left_told.left.lanes).summed m ≡ true)
  segment_tells mapping fin stream there kept t =
      let stream_same : stream_at side left_told.left.book ≡ stream = some_same (stream_at side left_told.left.book) stream (sym stream_is ∙ there) in
      let start = first known it.position options_of it.keys formed in
      let stays = option_stays known t.before t.ack (Some mapping) fin t.after start in
      told_learns known it.position options_of it.keys formed t.first t.ack mapping fin stays.0 stays.1
      (first_stays side it.keys (keyed_each known options_of start).keys t.first (told_stay it.keys (keyed_each known options_of start).keys (keys_told known options_of start)) t.has_first)
      (ap (λ (os : List SeenValue). (keyed_each known os start).options) t.among ∙ stays.2) t.is_finite (ap is_some t.has_sum)
      (subst KeepsMappings (sym stream_same) kept)

  -- its flow, and the lanes that it leaves
  pub flow_there : slice_get (judged at check_sums state packet seen).seen.flows it.place.flow ≡ Some it.flow
  flow_there =
      ap (λ (j : JudgedValue). slice_get j.seen.flows it.place.flow) judged_is
      ∙ ap (λ (flows : List Flow). slice_get flows it.place.flow) (key_flows it.belongs.connection it.keys.a left_told.keys.a ready.seen) ∙ it.has_flow

  pub lanes_there : slice_get (judged at check_sums state packet seen).lanes it.place.flow ≡ Some left_told.left.lanes
  lanes_there = lanes_are
