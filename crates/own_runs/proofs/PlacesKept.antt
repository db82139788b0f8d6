-- No packet of a connection of ours breaks `mapping` or `dss-sum`, whatever its script does: each mapping of a segment gives its positions the places that
-- they have, and each payload has their octets.
-- Where a reset of a dead end stands far behind all others, with number 0 (RFC 9293, section 3.10.7.1), later numbers may be read as positions that are
-- 2^32 too high: all is said modulo 2^32.
use Rattle.std.proofs.Common.{◌≡◌, refl, sym, ap, ◌∙◌, subst, ℕ, ◌+◌, ◌%◌, ◌^◌, ◌<◌, ◌≤◌, Bool, true, false, if◌then◌else◌, Option, Some, None, List, [], ◌∷◌, map, arith}
use Rattle.std.specs.Prelude.{All, IfSome}
use Rattle.std.specs.List.{slice_get}
use Rattle.std.specs.Option.{option_map}
use Rattle.std.proofs.lemmas.List.Elements.{All-cons, All-head, All-nil, All-tail}
use Rattle.capture_reader.specs.Captured.{Captured}
use Rattle.capture_reader.specs.Seen.{Seen, segment_in_packet}
use Rattle.capture_verdict.specs.Judging.{judged_if_seen, judged_packets}
use Rattle.judge_laws.proofs.Folds.{TellingKeeps, options_so as fields_so}
use Rattle.judge_laws.proofs.Standing.{some_same}
use Rattle.judge_laws.specs.GoesOn.{stream_in}
use Rattle.judge_rules.specs.Numbers.{first_number}
use Rattle.judge_rules.specs.declared.finding.Finding.TheVariants.{Number32}
use Rattle.judge_rules.specs.declared.finding.Rule.TheVariants as rule
use Rattle.mptcp_options.specs.Value.{OptionValue}
use Rattle.rule_book.specs.Facts.{Facts, first_of, own_base, own_lane}
use Rattle.rule_book.specs.Judged.{Told, empty_book, judged_flow, judged_formed, judged_opened, judged_side, nothing_judged, opened_facts}
use Rattle.rule_book.specs.Signals.{KeyedValue, judged_options, told_formless}
use Rattle.rule_book.specs.State.{BookValue, JudgedValue, LanesValue, stream_at, with_stream}
use Rattle.rule_book.specs.Stream.{Left, gap_counted, judged_at, judged_from, judged_positions, with_plain}
use Rattle.seen_connections.specs.Connections.{key_of, taken}
use Rattle.seen_connections.specs.SeenOptions.{Readable, SeenValue, seen_options}
use Rattle.seen_connections.specs.declared.connections.Keys.{Keys}
use Rattle.seen_connections.specs.declared.flow.Belongs.{Belongs}
use Rattle.seen_connections.specs.declared.flow.Flow.{Flow}
use Rattle.seen_connections.specs.declared.flow.Opened.{Opened}
use Rattle.seen_streams.specs.Positions.{position_of}
use Rattle.seen_streams.specs.State.{Found, LaneValue, StreamValue, empty_lane}
use Rattle.sides.specs.Side.{peer}
use Rattle.sides.specs.declared.side.Side.TheVariants.{A, B}
use Rattle.sides.specs.declared.side.Side.{Side}
use Rattle.own_runs.proofs.FinePositions.{TellsNoFail}
use Rattle.own_runs.proofs.KeptOptions.{kept_so}
use Rattle.own_runs.proofs.LanePlaces.{IsWaiting, LanePlaced, OptionTells, StreamPlaced, at_so, is_place}
use Rattle.own_runs.proofs.MapKept.{alike}
use Rattle.own_runs.proofs.MapPositions.{Bears}
use Rattle.own_runs.proofs.Own.{Drawn, IsOwn, ValueIs, is_a, own_initial, own_key}
use Rattle.own_runs.proofs.OwnFlows.{Each, FlowOn, KeysOwn, NonceIs}
use Rattle.own_runs.proofs.OwnOptions.{IsOf, key_is, options_so, readable_so}
use Rattle.own_runs.proofs.OwnPackets.{AllHold, IsLeft, NothingMore, PacketIs, SegmentsKeep, opens_so, segment_so, sender_so}
use Rattle.own_runs.proofs.OwnUntold.{base_so, numbered}
use Rattle.own_runs.proofs.Telling.{others_keep}
use Rattle.own_runs.proofs.TokenState.{nothing_holds}

module _ (calm : Bool) (d : Drawn) (limit : Side → ℕ) (few : (s : Side) → limit s < 2 ^ 31) (content : Side → ℕ → ℕ) (where_at : ℕ → Side → ℕ → ℕ) where
  -- the number of place 0 of a side, and what an option tells on a path
  abbrev first_at : Side → ℕ
  first_at s = first_number (own_key d s)

  abbrev Well : ℕ → Side → ℕ → OptionValue → Type 0
  Well path s position = OptionTells (first_at s) (limit s) (content s) (where_at path s) position

  -- a segment of a position, by its number modulo 2^32, whose options tell such, and whose payload has the octets of these places
  pub record IsTelling (seen : Seen) : Type 0 where
    pub own : IsOwn d seen
    pub at : ℕ
    pub seq : seen.segment.head.seq ≡ (own_initial d own.path own.from + at) % 2 ^ 32
    pub none : calm ≡ true → All TellsNoFail own.values
    pub bears : (p : ℕ) → p % 2 ^ 32 ≡ at % 2 ^ 32 → Bears (λ q. content own.from (where_at own.path own.from q)) p seen.segment.payload
    pub offers : (p : ℕ) → p % 2 ^ 32 ≡ at % 2 ^ 32 → All (Well own.path own.from p) own.values

  abbrev IsCalm : OptionValue → Type 0
  IsCalm option = calm ≡ true → TellsNoFail option

  each_calm : (values : List OptionValue) → (calm ≡ true → All TellsNoFail values) → All IsCalm values
  each_calm [] none = All-nil IsCalm
  each_calm (v ∷ values) none =
      All-cons IsCalm v values (λ is. All-head TellsNoFail v values (none is)) (each_calm values (λ is. All-tail TellsNoFail v values (none is)))

  abbrev BookPlaced : BookValue → Type 0
  BookPlaced book = (s : Side) → StreamPlaced calm (limit s) (stream_at s book)

  abbrev Laned : ℕ → Side → LaneValue → Type 0
  Laned path s l = LanePlaced calm (limit s) (few s) (content s) (first_at s) (where_at path s) l

  pub record LanesPlaced (path : ℕ) (lanes : LanesValue) : Type 0 where
    pub opener : Laned path A lanes.opener
    pub other : Laned path B lanes.other

  abbrev Any : Flow → Type 0
  Any flow = Unit {0}

  new_placed : BookPlaced empty_book
  new_placed A = record { top = omega arith; untold = λ r is. refl }
  new_placed B = record { top = omega arith; untold = λ r is. refl }

  with_placed : (s : Side) (stream : StreamValue) (book : BookValue) → StreamPlaced calm (limit s) stream → BookPlaced book → BookPlaced (with_stream s stream book)
  with_placed A stream book new h A = new
  with_placed A stream book new h B = h B
  with_placed B stream book new h A = h A
  with_placed B stream book new h B = new

  gaps_placed : (gaps : ℕ) (book : BookValue) → BookPlaced book → BookPlaced (record book { gaps = gaps })
  gaps_placed gaps book h A = h A
  gaps_placed gaps book h B = h B

  lane_placed : (path : ℕ) (side : Side) (b : Bool) (lanes : LanesValue) → b ≡ is_a side → LanesPlaced path lanes → Laned path side (if b then lanes.opener else lanes.other)
  lane_placed path A true lanes is h = h.opener
  lane_placed path B false lanes is h = h.other
  lane_placed path A false lanes is h = cc
  lane_placed path B true lanes is h = cc

  lanes_placed : (path : ℕ) (side : Side) (b : Bool) (lane : LaneValue) (lanes : LanesValue) → b ≡ is_a side → Laned path side lane → LanesPlaced path lanes
      → LanesPlaced path (if b then record lanes { opener = lane } else record lanes { other = lane })
  lanes_placed path A true lane lanes is new h = record { opener = new; other = h.other }
  lanes_placed path B false lane lanes is new h = record { opener = h.opener; other = new }
  lanes_placed path A false lane lanes is new h = cc
  lanes_placed path B true lane lanes is new h = cc

  top_keeps : (s : Side) → TellingKeeps (λ (stream : StreamValue). stream.top ≤ limit s)
  top_keeps s = record { tells = λ r packet fault stream h. h; counts = λ stream keys joins mappings sums data_acks h. h }

  abbrev Leaves : ℕ → Told → Type 0
  Leaves path told = IsLeft d Any IsTelling BookPlaced LanesPlaced path told

  module _ (at : Option Side) (packet : ℕ) (seen : Seen) (p : IsTelling seen) where
    abbrev own : IsOwn d seen
    own = p.own

    record LeftPlaced (left : Left) : Type 0 where
      book : BookPlaced left.book
      lanes : LanesPlaced own.path left.lanes

    first_so : (s : Side) (keys : Keys) → KeysOwn d keys → IfSome (first_of s keys) (λ first. first ≡ first_at s)
    first_so s keys k = by (key_of s keys) (key_is d (is_place calm) s keys k)
      where
        by : (o : Option ℕ) → IfSome o (λ key. key ≡ own_key d s) → IfSome (option_map first_number o) (λ first. first ≡ first_at s)
        by None is = tt
        by (Some key) is = ap first_number is

    positions_so : (facts : Facts) (options : List OptionValue) (keys : Keys) (left : Left) → facts.seen ≡ seen → facts.is_opener ≡ is_a facts.side
        → (at : ℕ) → seen.segment.head.seq ≡ (own_base facts + at) % 2 ^ 32 → KeysOwn d keys
        → ((p : ℕ) → p % 2 ^ 32 ≡ at % 2 ^ 32 → Bears (λ q. content facts.side (where_at own.path facts.side q)) p seen.segment.payload)
        → ((p : ℕ) → p % 2 ^ 32 ≡ at % 2 ^ 32 → All (Well own.path facts.side p) options) → All IsCalm options → LeftPlaced left → LeftPlaced (judged_positions facts options keys left)
    positions_so facts options keys left sees opens at seq k bears all none h =
        by facts.seen.segment.head.syn (position_of (own_base facts) (own_lane facts left.lanes) facts.seen.segment.head.seq facts.seen.payload_len) refl
      where
        lane : Laned own.path facts.side (own_lane facts left.lanes)
        lane = lane_placed own.path facts.side facts.is_opener left.lanes opens h.lanes

        from : (position : Option ℕ) → position_of (own_base facts) (own_lane facts left.lanes) facts.seen.segment.head.seq facts.seen.payload_len ≡ position
            → LeftPlaced (judged_from facts position options keys left)
        from None e = h
        from (Some position) e =
            let same : position % 2 ^ 32 ≡ at % 2 ^ 32 = alike (own_base facts) facts.seen.segment.head.seq position at
            (numbered (own_base facts) (own_lane facts left.lanes) facts.seen.segment.head.seq facts.seen.payload_len position e) (ap (λ (x : Seen). x.segment.head.seq) sees ∙ seq) in
            let own_stream = stream_at facts.side left.book in
            let its_lane = own_lane facts left.lanes in
            let gone = (gap_counted facts left).book in
            let it = judged_at (with_plain options left facts) position options keys (stream_at (peer facts.side) left.book) own_stream its_lane in
            let placed = at_so calm (limit facts.side) (few facts.side) (content facts.side) (first_at facts.side) (where_at own.path facts.side) (with_plain options left facts) position options keys
            (stream_at (peer facts.side) left.book) own_stream its_lane (first_so facts.side keys k) (all position same) none
            (subst (λ (x : Seen). Bears (λ q. content facts.side (where_at own.path facts.side q)) position x.segment.payload) (sym sees) (bears position same)) (h.book facts.side, lane) in
            record {
              book = with_placed facts.side it.stream gone placed.0 (gaps_placed gone.gaps left.book h.book);
              lanes = lanes_placed own.path facts.side facts.is_opener it.lane left.lanes opens placed.1 h.lanes;
            }

        by : (b : Bool) (position : Option ℕ) → position_of (own_base facts) (own_lane facts left.lanes) facts.seen.segment.head.seq facts.seen.payload_len ≡ position
            → LeftPlaced (if b then left else judged_from facts position options keys left)
        by true position e = h
        by false position e = from position e

    module _ (index : ℕ) (flow : Flow) (f : FlowOn d own.path flow) (keys : Keys) (k : KeysOwn d keys) (left : Left) (h : LeftPlaced left) where
      seq_so : (opened : Opened) → flow.opened ≡ Some opened → seen.segment.head.seq ≡ (own_base (opened_facts at packet seen index flow opened own.from) + p.at) % 2 ^ 32
      seq_so opened e = let base = base_so d seen own flow f at packet index opened e in let seq = p.seq in omega (arith, base, seq)

      opened_so : (opened : Opened) → flow.opened ≡ Some opened
          → Leaves own.path (judged_opened (opened_facts at packet seen index flow opened own.from) (map Readable own.values) keys left)
      opened_so opened e =
          let facts = opened_facts at packet seen index flow opened own.from in
          let it : IsOf d (is_place calm) own.path facts = record {
            opening = f.opening;
            nonce = subst (λ (o : Option Opened). IfSome o (NonceIs d own.path flow.opening)) e f.nonce;
            opener = opens_so d seen own flow f;
          } in
          let was = h.book own.from in
          let first : KeyedValue = record { options = []; keys = keys; stream = stream_at own.from left.book } in
          let made = options_so d (is_place calm) own.path facts it own.values first own.each
          (record { keys = k; untold = was.untold; each = All-nil (ValueIs d own.path own.from) }) in
          let all = judged_options facts (map Readable own.values) first in
          let top = fields_so (top_keeps own.from) facts (map Readable own.values) first was.top in
          let wells : (q : ℕ) → q % 2 ^ 32 ≡ p.at % 2 ^ 32 → All (Well own.path own.from q) all.options =
          λ q same. kept_so (Well own.path own.from q) facts own.values first (p.offers q same) (All-nil (Well own.path own.from q)) in
          let none = kept_so IsCalm facts own.values first (each_calm own.values p.none) (All-nil IsCalm) in
          let behind = positions_so facts all.options all.keys (record left { book = with_stream own.from all.stream left.book }) refl (opens_so d seen own flow f) p.at
          (seq_so opened e) made.keys p.bears wells none
          (record { book = with_placed own.from all.stream left.book (record { top = top; untold = made.untold }) h.book; lanes = h.lanes }) in
          record { keys = made.keys; book = behind.book; lanes = behind.lanes }

      formed_so : (opened : Option Opened) → flow.opened ≡ opened → Leaves own.path (judged_formed at packet seen index flow opened own.from (map Readable own.values) keys left)
      formed_so None e = record { keys = k; book = h.book; lanes = h.lanes }
      formed_so (Some opened) e = opened_so opened e

    flow_so : (index : ℕ) (flow : Flow) (f : FlowOn d own.path flow) (belongs : Belongs) → belongs.opener ≡ A → (keys : Keys) (left : Left) → KeysOwn d keys
        → LeftPlaced left → Leaves own.path (judged_flow at packet seen index flow belongs keys left)
    flow_so index flow f belongs is keys left k h =
        let formed = told_formless packet (map Readable own.values) (stream_at own.from left.book) in
        subst (λ (s : Side). Leaves own.path (judged_side at packet seen index flow s keys left)) (sym (sender_so d seen own flow f belongs is))
        (subst (λ (options : List SeenValue). Leaves own.path (judged_formed at packet seen index flow flow.opened own.from options keys
        (record left { book = with_stream own.from (told_formless packet options (stream_at own.from left.book)) left.book }))) (sym options_are)
        (formed_so index flow f keys k (record left { book = with_stream own.from formed left.book })
        (record {
          book = with_placed own.from formed left.book
              (subst (StreamPlaced calm (limit own.from)) (sym (readable_so packet own.values (stream_at own.from left.book))) (h.book own.from)) h.book;
          lanes = h.lanes;
        })
        flow.opened refl))
      where
        options_are : seen_options keys.checksums seen.segment.options ≡ map Readable own.values
        options_are = ap (λ (c : Bool). seen_options c seen.segment.options) k.checksums ∙ own.options

  pub new_lane : (path : ℕ) (s : Side) → Laned path s empty_lane
  new_lane path s =
      record { placed = λ p. tt; octets = λ p. tt; waiting = All-nil (IsWaiting calm (limit s) (few s) (content s) (first_at s) (where_at path s)) }

  keep : SegmentsKeep d Any IsTelling BookPlaced LanesPlaced NothingMore
  keep = record {
    own = λ seen p. p.own;
    new_lanes = λ path. record { opener = new_lane path A; other = new_lane path B };
    token = λ wrong book h.
        let s = wrong.belongs.opener in
        let was = h s in
        with_placed s _ book (record {
          top = was.top;
          untold = others_keep (is_place calm) rule.Token wrong.packet (Found (Number32 wrong.expected wrong.was)) (stream_at s book).broken refl was.untold;
        }) h;
    flow = λ at packet seen p index flow f any belongs is keys left k h lanes more.
        flow_so at packet seen p index flow f belongs is keys left k (record { book = h; lanes = lanes });
  }

  abbrev pub TellingPacket : Captured → Type 0
  TellingPacket packet = PacketIs d Any IsTelling BookPlaced LanesPlaced packet

  abbrev Holds : JudgedValue → Type 0
  Holds state = AllHold d Any IsTelling BookPlaced LanesPlaced state

  -- packet by packet
  packets_so : (at : Option Side) (packets : List Captured) (n : ℕ) (state : JudgedValue) → All TellingPacket packets → Holds state → Holds (judged_packets at true state n packets)
  packets_so at [] n state each h = h
  packets_so at (packet ∷ packets) n state each h =
      packets_so at packets (n + 1) (judged_if_seen at true state n (segment_in_packet packet)) (All-tail TellingPacket packet packets each)
      (by (segment_in_packet packet) (All-head TellingPacket packet packets each))
    where
      any : (flows : List Flow) → Each Any flows
      any flows i flow there = tt

      by : (o : Option Seen) → IfSome o IsTelling → Holds (judged_if_seen at true state n o)
      by None is = h
      by (Some seen) p =
          segment_so d Any IsTelling BookPlaced LanesPlaced keep at n seen p state (λ more. new_placed) (any (taken state.seen n seen true).now.flows) h
          (λ wrong held path index flow there opener c book at_book lanes at_lanes. tt)

  begins : Holds nothing_judged
  begins = record { seen = (nothing_holds d).own; books = λ i book at. absurd (none i at); lanes = λ i lanes at. absurd (none i at) }
    where
      none : {Y : Type 0} {y : Y} → (i : ℕ) → slice_get [] i ≡ Some y → ⊥
      none i e = cc

  -- what each stream is
  pub stream_placed : (at : Option Side) (packets : List Captured) → All TellingPacket packets → (connection : ℕ) (s : Side) (stream : StreamValue)
      → stream_in (judged_packets at true nothing_judged 1 packets) connection s ≡ Some stream → StreamPlaced calm (limit s) stream
  stream_placed at packets each connection s stream there = by (slice_get (judged_packets at true nothing_judged 1 packets).books connection) refl there
    where
      by : (o : Option BookValue) → slice_get (judged_packets at true nothing_judged 1 packets).books connection ≡ o → option_map (stream_at s) o ≡ Some stream
          → StreamPlaced calm (limit s) stream
      by None e there = cc
      by (Some book) e there =
          subst (StreamPlaced calm (limit s)) (some_same (stream_at s book) stream there) ((packets_so at packets 1 nothing_judged each begins).books connection book e s)
