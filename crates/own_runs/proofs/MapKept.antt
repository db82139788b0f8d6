-- A segment of a connection of ours that never falls back breaks no rule on mappings and what they map: each position of a subflow has one
-- place, and each place one octet. Nor does it acknowledge what wasn't shown. Where a reset of a dead end stands far behind all others, with number 0 (RFC 9293, section 3.10.7.1), later
-- numbers may be read as positions that are 2^32 too high: all is said modulo 2^32.
use Rattle.std.proofs.Common.{◌≡◌, refl, sym, ap, ◌∙◌, subst, ℕ, ◌+◌, ◌%◌, ◌<◌, ◌≤◌, ◌^◌, inl, inr, ⊎_elim, Bool, true, false, if◌then◌else◌, Option, Some, None, is_some, List, [], ◌∷◌, length, map, max, arith}
use Rattle.std.proofs.lemmas.Bool.{false≢true}
use Rattle.std.specs.Prelude.{All, IfSome}
use Rattle.std.specs.List.{slice_get}
use Rattle.std.specs.Option.{option_map}
use Rattle.std.proofs.lemmas.List.Elements.{All-cons, All-head, All-nil, All-tail}
use Rattle.sides.specs.declared.side.Side.{Side}
use Rattle.sides.specs.declared.side.Side.TheVariants.{A, B}
use Rattle.sides.specs.Side.{peer}
use Rattle.mptcp_options.specs.Value.{OptionValue, Dss}
use Rattle.capture_reader.specs.Seen.{Seen}
use Rattle.judge_rules.specs.declared.acks.ToldPlace.{ToldPlace}
use Rattle.judge_rules.specs.declared.finding.Finding.TheVariants.{Number32}
use Rattle.judge_rules.specs.declared.finding.Rule.TheVariants as rule
use Rattle.judge_rules.specs.Numbers.{first_number}
use Rattle.seen_connections.specs.declared.connections.Keys.{Keys}
use Rattle.seen_connections.specs.declared.flow.Belongs.{Belongs}
use Rattle.seen_connections.specs.declared.flow.Flow.{Flow}
use Rattle.seen_connections.specs.declared.flow.Opened.{Opened}
use Rattle.seen_connections.specs.Connections.{key_of}
use Rattle.seen_connections.specs.SeenOptions.{Readable, SeenValue, seen_options}
use Rattle.seen_streams.specs.Positions.{position_of}
use Rattle.seen_streams.specs.State.{Found, LaneValue, StreamValue, empty_lane}
use Rattle.rule_book.specs.Facts.{Facts, first_of, own_base, own_lane, payload_at}
use Rattle.rule_book.specs.Judged.{Told, empty_book, judged_flow, judged_formed, judged_opened, judged_side, opened_facts}
use Rattle.rule_book.specs.Signals.{KeyedValue, judged_options, told_formless}
use Rattle.rule_book.specs.State.{BookValue, JudgedValue, LanesValue, stream_at, with_stream}
use Rattle.rule_book.specs.Stream.{Left, gap_counted, judged_at, judged_from, judged_positions, with_plain}
use Rattle.judge_laws.specs.GoesOn.{GoesOn, stream_in}
use Rattle.judge_laws.proofs.Folds.{TellingKeeps, options_so as fields_so}
use Rattle.judge_laws.proofs.Going.{options_go}
use Rattle.judge_laws.proofs.Positions.{at_goes}
use Rattle.own_runs.proofs.AckPositions.{IsCovered, behind_all, seen_so}
use Rattle.own_runs.proofs.FinePositions.{NumberIs, TellsNoFail, position_so}
use Rattle.judge_laws.proofs.Standing.{some_same}
use Rattle.own_runs.proofs.MapPositions.{AckIs, Bears, LaneFine, OffersWell, StreamFine, Waits, at_so, is_mapping}
use Rattle.own_runs.proofs.KeptOptions.{kept_so}
use Rattle.own_runs.proofs.Own.{Drawn, IsOwn, ValueIs, own_key}
use Rattle.own_runs.proofs.OwnFlows.{FlowOn, KeysOwn, NonceIs}
use Rattle.own_runs.proofs.OwnOptions.{IsKeyed, IsOf, key_is, options_so, readable_so}
use Rattle.own_runs.proofs.OpenFlows.{OpensBy}
use Rattle.own_runs.proofs.OwnPackets.{AllHold, IsLeft, NothingMore, SegmentsKeep, opens_so, sender_so}
use Rattle.own_runs.proofs.Own.{is_a, own_initial}
use Rattle.own_runs.proofs.OwnUntold.{base_so, numbered}
use Rattle.own_runs.proofs.Telling.{others_keep}

-- positions with one number
pub alike : (base seq p at : ℕ) → (base + p) % 2 ^ 32 ≡ seq % 2 ^ 32 → seq ≡ (base + at) % 2 ^ 32 → p % 2 ^ 32 ≡ at % 2 ^ 32
alike base seq p at is same = omega (arith, is, same)

module _ (d : Drawn) (limit : Side → ℕ) (few : (s : Side) → limit s < 2 ^ 31) (content : Side → ℕ → ℕ) (where_at : ℕ → Side → ℕ → ℕ) where
  -- the number of place 0 of a side, and what is offered well on a path
  abbrev pub first_at : Side → ℕ
  first_at s = first_number (own_key d s)

  abbrev Well : ℕ → Side → ℕ → OptionValue → Type 0
  Well path s position = OffersWell (first_at s) (limit s) (content s) (where_at path s) position

  -- A segment of a position, by its number modulo 2^32: its mappings end within its side's stream, give each position its place, and tell right
  -- checksums; and its payload has the octets of these places, all of them held.
  pub record IsFine (seen : Seen) : Type 0 where
    pub own : IsOwn d seen
    pub at : ℕ
    pub seq : seen.segment.head.seq ≡ (own_initial d own.path own.from + at) % 2 ^ 32
    pub bears : (p : ℕ) → p % 2 ^ 32 ≡ at % 2 ^ 32 → Bears (λ q. content own.from (where_at own.path own.from q)) p seen.segment.payload
    pub offers : (p : ℕ) → p % 2 ^ 32 ≡ at % 2 ^ 32 → All (Well own.path own.from p) own.values
    pub calm : All TellsNoFail own.values
    pub whole : seen.payload_len ≡ length seen.segment.payload
    -- an option maps each of its octets
    pub maps : (p : ℕ) → p % 2 ^ 32 ≡ at % 2 ^ 32 → (j : ℕ) → j < length seen.segment.payload → IsCovered (first_at own.from) p (p + j) own.values

  -- by what each side wants of the other's stream on each path, on which paths all of its segments stand low, what was shown of its stream, and
  -- whether its DATA_FIN was
  module _ (most : ℕ → Side → ℕ) (S : ℕ → Type 0) (Straight : ℕ → Side → Type 0) (Shown : Side → ℕ → Type 0) (Ended : Side → Type 0) where
    -- a Data ACK is of what its side wants, which was shown
    abbrev pub AckSays : ℕ → Side → OptionValue → Type 0
    AckSays path s (Dss (Some number) mapping fin) =
        NumberIs (first_at (peer s)) number (most path s) × (most path s ≤ limit (peer s) + 1)
        × ((q : ℕ) → q < most path s → q < limit (peer s) → Shown (peer s) q) × (limit (peer s) < most path s → Ended (peer s)) × (most path s < 2 ^ 31)
    AckSays path s _ = Unit {0}

    pub record IsGood (seen : Seen) : Type 0 where
      pub fine : IsFine seen
      pub acks : All (AckSays fine.own.path fine.own.from) fine.own.values
      pub low : Straight fine.own.path fine.own.from → S fine.own.path → fine.at + seen.payload_len < 2 ^ 31

    -- all that was shown was seen
    pub record StreamGood (s : Side) (stream : StreamValue) : Type 0 where
      pub fine : StreamFine (limit s) (few s) (content s) stream
      pub seen : (q : ℕ) → Shown s q → stream.seen q ≡ true
      pub fin : Ended s → is_some stream.fin ≡ true

    abbrev pub BookGood : BookValue → Type 0
    BookGood book = (s : Side) → StreamGood s (stream_at s book)

    abbrev pub LanedTo : ℕ → Side → LaneValue → ℕ → Type 0
    LanedTo path s l high = LaneFine (limit s) (few s) (content s) (first_at s) (where_at path s) (most path s) high l × (Straight path s → high < 2 ^ 31)

    abbrev pub Laned : ℕ → Side → LaneValue → Type 0
    Laned path s l = (high : ℕ) × LanedTo path s l high

    pub record LanesFine (path : ℕ) (lanes : LanesValue) : Type 0 where
      pub opener : Laned path A lanes.opener
      pub other : Laned path B lanes.other

    pub with_good : (s : Side) (stream : StreamValue) (book : BookValue) → StreamGood s stream → BookGood book → BookGood (with_stream s stream book)
    with_good A stream book new h A = new
    with_good A stream book new h B = h B
    with_good B stream book new h A = h A
    with_good B stream book new h B = new

    gaps_good : (gaps : ℕ) (book : BookValue) → BookGood book → BookGood (record book { gaps = gaps })
    gaps_good gaps book h A = h A
    gaps_good gaps book h B = h B

    -- a stream that goes on has seen what it had
    goes_good : (s : Side) (old new : StreamValue) → GoesOn old new → StreamFine (limit s) (few s) (content s) new → StreamGood s old → StreamGood s new
    goes_good s old new goes fine h = record {
      fine = fine;
      seen = λ q shown. goes.seen q (h.seen q shown);
      fin = λ ended. by old.fin refl (h.fin ended);
    }
      where
        by : (o : Option ToldPlace) → old.fin ≡ o → is_some o ≡ true → is_some new.fin ≡ true
        by None e some = absurd (false≢true some)
        by (Some told) e some = ap is_some (goes.fin told e)

    pub lane_at : (path : ℕ) (side : Side) (b : Bool) (lanes : LanesValue) → b ≡ is_a side → LanesFine path lanes
        → Laned path side (if b then lanes.opener else lanes.other)
    lane_at path A true lanes is h = h.opener
    lane_at path B false lanes is h = h.other
    lane_at path A false lanes is h = cc
    lane_at path B true lanes is h = cc

    lanes_fine : (path : ℕ) (side : Side) (b : Bool) (lane : LaneValue) (lanes : LanesValue) → b ≡ is_a side → Laned path side lane → LanesFine path lanes
        → LanesFine path (if b then record lanes { opener = lane } else record lanes { other = lane })
    lanes_fine path A true lane lanes is new h = record { opener = new; other = h.other }
    lanes_fine path B false lane lanes is new h = record { opener = h.opener; other = new }
    lanes_fine path A false lane lanes is new h = cc
    lanes_fine path B true lane lanes is new h = cc

    raised : (path : ℕ) (s : Side) (l : LaneValue) (high more : ℕ) → high ≤ more → LaneFine (limit s) (few s) (content s) (first_at s) (where_at path s) (most path s) high l
        → LaneFine (limit s) (few s) (content s) (first_at s) (where_at path s) (most path s) more l
    raised path s l high more up h =
        record { line = h.line; placed = h.placed; octets = h.octets; there = h.there; waiting = h.waiting; acked = h.acked; top = (let low = h.top in omega (arith, low, up)) }

    -- what a stream is beside the rules that were told
    record Fields (s : Side) (stream : StreamValue) : Type 0 where
      infinite : stream.infinite ≡ None
      fin : IfSome stream.fin (λ told. told.place ≡ limit s)
      top : stream.top ≤ limit s
      octets : (q : ℕ) → IfSome (stream.octet q) (λ o. (q < limit s) × (o.octet ≡ content s q))
      below : (q : ℕ) → stream.seen q ≡ true → q < limit s
      there : (q : ℕ) → stream.seen q ≡ true → is_some (stream.octet q) ≡ true

    fields_keep : (s : Side) → TellingKeeps (Fields s)
    fields_keep s = record {
      tells = λ r packet fault stream h. record { infinite = h.infinite; fin = h.fin; top = h.top; octets = h.octets; below = h.below; there = h.there };
      counts = λ stream keys joins mappings sums data_acks h. record { infinite = h.infinite; fin = h.fin; top = h.top; octets = h.octets; below = h.below; there = h.there };
    }

    abbrev Leaves : ℕ → Told → Type 0
    Leaves path told = IsLeft d (OpensBy S) IsGood BookGood LanesFine path told

    -- a Data ACK is of what was seen
    ack_so : (path : ℕ) (s : Side) (high : ℕ) (peers : StreamValue) → StreamGood (peer s) peers → (option : OptionValue) → AckSays path s option
        → AckIs (limit s) (few s) (content s) (first_at s) (where_at path s) (most path s) high (first_at (peer s)) peers option
    ack_so path s high peers h (Dss (Some number) mapping fin) is =
        let top = h.fine.top in let short = few (peer s) in (
          is.0,
          omega (arith, top, short),
          is.4,
          behind_all (limit (peer s)) (most path s) peers (few (peer s))
              (seen_so (limit (peer s)) (few (peer s)) (content (peer s)) (first_at (peer s)) (where_at path (peer s)) (most path (peer s)) high peers h.fine (most path s)
              (λ q below within. h.seen q (is.2 q below within)) is.1 (λ behind. h.fin (is.3 behind))),
        )
    ack_so path s high peers h (Dss None mapping fin) is = tt
    ack_so path s high peers h _ is = tt

    module _ (at : Option Side) (packet : ℕ) (seen : Seen) (g : IsGood seen) where
      abbrev p : IsFine seen
      p = g.fine

      abbrev own : IsOwn d seen
      own = p.own

      pub record LeftGood (left : Left) : Type 0 where
        pub book : BookGood left.book
        pub lanes : LanesFine own.path left.lanes

      first_so : (s : Side) (keys : Keys) → KeysOwn d keys → IfSome (first_of s keys) (λ first. first ≡ first_at s)
      first_so s keys k = by (key_of s keys) (key_is d is_mapping s keys k)
        where
          by : (o : Option ℕ) → IfSome o (λ key. key ≡ own_key d s) → IfSome (option_map first_number o) (λ first. first ≡ first_at s)
          by None is = tt
          by (Some key) is = ap first_number is

      acks_at : (s : Side) (high : ℕ) (keys : Keys) (peers : StreamValue) (options : List OptionValue) → KeysOwn d keys → StreamGood (peer s) peers → All (AckSays own.path s) options
          → IfSome (first_of (peer s) keys) (λ n. All (AckIs (limit s) (few s) (content s) (first_at s) (where_at own.path s) (most own.path s) high n peers) options)
      acks_at s high keys peers options k good says = by (first_of (peer s) keys) (first_so (peer s) keys k)
        where
          Is : ℕ → OptionValue → Type 0
          Is = λ n option. AckIs (limit s) (few s) (content s) (first_at s) (where_at own.path s) (most own.path s) high n peers option

          all : (options : List OptionValue) → All (AckSays own.path s) options
              → All (AckIs (limit s) (few s) (content s) (first_at s) (where_at own.path s) (most own.path s) high (first_at (peer s)) peers) options
          all [] each = All-nil (Is (first_at (peer s)))
          all (option ∷ options) each =
              All-cons (Is (first_at (peer s))) option options (ack_so own.path s high peers good option (All-head (AckSays own.path s) option options each)) (all options (All-tail (AckSays own.path s) option options each))

          by : (o : Option ℕ) → IfSome o (λ first. first ≡ first_at (peer s))
              → IfSome o (λ n. All (AckIs (limit s) (few s) (content s) (first_at s) (where_at own.path s) (most own.path s) high n peers) options)
          by None is = tt
          by (Some first) is =
              subst (λ (n : ℕ). All (AckIs (limit s) (few s) (content s) (first_at s) (where_at own.path s) (most own.path s) high n peers) options) (sym is) (all options says)

      positions_so : (facts : Facts) (options : List OptionValue) (keys : Keys) (left : Left) → facts.seen ≡ seen → facts.is_opener ≡ is_a facts.side
          → (at : ℕ) → seen.segment.head.seq ≡ (own_base facts + at) % 2 ^ 32 → KeysOwn d keys
          → ((p : ℕ) → p % 2 ^ 32 ≡ at % 2 ^ 32 → Bears (λ q. content facts.side (where_at own.path facts.side q)) p seen.segment.payload)
          → ((p : ℕ) → p % 2 ^ 32 ≡ at % 2 ^ 32 → All (Well own.path facts.side p) options) → All TellsNoFail options → All (AckSays own.path facts.side) options
          → seen.payload_len ≡ length seen.segment.payload → (Straight own.path facts.side → at + seen.payload_len < 2 ^ 31) → LeftGood left → LeftGood (judged_positions facts options keys left)
      positions_so facts options keys left sees opens at seq k bears all calm acks whole low h =
          by facts.seen.segment.head.syn (position_of (own_base facts) (own_lane facts left.lanes) facts.seen.segment.head.seq facts.seen.payload_len) refl
        where
          lane : Laned own.path facts.side (own_lane facts left.lanes)
          lane = lane_at own.path facts.side facts.is_opener left.lanes opens h.lanes

          -- where all stands low, the position is that of the number
          ends_low : (position : ℕ) → position_of (own_base facts) (own_lane facts left.lanes) facts.seen.segment.head.seq facts.seen.payload_len ≡ Some position
              → Straight own.path facts.side → (payload_at facts position).to < 2 ^ 31
          ends_low position e straight =
              let short = low straight in
              let top = lane.1.0.top in let below = lane.1.1 straight in
              let there : position ≡ at = some_same position at (sym e ∙ ap (λ (x : Seen). position_of (own_base facts) (own_lane facts left.lanes) x.segment.head.seq x.payload_len) sees
              ∙ position_so (own_base facts) (own_lane facts left.lanes) seen.segment.head.seq seen.payload_len at seq (omega (arith, top, below)) short) in
              let len = ap (λ (x : Seen). x.payload_len) sees in
              let most_len = held facts.seen.segment.head.rst in
              omega (arith, there, short, len, most_len)
            where
              held : (b : Bool) → (if b then 0 else facts.seen.payload_len) ≤ facts.seen.payload_len
              held true = omega arith
              held false = omega arith

          from : (position : Option ℕ) → position_of (own_base facts) (own_lane facts left.lanes) facts.seen.segment.head.seq facts.seen.payload_len ≡ position
              → LeftGood (judged_from facts position options keys left)
          from None e = h
          from (Some position) e =
              let same : position % 2 ^ 32 ≡ at % 2 ^ 32 = alike (own_base facts) facts.seen.segment.head.seq position at
              (numbered (own_base facts) (own_lane facts left.lanes) facts.seen.segment.head.seq facts.seen.payload_len position e) (ap (λ (x : Seen). x.segment.head.seq) sees ∙ seq) in
              let own_stream = stream_at facts.side left.book in
              let its_lane = own_lane facts left.lanes in
              let gone = (gap_counted facts left).book in
              let peers = stream_at (peer facts.side) left.book in
              let it = judged_at (with_plain options left facts) position options keys peers own_stream its_lane in
              let high = max lane.0 (payload_at facts position).to in
              let fine = at_so (limit facts.side) (few facts.side) (content facts.side) (first_at facts.side) (where_at own.path facts.side) (most own.path facts.side) high (with_plain options left facts) position options keys
              peers own_stream its_lane (first_so facts.side keys k) (all position same) calm (acks_at facts.side high keys peers options k (h.book (peer facts.side)) acks)
              (subst (λ (x : Seen). Bears (λ q. content facts.side (where_at own.path facts.side q)) position x.segment.payload) (sym sees) (bears position same))
              (subst (λ (x : Seen). x.payload_len ≡ length x.segment.payload) (sym sees) whole) (omega arith)
              ((h.book facts.side).fine, raised own.path facts.side its_lane lane.0 high (omega arith) lane.1.0) in
              record {
                book = with_good facts.side it.stream gone (goes_good facts.side own_stream it.stream (at_goes (with_plain options left facts) position options keys peers own_stream its_lane) fine.0 (h.book facts.side))
                    (gaps_good gone.gaps left.book h.book);
                lanes = lanes_fine own.path facts.side facts.is_opener it.lane left.lanes opens
                    (high, (fine.1, λ straight. let one = lane.1.1 straight in let other = ends_low position e straight in omega (arith, one, other))) h.lanes;
              }

          by : (b : Bool) (position : Option ℕ) → position_of (own_base facts) (own_lane facts left.lanes) facts.seen.segment.head.seq facts.seen.payload_len ≡ position
              → LeftGood (if b then left else judged_from facts position options keys left)
          by true position e = h
          by false position e = from position e

      module _ (index : ℕ) (flow : Flow) (f : FlowOn d own.path flow) (keys : Keys) (k : KeysOwn d keys) (left : Left) (h : LeftGood left) where
        seq_so : (opened : Opened) → flow.opened ≡ Some opened → seen.segment.head.seq ≡ (own_base (opened_facts at packet seen index flow opened own.from) + p.at) % 2 ^ 32
        seq_so opened e = let base = base_so d seen own flow f at packet index opened e in let seq = p.seq in omega (arith, base, seq)

        module _ (opened : Opened) (e : flow.opened ≡ Some opened) where
          abbrev facts : Facts
          facts = opened_facts at packet seen index flow opened own.from

          abbrev first : KeyedValue
          first = record { options = []; keys = keys; stream = stream_at own.from left.book }

          abbrev all : KeyedValue
          all = judged_options facts (map Readable own.values) first

          pub of_flow : IsOf d is_mapping own.path facts
          of_flow = record {
            opening = f.opening;
            nonce = subst (λ (o : Option Opened). IfSome o (NonceIs d own.path flow.opening)) e f.nonce;
            opener = opens_so d seen own flow f;
          }

          pub begun_keyed : IsKeyed d is_mapping own.path own.from first
          begun_keyed = record { keys = k; untold = (h.book own.from).fine.untold; each = All-nil (ValueIs d own.path own.from) }

          made : IsKeyed d is_mapping own.path own.from all
          made = options_so d is_mapping own.path facts of_flow own.values first own.each begun_keyed

          -- behind its options
          pub stream_made : StreamFine (limit own.from) (few own.from) (content own.from) all.stream
          stream_made =
              let was = (h.book own.from).fine in
              let fields = fields_so (fields_keep own.from) facts (map Readable own.values) first (record { infinite = was.infinite; fin = was.fin; top = was.top; octets = was.octets; below = was.below; there = was.there }) in
              record { infinite = fields.infinite; fin = fields.fin; top = fields.top; octets = fields.octets; below = fields.below; there = fields.there; untold = made.untold }

          opened_so : S own.path → Leaves own.path (judged_opened facts (map Readable own.values) keys left)
          opened_so begun =
              let wells : (q : ℕ) → q % 2 ^ 32 ≡ p.at % 2 ^ 32 → All (Well own.path own.from q) all.options =
              λ q same. kept_so (Well own.path own.from q) facts own.values first (p.offers q same) (All-nil (Well own.path own.from q)) in
              let calm = kept_so TellsNoFail facts own.values first p.calm (All-nil TellsNoFail) in
              let acks = kept_so (AckSays own.path own.from) facts own.values first g.acks (All-nil (AckSays own.path own.from)) in
              let behind = positions_so facts all.options all.keys (record left { book = with_stream own.from all.stream left.book }) refl (opens_so d seen own flow f) p.at
              (seq_so opened e) made.keys p.bears wells calm acks p.whole (λ straight. g.low straight begun)
              (record {
                book = with_good own.from all.stream left.book (goes_good own.from (stream_at own.from left.book) all.stream (options_go facts (map Readable own.values) first) stream_made (h.book own.from)) h.book;
                lanes = h.lanes;
              }) in
              record { keys = made.keys; book = behind.book; lanes = behind.lanes }

        formed_so : (opened : Option Opened) → flow.opened ≡ opened → (is_some opened ≡ true → S own.path)
            → Leaves own.path (judged_formed at packet seen index flow opened own.from (map Readable own.values) keys left)
        formed_so None e begun = record { keys = k; book = h.book; lanes = h.lanes }
        formed_so (Some opened) e begun = opened_so opened e (begun refl)

      pub flow_so : (index : ℕ) (flow : Flow) (f : FlowOn d own.path flow) → OpensBy S flow → (belongs : Belongs) → belongs.opener ≡ A → (keys : Keys) (left : Left) → KeysOwn d keys
          → LeftGood left → Leaves own.path (judged_flow at packet seen index flow belongs keys left)
      flow_so index flow f opens belongs is keys left k h =
          let formed = told_formless packet (map Readable own.values) (stream_at own.from left.book) in
          subst (λ (s : Side). Leaves own.path (judged_side at packet seen index flow s keys left)) (sym (sender_so d seen own flow f belongs is))
          (subst (λ (options : List SeenValue). Leaves own.path (judged_formed at packet seen index flow flow.opened own.from options keys
          (record left { book = with_stream own.from (told_formless packet options (stream_at own.from left.book)) left.book }))) (sym options_are)
          (formed_so index flow f keys k (record left { book = with_stream own.from formed left.book })
          (record {
            book = with_good own.from formed left.book
                (subst (StreamGood own.from) (sym (readable_so packet own.values (stream_at own.from left.book))) (h.book own.from)) h.book;
            lanes = h.lanes;
          })
          flow.opened refl (opens own.path f.opener)))
        where
          options_are : seen_options keys.checksums seen.segment.options ≡ map Readable own.values
          options_are = ap (λ (c : Bool). seen_options c seen.segment.options) k.checksums ∙ own.options

    pub new_lane : (path : ℕ) (s : Side) → Laned path s empty_lane
    new_lane path s = (
      1,
      (
        record {
          line = refl;
          placed = λ p. tt;
          octets = λ p. tt;
          there = λ p is. absurd (false≢true is);
          waiting = All-nil (Waits (limit s) (few s) (content s) (first_at s) (where_at path s) (most path s) 1);
          acked = omega arith;
          top = omega arith;
        },
        λ straight. omega arith,
      ),
    )

    abbrev pub keep : SegmentsKeep d (OpensBy S) IsGood BookGood LanesFine NothingMore
    keep = record {
      own = λ seen g. g.fine.own;
      new_lanes = λ path. record { opener = new_lane path A; other = new_lane path B };
      token = λ wrong book h.
          let s = wrong.belongs.opener in
          let was = (h s).fine in
          with_good s _ book
          (record {
            fine = record {
              infinite = was.infinite;
              fin = was.fin;
              top = was.top;
              octets = was.octets;
              below = was.below;
              there = was.there;
              untold = others_keep is_mapping rule.Token wrong.packet (Found (Number32 wrong.expected wrong.was)) (stream_at s book).broken refl was.untold;
            };
            seen = (h s).seen;
            fin = (h s).fin;
          }) h;
      flow = λ at packet seen g index flow f opens belongs is keys left k h lanes more.
          flow_so at packet seen g index flow f opens belongs is keys left k (record { book = h; lanes = lanes });
    }

    -- of an empty book, before anything was shown
    pub new_good : ((s : Side) (q : ℕ) → Shown s q → ⊥) → ((s : Side) → Ended s → ⊥) → BookGood empty_book
    new_good none never s = record {
      fine = empty s;
      seen = λ q shown. absurd (none s q shown);
      fin = λ ended. absurd (never s ended);
    }
      where
        empty : (s : Side) → StreamFine (limit s) (few s) (content s) (stream_at s empty_book)
        empty A = record { infinite = refl; fin = tt; top = omega arith; octets = λ q. tt; below = λ q is. absurd (false≢true is); there = λ q is. absurd (false≢true is); untold = λ r is. refl }
        empty B = record { infinite = refl; fin = tt; top = omega arith; octets = λ q. tt; below = λ q is. absurd (false≢true is); there = λ q is. absurd (false≢true is); untold = λ r is. refl }

  -- as more is wanted and shown, and fewer paths are straight
  module _ (most more : ℕ → Side → ℕ) (S S_later : ℕ → Type 0) (Straight Still : ℕ → Side → Type 0) (Shown Later : Side → ℕ → Type 0) (Ended Over : Side → Type 0)
      (up : (path : ℕ) (s : Side) → most path s ≤ more path s) (was : (path : ℕ) (s : Side) → Still path s → Straight path s) where
    later_lanes : (path : ℕ) (lanes : LanesValue) → LanesFine most S Straight Shown Ended path lanes → LanesFine more S_later Still Later Over path lanes
    later_lanes path lanes h = record { opener = one A lanes.opener h.opener; other = one B lanes.other h.other }
      where
        one : (s : Side) (l : LaneValue) → Laned most S Straight Shown Ended path s l → Laned more S_later Still Later Over path s l
        one s l h = (
          h.0,
          (
            record {
              line = h.1.0.line;
              placed = h.1.0.placed;
              octets = h.1.0.octets;
              there = h.1.0.there;
              waiting = h.1.0.waiting;
              acked = (let low = h.1.0.acked in let than = up path s in omega (arith, low, than));
              top = h.1.0.top;
            },
            λ still. h.1.1 (was path s still),
          ),
        )

    pub later_holds : (state : JudgedValue)
        → ((s : Side) (stream : StreamValue) → stream_in state 0 s ≡ Some stream → ((q : ℕ) → Later s q → stream.seen q ≡ true) × (Over s → is_some stream.fin ≡ true))
        → ((i : ℕ) (book : BookValue) → slice_get state.books i ≡ Some book → i ≡ 0)
        → AllHold d (OpensBy S) (IsGood most S Straight Shown Ended) (BookGood most S Straight Shown Ended) (LanesFine most S Straight Shown Ended) state
        → AllHold d (OpensBy S_later) (IsGood more S_later Still Later Over) (BookGood more S_later Still Later Over) (LanesFine more S_later Still Later Over) state
    later_holds state new few h = record {
      seen = h.seen;
      books = λ i book at s.
          let first : slice_get state.books 0 ≡ Some book = ap (slice_get state.books) (sym (few i book at)) ∙ at in
          let both = new s (stream_at s book) (ap (option_map (stream_at s)) first) in
          record { fine = (h.books i book at s).fine; seen = both.0; fin = both.1 };
      lanes = λ i lanes at. ⊎_elim (λ empty. inl empty) (λ bound. inr (record {
        path = bound.path;
        flow = bound.flow;
        there = bound.there;
        opener = bound.opener;
        holds = later_lanes bound.path lanes bound.holds;
      })) (h.lanes i lanes at);
    }
