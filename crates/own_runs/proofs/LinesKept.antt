-- No packet of a connection of ours breaks `place-content`, whatever its script does: what comes to a place is its octet, by an infinite mapping, too. Where
-- each segment that isn't a reset stands low, its position is that of its number. A reset maps nothing, and nothing but resets comes behind it.
use Rattle.std.proofs.Common.{◌≡◌, refl, sym, ap, ◌∙◌, subst, ℕ, suc, ◌+◌, ◌%◌, ◌^◌, ◌<◌, ◌≤◌, ◌⊎◌, inl, inr, ⊎_elim, max, Bool, true, false, if◌then◌else◌, Option, Some, None, is_some, List, [], ◌∷◌, length, map, arith}
use Rattle.std.specs.Prelude.{All, IfSome}
use Rattle.std.specs.Option.{option_map}
use Rattle.std.proofs.lemmas.Bool.{false≢true}
use Rattle.std.proofs.lemmas.List.Elements.{All-cons, All-head, All-nil, All-tail}
use Rattle.capture_reader.specs.Seen.{Seen}
use Rattle.judge_laws.proofs.Folds.{TellingKeeps, options_so as fields_so}
use Rattle.judge_laws.proofs.Standing.{some_same}
use Rattle.judge_rules.specs.Mappings.{offer_of}
use Rattle.judge_rules.specs.Numbers.{first_number}
use Rattle.judge_rules.specs.declared.finding.Finding.TheVariants.{Number32}
use Rattle.judge_rules.specs.declared.finding.Rule.TheVariants as rule
use Rattle.judge_rules.specs.declared.mappings.Line.{Line}
use Rattle.judge_rules.specs.declared.mappings.Offer.{Offer}
use Rattle.mptcp_options.specs.Value.{OptionValue}
use Rattle.rule_book.specs.Facts.{Facts, first_of, own_base, own_lane, payload_at, payload_len}
use Rattle.rule_book.specs.Judged.{Told, empty_book, judged_flow, judged_formed, judged_opened, judged_side, opened_facts}
use Rattle.rule_book.specs.Signals.{KeyedValue, judged_options, told_formless}
use Rattle.rule_book.specs.State.{BookValue, JudgedValue, LanesValue, stream_at, with_stream}
use Rattle.rule_book.specs.Stream.{Left, gap_counted, judged_at, judged_from, judged_positions, with_plain}
use Rattle.seen_connections.specs.Connections.{key_of}
use Rattle.seen_connections.specs.SeenOptions.{Readable, SeenValue, seen_options}
use Rattle.seen_connections.specs.declared.connections.Keys.{Keys}
use Rattle.seen_connections.specs.declared.flow.Belongs.{Belongs}
use Rattle.seen_connections.specs.declared.flow.Flow.{Flow}
use Rattle.seen_connections.specs.declared.flow.Opened.{Opened}
use Rattle.seen_streams.specs.Positions.{position_of}
use Rattle.seen_streams.specs.declared.told.Infinite.{Infinite}
use Rattle.seen_streams.specs.State.{Found, LaneValue, StreamValue, empty_lane}
use Rattle.sides.specs.Side.{peer}
use Rattle.sides.specs.declared.side.Side.TheVariants.{A, B}
use Rattle.sides.specs.declared.side.Side.{Side}
use Rattle.own_runs.proofs.FinePositions.{TellsNoFail, position_so}
use Rattle.own_runs.proofs.KeptOptions.{kept_so}
use Rattle.own_runs.proofs.LanePlaces.{LanePlaced, OptionTells, StreamPlaced, at_so as placed_so, is_place}
use Rattle.own_runs.proofs.LineLinks.{infinite_of, line_on}
use Rattle.own_runs.proofs.Lines.{Fits, InfiniteLined, IsAway, LaneLined, LineIs, LinesAgree, LinkedTo, OptionLined, StreamLined, at_so as lined_so, is_line}
use Rattle.own_runs.proofs.MapKept.{alike}
use Rattle.own_runs.proofs.MapPositions.{Bears, OfferIs}
use Rattle.own_runs.proofs.OpenFlows.{OpensBy}
use Rattle.own_runs.proofs.Own.{Drawn, IsOwn, ValueIs, is_a, own_key}
use Rattle.own_runs.proofs.OwnFlows.{FlowOn, KeysOwn, NonceIs}
use Rattle.own_runs.proofs.OwnOptions.{IsOf, key_is, options_so, readable_so}
use Rattle.own_runs.proofs.OwnPackets.{AllHold, IsLeft, SegmentsKeep, opens_so, sender_so}
use Rattle.own_runs.proofs.OwnUntold.{base_so, numbered}
use Rattle.own_runs.proofs.PlacesKept.{IsTelling, new_lane as new_placed}
use Rattle.own_runs.proofs.Telling.{others_keep}

-- an option that maps nothing, whatever number place 0 has
abbrev pub OffersNone : OptionValue → Type 0
OffersNone option = (first : ℕ) → offer_of first option ≡ None

module _ (d : Drawn) (limit : Side → ℕ) (few : (s : Side) → limit s < 2 ^ 31) (content : Side → ℕ → ℕ) (where_at : ℕ → Side → ℕ → ℕ) (upto : ℕ → Side → ℕ)
    (IsEnd : ℕ → Side → ℕ → Type 0) (IsLine : ℕ → Side → Line → Type 0) where
  abbrev first_at : Side → ℕ
  first_at s = first_number (own_key d s)

  abbrev Well : ℕ → Side → ℕ → OptionValue → Type 0
  Well path s position = OptionTells (first_at s) (limit s) (content s) (where_at path s) position

  abbrev Away : ℕ → Side → Type 0
  Away path s = IsAway IsLine path s

  -- what is known of the infinite mapping of a side, in a flow of a path
  abbrev pub LinkedIn : ℕ → ℕ → Side → Option Infinite → Option Line → Type 0
  LinkedIn path index s infinite line = LinkedTo (Away path s) index infinite line

  abbrev pub FlowKnown : ℕ → ℕ → Left → Type 0
  FlowKnown path index left = (s : Side) → LinkedIn path index s (infinite_of s left.book) (line_on s left.lanes)

  abbrev pub AllAgree : Type 0
  AllAgree = (path : ℕ) (s : Side) → LinesAgree (IsLine path s) (Away path s)

  relinked : (path index : ℕ) (s : Side) (stream : StreamValue) (book : BookValue) (line : Option Line) → stream.infinite ≡ infinite_of s book → LinkedIn path index s (infinite_of s book) line
      → LinkedIn path index s (infinite_of s (with_stream s stream book)) line
  relinked path index A stream book line same h = subst (λ (o : Option Infinite). LinkedIn path index A o line) (sym same) h
  relinked path index B stream book line same h = subst (λ (o : Option Infinite). LinkedIn path index B o line) (sym same) h

  own_line : (side : Side) (b : Bool) (lanes : LanesValue) → b ≡ is_a side → line_on side lanes ≡ (if b then lanes.opener else lanes.other).line
  own_line A true lanes is = refl
  own_line B false lanes is = refl
  own_line A false lanes is = cc
  own_line B true lanes is = cc

  abbrev pub LinedIn : ℕ → Side → ℕ → OptionValue → Type 0
  LinedIn path s position = OptionLined (limit s) (few s) (content s) (first_at s) (where_at path s) (upto path s) (IsEnd path s) (IsLine path s) (Away path s) position

  -- by on which paths B's SYN was sent, and which sides sent no reset behind it
  module _ (S : ℕ → Type 0) (Straight : ℕ → Side → Type 0) where
    -- A segment that tells such at its position, within its lane; and a side that isn't straight sends a reset, which maps nothing.
    pub record IsLined (seen : Seen) : Type 0 where
      pub telling : IsTelling false d limit few content where_at seen
      pub low : Straight telling.own.path telling.own.from → S telling.own.path → telling.at + seen.payload_len < 2 ^ 31
      pub lines : All (LinedIn telling.own.path telling.own.from telling.at) telling.own.values
      pub within : (seen.payload_len ≡ 0) ⊎ (telling.at + seen.payload_len ≤ suc (upto telling.own.path telling.own.from))
      -- its places are the stream's, and nothing was cut off
      pub inside : (p : ℕ) → 1 ≤ p → p ≤ upto telling.own.path telling.own.from → where_at telling.own.path telling.own.from p < limit telling.own.from
      pub whole : seen.payload_len ≡ length seen.segment.payload
      pub end : seen.segment.head.fin ≡ true → IsEnd telling.own.path telling.own.from (telling.at + seen.payload_len)
      pub plain : Straight telling.own.path telling.own.from
          ⊎ ((seen.segment.head.rst ≡ true) × (seen.segment.head.fin ≡ false) × All OffersNone telling.own.values)

    abbrev StreamHolds : Side → StreamValue → Type 0
    StreamHolds s stream = StreamPlaced false (limit s) stream × StreamLined (limit s) (few s) (content s) stream

    abbrev pub BookLined : BookValue → Type 0
    BookLined book = (s : Side) → StreamHolds s (stream_at s book)

    abbrev LaneHolds : ℕ → Side → LaneValue → ℕ → Type 0
    LaneHolds path s l high = LanePlaced false (limit s) (few s) (content s) (first_at s) (where_at path s) l
        × LaneLined (limit s) (few s) (content s) (first_at s) (where_at path s) (upto path s) (IsEnd path s) (IsLine path s) (Away path s) high l × (Straight path s → high < 2 ^ 31)

    abbrev Laned : ℕ → Side → LaneValue → Type 0
    Laned path s l = (high : ℕ) × LaneHolds path s l high

    pub record LanesLined (path : ℕ) (lanes : LanesValue) : Type 0 where
      pub opener : Laned path A lanes.opener
      pub other : Laned path B lanes.other

    pub with_lined : (s : Side) (stream : StreamValue) (book : BookValue) → StreamHolds s stream → BookLined book → BookLined (with_stream s stream book)
    with_lined A stream book new h A = new
    with_lined A stream book new h B = h B
    with_lined B stream book new h A = h A
    with_lined B stream book new h B = new

    gaps_lined : (gaps : ℕ) (book : BookValue) → BookLined book → BookLined (record book { gaps = gaps })
    gaps_lined gaps book h A = h A
    gaps_lined gaps book h B = h B

    lane_at : (path : ℕ) (side : Side) (b : Bool) (lanes : LanesValue) → b ≡ is_a side → LanesLined path lanes → Laned path side (if b then lanes.opener else lanes.other)
    lane_at path A true lanes is h = h.opener
    lane_at path B false lanes is h = h.other
    lane_at path A false lanes is h = cc
    lane_at path B true lanes is h = cc

    lanes_lined : (path : ℕ) (side : Side) (b : Bool) (lane : LaneValue) (lanes : LanesValue) → b ≡ is_a side → Laned path side lane → LanesLined path lanes
        → LanesLined path (if b then record lanes { opener = lane } else record lanes { other = lane })
    lanes_lined path A true lane lanes is new h = record { opener = new; other = h.other }
    lanes_lined path B false lane lanes is new h = record { opener = h.opener; other = new }
    lanes_lined path A false lane lanes is new h = cc
    lanes_lined path B true lane lanes is new h = cc

    higher : (path : ℕ) (s : Side) (l : LaneValue) (high more : ℕ) → high ≤ more
        → LaneLined (limit s) (few s) (content s) (first_at s) (where_at path s) (upto path s) (IsEnd path s) (IsLine path s) (Away path s) high l
        → LaneLined (limit s) (few s) (content s) (first_at s) (where_at path s) (upto path s) (IsEnd path s) (IsLine path s) (Away path s) more l
    higher path s l high more up h = record { line = h.line; seen = h.seen; there = h.there; fin = h.fin; top = (let low = h.top in omega (arith, low, up)) }

    top_keeps : (s : Side) → TellingKeeps (λ (stream : StreamValue). stream.top ≤ limit s)
    top_keeps s = record { tells = λ r packet fault stream h. h; counts = λ stream keys joins mappings sums data_acks h. h }

    -- what a stream is beside the rules that were told
    record Fields (s : Side) (stream : StreamValue) : Type 0 where
      octets : (q : ℕ) → IfSome (stream.octet q) (λ o. (q < limit s) × (o.octet ≡ content s q))
      there : (q : ℕ) → stream.seen q ≡ true → is_some (stream.octet q) ≡ true
      fin : IfSome stream.fin (λ told. told.place ≡ limit s)

    fields_keep : (s : Side) → TellingKeeps (Fields s)
    fields_keep s = record {
      tells = λ r packet fault stream h. record { octets = h.octets; there = h.there; fin = h.fin };
      counts = λ stream keys joins mappings sums data_acks h. record { octets = h.octets; there = h.there; fin = h.fin };
    }

    infinite_keeps : (o : Option Infinite) → TellingKeeps (λ (stream : StreamValue). stream.infinite ≡ o)
    infinite_keeps o = record { tells = λ r packet fault stream h. h; counts = λ stream keys joins mappings sums data_acks h. h }

    abbrev Leaves : ℕ → Told → Type 0
    Leaves path told = IsLeft d (OpensBy S) IsLined BookLined LanesLined path told

    module _ (agree : AllAgree) (at : Option Side) (packet : ℕ) (seen : Seen) (g : IsLined seen) where
      abbrev p : IsTelling false d limit few content where_at seen
      p = g.telling

      abbrev own : IsOwn d seen
      own = p.own

      record LeftLined (left : Left) : Type 0 where
        book : BookLined left.book
        lanes : LanesLined own.path left.lanes

      first_so : (s : Side) (keys : Keys) → KeysOwn d keys → IfSome (first_of s keys) (λ first. first ≡ first_at s)
      first_so s keys k = by (key_of s keys) (key_is d (is_place false) s keys k)
        where
          by : (o : Option ℕ) → IfSome o (λ key. key ≡ own_key d s) → IfSome (option_map first_number o) (λ first. first ≡ first_at s)
          by None is = tt
          by (Some key) is = ap first_number is

      never_calm : (options : List OptionValue) → All (λ (option : OptionValue). false ≡ true → TellsNoFail option) options
      never_calm [] = All-nil (λ (option : OptionValue). false ≡ true → TellsNoFail option)
      never_calm (option ∷ options) = All-cons (λ (option : OptionValue). false ≡ true → TellsNoFail option) option options (λ is. absurd (false≢true is)) (never_calm options)

      module _ (facts : Facts) (options : List OptionValue) (keys : Keys) (left : Left) (sees : facts.seen ≡ seen) (sides : facts.side ≡ own.from) (opens : facts.is_opener ≡ is_a facts.side)
          (seq : seen.segment.head.seq ≡ (own_base facts + p.at) % 2 ^ 32) (k : KeysOwn d keys) (wells : (q : ℕ) → q % 2 ^ 32 ≡ p.at % 2 ^ 32 → All (Well own.path own.from q) options)
          (lines : All (LinedIn own.path own.from p.at) options) (none : All OffersNone own.values → All OffersNone options) (begun : S own.path) (h : LeftLined left)
          (linked : LinkedIn own.path facts.index facts.side (infinite_of facts.side left.book) (line_on facts.side left.lanes)) where
        abbrev s : Side
        s = facts.side

        lane : Laned own.path s (own_lane facts left.lanes)
        lane = lane_at own.path s facts.is_opener left.lanes opens h.lanes

        here : Straight own.path s → Straight own.path own.from
        here is = subst (Straight own.path) sides is

        module _ (position : ℕ) (e : position_of (own_base facts) (own_lane facts left.lanes) facts.seen.segment.head.seq facts.seen.payload_len ≡ Some position) where
          same : position % 2 ^ 32 ≡ p.at % 2 ^ 32
          same = alike (own_base facts) facts.seen.segment.head.seq position p.at (numbered (own_base facts) (own_lane facts left.lanes) facts.seen.segment.head.seq facts.seen.payload_len position e)
              (ap (λ (x : Seen). x.segment.head.seq) sees ∙ seq)

          -- where all stands low, the position is that of the number
          there : Straight own.path s → position ≡ p.at
          there straight =
              let top = lane.1.1.top in let below = lane.1.2 straight in
              some_same position p.at (sym e ∙ ap (λ (x : Seen). position_of (own_base facts) (own_lane facts left.lanes) x.segment.head.seq x.payload_len) sees
              ∙ position_so (own_base facts) (own_lane facts left.lanes) seen.segment.head.seq seen.payload_len p.at seq (omega (arith, top, below)) (g.low (here straight) begun))

          held : (b : Bool) (len : ℕ) → (if b then 0 else len) ≤ len
          held true len = omega arith
          held false len = omega arith

          ends_low : Straight own.path s → (payload_at facts position).to < 2 ^ 31
          ends_low straight =
              let short = g.low (here straight) begun in let at_it = there straight in
              let len = ap (λ (x : Seen). x.payload_len) sees in
              let most_len = held facts.seen.segment.head.rst facts.seen.payload_len in
              omega (arith, at_it, short, len, most_len)

          abbrev Offered : ℕ → Offer → Type 0
          Offered at offer =
              (OfferIs (first_at s) (limit s) (content s) (where_at own.path s) at offer
              × Fits (limit s) (few s) (content s) (first_at s) (where_at own.path s) (upto own.path s) (IsEnd own.path s) (IsLine own.path s) (Away own.path s) at offer)
              ⊎ InfiniteLined (limit s) (few s) (content s) (first_at s) (where_at own.path s) (upto own.path s) (IsEnd own.path s) (IsLine own.path s) (Away own.path s) at offer

          none_lined : (options : List OptionValue) → All OffersNone options → All (LinedIn own.path s position) options
          none_lined [] all = All-nil (LinedIn own.path s position)
          none_lined (option ∷ options) all =
              All-cons (LinedIn own.path s position) option options
              (subst (λ (o : Option Offer). IfSome o (Offered position)) (sym (All-head OffersNone option options all (first_at s))) tt)
              (none_lined options (All-tail OffersNone option options all))

          -- by its position, or as a reset
          lines_here : All (LinedIn own.path s position) options
          lines_here =
              ⊎_elim
              (λ straight. subst (λ (q : ℕ). All (LinedIn own.path s q) options) (sym (there (subst (Straight own.path) (sym sides) straight))) (subst (λ (t : Side). All (LinedIn own.path t p.at) options) (sym sides) lines))
              (λ reset. none_lined options (none reset.2)) g.plain

          within_here : (payload_len facts ≡ 0) ⊎ (position + payload_len facts ≤ suc (upto own.path s))
          within_here =
              ⊎_elim
              (λ straight. ⊎_elim
              (λ empty. inl (let most = held facts.seen.segment.head.rst facts.seen.payload_len in let len = ap (λ (x : Seen). x.payload_len) sees in omega (arith, most, len, empty)))
              (λ inside. inr (let most = held facts.seen.segment.head.rst facts.seen.payload_len in let len = ap (λ (x : Seen). x.payload_len) sees in
              let at_it = there (subst (Straight own.path) (sym sides) straight) in
              let up = ap (upto own.path) sides in omega (arith, most, len, inside, at_it, up))) g.within)
              (λ reset. inl (ap (λ (b : Bool). if b then 0 else facts.seen.payload_len) (ap (λ (x : Seen). x.segment.head.rst) sees ∙ reset.0))) g.plain

          end_here : facts.seen.segment.head.fin ≡ true → IsEnd own.path s (position + facts.seen.payload_len)
          end_here fin =
              let fin_so : seen.segment.head.fin ≡ true = ap (λ (x : Seen). x.segment.head.fin) (sym sees) ∙ fin in
              ⊎_elim
              (λ straight. subst (λ (q : ℕ). IsEnd own.path s q)
              (let at_it = there (subst (Straight own.path) (sym sides) straight) in let len = ap (λ (x : Seen). x.payload_len) sees in let all : p.at + seen.payload_len ≡ position + facts.seen.payload_len = omega (arith, at_it, len) in all)
              (subst (λ (t : Side). IsEnd own.path t (p.at + seen.payload_len)) (sym sides) (g.end fin_so)))
              (λ reset. absurd (false≢true (sym reset.1 ∙ fin_so))) g.plain

        from : (position : Option ℕ) → position_of (own_base facts) (own_lane facts left.lanes) facts.seen.segment.head.seq facts.seen.payload_len ≡ position
            → LeftLined (judged_from facts position options keys left)
        from None e = h
        from (Some position) e =
            let own_stream = stream_at s left.book in
            let its_lane = own_lane facts left.lanes in
            let gone = (gap_counted facts left).book in
            let peers = stream_at (peer s) left.book in
            let it = judged_at (with_plain options left facts) position options keys peers own_stream its_lane in
            let high = max lane.0 (payload_at facts position).to in
            let bears = subst (λ (x : Seen). Bears (λ q. content s (where_at own.path s q)) position x.segment.payload) (sym sees)
            (subst (λ (t : Side). Bears (λ q. content t (where_at own.path t q)) position seen.segment.payload) (sym sides) (p.bears position (same position e))) in
            let well = subst (λ (t : Side). All (Well own.path t position) options) (sym sides) (wells position (same position e)) in
            let placed = placed_so false (limit s) (few s) (content s) (first_at s) (where_at own.path s) (with_plain options left facts) position options keys peers own_stream its_lane (first_so s keys k) well (never_calm options) bears
            ((h.book s).0, lane.1.0) in
            let lined = lined_so (limit s) (few s) (content s) (first_at s) (where_at own.path s) (upto own.path s) (IsEnd own.path s) (IsLine own.path s) (Away own.path s) high
            (subst (λ (t : Side). (p : ℕ) → 1 ≤ p → p ≤ upto own.path t → where_at own.path t p < limit t) (sym sides) g.inside) (agree own.path s) (with_plain options left facts) position options keys peers own_stream its_lane
            (first_so s keys k) (lines_here position e) bears (subst (λ (x : Seen). x.payload_len ≡ length x.segment.payload) (sym sees) g.whole) (within_here position e) (end_here position e) (omega arith) ((h.book s).0, lane.1.0)
            ((h.book s).1, higher own.path s its_lane lane.0 high (omega arith) lane.1.1)
            (subst (LinkedIn own.path facts.index s own_stream.infinite) (own_line s facts.is_opener left.lanes opens) linked) in
            record {
              book = with_lined s it.stream gone (placed.0, lined.0) (gaps_lined gone.gaps left.book h.book);
              lanes = lanes_lined own.path s facts.is_opener it.lane left.lanes opens
                  (high, (placed.1, lined.1, λ straight. let one = lane.1.2 straight in let other = ends_low position e straight in omega (arith, one, other))) h.lanes;
            }

        positions_so : LeftLined (judged_positions facts options keys left)
        positions_so = by facts.seen.segment.head.syn (position_of (own_base facts) (own_lane facts left.lanes) facts.seen.segment.head.seq facts.seen.payload_len) refl
          where
            by : (b : Bool) (position : Option ℕ) → position_of (own_base facts) (own_lane facts left.lanes) facts.seen.segment.head.seq facts.seen.payload_len ≡ position
                → LeftLined (if b then left else judged_from facts position options keys left)
            by true position e = h
            by false position e = from position e

      module _ (index : ℕ) (flow : Flow) (f : FlowOn d own.path flow) (keys : Keys) (k : KeysOwn d keys) (left : Left) (h : LeftLined left)
          (linked : LinkedIn own.path index own.from (infinite_of own.from left.book) (line_on own.from left.lanes)) where
        seq_so : (opened : Opened) → flow.opened ≡ Some opened → seen.segment.head.seq ≡ (own_base (opened_facts at packet seen index flow opened own.from) + p.at) % 2 ^ 32
        seq_so opened e = let base = base_so d seen own flow f at packet index opened e in let seq = p.seq in omega (arith, base, seq)

        opened_so : (opened : Opened) → flow.opened ≡ Some opened → S own.path → Leaves own.path (judged_opened (opened_facts at packet seen index flow opened own.from) (map Readable own.values) keys left)
        opened_so opened e begun =
            let facts = opened_facts at packet seen index flow opened own.from in
            let of_place : IsOf d (is_place false) own.path facts = record {
              opening = f.opening;
              nonce = subst (λ (o : Option Opened). IfSome o (NonceIs d own.path flow.opening)) e f.nonce;
              opener = opens_so d seen own flow f;
            } in
            let of_line : IsOf d is_line own.path facts = record {
              opening = f.opening;
              nonce = subst (λ (o : Option Opened). IfSome o (NonceIs d own.path flow.opening)) e f.nonce;
              opener = opens_so d seen own flow f;
            } in
            let was = h.book own.from in
            let first : KeyedValue = record { options = []; keys = keys; stream = stream_at own.from left.book } in
            let made = options_so d (is_place false) own.path facts of_place own.values first own.each (record { keys = k; untold = was.0.untold; each = All-nil (ValueIs d own.path own.from) }) in
            let also = options_so d is_line own.path facts of_line own.values first own.each (record { keys = k; untold = was.1.untold; each = All-nil (ValueIs d own.path own.from) }) in
            let all = judged_options facts (map Readable own.values) first in
            let top = fields_so (top_keeps own.from) facts (map Readable own.values) first was.0.top in
            let fields = fields_so (fields_keep own.from) facts (map Readable own.values) first (record { octets = was.1.octets; there = was.1.there; fin = was.1.fin }) in
            let same = fields_so (infinite_keeps (infinite_of own.from left.book)) facts (map Readable own.values) first refl in
            let wells : (q : ℕ) → q % 2 ^ 32 ≡ p.at % 2 ^ 32 → All (Well own.path own.from q) all.options =
            λ q same. kept_so (Well own.path own.from q) facts own.values first (p.offers q same) (All-nil (Well own.path own.from q)) in
            let lines = kept_so (LinedIn own.path own.from p.at) facts own.values first g.lines (All-nil (LinedIn own.path own.from p.at)) in
            let none : All OffersNone own.values → All OffersNone all.options = λ each. kept_so OffersNone facts own.values first each (All-nil OffersNone) in
            let behind = positions_so facts all.options all.keys (record left { book = with_stream own.from all.stream left.book }) refl refl (opens_so d seen own flow f)
            (seq_so opened e) made.keys wells lines none begun
            (record {
              book = with_lined own.from all.stream left.book (record { top = top; untold = made.untold }, record { octets = fields.octets; there = fields.there; fin = fields.fin; untold = also.untold }) h.book;
              lanes = h.lanes;
            }) (relinked own.path index own.from all.stream left.book (line_on own.from left.lanes) same linked) in
            record { keys = made.keys; book = behind.book; lanes = behind.lanes }

        formed_so : (opened : Option Opened) → flow.opened ≡ opened → (is_some opened ≡ true → S own.path)
            → Leaves own.path (judged_formed at packet seen index flow opened own.from (map Readable own.values) keys left)
        formed_so None e begun = record { keys = k; book = h.book; lanes = h.lanes }
        formed_so (Some opened) e begun = opened_so opened e (begun refl)

      flow_so : (index : ℕ) (flow : Flow) (f : FlowOn d own.path flow) → OpensBy S flow → (belongs : Belongs) → belongs.opener ≡ A → (keys : Keys) (left : Left) → KeysOwn d keys
          → LeftLined left → FlowKnown own.path index left → Leaves own.path (judged_flow at packet seen index flow belongs keys left)
      flow_so index flow f opens belongs is keys left k h known =
          let formed = told_formless packet (map Readable own.values) (stream_at own.from left.book) in
          subst (λ (s : Side). Leaves own.path (judged_side at packet seen index flow s keys left)) (sym (sender_so d seen own flow f belongs is))
          (subst (λ (options : List SeenValue). Leaves own.path (judged_formed at packet seen index flow flow.opened own.from options keys
          (record left { book = with_stream own.from (told_formless packet options (stream_at own.from left.book)) left.book }))) (sym options_are)
          (formed_so index flow f keys k (record left { book = with_stream own.from formed left.book })
          (record {
            book = with_lined own.from formed left.book (subst (StreamHolds own.from) (sym (readable_so packet own.values (stream_at own.from left.book))) (h.book own.from)) h.book;
            lanes = h.lanes;
          })
          (relinked own.path index own.from formed left.book (line_on own.from left.lanes) (ap (λ (s : StreamValue). s.infinite) (readable_so packet own.values (stream_at own.from left.book))) (known own.from))
          flow.opened refl (opens own.path f.opener)))
        where
          options_are : seen_options keys.checksums seen.segment.options ≡ map Readable own.values
          options_are = ap (λ (c : Bool). seen_options c seen.segment.options) k.checksums ∙ own.options

    new_lane : (path : ℕ) (s : Side) → Laned path s empty_lane
    new_lane path s = (
      1,
      (
        new_placed false d limit few content where_at path s,
        record { line = tt; seen = λ p is. absurd (false≢true is); there = λ p is. absurd (false≢true is); fin = tt; top = omega arith },
        λ straight. omega arith,
      ),
    )

    pub keep : AllAgree → SegmentsKeep d (OpensBy S) IsLined BookLined LanesLined FlowKnown
    keep agree = record {
      own = λ seen g. g.telling.own;
      new_lanes = λ path. record { opener = new_lane path A; other = new_lane path B };
      token = λ wrong book h.
          let s = wrong.belongs.opener in
          let was = h s in
          with_lined s _ book (
            record { top = was.0.top; untold = others_keep (is_place false) rule.Token wrong.packet (Found (Number32 wrong.expected wrong.was)) (stream_at s book).broken refl was.0.untold },
            record { octets = was.1.octets; there = was.1.there; fin = was.1.fin; untold = others_keep is_line rule.Token wrong.packet (Found (Number32 wrong.expected wrong.was)) (stream_at s book).broken refl was.1.untold },
          ) h;
      flow = λ at packet seen g index flow f opens belongs is keys left k h lanes known.
          flow_so agree at packet seen g index flow f opens belongs is keys left k (record { book = h; lanes = lanes }) known;
    }

    pub new_lined : BookLined empty_book
    new_lined A = (record { top = omega arith; untold = λ r is. refl }, record { octets = λ q. tt; there = λ q is. absurd (false≢true is); fin = tt; untold = λ r is. refl })
    new_lined B = (record { top = omega arith; untold = λ r is. refl }, record { octets = λ q. tt; there = λ q is. absurd (false≢true is); fin = tt; untold = λ r is. refl })

-- as more lines were told, and fewer sides are straight
module _ (d : Drawn) (limit : Side → ℕ) (few : (s : Side) → limit s < 2 ^ 31) (content : Side → ℕ → ℕ) (where_at : ℕ → Side → ℕ → ℕ) (upto : ℕ → Side → ℕ)
    (IsEnd : ℕ → Side → ℕ → Type 0) (IsLine IsLater : ℕ → Side → Line → Type 0) (told : (path : ℕ) (s : Side) (line : Line) → IsLine path s line → IsLater path s line)
    (S S_later : ℕ → Type 0) (Straight Still : ℕ → Side → Type 0) (was : (path : ℕ) (s : Side) → Still path s → Straight path s) where
  abbrev first : Side → ℕ
  first s = first_number (own_key d s)

  abbrev Lane : (ℕ → Side → Line → Type 0) → ℕ → Side → ℕ → LaneValue → Type 0
  Lane Is path s high l = LaneLined (limit s) (few s) (content s) (first s) (where_at path s) (upto path s) (IsEnd path s) (Is path s) (IsAway Is path s) high l

  later_lane : (path : ℕ) (s : Side) (high : ℕ) (l : LaneValue) → Lane IsLine path s high l → Lane IsLater path s high l
  later_lane path s high l h = record { line = by l.line h.line; seen = h.seen; there = h.there; fin = h.fin; top = h.top }
    where
      by : (o : Option Line) → IfSome o (LineIs (limit s) (few s) (content s) (first s) (where_at path s) (upto path s) (IsEnd path s) (IsLine path s) (IsAway IsLine path s))
          → IfSome o (LineIs (limit s) (few s) (content s) (first s) (where_at path s) (upto path s) (IsEnd path s) (IsLater path s) (IsAway IsLater path s))
      by None is = tt
      by (Some line) is = record { places = is.places; end = is.end; is = told path s line is.is }

  later_lanes : (path : ℕ) (lanes : LanesValue) → LanesLined d limit few content where_at upto IsEnd IsLine S Straight path lanes
      → LanesLined d limit few content where_at upto IsEnd IsLater S_later Still path lanes
  later_lanes path lanes h = record {
    opener = (h.opener.0, (h.opener.1.0, later_lane path A h.opener.0 lanes.opener h.opener.1.1, λ still. h.opener.1.2 (was path A still)));
    other = (h.other.0, (h.other.1.0, later_lane path B h.other.0 lanes.other h.other.1.1, λ still. h.other.1.2 (was path B still)));
  }

  pub later_holds : (state : JudgedValue)
      → AllHold d (OpensBy S) (IsLined d limit few content where_at upto IsEnd IsLine S Straight) (BookLined d limit few content where_at upto IsEnd IsLine S Straight)
      (LanesLined d limit few content where_at upto IsEnd IsLine S Straight) state
      → AllHold d (OpensBy S_later) (IsLined d limit few content where_at upto IsEnd IsLater S_later Still) (BookLined d limit few content where_at upto IsEnd IsLater S_later Still)
      (LanesLined d limit few content where_at upto IsEnd IsLater S_later Still) state
  later_holds state h = record {
    seen = h.seen;
    books = h.books;
    lanes = λ i lanes at. ⊎_elim (λ empty. inl empty) (λ bound. inr (record {
      path = bound.path;
      flow = bound.flow;
      there = bound.there;
      opener = bound.opener;
      holds = later_lanes bound.path lanes bound.holds;
    })) (h.lanes i lanes at);
  }
