-- What each step of a rule keeps holds of each side's stream and of what it sent on each subflow, over the packets of a capture.
use Rattle.std.proofs.Common.{◌≡◌, refl, ap, ◌∙◌, sym, subst, ℕ, zero, suc, ◌⊎◌, inl, inr, Bool, true, false, nat_lt, if◌then◌else◌, Option, Some, None, option_map, List, [], ◌∷◌, ◌++◌, length}
use Rattle.std.proofs.Math.ListN.{set}
use Rattle.std.specs.List.{slice_get}
use Rattle.sides.specs.declared.side.Side.{Side}
use Rattle.sides.specs.declared.side.Side.TheVariants.{A, B}
use Rattle.sides.specs.Side.{peer}
use Rattle.mptcp_options.specs.Value.{OptionValue}
use Rattle.judge_rules.specs.declared.finding.Finding.TheVariants.{Number32}
use Rattle.judge_rules.specs.declared.finding.Rule.TheVariants as rule
use Rattle.judge_rules.specs.Numbers.{first_number}
use Rattle.seen_connections.specs.declared.connections.Keys.{Keys}
use Rattle.seen_connections.specs.declared.connections.WrongToken.{WrongToken}
use Rattle.seen_connections.specs.declared.flow.Belongs.{Belongs}
use Rattle.seen_connections.specs.declared.flow.Flow.{Flow}
use Rattle.seen_connections.specs.declared.flow.Opened.{Opened}
use Rattle.seen_connections.specs.Connections.{SeenFlows, key_of}
use Rattle.seen_connections.specs.SeenOptions.{SeenValue}
use Rattle.seen_streams.specs.Acks.{Acked}
use Rattle.seen_streams.specs.Positions.{position_of}
use Rattle.seen_streams.specs.State.{Found, LaneValue, StreamValue, empty_lane, empty_stream, tell}
use Rattle.rule_book.specs.Facts.{Facts, first_of, own_base, own_lane, peers_lane}
use Rattle.rule_book.specs.Judged.{empty_book, empty_lanes, grown, grown_to, judged_opened, token_in, token_told, with_wrong_token}
use Rattle.rule_book.specs.Signals.{KeyedValue, judged_options}
use Rattle.rule_book.specs.State.{BookValue, JudgedValue, LanesValue, stream_at, with_stream}
use Rattle.rule_book.specs.Stream.{Left, gap_counted, judged_at, judged_by, judged_from, judged_positions, with_plain}
use Rattle.judge_laws.specs.GoesOn.{GoesOn}
use Rattle.judge_laws.proofs.Books.{BookGoes, BooksGo, books_grown, own_stream, peers_stream}
use Rattle.judge_laws.proofs.Flows.{FlowsGo, KeyStays, KeysGo, flows_same, keys_same, told_stay}
use Rattle.judge_laws.proofs.Folds.{TellingKeeps, options_so}
use Rattle.judge_laws.proofs.Keyed.{keys_told}
use Rattle.judge_laws.proofs.Steps.{wrong_goes}

-- Of the number of place 0, if it is known, a stream and a lane: with nothing sent, behind what is told, behind a segment, with another
-- lane as that stream goes on, and once the key becomes known.
pub record Stands (Q : Option ℕ → StreamValue → LaneValue → Type 0) : Type 0 where
  pub empty : (first : Option ℕ) → Q first empty_stream empty_lane
  pub telling : (first : Option ℕ) (l : LaneValue) → TellingKeeps (λ (s : StreamValue). Q first s l)
  pub at : (facts : Facts) (position : ℕ) (options : List OptionValue) (keys : Keys) (peers s : StreamValue) (l : LaneValue) → Q (first_of facts.side keys) s l
      → Q (first_of facts.side keys) (judged_at facts position options keys peers s l).stream (judged_at facts position options keys peers s l).lane
  pub alone : (first other : Option ℕ) (s : StreamValue) (l : LaneValue) → Q first s l → Q other s empty_lane
  pub moves : (first : Option ℕ) (s later : StreamValue) (l : LaneValue) → GoesOn s later → Q first later empty_lane → Q first s l → Q first later l
  pub known : (first : ℕ) (s : StreamValue) (l : LaneValue) → Q None s l → Q (Some first) s l

-- of both sides, on the lanes of a flow
pub record Fits (Q : Option ℕ → StreamValue → LaneValue → Type 0) (keys : Keys) (opener : Side) (book : BookValue) (lanes : LanesValue) : Type 0 where
  pub own : Q (first_of opener keys) (stream_at opener book) lanes.opener
  pub peers : Q (first_of (peer opener) keys) (stream_at (peer opener) book) lanes.other

-- lanes of a flow that is open, of a connection
pub record IsBound (Q : Option ℕ → StreamValue → LaneValue → Type 0) (state : JudgedValue) (i : ℕ) (lanes : LanesValue) : Type 0 where
  pub flow : Flow
  pub belongs : Belongs
  pub opened : Opened
  pub keys : Keys
  pub book : BookValue
  pub has_flow : slice_get state.seen.flows i ≡ Some flow
  pub has_belongs : flow.belongs ≡ Some belongs
  pub has_opened : flow.opened ≡ Some opened
  pub has_keys : slice_get state.seen.connections belongs.connection ≡ Some keys
  pub has_book : slice_get state.books belongs.connection ≡ Some book
  pub fits : Fits Q keys belongs.opener book lanes

-- of each stream without any lane, and on lanes that aren't empty
abbrev pub AreAlone : (Option ℕ → StreamValue → LaneValue → Type 0) → BookValue → Type 0
AreAlone Q book = (side : Side) (first : Option ℕ) → Q first (stream_at side book) empty_lane

abbrev pub BooksAlone : (Option ℕ → StreamValue → LaneValue → Type 0) → List BookValue → Type 0
BooksAlone Q books = (c : ℕ) (book : BookValue) → slice_get books c ≡ Some book → AreAlone Q book

pub record AllStand (Q : Option ℕ → StreamValue → LaneValue → Type 0) (state : JudgedValue) : Type 0 where
  pub books : BooksAlone Q state.books
  pub lanes : (i : ℕ) (lanes : LanesValue) → slice_get state.lanes i ≡ Some lanes → (lanes ≡ empty_lanes) ⊎ IsBound Q state i lanes

-- ---- lists

pub some_same : {X : Type 0} → (x y : X) → Some x ≡ Some y → x ≡ y
some_same x y e = cc

-- an item of a list to which one was added, or in which one was set
last_either : {X : Type 0} → (xs : List X) (one : X) (i : ℕ) (x : X) → slice_get (xs ++ one ∷ []) i ≡ Some x → (slice_get xs i ≡ Some x) ⊎ (one ≡ x)
last_either [] one zero x h = inr (some_same one x h)
last_either [] one (suc i) x h = cc
last_either (y ∷ xs) one zero x h = inl h
last_either (y ∷ xs) one (suc i) x h = last_either xs one i x h

grown_either : {X : Type 0} → (count : ℕ) (one : X) (xs : List X) (i : ℕ) (x : X) → slice_get (grown_to count one xs) i ≡ Some x
    → (slice_get xs i ≡ Some x) ⊎ (one ≡ x)
grown_either count one xs i x h = by (nat_lt (length xs) count) h
  where
    by : (b : Bool) → slice_get (if b then xs ++ one ∷ [] else xs) i ≡ Some x → (slice_get xs i ≡ Some x) ⊎ (one ≡ x)
    by true h = last_either xs one i x h
    by false h = inl h

pub set_item : {X : Type 0} → (xs : List X) (i j : ℕ) (x y : X) → slice_get (set xs i x) j ≡ Some y → ((i ≡ j) × (x ≡ y)) ⊎ (slice_get xs j ≡ Some y)
set_item [] i j x y h = inr h
set_item (z ∷ xs) zero zero x y h = inl (refl, some_same x y h)
set_item (z ∷ xs) zero (suc j) x y h = inr h
set_item (z ∷ xs) (suc i) zero x y h = inr h
set_item (z ∷ xs) (suc i) (suc j) x y h = by (set_item xs i j x y h)
  where
    by : ((i ≡ j) × (x ≡ y)) ⊎ (slice_get xs j ≡ Some y) → ((suc i ≡ suc j) × (x ≡ y)) ⊎ (slice_get xs j ≡ Some y)
    by (inl both) = inl (ap suc both.0, both.1)
    by (inr other) = inr other

-- ---- sides

peer_twice : (side : Side) → peer (peer side) ≡ side
peer_twice A = refl
peer_twice B = refl

module _ {Q : Option ℕ → StreamValue → LaneValue → Type 0} (stands : Stands Q) where
  key_grows : (side : Side) (keys later : Keys) (s : StreamValue) (l : LaneValue) → KeyStays keys later → Q (first_of side keys) s l → Q (first_of side later) s l
  key_grows side keys later s l stays h = by (key_of side keys) (key_of side later) (stays side) h
    where
      by : (a b : Option ℕ) → ((k : ℕ) → a ≡ Some k → b ≡ Some k) → Q (option_map first_number a) s l → Q (option_map first_number b) s l
      by None None go h = h
      by None (Some k) go h = stands.known (first_number k) s l h
      by (Some k) b go h = subst (λ (o : Option ℕ). Q (option_map first_number o) s l) (sym (go k refl)) h

  fits_later : (keys later : Keys) (opener : Side) (book next : BookValue) (lanes : LanesValue) → KeyStays keys later → BookGoes book next → AreAlone Q next
      → Fits Q keys opener book lanes → Fits Q later opener next lanes
  fits_later keys later opener book next lanes stays goes alone fits = record {
    own = one opener lanes.opener fits.own;
    peers = one (peer opener) lanes.other fits.peers;
  }
    where
      one : (side : Side) (l : LaneValue) → Q (first_of side keys) (stream_at side book) l → Q (first_of side later) (stream_at side next) l
      one side l h =
          key_grows side keys later (stream_at side next) l stays
          (stands.moves (first_of side keys) (stream_at side book) (stream_at side next) l (goes side) (alone side (first_of side keys)) h)

  bound_later : (old new : JudgedValue) (i : ℕ) (lanes : LanesValue) → FlowsGo old.seen.flows new.seen.flows → KeysGo old.seen.connections new.seen.connections
      → BooksGo old.books new.books → BooksAlone Q new.books → IsBound Q old i lanes → IsBound Q new i lanes
  bound_later old new i lanes flows keys books alone bound =
      let flow = flows i bound.flow bound.belongs bound.opened bound.has_flow bound.has_belongs bound.has_opened in
      let known = keys bound.belongs.connection bound.keys bound.has_keys in
      let book = books bound.belongs.connection bound.book bound.has_book in
      record {
        flow = flow.0;
        belongs = bound.belongs;
        opened = bound.opened;
        keys = known.0;
        book = book.0;
        has_flow = flow.1;
        has_belongs = flow.2;
        has_opened = flow.3;
        has_keys = known.1;
        has_book = book.1;
        fits = fits_later bound.keys known.0 bound.belongs.opener bound.book book.0 lanes known.2 book.2
            (alone bound.belongs.connection book.0 book.1) bound.fits;
      }

  pub either_later : (old new : JudgedValue) (i : ℕ) (lanes : LanesValue) → FlowsGo old.seen.flows new.seen.flows → KeysGo old.seen.connections new.seen.connections
      → BooksGo old.books new.books → BooksAlone Q new.books → (lanes ≡ empty_lanes) ⊎ IsBound Q old i lanes → (lanes ≡ empty_lanes) ⊎ IsBound Q new i lanes
  either_later old new i lanes flows keys books alone (inl fresh) = inl fresh
  either_later old new i lanes flows keys books alone (inr bound) = inr (bound_later old new i lanes flows keys books alone bound)

  -- ---- flows and connections begin

  empty_alone : AreAlone Q empty_book
  empty_alone A first = stands.empty first
  empty_alone B first = stands.empty first

  grown_alone : (count : ℕ) (books : List BookValue) → BooksAlone Q books → BooksAlone Q (grown_to count empty_book books)
  grown_alone count books all c book h = by (grown_either count empty_book books c book h)
    where
      by : (slice_get books c ≡ Some book) ⊎ (empty_book ≡ book) → AreAlone Q book
      by (inl there) = all c book there
      by (inr new) = subst (AreAlone Q) new empty_alone

  pub grown_stand : (now : SeenFlows) (state : JudgedValue) → FlowsGo state.seen.flows now.flows → KeysGo state.seen.connections now.connections → AllStand Q state
      → AllStand Q (grown now state)
  grown_stand now state flows keys all = record {
    books = alone;
    lanes = λ i lanes h. by i lanes (grown_either (length now.flows) empty_lanes state.lanes i lanes h);
  }
    where
      alone : BooksAlone Q (grown_to (length now.connections) empty_book state.books)
      alone = grown_alone (length now.connections) state.books all.books

      by : (i : ℕ) (lanes : LanesValue) → (slice_get state.lanes i ≡ Some lanes) ⊎ (empty_lanes ≡ lanes) → (lanes ≡ empty_lanes) ⊎ IsBound Q (grown now state) i lanes
      by i lanes (inl there) =
          either_later state (grown now state) i lanes flows keys (books_grown (length now.connections) empty_book state.books) alone (all.lanes i lanes there)
      by i lanes (inr new) = inl (sym new)

  -- ---- a wrong token

  pub with_alone : (side : Side) (s : StreamValue) (book : BookValue) → AreAlone Q book → ((first : Option ℕ) → Q first s empty_lane) → AreAlone Q (with_stream side s book)
  with_alone A s book alone new A first = new first
  with_alone A s book alone new B first = alone B first
  with_alone B s book alone new A first = alone A first
  with_alone B s book alone new B first = new first

  pub set_alone : (books : List BookValue) (c : ℕ) (new : BookValue) → BooksAlone Q books → AreAlone Q new → BooksAlone Q (set books c new)
  set_alone books c new all alone i book h = by (set_item books c i new book h)
    where
      by : ((c ≡ i) × (new ≡ book)) ⊎ (slice_get books i ≡ Some book) → AreAlone Q book
      by (inl both) = subst (AreAlone Q) both.1 alone
      by (inr other) = all i book other

  token_alone : (book : Option BookValue) (wrong : WrongToken) (books : List BookValue) → slice_get books wrong.belongs.connection ≡ book → BooksAlone Q books
      → BooksAlone Q (token_in book wrong books)
  token_alone None wrong books h all = all
  token_alone (Some book) wrong books h all =
      let side = wrong.belongs.opener in
      let alone = all wrong.belongs.connection book h in
      set_alone books wrong.belongs.connection (token_told wrong book) all
      (with_alone side (tell rule.Token wrong.packet (Found (Number32 wrong.expected wrong.was)) (stream_at side book)) book alone
      (λ first. (stands.telling first empty_lane).tells rule.Token wrong.packet (Found (Number32 wrong.expected wrong.was)) (stream_at side book) (alone side first)))

  pub wrong_stand : (wrong : Option WrongToken) (state : JudgedValue) → AllStand Q state → AllStand Q (with_wrong_token wrong state)
  wrong_stand None state all = all
  wrong_stand (Some wrong) state all = record {
    books = alone;
    lanes = λ i lanes h.
        either_later state (with_wrong_token (Some wrong) state) i lanes (flows_same state.seen.flows) (keys_same state.seen.connections) (wrong_goes (Some wrong) state)
        alone (all.lanes i lanes h);
  }
    where
      alone : BooksAlone Q (token_in (slice_get state.books wrong.belongs.connection) wrong state.books)
      alone = token_alone (slice_get state.books wrong.belongs.connection) wrong state.books refl all.books

  -- ---- a segment of a side in an open flow

  pub record Sided (facts : Facts) (keys : Keys) (left : Left) : Type 0 where
    pub own : Q (first_of facts.side keys) (stream_at facts.side left.book) (own_lane facts left.lanes)
    pub peers : Q (first_of (peer facts.side) keys) (stream_at (peer facts.side) left.book) (peers_lane facts left.lanes)
    pub alone : AreAlone Q left.book

  -- with another stream of its side
  pub restreamed : (facts : Facts) (keys : Keys) (left : Left) (s : StreamValue)
      → ((first : Option ℕ) (l : LaneValue) → Q first (stream_at facts.side left.book) l → Q first s l) → Sided facts keys left
      → Sided facts keys (record left { book = with_stream facts.side s left.book })
  restreamed facts keys left s goes sided = record {
    own =
        subst (λ (x : StreamValue). Q (first_of facts.side keys) x (own_lane facts left.lanes)) (sym (own_stream facts.side s left.book))
        (goes (first_of facts.side keys) (own_lane facts left.lanes) sided.own);
    peers = subst (λ (x : StreamValue). Q (first_of (peer facts.side) keys) x (peers_lane facts left.lanes)) (sym (peers_stream facts.side s left.book)) sided.peers;
    alone = with_alone facts.side s left.book sided.alone (λ first. goes first empty_lane (sided.alone facts.side first));
  }

  rekeyed : (facts : Facts) (keys later : Keys) (left : Left) → KeyStays keys later → Sided facts keys left → Sided facts later left
  rekeyed facts keys later left stays sided = record {
    own = key_grows facts.side keys later (stream_at facts.side left.book) (own_lane facts left.lanes) stays sided.own;
    peers = key_grows (peer facts.side) keys later (stream_at (peer facts.side) left.book) (peers_lane facts left.lanes) stays sided.peers;
    alone = sided.alone;
  }

  gap_stream : (side : Side) (gaps : ℕ) (book : BookValue) → stream_at side (record book { gaps = gaps }) ≡ stream_at side book
  gap_stream A gaps book = refl
  gap_stream B gaps book = refl

  gap_alone : (gaps : ℕ) (book : BookValue) → AreAlone Q book → AreAlone Q (record book { gaps = gaps })
  gap_alone gaps book alone A first = alone A first
  gap_alone gaps book alone B first = alone B first

  lane_own : (b : Bool) (l : LaneValue) (lanes : LanesValue)
      → (if b then (if b then record lanes { opener = l } else record lanes { other = l }).opener
      else (if b then record lanes { opener = l } else record lanes { other = l }).other) ≡ l
  lane_own true l lanes = refl
  lane_own false l lanes = refl

  lane_peers : (b : Bool) (l : LaneValue) (lanes : LanesValue)
      → (if b then (if b then record lanes { opener = l } else record lanes { other = l }).other
      else (if b then record lanes { opener = l } else record lanes { other = l }).opener) ≡ (if b then lanes.other else lanes.opener)
  lane_peers true l lanes = refl
  lane_peers false l lanes = refl

  by_sided : (facts : Facts) (position : ℕ) (options : List OptionValue) (keys : Keys) (left : Left) → Sided facts keys left
      → Sided facts keys (judged_by facts position options keys left)
  by_sided facts position options keys left sided = record {
    own =
        subst (λ (x : StreamValue). Q mine x (own_lane facts (judged_by facts position options keys left).lanes)) (sym (own_stream facts.side acked.stream counted))
        (subst (λ (l : LaneValue). Q mine acked.stream l) (sym (lane_own facts.is_opener acked.lane left.lanes)) there);
    peers =
        subst (λ (x : StreamValue). Q theirs x (peers_lane facts (judged_by facts position options keys left).lanes))
        (sym (peers_stream facts.side acked.stream counted ∙ gap_stream (peer facts.side) counted.gaps left.book))
        (subst (λ (l : LaneValue). Q theirs (stream_at (peer facts.side) left.book) l) (sym (lane_peers facts.is_opener acked.lane left.lanes)) sided.peers);
    alone = with_alone facts.side acked.stream counted (gap_alone counted.gaps left.book sided.alone) (λ first. stands.alone mine first acked.stream acked.lane there);
  }
    where
      mine : Option ℕ
      mine = first_of facts.side keys

      theirs : Option ℕ
      theirs = first_of (peer facts.side) keys

      acked : Acked
      acked = judged_at (with_plain options left facts) position options keys (stream_at (peer facts.side) left.book) (stream_at facts.side left.book) (own_lane facts left.lanes)

      counted : BookValue
      counted = (gap_counted facts left).book

      there : Q mine acked.stream acked.lane
      there = stands.at (with_plain options left facts) position options keys (stream_at (peer facts.side) left.book) (stream_at facts.side left.book) (own_lane facts left.lanes) sided.own

  from_sided : (facts : Facts) (position : Option ℕ) (options : List OptionValue) (keys : Keys) (left : Left) → Sided facts keys left
      → Sided facts keys (judged_from facts position options keys left)
  from_sided facts None options keys left sided = sided
  from_sided facts (Some position) options keys left sided = by_sided facts position options keys left sided

  positions_sided : (facts : Facts) (options : List OptionValue) (keys : Keys) (left : Left) → Sided facts keys left
      → Sided facts keys (judged_positions facts options keys left)
  positions_sided facts options keys left sided =
      by facts.seen.segment.head.syn (position_of (own_base facts) (own_lane facts left.lanes) facts.seen.segment.head.seq facts.seen.payload_len)
    where
      by : (b : Bool) (at : Option ℕ) → Sided facts keys (if b then left else judged_from facts at options keys left)
      by true at = sided
      by false at = from_sided facts at options keys left sided

  pub opened_sided : (facts : Facts) (options : List SeenValue) (keys : Keys) (left : Left) → Sided facts keys left
      → Sided facts (judged_opened facts options keys left).keys (judged_opened facts options keys left).left
  opened_sided facts options keys left sided =
      let start : KeyedValue = record { options = []; keys = keys; stream = stream_at facts.side left.book } in
      let made = judged_options facts options start in
      let next : Left = record left { book = with_stream facts.side made.stream left.book } in
      positions_sided facts made.options made.keys next
      (rekeyed facts keys made.keys next (told_stay keys made.keys (keys_told facts options start))
      (restreamed facts keys left made.stream (λ first l h. options_so (stands.telling first l) facts options start h) sided))

  -- ---- back to the opener's lane and the other

  pub to_sided : (is : Bool) (opener : Side) (keys : Keys) (book : BookValue) (lanes : LanesValue) → Fits Q keys opener book lanes → let side = if is then opener else peer opener in
      Q (first_of side keys) (stream_at side book) (if is then lanes.opener else lanes.other)
      × Q (first_of (peer side) keys) (stream_at (peer side) book) (if is then lanes.other else lanes.opener)
  to_sided true opener keys book lanes fits = (fits.own, fits.peers)
  to_sided false opener keys book lanes fits = (fits.peers, subst (λ (s : Side). Q (first_of s keys) (stream_at s book) lanes.opener) (sym (peer_twice opener)) fits.own)

  pub from_own : (is : Bool) (opener : Side) (keys : Keys) (book : BookValue) (lanes : LanesValue) → let side = if is then opener else peer opener in
      Q (first_of side keys) (stream_at side book) (if is then lanes.opener else lanes.other)
      → Q (first_of (peer side) keys) (stream_at (peer side) book) (if is then lanes.other else lanes.opener) → Fits Q keys opener book lanes
  from_own true opener keys book lanes own peers = record { own = own; peers = peers }
  from_own false opener keys book lanes own peers = record {
    own = subst (λ (s : Side). Q (first_of s keys) (stream_at s book) lanes.opener) (peer_twice opener) peers;
    peers = own;
  }
