-- Behind a segment of a connection of ours in an open flow: what its payload maps was seen, a DATA_FIN that it tells stands, and A's key is known where
-- it shows it.
use Rattle.std.proofs.Common.{◌≡◌, refl, sym, ap, ◌∙◌, subst, ℕ, zero, suc, ◌+◌, ◌%◌, ◌^◌, ◌<◌, ◌≤◌, ◌||◌, ◌&&◌, ◌⊎◌, not, Bool, true, false, if◌then◌else◌, ⊎_elim, Option, Some, None, is_none, is_some, option_map, List, [], ◌∷◌, length, map, arith}
use Rattle.std.specs.Prelude.{All, IfSome}
use Rattle.std.specs.List.{list_any, slice_get}
use Rattle.std.proofs.Math.ListN.{set}
use Rattle.std.proofs.lemmas.Bool.{false≢true}
use Rattle.std.proofs.lemmas.List.Elements.{All-cons, All-head, All-nil, All-tail}
use Rattle.std.proofs.lemmas.Option.{slice_get_within}
use Rattle.capture_reader.specs.Seen.{Seen}
use Rattle.judge_laws.proofs.Books.{grown_stays, own_stream, set_there}
use Rattle.judge_laws.proofs.Flows.{keys_put}
use Rattle.judge_laws.proofs.Keyed.{keys_told}
use Rattle.judge_laws.proofs.Standing.{some_same}
use Rattle.judge_laws.specs.GoesOn.{stream_in}
use Rattle.judge_rules.specs.Mappings.{offer_of}
use Rattle.judge_rules.specs.Numbers.{first_number}
use Rattle.mptcp_options.specs.Value.{OptionValue, Capable}
use Rattle.mptcp_options.specs.declared.capable.CapableKeys.TheVariants.{Both, NoKey, Sender, WithData}
use Rattle.mptcp_options.specs.declared.capable.CapableKeys.{CapableKeys}
use Rattle.rule_book.specs.Facts.{Facts, first_of, own_base, own_lane, payload_at}
use Rattle.rule_book.specs.Judged.{Told, empty_book, empty_lanes, grown, judged, judged_belonging, judged_flow, judged_formed, judged_in_flow, judged_known, judged_opened, judged_place, judged_side, judged_taken, opened_facts, put_back, with_key}
use Rattle.rule_book.specs.Signals.{KeyedValue, judged_options, told_formless}
use Rattle.rule_book.specs.State.{BookValue, JudgedValue, LanesValue, stream_at, with_stream}
use Rattle.rule_book.specs.Stream.{Left, gap_counted, judged_at, judged_from, with_plain}
use Rattle.segment_wire.specs.Options.{option_octets}
use Rattle.seen_connections.specs.Asked.{first_answer}
use Rattle.seen_connections.specs.Connections.{SeenFlows, Taken, answer_of, answered, begins, begun_with, flow_after, followed_by, gone_on, is_again_of, key_of, taken}
use Rattle.seen_connections.specs.Flows.{counted, flow_between, is_acknowledged_by}
use Rattle.seen_connections.specs.SameEnds.{ends_in, same_end}
use Rattle.seen_connections.specs.SeenOptions.{Readable, SeenValue, seen_options}
use Rattle.seen_connections.specs.declared.asked.Answer.{Answer}
use Rattle.seen_connections.specs.declared.connections.Keys.{Keys}
use Rattle.seen_connections.specs.declared.flow.Belongs.{Belongs}
use Rattle.seen_connections.specs.declared.flow.Flow.{Flow}
use Rattle.seen_connections.specs.declared.flow.Opened.{Opened}
use Rattle.seen_connections.specs.declared.flow_list.Found.{Found}
use Rattle.seen_streams.specs.Acks.{Acked}
use Rattle.seen_streams.specs.Positions.{position_of}
use Rattle.seen_streams.specs.State.{StreamValue}
use Rattle.sides.specs.Side.{peer}
use Rattle.sides.specs.declared.side.Side.TheVariants.{A, B}
use Rattle.sides.specs.declared.side.Side.{Side}
use Rattle.own_runs.proofs.AckPositions.{EndsIn, EndsOffer, IsCover, IsCovered, judged_ended, judged_seen}
use Rattle.own_runs.proofs.FinePositions.{position_so}
use Rattle.own_runs.proofs.KeptCovers.{IsFirst, key_shown, key_stays, kept_any, maps_first, shows_both}
use Rattle.own_runs.proofs.KeptOptions.{kept_so}
use Rattle.own_runs.proofs.MapKept.{BookGood, IsGood, Laned, LanesFine, LeftGood, begun_keyed, first_at, keep, lane_at, of_flow, stream_made, with_good}
use Rattle.own_runs.proofs.MapPositions.{Fine, OffersWell, StreamFine, is_mapping}
use Rattle.own_runs.proofs.OneConnection.{OneHolds}
use Rattle.own_runs.proofs.OpenCounts.{AreCounted}
use Rattle.own_runs.proofs.OpenFlows.{IsOpenOn, OpenBelongs, OpensBy, found_on, finds, which_some}
use Rattle.own_runs.proofs.Own.{Drawn, IsOwn, end_of, own_key}
use Rattle.own_runs.proofs.OwnFlows.{Each, FlowOn, KeysOwn, counted_on}
use Rattle.own_runs.proofs.OwnOptions.{IsKeyed, IsOf, key_is, options_so, readable_so}
use Rattle.own_runs.proofs.OwnPackets.{AllHold, lanes_so, opens_so, sender_so}
use Rattle.own_runs.proofs.OwnUntold.{base_so}
use Rattle.own_runs.proofs.TokenSegments.{Asked, IsBehind, IsCapable}
use Rattle.own_runs.proofs.TokenState.{TokensHold}

-- an item of a list that is long enough
pub item_of : {X : Type 0} (xs : List X) (i : ℕ) → i < length xs → (x : X) × (slice_get xs i ≡ Some x)
item_of [] i within = absurd (omega (arith, within))
item_of (x ∷ xs) zero within = (x, refl)
item_of (x ∷ xs) (suc i) within = item_of xs i (omega (arith, within))

-- ---- a segment in an open flow is judged

module _ (d : Drawn) (U T V W : Type 0) (state : JudgedValue) (packet : ℕ) (seen : Seen) (own : IsOwn d seen) (is : IsBehind U T V W d seen own) (h : TokensHold d U T state.seen)
    (one : OneHolds d state.seen) (at : Option Side) (counts : AreCounted state) (each : Each OpenBelongs state.seen.flows) where
  abbrev now : SeenFlows
  now = (taken state.seen packet seen true).now

  abbrev ready : JudgedValue
  ready = grown now state

  -- its flow, before it and as it counts this segment, what that belongs to, and what stood there before
  pub record IsJudged : Type 0 where
    pub index : ℕ
    pub was : Flow
    pub was_there : slice_get state.seen.flows index ≡ Some was
    pub was_on : FlowOn d own.path was
    pub flow : Flow
    pub belongs : Belongs
    pub opened : Opened
    pub keys : Keys
    pub book : BookValue
    pub lanes : LanesValue
    pub on : FlowOn d own.path flow
    pub of_a : belongs.opener ≡ A
    pub has_opened : flow.opened ≡ Some opened
    pub capable : own.path ≡ 0 → IsCapable flow.opening
    pub has_keys : slice_get state.seen.connections 0 ≡ Some keys
    pub keys_stay : now.connections ≡ state.seen.connections
    pub has_book : slice_get state.books 0 ≡ Some book
    pub has_lanes : slice_get state.lanes index ≡ Some lanes
    pub is_put : judged at true state packet seen ≡ put_back index 0 keys (judged_flow at packet seen index flow belongs keys (record { book = book; lanes = lanes })) ready

  module _ (no_syn : seen.segment.head.syn ≡ false) (open_one : IsOpenOn own.path state.seen.flows) where
    abbrev found : Option Found
    found = flow_between (ends_in seen) state.seen.flows

    none_begins : begins seen found ≡ false
    none_begins = ap (λ (b : Bool). (b && (not seen.segment.head.ack_set && not seen.segment.head.rst)) && not (is_again_of seen found)) no_syn

    it_found : (f : Found) × (found ≡ Some f)
    it_found = finds d U T V W state.seen packet seen own is h one own.path refl
        (record { place = open_one.place; flow = open_one.flow; there = open_one.there; opener = open_one.opener; other = open_one.other })

    abbrev f : Found
    f = it_found.0

    abbrev it : Flow
    it = counted seen.is_cut true it_found.0.flow

    f_on : (slice_get state.seen.flows it_found.0.index ≡ Some it_found.0.flow) × FlowOn d own.path it_found.0.flow
    f_on = found_on d U T V W state.seen packet seen own is h one own.path refl it_found.0 it_found.1

    -- it is the flow that is open
    same_flow : open_one.flow ≡ it_found.0.flow
    same_flow =
        let place = one.alone open_one.place it_found.0.index open_one.flow it_found.0.flow open_one.there f_on.0 (open_one.opener ∙ sym f_on.1.opener) in
        some_same open_one.flow it_found.0.flow (sym open_one.there ∙ ap (slice_get state.seen.flows) place ∙ f_on.0)

    opened_one : (o : Opened) × (it_found.0.flow.opened ≡ Some o)
    opened_one = which_some it_found.0.flow.opened (ap (λ (x : Flow). is_some x.opened) (sym same_flow) ∙ open_one.opened)

    belongs_one : (b : Belongs) × (it_found.0.flow.belongs ≡ Some b)
    belongs_one = which_some it_found.0.flow.belongs (each it_found.0.index it_found.0.flow f_on.0 (ap is_some opened_one.1))

    no_answer : answer_of seen it ≡ None
    no_answer =
        ap (λ (b : Bool). if not b || (not seen.segment.head.ack_set || not (is_none it.opened)) then None
        else (if not (same_end seen.source it.other) || not (is_acknowledged_by seen.segment.head.ack it) then None
        else first_answer it.opening (option_octets seen.segment.options))) no_syn

    abbrev next : Flow
    next = flow_after seen (answered state.seen seen (counted seen.is_cut true it_found.0.flow) None) (counted seen.is_cut true it_found.0.flow)

    next_on : FlowOn d own.path next
    next_on =
        let on = counted_on d state.seen packet seen own h.own own.path it_found.0.flow f_on.1 in
        record { within = on.within; opener = on.opener; other = on.other; opening = on.opening; belongs = on.belongs; nonce = on.nonce; number = on.number; octets = on.octets; cut = on.cut; wrong = on.wrong; bases = on.bases }

    taken_is : taken state.seen packet seen true ≡ record {
      now = record { flows = set state.seen.flows it_found.0.index next; connections = state.seen.connections; known = state.seen.known; last = packet };
      place = Some (record { flow = it_found.0.index; wrong_token = None });
    }
    taken_is =
        ap (λ (b : Bool). if b then begun_with state.seen packet seen found (Asked seen) else gone_on state.seen packet seen true found) none_begins
        ∙ ap (gone_on state.seen packet seen true) it_found.1
        ∙ ap (λ (a : Option Answer). followed_by state.seen packet seen it_found.0.index it a) no_answer

    there_now : slice_get now.flows it_found.0.index ≡ Some next
    there_now = ap (λ (t : Taken). slice_get t.now.flows it_found.0.index) taken_is ∙ set_there state.seen.flows it_found.0.index next it_found.0.flow f_on.0

    connections_now : now.connections ≡ state.seen.connections
    connections_now = ap (λ (t : Taken). t.now.connections) taken_is

    first_one : belongs_one.0.connection ≡ 0
    first_one = subst (λ (o : Option Belongs). IfSome o (λ b. b.connection ≡ 0)) belongs_one.1 (one.belongs it_found.0.index it_found.0.flow f_on.0)

    some_connection : 1 ≤ length state.seen.connections
    some_connection = counts.sizes.belongs it_found.0.index it_found.0.flow f_on.0 (ap is_some belongs_one.1)

    keys_one : (k : Keys) × (slice_get state.seen.connections 0 ≡ Some k)
    keys_one = item_of state.seen.connections 0 some_connection

    book_one : (b : BookValue) × (slice_get state.books 0 ≡ Some b)
    book_one = item_of state.books 0 (let same = counts.books in let some = some_connection in omega (arith, same, some))

    lanes_one : (l : LanesValue) × (slice_get state.lanes it_found.0.index ≡ Some l)
    lanes_one = item_of state.lanes it_found.0.index
        (let same = counts.lanes in let within = slice_get_within state.seen.flows it_found.0.index it_found.0.flow f_on.0 in omega (arith, same, within))

    abbrev result : ℕ → JudgedValue
    result c = put_back it_found.0.index c keys_one.0 (judged_flow at packet seen it_found.0.index next belongs_one.0 keys_one.0 (record { book = book_one.0; lanes = lanes_one.0 })) ready

    put_so : judged at true state packet seen ≡ result 0
    put_so =
        let index = it_found.0.index in let b = belongs_one.0 in
        ap (λ (x : Bool). judged_taken at packet seen (taken state.seen packet seen x) state) good
        ∙ ap (λ (t : Taken). judged_place at packet seen t.place ready) taken_is
        ∙ ap (λ (o : Option Flow). judged_in_flow at packet seen index o ready) there_now
        ∙ ap (λ (o : Option Belongs). judged_belonging at packet seen index next o ready) belongs_one.1
        ∙ ap (λ (o : Option Keys). judged_known at packet seen index next b o (slice_get ready.books b.connection) (slice_get ready.lanes index) ready)
        (ap (λ (cs : List Keys). slice_get cs b.connection) connections_now ∙ ap (slice_get state.seen.connections) first_one ∙ keys_one.1)
        ∙ ap (λ (o : Option BookValue). judged_known at packet seen index next b (Some keys_one.0) o (slice_get ready.lanes index) ready)
        (ap (slice_get ready.books) first_one ∙ grown_stays (length now.connections) empty_book state.books 0 book_one.0 book_one.1)
        ∙ ap (λ (o : Option LanesValue). judged_known at packet seen index next b (Some keys_one.0) (Some book_one.0) o ready)
        (grown_stays (length now.flows) empty_lanes state.lanes index lanes_one.0 lanes_one.1)
        ∙ ap (λ (c : ℕ). result c) first_one
      where
        good : (seen.has_good_sum || not true) ≡ true
        good = ap (λ (b : Bool). b || false) own.good

    pub is_judged : IsJudged
    is_judged = record {
      index = it_found.0.index;
      was = it_found.0.flow;
      was_there = f_on.0;
      was_on = f_on.1;
      flow = next;
      belongs = belongs_one.0;
      opened = opened_one.0;
      keys = keys_one.0;
      book = book_one.0;
      lanes = lanes_one.0;
      on = next_on;
      of_a = subst (λ (o : Option Belongs). IfSome o (λ b. b.opener ≡ A)) belongs_one.1 next_on.belongs;
      has_opened = opened_one.1;
      capable = λ first. h.first it_found.0.index it_found.0.flow f_on.0 (f_on.1.opener ∙ ap (λ (k : ℕ). end_of k A) first);
      has_keys = keys_one.1;
      keys_stay = connections_now;
      has_book = book_one.1;
      has_lanes = lanes_one.1;
      is_put = put_so;
    }

-- ---- and what it leaves

module _ (d : Drawn) (limit : Side → ℕ) (few : (s : Side) → limit s < 2 ^ 31) (content : Side → ℕ → ℕ) (where_at : ℕ → Side → ℕ → ℕ) (most : ℕ → Side → ℕ) (S : ℕ → Type 0) (Straight : ℕ → Side → Type 0)
    (Shown : Side → ℕ → Type 0) (Ended : Side → Type 0) (U T V W : Type 0) (state : JudgedValue) (packet : ℕ) (seen : Seen) (g : IsGood d limit few content where_at most S Straight Shown Ended seen)
    (is : IsBehind U T V W d seen g.fine.own) (h : TokensHold d U T state.seen) (one : OneHolds d state.seen) (at : Option Side) (counts : AreCounted state) (each : Each OpenBelongs state.seen.flows)
    (hold : AllHold d (OpensBy S) (IsGood d limit few content where_at most S Straight Shown Ended) (BookGood d limit few content where_at most S Straight Shown Ended)
    (LanesFine d limit few content where_at most S Straight Shown Ended) state)
    (j : IsJudged d U T V W state packet seen g.fine.own is h one at counts each) (no_syn : seen.segment.head.syn ≡ false) (begun : S g.fine.own.path) where
  abbrev own : IsOwn d seen
  own = g.fine.own

  abbrev side : Side
  side = own.from

  abbrev facts : Facts
  facts = opened_facts at packet seen j.index j.flow j.opened own.from

  k : KeysOwn d j.keys
  k = hold.seen.connections 0 j.keys j.has_keys

  book_is : BookGood d limit few content where_at most S Straight Shown Ended j.book
  book_is = hold.books 0 j.book j.has_book

  lanes_are : LanesFine d limit few content where_at most S Straight Shown Ended own.path j.lanes
  lanes_are =
      lanes_so d (OpensBy S) (IsGood d limit few content where_at most S Straight Shown Ended) (BookGood d limit few content where_at most S Straight Shown Ended)
      (LanesFine d limit few content where_at most S Straight Shown Ended) (keep d limit few content where_at most S Straight Shown Ended) at packet seen g j.index j.was j.was_on state.seen.flows
      j.was_there j.lanes (hold.lanes j.index j.lanes j.has_lanes)

  lane : Laned d limit few content where_at most S Straight Shown Ended own.path own.from (own_lane facts j.lanes)
  lane = lane_at d limit few content where_at most S Straight Shown Ended own.path own.from facts.is_opener j.lanes (opens_so d seen own j.flow j.on) lanes_are

  abbrev first : KeyedValue
  first = record { options = []; keys = j.keys; stream = stream_at own.from (with_stream own.from (stream_at own.from j.book) j.book) }

  abbrev made : KeyedValue
  made = judged_options facts (map Readable own.values) first

  abbrev before : Left
  before = record { book = with_stream own.from made.stream (with_stream own.from (stream_at own.from j.book) j.book); lanes = j.lanes }

  abbrev acked : Acked
  acked = judged_at (with_plain made.options before facts) g.fine.at made.options made.keys (stream_at (peer own.from) before.book) (stream_at own.from before.book) (own_lane facts j.lanes)

  abbrev told : Told
  told = judged_opened facts (map Readable own.values) j.keys (record { book = with_stream own.from (stream_at own.from j.book) j.book; lanes = j.lanes })

  told_so : judged_flow at packet seen j.index j.flow j.belongs j.keys (record { book = j.book; lanes = j.lanes }) ≡ told
  told_so =
      let left : Left = record { book = j.book; lanes = j.lanes } in
      ap (λ (s : Side). judged_side at packet seen j.index j.flow s j.keys left) (sender_so d seen own j.flow j.on j.belongs j.of_a)
      ∙ ap (λ (options : List SeenValue). judged_formed at packet seen j.index j.flow j.flow.opened own.from options j.keys
      (record left { book = with_stream own.from (told_formless packet options (stream_at own.from j.book)) j.book }))
      (ap (λ (c : Bool). seen_options c seen.segment.options) k.checksums ∙ own.options)
      ∙ ap (λ (s : StreamValue). judged_formed at packet seen j.index j.flow j.flow.opened own.from (map Readable own.values) j.keys (record left { book = with_stream own.from s j.book }))
      (readable_so packet own.values (stream_at own.from j.book))
      ∙ ap (λ (o : Option Opened). judged_formed at packet seen j.index j.flow o own.from (map Readable own.values) j.keys
      (record left { book = with_stream own.from (stream_at own.from j.book) j.book })) j.has_opened

  base_is : seen.segment.head.seq ≡ (own_base facts + g.fine.at) % 2 ^ 32
  base_is = let base = base_so d seen own j.flow j.on at packet j.index j.opened j.has_opened in let seq = g.fine.seq in omega (arith, base, seq)

  position_is : Straight g.fine.own.path g.fine.own.from → position_of (own_base facts) (own_lane facts j.lanes) seen.segment.head.seq seen.payload_len ≡ Some g.fine.at
  position_is straight =
      let top = lane.1.0.top in let low = lane.1.1 straight in
      position_so (own_base facts) (own_lane facts j.lanes) seen.segment.head.seq seen.payload_len g.fine.at base_is (omega (arith, top, low)) (g.low straight begun)

  stream_told : Straight g.fine.own.path g.fine.own.from → stream_at own.from told.left.book ≡ acked.stream
  stream_told straight =
      ap (λ (b : Bool). stream_at own.from (if b then before else judged_from facts (position_of (own_base facts) (own_lane facts j.lanes) seen.segment.head.seq seen.payload_len) made.options made.keys before).book) no_syn
      ∙ ap (λ (p : Option ℕ). stream_at own.from (judged_from facts p made.options made.keys before).book) (position_is straight)
      ∙ own_stream own.from acked.stream (gap_counted facts before).book

  -- the stream of its sender behind it
  pub stream_here : Straight g.fine.own.path g.fine.own.from → (stream : StreamValue) → stream_in (judged at true state packet seen) 0 own.from ≡ Some stream → stream ≡ acked.stream
  stream_here straight stream there =
      some_same stream acked.stream (sym there
      ∙ ap (λ (x : JudgedValue). stream_in x 0 own.from) j.is_put
      ∙ ap (option_map (stream_at own.from)) (set_there ready_books 0 _ j.book book_ready)
      ∙ ap (λ (t : Told). Some (stream_at own.from t.left.book)) told_so
      ∙ ap (λ (s : StreamValue). Some s) (stream_told straight))
    where
      ready_books : List BookValue
      ready_books = (ready d U T V W state packet seen g.fine.own is h one at counts each).books

      book_ready : slice_get ready_books 0 ≡ Some j.book
      book_ready = grown_stays _ empty_book state.books 0 j.book j.has_book

  -- ---- its options

  abbrev left : Left
  left = record { book = with_stream own.from (stream_at own.from j.book) j.book; lanes = j.lanes }

  left_is : LeftGood d limit few content where_at most S Straight Shown Ended at packet seen g left
  left_is = record { book = with_good d limit few content where_at most S Straight Shown Ended own.from (stream_at own.from j.book) j.book (book_is own.from) book_is; lanes = lanes_are }

  ours : IsOf d is_mapping own.path facts
  ours = of_flow d limit few content where_at most S Straight Shown Ended at packet seen g j.index j.flow j.on j.keys k left left_is j.opened j.has_opened

  keyed : IsKeyed d is_mapping own.path own.from first
  keyed = begun_keyed d limit few content where_at most S Straight Shown Ended at packet seen g j.index j.flow j.on j.keys k left left_is j.opened j.has_opened

  made_fine : StreamFine (limit own.from) (few own.from) (content own.from) made.stream
  made_fine = stream_made d limit few content where_at most S Straight Shown Ended at packet seen g j.index j.flow j.on j.keys k left left_is j.opened j.has_opened

  abbrev number : ℕ
  number = first_at d limit few content where_at own.from

  -- its sender's key is known where it shows it, or where it was
  module _ (knows : own.from ≡ A → (is_some j.keys.a ≡ true) ⊎ ((own.path ≡ 0) × (list_any shows_both own.values ≡ true))) where
    key_made : is_some (key_of own.from made.keys) ≡ true
    key_made = by own.from refl
      where
        by : (s : Side) → own.from ≡ s → is_some (key_of s made.keys) ≡ true
        by B of_b = refl
        by A of_a =
            ⊎_elim (λ was. key_stays d is_mapping own.path facts ours own.values first was)
            (λ shows. key_shown d is_mapping own.path facts ours own.values first own.each keyed (j.capable shows.0) of_a shows.1) (knows of_a)

    pub key_of_a : own.from ≡ A → is_some made.keys.a ≡ true
    key_of_a of_a = subst (λ (s : Side). is_some (key_of s made.keys) ≡ true) of_a key_made

    known : first_of own.from made.keys ≡ Some number
    known = by (key_of own.from made.keys) key_made (key_is d is_mapping own.from made.keys (options_so d is_mapping own.path facts ours own.values first own.each keyed).keys)
      where
        by : (o : Option ℕ) → is_some o ≡ true → IfSome o (λ key. key ≡ own_key d own.from) → option_map first_number o ≡ Some number
        by None some is = absurd (false≢true some)
        by (Some key) some is = ap (λ (n : ℕ). Some (first_number n)) is

    -- where MP_CAPABLE with data is A's on path 0
    abbrev Firsts : OptionValue → Type 0
    Firsts v = maps_first v ≡ true → (own.path ≡ 0) × (own.from ≡ A)

    module _ (firsts : All Firsts own.values) (straight : Straight g.fine.own.path g.fine.own.from) where
      firsts_so : (values : List OptionValue) → All Firsts values → All (IsFirst facts) values
      firsts_so [] each = All-nil (IsFirst facts)
      firsts_so (v ∷ values) each =
          All-cons (IsFirst facts) v values (λ maps. let is = All-head Firsts v values each maps in (j.capable is.0, is.1)) (firsts_so values (All-tail Firsts v values each))

      wells : All (OffersWell number (limit own.from) (content own.from) (where_at own.path own.from) g.fine.at) made.options
      wells = kept_so (OffersWell number (limit own.from) (content own.from) (where_at own.path own.from) g.fine.at) facts own.values first (g.fine.offers g.fine.at refl)
          (All-nil (OffersWell number (limit own.from) (content own.from) (where_at own.path own.from) g.fine.at))

      fine : Fine (limit own.from) (few own.from) (content own.from) number (where_at own.path own.from) (most own.path own.from) lane.0 (stream_at own.from before.book) (own_lane facts j.lanes)
      fine = (subst (StreamFine (limit own.from) (few own.from) (content own.from)) (sym (own_stream own.from made.stream left.book)) made_fine, lane.1.0)

      cover_offers : (p : ℕ) (flag_a flag_c : Bool) (keys : CapableKeys) → IsCover g.fine.at p (offer_of number (Capable flag_a flag_c keys)) → maps_first (Capable flag_a flag_c keys) ≡ true
      cover_offers p flag_a flag_c (WithData sender receiver len checksum) covers = refl
      cover_offers p flag_a flag_c (Both sender receiver) covers = absurd covers
      cover_offers p flag_a flag_c (Sender sender) covers = absurd covers
      cover_offers p flag_a flag_c NoKey covers = absurd covers

      end_offers : (flag_a flag_c : Bool) (keys : CapableKeys) → EndsOffer (offer_of number (Capable flag_a flag_c keys)) → maps_first (Capable flag_a flag_c keys) ≡ true
      end_offers flag_a flag_c (WithData sender receiver len checksum) ends = refl
      end_offers flag_a flag_c (Both sender receiver) ends = absurd ends
      end_offers flag_a flag_c (Sender sender) ends = absurd ends
      end_offers flag_a flag_c NoKey ends = absurd ends

      -- what a position of its payload maps was seen
      pub seen_here : (p : ℕ) → IsCovered number g.fine.at p own.values → 1 ≤ p → g.fine.at ≤ p → p < (payload_at facts g.fine.at).to → (stream : StreamValue)
          → stream_in (judged at true state packet seen) 0 own.from ≡ Some stream → stream.seen (where_at own.path own.from p) ≡ true
      seen_here p covered some low high stream there =
          subst (λ (s : StreamValue). s.seen (where_at own.path own.from p) ≡ true) (sym (stream_here straight stream there))
          (judged_seen (limit own.from) (few own.from) (content own.from) number (where_at own.path own.from) (most own.path own.from) lane.0 (with_plain made.options before facts) g.fine.at made.options made.keys
          (stream_at (peer own.from) before.book) (stream_at own.from before.book) (own_lane facts j.lanes) p known wells fine
          (kept_any d is_mapping own.path facts ours (λ v. IsCover g.fine.at p (offer_of number v)) (cover_offers p) own.values first own.each keyed (firsts_so own.values firsts) covered) some low high)

      -- a DATA_FIN that it tells stands
      pub fin_here : EndsIn number own.values → (stream : StreamValue) → stream_in (judged at true state packet seen) 0 own.from ≡ Some stream → is_some stream.fin ≡ true
      fin_here ends stream there =
          subst (λ (s : StreamValue). is_some s.fin ≡ true) (sym (stream_here straight stream there))
          (judged_ended (limit own.from) (few own.from) (content own.from) number (where_at own.path own.from) (most own.path own.from) lane.0 (with_plain made.options before facts) g.fine.at made.options made.keys
          (stream_at (peer own.from) before.book) (stream_at own.from before.book) (own_lane facts j.lanes) known wells fine
          (kept_any d is_mapping own.path facts ours (λ v. EndsOffer (offer_of number v)) end_offers own.values first own.each keyed (firsts_so own.values firsts) ends))

  -- A's key is known behind it
  pub key_here : is_some made.keys.a ≡ true → (keys : Keys) × (slice_get (judged at true state packet seen).seen.connections 0 ≡ Some keys) × (is_some keys.a ≡ true)
  key_here some =
      let ready_seen = (taken state.seen packet seen true).now in
      let put = keys_put 0 j.keys told.keys ready_seen (ap (λ (cs : List Keys). slice_get cs 0) j.keys_stay ∙ j.has_keys) (keys_told facts (map Readable own.values) first) in (
        put.keys,
        ap (λ (x : JudgedValue). slice_get x.seen.connections 0) j.is_put
            ∙ ap (λ (t : Told). slice_get (with_key 0 j.keys.a t.keys.a ready_seen).connections 0) told_so ∙ put.there,
        ap is_some (put.same A) ∙ some,
      )
