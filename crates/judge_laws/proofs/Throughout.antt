-- What each step of a rule keeps holds behind each packet of a capture.
use Rattle.std.proofs.Common.{◌≡◌, refl, ap, ◌∙◌, sym, subst, ℕ, ◌+◌, ◌⊎◌, inl, inr, Bool, not, ◌||◌, Option, Some, None, option_map, List, [], ◌∷◌}
use Rattle.std.specs.List.{slice_get}
use Rattle.sides.specs.declared.side.Side.{Side}
use Rattle.sides.specs.Side.{peer}
use Rattle.capture_reader.specs.Captured.{Captured}
use Rattle.capture_reader.specs.Seen.{Seen, segment_in_packet}
use Rattle.judge_rules.specs.Numbers.{first_number}
use Rattle.seen_connections.specs.declared.connections.Keys.{Keys}
use Rattle.seen_connections.specs.declared.connections.Place.{Place}
use Rattle.seen_connections.specs.declared.flow.Belongs.{Belongs}
use Rattle.seen_connections.specs.declared.flow.Flow.{Flow}
use Rattle.seen_connections.specs.declared.flow.Opened.{Opened}
use Rattle.seen_connections.specs.Connections.{taken}
use Rattle.seen_connections.specs.SameEnds.{same_end}
use Rattle.seen_connections.specs.SeenOptions.{SeenValue, seen_options}
use Rattle.seen_streams.specs.State.{LaneValue, StreamValue, empty_lane}
use Rattle.rule_book.specs.Facts.{first_of}
use Rattle.rule_book.specs.Judged.{Told, empty_lanes, grown, judged, judged_belonging, judged_flow, judged_formed, judged_in_flow, judged_known, judged_place, nothing_judged, opened_facts, put_back, side_of, with_wrong_token}
use Rattle.rule_book.specs.Signals.{told_formless}
use Rattle.rule_book.specs.State.{BookValue, JudgedValue, LanesValue, stream_at, with_stream}
use Rattle.rule_book.specs.Stream.{Left}
use Rattle.capture_verdict.specs.Judging.{judged_if_seen, judged_packets}
use Rattle.judge_laws.specs.GoesOn.{stream_in}
use Rattle.judge_laws.specs.Behind.{judged_first}
use Rattle.judge_laws.proofs.Books.{BookGoes, books_set, set_there}
use Rattle.judge_laws.proofs.Flows.{ArePut, AreTold, FlowsGo, flows_same, key_flows, keys_put, put_go, taken_flows, taken_keys}
use Rattle.judge_laws.proofs.Folds.{formless_so}
use Rattle.judge_laws.proofs.Keyed.{keys_told, same_told}
use Rattle.judge_laws.proofs.Standing.{AllStand, AreAlone, BooksAlone, Fits, IsBound, Sided, Stands, either_later, from_own, grown_stand, opened_sided, restreamed, set_alone, set_item, some_same, to_sided, with_alone, wrong_stand}
use Rattle.judge_laws.proofs.Steps.{flow_goes}

-- What a segment leaves of its connection's book and of its flow's lanes: these stay, or the flow is open.
record IsLeft (Q : Option ℕ → StreamValue → LaneValue → Type 0) (flow : Flow) (opener : Side) (keys : Keys) (lanes : LanesValue) (told : Told) : Type 0 where
  of_keys : AreTold keys told.keys
  alone : AreAlone Q told.left.book
  of_lanes : (told.left.lanes ≡ lanes) ⊎ ((o : Opened) × (flow.opened ≡ Some o) × Fits Q told.keys opener told.left.book told.left.lanes)

nothing_there : {X : Type 0} → (i : ℕ) (x : X) → slice_get [] i ≡ Some x → ⊥
nothing_there i x h = cc

module _ {Q : Option ℕ → StreamValue → LaneValue → Type 0} (stands : Stands Q) where
  module _ (at : Option Side) (packet : ℕ) (seen : Seen) (index : ℕ) (flow : Flow) (b : Belongs) (keys : Keys) (book : BookValue) (lanes : LanesValue)
      (alone : AreAlone Q book) (fits : Fits Q keys b.opener book lanes) where
    abbrev side : Side
    side = side_of flow b seen

    abbrev options : List SeenValue
    options = seen_options keys.checksums seen.segment.options

    abbrev formed : StreamValue
    formed = told_formless packet options (stream_at side book)

    abbrev left : Left
    left = record { book = book; lanes = lanes }

    abbrev next : Left
    next = record { book = with_stream side formed book; lanes = lanes }

    formed_so : (first : Option ℕ) (l : LaneValue) → Q first (stream_at side book) l → Q first formed l
    formed_so first l h = formless_so (stands.telling first l) packet options (stream_at side book) h

    opened_left : (opened : Opened) → flow.opened ≡ Some opened → IsLeft Q flow b.opener keys lanes (judged_formed at packet seen index flow (Some opened) side options keys next)
    opened_left opened e =
        let facts = opened_facts at packet seen index flow opened side in
        let told = judged_formed at packet seen index flow (Some opened) side options keys next in
        let parts = to_sided stands (same_end seen.source flow.opener) b.opener keys book lanes fits in
        let sided : Sided stands facts keys left = record { own = parts.0; peers = parts.1; alone = alone } in
        let after = opened_sided stands facts options keys next (restreamed stands facts keys left formed formed_so sided) in
        record {
          of_keys = keys_told facts options (record { options = []; keys = keys; stream = stream_at side next.book });
          alone = after.alone;
          of_lanes = inr (opened, e, from_own stands (same_end seen.source flow.opener) b.opener told.keys told.left.book told.left.lanes after.own after.peers);
        }

    formed_left : (opened : Option Opened) → flow.opened ≡ opened → IsLeft Q flow b.opener keys lanes (judged_formed at packet seen index flow opened side options keys next)
    formed_left None e = record {
      of_keys = same_told keys;
      alone = with_alone stands side formed book alone (λ first. formed_so first empty_lane (alone side first));
      of_lanes = inl refl;
    }
    formed_left (Some opened) e = opened_left opened e

    flow_left : IsLeft Q flow b.opener keys lanes (judged_flow at packet seen index flow b keys left)
    flow_left = formed_left flow.opened refl

  -- ---- put back

  module _ (state : JudgedValue) (index : ℕ) (flow : Flow) (b : Belongs) (keys : Keys) (book : BookValue) (lanes : LanesValue) (told : Told)
      (has_flow : slice_get state.seen.flows index ≡ Some flow) (has_belongs : flow.belongs ≡ Some b)
      (has_keys : slice_get state.seen.connections b.connection ≡ Some keys) (has_book : slice_get state.books b.connection ≡ Some book)
      (has_lanes : slice_get state.lanes index ≡ Some lanes) (goes : BookGoes book told.left.book)
      (left : IsLeft Q flow b.opener keys lanes told) (all : AllStand Q state) where
    abbrev new : JudgedValue
    new = put_back index b.connection keys told state

    flows_are : new.seen.flows ≡ state.seen.flows
    flows_are = key_flows b.connection keys.a told.keys.a state.seen

    put : ArePut told.keys new.seen.connections b.connection
    put = keys_put b.connection keys told.keys state.seen has_keys left.of_keys

    new_alone : BooksAlone Q new.books
    new_alone = set_alone stands state.books b.connection told.left.book all.books left.alone

    stays : (i : ℕ) (l : LanesValue) → slice_get state.lanes i ≡ Some l → (l ≡ empty_lanes) ⊎ IsBound Q new i l
    stays i l h =
        either_later stands state new i l (subst (FlowsGo state.seen.flows) (sym flows_are) (flows_same state.seen.flows))
        (put_go b.connection keys told.keys.a state.seen has_keys) (books_set state.books b.connection book told.left.book has_book goes) new_alone (all.lanes i l h)

    first_is : (side : Side) → first_of side told.keys ≡ first_of side put.keys
    first_is side = ap (option_map first_number) (sym (put.same side))

    fits_put : Fits Q told.keys b.opener told.left.book told.left.lanes → Fits Q put.keys b.opener told.left.book told.left.lanes
    fits_put fits = record {
      own = subst (λ (f : Option ℕ). Q f (stream_at b.opener told.left.book) told.left.lanes.opener) (first_is b.opener) fits.own;
      peers = subst (λ (f : Option ℕ). Q f (stream_at (peer b.opener) told.left.book) told.left.lanes.other) (first_is (peer b.opener)) fits.peers;
    }

    bound : (o : Opened) → flow.opened ≡ Some o → Fits Q told.keys b.opener told.left.book told.left.lanes → IsBound Q new index told.left.lanes
    bound o e fits = record {
      flow = flow;
      belongs = b;
      opened = o;
      keys = put.keys;
      book = told.left.book;
      has_flow = ap (λ (flows : List Flow). slice_get flows index) flows_are ∙ has_flow;
      has_belongs = has_belongs;
      has_opened = e;
      has_keys = put.there;
      has_book = set_there state.books b.connection told.left.book book has_book;
      fits = fits_put fits;
    }

    here : (told.left.lanes ≡ lanes) ⊎ ((o : Opened) × (flow.opened ≡ Some o) × Fits Q told.keys b.opener told.left.book told.left.lanes)
        → (told.left.lanes ≡ empty_lanes) ⊎ IsBound Q new index told.left.lanes
    here (inl same) = subst (λ (l : LanesValue). (l ≡ empty_lanes) ⊎ IsBound Q new index l) (sym same) (stays index lanes has_lanes)
    here (inr opened) = inr (bound opened.0 opened.1 opened.2)

    put_stand : AllStand Q new
    put_stand = record { books = new_alone; lanes = λ i l h. by i l (set_item state.lanes index i told.left.lanes l h) }
      where
        by : (i : ℕ) (l : LanesValue) → ((index ≡ i) × (told.left.lanes ≡ l)) ⊎ (slice_get state.lanes i ≡ Some l) → (l ≡ empty_lanes) ⊎ IsBound Q new i l
        by i l (inl both) =
            subst (λ (j : ℕ). (l ≡ empty_lanes) ⊎ IsBound Q new j l) both.0
            (subst (λ (x : LanesValue). (x ≡ empty_lanes) ⊎ IsBound Q new index x) both.1 (here left.of_lanes))
        by i l (inr other) = stays i l other

  -- ---- what was known fits

  fits_now : (state : JudgedValue) (index : ℕ) (flow : Flow) (b : Belongs) (keys : Keys) (book : BookValue) (lanes : LanesValue)
      → slice_get state.seen.flows index ≡ Some flow → flow.belongs ≡ Some b → slice_get state.seen.connections b.connection ≡ Some keys
      → slice_get state.books b.connection ≡ Some book → AreAlone Q book → (lanes ≡ empty_lanes) ⊎ IsBound Q state index lanes → Fits Q keys b.opener book lanes
  fits_now state index flow b keys book lanes f g k o alone (inl fresh) =
      subst (Fits Q keys b.opener book) (sym fresh) (record { own = alone b.opener (first_of b.opener keys); peers = alone (peer b.opener) (first_of (peer b.opener) keys) })
  fits_now state index flow b keys book lanes f g k o alone (inr bound) =
      let flows : bound.flow ≡ flow = some_same bound.flow flow (sym bound.has_flow ∙ f) in
      let belongs : bound.belongs ≡ b = some_same bound.belongs b (sym bound.has_belongs ∙ ap (λ (x : Flow). x.belongs) flows ∙ g) in
      let known : bound.keys ≡ keys = some_same bound.keys keys (sym bound.has_keys ∙ ap (λ (x : Belongs). slice_get state.seen.connections x.connection) belongs ∙ k) in
      let books : bound.book ≡ book = some_same bound.book book (sym bound.has_book ∙ ap (λ (x : Belongs). slice_get state.books x.connection) belongs ∙ o) in
      subst (λ (x : Keys). Fits Q x b.opener book lanes) known
      (subst (λ (x : Belongs). Fits Q bound.keys x.opener book lanes) belongs
      (subst (λ (x : BookValue). Fits Q bound.keys bound.belongs.opener x lanes) books bound.fits))

  known_stand : (at : Option Side) (packet : ℕ) (seen : Seen) (index : ℕ) (flow : Flow) (b : Belongs) (keys : Option Keys) (book : Option BookValue)
      (lanes : Option LanesValue) (state : JudgedValue) → slice_get state.seen.flows index ≡ Some flow → flow.belongs ≡ Some b
      → slice_get state.seen.connections b.connection ≡ keys → slice_get state.books b.connection ≡ book → slice_get state.lanes index ≡ lanes → AllStand Q state
      → AllStand Q (judged_known at packet seen index flow b keys book lanes state)
  known_stand at packet seen index flow b (Some keys) (Some book) (Some lanes) state f g k o l all =
      let left : Left = record { book = book; lanes = lanes } in
      let alone = all.books b.connection book o in
      let fits = fits_now state index flow b keys book lanes f g k o alone (all.lanes index lanes l) in
      put_stand state index flow b keys book lanes (judged_flow at packet seen index flow b keys left) f g k o l (flow_goes at packet seen index flow b keys left)
      (flow_left at packet seen index flow b keys book lanes alone fits) all
  known_stand at packet seen index flow b (Some keys) (Some book) None state f g k o l all = all
  known_stand at packet seen index flow b (Some keys) None lanes state f g k o l all = all
  known_stand at packet seen index flow b None book lanes state f g k o l all = all

  belonging_stand : (at : Option Side) (packet : ℕ) (seen : Seen) (index : ℕ) (flow : Flow) (b : Option Belongs) (state : JudgedValue)
      → slice_get state.seen.flows index ≡ Some flow → flow.belongs ≡ b → AllStand Q state → AllStand Q (judged_belonging at packet seen index flow b state)
  belonging_stand at packet seen index flow None state f g all = all
  belonging_stand at packet seen index flow (Some b) state f g all =
      known_stand at packet seen index flow b (slice_get state.seen.connections b.connection) (slice_get state.books b.connection) (slice_get state.lanes index)
      state f g refl refl refl all

  in_flow_stand : (at : Option Side) (packet : ℕ) (seen : Seen) (index : ℕ) (flow : Option Flow) (state : JudgedValue) → slice_get state.seen.flows index ≡ flow
      → AllStand Q state → AllStand Q (judged_in_flow at packet seen index flow state)
  in_flow_stand at packet seen index None state f all = all
  in_flow_stand at packet seen index (Some flow) state f all = belonging_stand at packet seen index flow flow.belongs state f refl all

  place_stand : (at : Option Side) (packet : ℕ) (seen : Seen) (place : Option Place) (state : JudgedValue) → AllStand Q state
      → AllStand Q (judged_place at packet seen place state)
  place_stand at packet seen None state all = all
  place_stand at packet seen (Some place) state all =
      let told = with_wrong_token place.wrong_token state in
      in_flow_stand at packet seen place.flow (slice_get told.seen.flows place.flow) told refl (wrong_stand stands place.wrong_token state all)

  pub judged_stand : (at : Option Side) (check_sums : Bool) (state : JudgedValue) (packet : ℕ) (seen : Seen) → AllStand Q state
      → AllStand Q (judged at check_sums state packet seen)
  judged_stand at check_sums state packet seen all =
      let is_good = seen.has_good_sum || not check_sums in
      let it = taken state.seen packet seen is_good in
      place_stand at packet seen it.place (grown it.now state)
      (grown_stand stands it.now state (taken_flows state.seen packet seen is_good) (taken_keys state.seen packet seen is_good) all)

  if_seen_stand : (at : Option Side) (check_sums : Bool) (state : JudgedValue) (n : ℕ) (seen : Option Seen) → AllStand Q state
      → AllStand Q (judged_if_seen at check_sums state n seen)
  if_seen_stand at check_sums state n None all = all
  if_seen_stand at check_sums state n (Some seen) all = judged_stand at check_sums state n seen all

  packets_stand : (at : Option Side) (check_sums : Bool) (state : JudgedValue) (n : ℕ) (packets : List Captured) → AllStand Q state
      → AllStand Q (judged_packets at check_sums state n packets)
  packets_stand at check_sums state n [] all = all
  packets_stand at check_sums state n (packet ∷ packets) all =
      packets_stand at check_sums (judged_if_seen at check_sums state n (segment_in_packet packet)) (n + 1) packets
      (if_seen_stand at check_sums state n (segment_in_packet packet) all)

  pub first_stand : (at : Option Side) (check_sums : Bool) (packets : List Captured) → AllStand Q (judged_first at check_sums packets)
  first_stand at check_sums packets = packets_stand at check_sums nothing_judged 1 packets (record { books = λ c book h. absurd (nothing_there c book h); lanes = λ i lanes h. absurd (nothing_there i lanes h) })

  -- of each stream
  pub stream_stands : (at : Option Side) (check_sums : Bool) (packets : List Captured) (connection : ℕ) (side : Side) (stream : StreamValue)
      → stream_in (judged_first at check_sums packets) connection side ≡ Some stream → (first : Option ℕ) → Q first stream empty_lane
  stream_stands at check_sums packets connection side stream there first =
      by (slice_get (judged_first at check_sums packets).books connection) refl there
    where
      by : (book : Option BookValue) → slice_get (judged_first at check_sums packets).books connection ≡ book → option_map (stream_at side) book ≡ Some stream
          → Q first stream empty_lane
      by None e h = cc
      by (Some book) e h =
          subst (λ (s : StreamValue). Q first s empty_lane) (some_same (stream_at side book) stream h)
          ((first_stand at check_sums packets).books connection book e side first)
