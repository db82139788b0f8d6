-- What a segment of a connection of ours keeps in its flow it keeps of each book and of what was sent on each flow.
use Rattle.std.proofs.Common.{◌≡◌, refl, sym, ap, ◌∙◌, subst, ℕ, nat_lt, ◌||◌, Bool, true, false, not, if◌then◌else◌, Option, Some, None, List, [], ◌∷◌, ◌++◌, length}
use Rattle.std.specs.Prelude.{IfSome}
use Rattle.std.specs.List.{slice_get}
use Rattle.std.proofs.Math.ListN.{set}
use Rattle.std.proofs.Common.{⊎_elim, zero, suc, ◌-◌, ◌⊎◌, inl, inr}
use Rattle.sides.specs.declared.side.Side.{Side}
use Rattle.sides.specs.declared.side.Side.TheVariants.{A, B}
use Rattle.sides.specs.Side.{peer}
use Rattle.capture_reader.specs.Captured.{Captured}
use Rattle.capture_reader.specs.Seen.{Seen, segment_in_packet}
use Rattle.seen_connections.specs.declared.connections.Keys.{Keys}
use Rattle.seen_connections.specs.declared.connections.Place.{Place}
use Rattle.seen_connections.specs.declared.connections.WrongToken.{WrongToken}
use Rattle.seen_connections.specs.declared.flow.Belongs.{Belongs}
use Rattle.seen_connections.specs.declared.flow.Flow.{Flow}
use Rattle.seen_connections.specs.Connections.{SeenFlows, taken}
use Rattle.seen_connections.specs.SameEnds.{same_end}
use Rattle.rule_book.specs.Judged.{Told, empty_book, empty_lanes, grown, grown_to, judged, judged_belonging, judged_flow, judged_in_flow, judged_known, judged_place, judged_taken, side_of, token_in, token_told, with_wrong_token}
use Rattle.rule_book.specs.State.{BookValue, JudgedValue, LanesValue}
use Rattle.rule_book.specs.Stream.{Left}
use Rattle.judge_laws.proofs.Flows.{key_flows}
use Rattle.judge_laws.proofs.Standing.{set_item, some_same}
use Rattle.stream_lanes.proofs.Lists.{in_append}
use Rattle.own_runs.proofs.Openers.{openers_stay}
use Rattle.own_runs.proofs.Own.{Drawn, IsOwn, end_of, is_a, is_opener, same_place}
use Rattle.own_runs.proofs.OwnFlows.{Each, FlowOn, FlowsOwn, KeysOwn, each_end, each_set, key_so, place_so, taken_so}

grown_each : {X : Type 0} → (P : X → Type 0) (count : ℕ) (one : X) (xs : List X) → Each P xs → (nat_lt (length xs) count ≡ true → P one) → Each P (grown_to count one xs)
grown_each {X} P count one xs each p = by (nat_lt (length xs) count) refl
  where
    by : (b : Bool) → nat_lt (length xs) count ≡ b → Each P (if b then xs ++ one ∷ [] else xs)
    by true more = each_end P xs one each (p more)
    by false more = each

-- the sender of a segment in its flow
pub opens_so : (d : Drawn) (seen : Seen) (own : IsOwn d seen) (flow : Flow) → FlowOn d own.path flow → same_end seen.source flow.opener ≡ is_a own.from
opens_so d seen own flow f = is_opener own.path own.from seen.source flow.opener own.source f.opener

pub sender_so : (d : Drawn) (seen : Seen) (own : IsOwn d seen) (flow : Flow) → FlowOn d own.path flow → (belongs : Belongs) → belongs.opener ≡ A
    → side_of flow belongs seen ≡ own.from
sender_so d seen own flow f belongs is = ap (λ (b : Bool). if b then belongs.opener else peer belongs.opener) (opens_so d seen own flow f) ∙ by own.from
  where
    by : (s : Side) → (if is_a s then belongs.opener else peer belongs.opener) ≡ s
    by A = is
    by B = ap peer is

-- lanes that are there once one more may be
pub grown_item : {X : Type 0} → (count : ℕ) (one : X) (xs : List X) (i : ℕ) (x : X) → slice_get (grown_to count one xs) i ≡ Some x → (x ≡ one) ⊎ (slice_get xs i ≡ Some x)
grown_item {X} count one xs i x = by (nat_lt (length xs) count)
  where
    last : (n : ℕ) → slice_get (one ∷ []) n ≡ Some x → x ≡ one
    last zero at = sym (some_same one x at)
    last (suc n) at = cc

    by : (b : Bool) → slice_get (if b then xs ++ one ∷ [] else xs) i ≡ Some x → (x ≡ one) ⊎ (slice_get xs i ≡ Some x)
    by true at = ⊎_elim (λ old. inr old) (λ new. inl (last (i - length xs) new.1)) (in_append xs (one ∷ []) i x at)
    by false at = inr at

-- nothing is known of a flow's book and lanes beside what holds of each
abbrev pub NothingMore : ℕ → ℕ → Left → Type 0
NothingMore path index left = Unit {0}

module _ (d : Drawn) (F : Flow → Type 0) (P : Seen → Type 0) (B : BookValue → Type 0) (L : ℕ → LanesValue → Type 0) where
  -- what a segment on a path leaves
  pub record IsLeft (path : ℕ) (told : Told) : Type 0 where
    pub keys : KeysOwn d told.keys
    pub book : B told.left.book
    pub lanes : L path told.left.lanes

  -- each segment of the connection, in its flow, where so much is known of the flow's book and lanes, by its path and its index
  pub record SegmentsKeep (K : ℕ → ℕ → Left → Type 0) : Type 0 where
    pub own : (seen : Seen) → P seen → IsOwn d seen
    pub new_lanes : (path : ℕ) → L path empty_lanes
    pub token : (wrong : WrongToken) (book : BookValue) → B book → B (token_told wrong book)
    pub flow : (at : Option Side) (packet : ℕ) (seen : Seen) (p : P seen) (index : ℕ) (flow : Flow) → FlowOn d (own seen p).path flow → F flow → (belongs : Belongs)
        → belongs.opener ≡ A → (keys : Keys) (left : Left) → KeysOwn d keys → B left.book → L (own seen p).path left.lanes → K (own seen p).path index left
        → IsLeft (own seen p).path (judged_flow at packet seen index flow belongs keys left)

  -- lanes of a flow of a path
  pub record AreBound (flows : List Flow) (i : ℕ) (lanes : LanesValue) : Type 0 where
    pub path : ℕ
    pub flow : Flow
    pub there : slice_get flows i ≡ Some flow
    pub opener : flow.opener ≡ end_of path A
    pub holds : L path lanes

  abbrev pub LanesHold : List Flow → List LanesValue → Type 0
  LanesHold flows all = (i : ℕ) (lanes : LanesValue) → slice_get all i ≡ Some lanes → (lanes ≡ empty_lanes) ⊎ AreBound flows i lanes

  pub record AllHold (state : JudgedValue) : Type 0 where
    pub seen : FlowsOwn d state.seen
    pub books : Each B state.books
    pub lanes : LanesHold state.seen.flows state.lanes

  -- a connection more begins with an empty book
  abbrev pub NewBook : JudgedValue → ℕ → Seen → Type 0
  NewBook state packet seen = nat_lt (length state.books) (length (taken state.seen packet seen true).now.connections) ≡ true → B empty_book

  -- so much is known of each flow of a path
  abbrev pub AreKnown : (ℕ → ℕ → Left → Type 0) → ℕ → JudgedValue → Type 0
  AreKnown K path state = (index : ℕ) (flow : Flow) → slice_get state.seen.flows index ≡ Some flow → flow.opener ≡ end_of path A → (c : ℕ) (book : BookValue) → slice_get state.books c ≡ Some book
      → (lanes : LanesValue) → slice_get state.lanes index ≡ Some lanes → K path index (record { book = book; lanes = lanes })

  -- a packet with a segment of the connection
  abbrev pub PacketIs : Captured → Type 0
  PacketIs packet = IfSome (segment_in_packet packet) P

  module _ {K : ℕ → ℕ → Left → Type 0} (keep : SegmentsKeep K) where
    module _ (at : Option Side) (packet : ℕ) (seen : Seen) (p : P seen) where
      abbrev own : IsOwn d seen
      own = keep.own seen p

      -- a flow of its path
      abbrev On : Flow → Type 0
      On flow = FlowOn d own.path flow × F flow

      -- ---- put back

      pub lanes_so : (index : ℕ) (flow : Flow) (f : FlowOn d own.path flow) (flows : List Flow) → slice_get flows index ≡ Some flow → (lanes : LanesValue)
          → (lanes ≡ empty_lanes) ⊎ AreBound flows index lanes → L own.path lanes
      lanes_so index flow f flows there lanes (inl empty) = subst (L own.path) (sym empty) (keep.new_lanes own.path)
      lanes_so index flow f flows there lanes (inr bound) =
          let same : bound.flow ≡ flow = some_same bound.flow flow (sym bound.there ∙ there) in
          subst (λ (path : ℕ). L path lanes) (same_place bound.path own.path A A (sym bound.opener ∙ ap (λ (x : Flow). x.opener) same ∙ f.opener)).0 bound.holds

      set_so : (index : ℕ) (flow : Flow) (f : FlowOn d own.path flow) (flows : List Flow) → slice_get flows index ≡ Some flow → (left : LanesValue) → L own.path left
          → (i : ℕ) (new : LanesValue) (all : List LanesValue) → LanesHold flows all → ((index ≡ i) × (left ≡ new)) ⊎ (slice_get all i ≡ Some new)
          → (new ≡ empty_lanes) ⊎ AreBound flows i new
      set_so index flow f flows there left holds i new all each (inl both) = inr (record {
        path = own.path;
        flow = flow;
        there = ap (slice_get flows) (sym both.0) ∙ there;
        opener = f.opener;
        holds = subst (L own.path) both.1 holds;
      })
      set_so index flow f flows there left holds i new all each (inr other) = each i new other

      known_so : (index : ℕ) (flow : Flow) (f : On flow) (belongs : Belongs) → belongs.opener ≡ A → (keys : Option Keys) (book : Option BookValue)
          (lanes : Option LanesValue) (state : JudgedValue) → slice_get state.seen.flows index ≡ Some flow → slice_get state.seen.connections belongs.connection ≡ keys → slice_get state.books belongs.connection ≡ book
          → slice_get state.lanes index ≡ lanes → AreKnown K own.path state → AllHold state → AllHold (judged_known at packet seen index flow belongs keys book lanes state)
      known_so index flow f belongs is (Some keys) (Some book) (Some lanes) state has_flow has_keys has_book has_lanes known all =
          let left : Left = record { book = book; lanes = lanes } in
          let told = judged_flow at packet seen index flow belongs keys left in
          let it = keep.flow at packet seen p index flow f.0 f.1 belongs is keys left (all.seen.connections belongs.connection keys has_keys)
          (all.books belongs.connection book has_book) (lanes_so index flow f.0 state.seen.flows has_flow lanes (all.lanes index lanes has_lanes))
          (known index flow has_flow f.0.opener belongs.connection book has_book lanes has_lanes) in
          let flows_same = key_flows belongs.connection keys.a told.keys.a state.seen in
          record {
            seen = key_so d belongs.connection keys.a told.keys.a state.seen it.keys.a all.seen;
            books = each_set B state.books belongs.connection told.left.book all.books it.book;
            lanes = subst (λ (flows : List Flow). LanesHold flows (set state.lanes index told.left.lanes)) (sym flows_same)
                (λ i new at. set_so index flow f.0 state.seen.flows has_flow told.left.lanes it.lanes i new state.lanes all.lanes (set_item state.lanes index i told.left.lanes new at));
          }
      known_so index flow f belongs is (Some keys) (Some book) None state has_flow has_keys has_book has_lanes known all = all
      known_so index flow f belongs is (Some keys) None lanes state has_flow has_keys has_book has_lanes known all = all
      known_so index flow f belongs is None book lanes state has_flow has_keys has_book has_lanes known all = all

      belonging_so : (index : ℕ) (flow : Flow) (f : On flow) (belongs : Option Belongs) → IfSome belongs (λ b. b.opener ≡ A) → (state : JudgedValue)
          → slice_get state.seen.flows index ≡ Some flow → AreKnown K own.path state → AllHold state → AllHold (judged_belonging at packet seen index flow belongs state)
      belonging_so index flow f None is state there known all = all
      belonging_so index flow f (Some belongs) is state there known all =
          known_so index flow f belongs is (slice_get state.seen.connections belongs.connection) (slice_get state.books belongs.connection) (slice_get state.lanes index)
          state there refl refl refl known all

      in_flow_so : (index : ℕ) (flow : Option Flow) → IfSome flow On → (state : JudgedValue) → slice_get state.seen.flows index ≡ flow → AreKnown K own.path state → AllHold state
          → AllHold (judged_in_flow at packet seen index flow state)
      in_flow_so index None f state there known all = all
      in_flow_so index (Some flow) f state there known all = belonging_so index flow f flow.belongs f.0.belongs state there known all

      token_so : (book : Option BookValue) (wrong : WrongToken) (books : List BookValue) → slice_get books wrong.belongs.connection ≡ book → Each B books
          → Each B (token_in book wrong books)
      token_so None wrong books at_book each = each
      token_so (Some book) wrong books at_book each =
          each_set B books wrong.belongs.connection (token_told wrong book) each (keep.token wrong book (each wrong.belongs.connection book at_book))

      wrong_so : (wrong : Option WrongToken) (state : JudgedValue) → AllHold state → AllHold (with_wrong_token wrong state)
      wrong_so None state all = all
      wrong_so (Some wrong) state all =
          record { seen = all.seen; books = token_so (slice_get state.books wrong.belongs.connection) wrong state.books refl all.books; lanes = all.lanes }

      wrong_flows : (wrong : Option WrongToken) (state : JudgedValue) → (with_wrong_token wrong state).seen ≡ state.seen
      wrong_flows None state = refl
      wrong_flows (Some wrong) state = refl

      place_at : (place : Option Place) (state : JudgedValue) → IfSome place (λ p. (flow : Flow) → slice_get state.seen.flows p.flow ≡ Some flow → On flow)
          → AllHold state → ((wrong : Option WrongToken) → AllHold (with_wrong_token wrong state) → (path : ℕ) → AreKnown K path (with_wrong_token wrong state)) → AllHold (judged_place at packet seen place state)
      place_at None state on all knows = all
      place_at (Some place) state on all knows =
          let held = wrong_so place.wrong_token state all in
          let told = with_wrong_token place.wrong_token state in
          in_flow_so place.flow (slice_get told.seen.flows place.flow)
          (found (slice_get told.seen.flows place.flow) (ap (λ (x : SeenFlows). slice_get x.flows place.flow) (wrong_flows place.wrong_token state)))
          told refl (knows place.wrong_token held own.path) held
        where
          found : (o : Option Flow) → o ≡ slice_get state.seen.flows place.flow → IfSome o On
          found None same = tt
          found (Some flow) same = on flow (sym same)

      pub segment_so : (state : JudgedValue) → NewBook state packet seen → Each F (taken state.seen packet seen true).now.flows → AllHold state
          → ((wrong : Option WrongToken) → AllHold (with_wrong_token wrong (grown (taken state.seen packet seen true).now state)) → (path : ℕ) → AreKnown K path (with_wrong_token wrong (grown (taken state.seen packet seen true).now state)))
          → AllHold (judged at true state packet seen)
      segment_so state new flows all knows =
          subst (λ (b : Bool). AllHold (judged_taken at packet seen (taken state.seen packet seen b) state)) (sym good)
          (place_at (taken state.seen packet seen true).place (grown now state) (on_place (taken state.seen packet seen true).place (place_so d state.seen packet seen own all.seen))
          (record {
            seen = taken_so d state.seen packet seen own all.seen;
            books = grown_each B (length now.connections) empty_book state.books all.books new;
            lanes = λ i lanes at. ⊎_elim (λ empty. inl empty) (λ old. ⊎_elim (λ empty. inl empty) (λ bound. inr (bound_on i lanes bound)) (all.lanes i lanes old))
                (grown_item (length now.flows) empty_lanes state.lanes i lanes at);
          }) knows)
        where
          now : SeenFlows
          now = (taken state.seen packet seen true).now

          on_place : (place : Option Place) → IfSome place (λ p. (flow : Flow) → slice_get now.flows p.flow ≡ Some flow → FlowOn d own.path flow)
              → IfSome place (λ p. (flow : Flow) → slice_get now.flows p.flow ≡ Some flow → On flow)
          on_place None on = tt
          on_place (Some place) on = λ flow at. (on flow at, flows place.flow flow at)

          bound_on : (i : ℕ) (lanes : LanesValue) → AreBound state.seen.flows i lanes → AreBound now.flows i lanes
          bound_on i lanes bound =
              let later = openers_stay state.seen packet seen i bound.flow bound.there in
              record { path = bound.path; flow = later.0; there = later.1; opener = later.2 ∙ bound.opener; holds = bound.holds }

          good : (seen.has_good_sum || not true) ≡ true
          good = ap (λ (b : Bool). b || false) own.good
