-- A connection has a book and a flow has lanes; a flow is of a connection only where one is there.
use Rattle.std.proofs.Common.{◌≡◌, refl, sym, ap, ◌∙◌, subst, ℕ, ◌+◌, ◌≤◌, ◌||◌, not, Bool, true, false, if◌then◌else◌, Option, Some, None, is_some, List, [], ◌∷◌, ◌++◌, length, length-append, nat_lt, arith}
use Rattle.std.specs.Prelude.{IfSome}
use Rattle.std.specs.List.{slice_get}
use Rattle.std.proofs.lemmas.Bool.{false≢true, ltb-false, ltb-true}
use Rattle.std.proofs.lemmas.List.{length-set}
use Rattle.std.proofs.lemmas.Option.{slice_get_within}
use Rattle.capture_reader.specs.Seen.{Seen}
use Rattle.judge_laws.proofs.Flows.{key_flows}
use Rattle.rule_book.specs.Judged.{empty_book, empty_lanes, grown, grown_to, judged, judged_belonging, judged_flow, judged_in_flow, judged_known, judged_place, judged_taken, token_in, with_key, with_wrong_token}
use Rattle.rule_book.specs.State.{BookValue, JudgedValue, LanesValue}
use Rattle.seen_connections.specs.Connections.{SeenFlows, answer_of, answered, begins, begun_with, connections_after, ended, flow_after, gone_on, known_after, learnt_by, taken}
use Rattle.seen_connections.specs.Flows.{begun, counted, flow_between}
use Rattle.seen_connections.specs.Keys.{belongs_by}
use Rattle.seen_connections.specs.SameEnds.{ends_in}
use Rattle.seen_connections.specs.declared.asked.Answer.TheVariants as answer
use Rattle.seen_connections.specs.declared.asked.Answer.{Answer}
use Rattle.seen_connections.specs.declared.connections.Keys.{Keys}
use Rattle.seen_connections.specs.declared.connections.Place.{Place}
use Rattle.seen_connections.specs.declared.connections.WrongToken.{WrongToken}
use Rattle.seen_connections.specs.declared.flow.Belongs.{Belongs}
use Rattle.seen_connections.specs.declared.flow.Flow.{Flow}
use Rattle.seen_connections.specs.declared.flow.Opening.TheVariants as opening
use Rattle.seen_connections.specs.declared.flow.Opening.{Opening}
use Rattle.seen_connections.specs.declared.flow_list.Found.{Found}
use Rattle.seen_connections.specs.declared.known_keys.KnownKey.{KnownKey}
use Rattle.sides.specs.declared.side.Side.{Side}
use Rattle.own_runs.proofs.Own.{AnswerIs, Drawn, IsOwn}
use Rattle.own_runs.proofs.OwnFlows.{Each, counted_on, each_end, each_set, told}
use Rattle.own_runs.proofs.TokenFlows.{AnyKnown, IsNamed, NamesIts}
use Rattle.own_runs.proofs.TokenSegments.{Asked, IsBehind}
use Rattle.own_runs.proofs.TokenState.{TokensHold, begins_none, found_there}

-- ---- flows and connections

pub record Sizes (state : SeenFlows) : Type 0 where
  pub known : AnyKnown state.known → 1 ≤ length state.connections
  pub belongs : Each (λ f. is_some f.belongs ≡ true → 1 ≤ length state.connections) state.flows

-- one more at most
abbrev Grows : {X : Type 0} → List X → List X → Type 0
Grows xs ys = (length xs ≤ length ys) × (length ys ≤ length xs + 1)

names_known : (o : Opening) (known : List KnownKey) → is_some (belongs_by o known) ≡ true → AnyKnown known
names_known (opening.Capable checksums) known some = absurd (false≢true some)
names_known (opening.Join token nonce) [] some = absurd (false≢true some)
names_known (opening.Join token nonce) (first ∷ known) some = tt

module _ (d : Drawn) (U T V W : Type 0) (state : SeenFlows) (packet : ℕ) (seen : Seen) (own : IsOwn d seen) (is : IsBehind U T V W d seen own) (h : TokensHold d U T state)
    (sizes : Sizes state) where
  abbrev found : Option Found
  found = flow_between (ends_in seen) state.flows

  abbrev now : SeenFlows
  now = (taken state packet seen true).now

  abbrev Step : SeenFlows → Type 0
  Step next = Sizes next × Grows state.connections next.connections × Grows state.flows next.flows

  begun_sizes : (o : Option Opening) → begins seen found ≡ true → Step (begun_with state packet seen found o).now
  begun_sizes None begin =
      subst (λ (f : Option Found). Step (record state { flows = ended f state.flows; last = packet })) (sym (begins_none d U T V W state packet seen own is h begin))
      (record { known = sizes.known; belongs = sizes.belongs }, (omega arith, omega arith), (omega arith, omega arith))
  begun_sizes (Some o) begin =
      let new = begun packet seen o (belongs_by o state.known) in
      let more = length-append state.flows (new ∷ []) in (
        record {
          known = sizes.known;
          belongs = each_end (λ f. is_some f.belongs ≡ true → 1 ≤ length state.connections) state.flows new sizes.belongs (λ some. sizes.known (names_known o state.known some));
        },
        (omega arith, omega arith),
        (omega (arith, more), omega (arith, more)),
      )

  after_known : (index : ℕ) (a : Option Answer) → AnyKnown (known_after state a) → 1 ≤ length (connections_after state index a)
  after_known index None any = sizes.known any
  after_known index (Some (answer.Key key checksums)) any = let more = length-append state.connections (record { a = None; b = key; checksums = checksums; flow = index } ∷ []) in omega (arith, more)
  after_known index (Some (answer.Join join)) any = sizes.known any

  after_grows : (index : ℕ) (a : Option Answer) → Grows state.connections (connections_after state index a)
  after_grows index None = (omega arith, omega arith)
  after_grows index (Some (answer.Key key checksums)) =
      let more = length-append state.connections (record { a = None; b = key; checksums = checksums; flow = index } ∷ []) in (omega (arith, more), omega (arith, more))
  after_grows index (Some (answer.Join join)) = (omega arith, omega arith)

  answer_belongs : (path index : ℕ) (flow : Flow) (a : Option Answer) → IfSome a (AnswerIs d path flow.opening) → IsNamed flow → (is_some flow.belongs ≡ true → 1 ≤ length state.connections)
      → is_some (flow_after seen (answered state seen flow a) flow).belongs ≡ true → 1 ≤ length (connections_after state index a)
  answer_belongs path index flow None said named was some = was some
  answer_belongs path index flow (Some (answer.Key key checksums)) said named was some =
      let more = length-append state.connections (record { a = None; b = key; checksums = checksums; flow = index } ∷ []) in omega (arith, more)
  answer_belongs path index flow (Some (answer.Join join)) said named was some = was (by flow.opening said named)
    where
      by : (o : Opening) → AnswerIs d path o (answer.Join join) → NamesIts o flow.belongs → is_some flow.belongs ≡ true
      by (opening.Capable checksums) said named = absurd said
      by (opening.Join token nonce) said named = named

  gone_sizes : (f : Option Found) → found ≡ f → Step (gone_on state packet seen true f).now
  gone_sizes None e = (record { known = sizes.known; belongs = sizes.belongs }, (omega arith, omega arith), (omega arith, omega arith))
  gone_sizes (Some f) e =
      let there = (found_there state.flows (ends_in seen) f e).0 in
      let it = counted seen.is_cut true f.flow in
      let a = answer_of seen it in
      let on = h.own.flows f.index f.flow there in
      let next = flow_after seen (answered state seen it a) it in
      let grows = after_grows f.index a in
      let least = grows.0 in
      let same = length-set state.flows f.index next in (
        record {
          known = after_known f.index a;
          belongs = each_set (λ g. is_some g.belongs ≡ true → 1 ≤ length (connections_after state f.index a)) state.flows f.index next
              (λ i g at some. let was = sizes.belongs i g at some in omega (arith, was, least))
              (answer_belongs on.0 f.index it a (told d state packet seen own h.own on.0 it (counted_on d state packet seen own h.own on.0 f.flow on.1)) (h.named f.index f.flow there)
              (sizes.belongs f.index f.flow there));
        },
        grows,
        (omega (arith, same), omega (arith, same)),
      )

  pub taken_sizes : Step now
  taken_sizes = by (begins seen found) refl
    where
      by : (b : Bool) → begins seen found ≡ b → Step (if b then begun_with state packet seen found (Asked seen) else gone_on state packet seen true found).now
      by true begin = begun_sizes (Asked seen) begin
      by false none = gone_sizes found refl

-- A's key
learnt_sizes : (state : SeenFlows) (connection a : ℕ) (keys : Option Keys) → slice_get state.connections connection ≡ keys → Sizes state
    → Sizes (learnt_by state connection a keys) × (length (learnt_by state connection a keys).connections ≡ length state.connections)
learnt_sizes state connection a None there h = (h, refl)
learnt_sizes state connection a (Some keys) there h =
    let same = length-set state.connections connection (record keys { a = Some a }) in
    let within = slice_get_within state.connections connection keys there in (
      record {
        known = λ any. omega (arith, same, within);
        belongs = λ i f at some. omega (arith, same, within);
      },
      same,
    )

key_sizes : (connection : ℕ) (before told : Option ℕ) (state : SeenFlows) → Sizes state
    → Sizes (with_key connection before told state) × (length (with_key connection before told state).connections ≡ length state.connections)
key_sizes connection None (Some a) state h = learnt_sizes state connection a (slice_get state.connections connection) refl h
key_sizes connection None None state h = (h, refl)
key_sizes connection (Some known) None state h = (h, refl)
key_sizes connection (Some known) (Some a) state h = (h, refl)

-- ---- books and lanes

pub record AreCounted (state : JudgedValue) : Type 0 where
  pub sizes : Sizes state.seen
  pub books : length state.books ≡ length state.seen.connections
  pub lanes : length state.lanes ≡ length state.seen.flows

grown_length : {X : Type 0} (count : ℕ) (one : X) (xs : List X) → length xs ≤ count → count ≤ length xs + 1 → length (grown_to count one xs) ≡ count
grown_length {X} count one xs least most = by (nat_lt (length xs) count) refl
  where
    by : (b : Bool) → nat_lt (length xs) count ≡ b → length (if b then xs ++ one ∷ [] else xs) ≡ count
    by true more = let less = ltb-true (length xs) count more in let all = length-append xs (one ∷ []) in omega (arith, all, less, most)
    by false none = let low = ltb-false (length xs) count none in omega (arith, low, least)

pub wrong_seen : (wrong : Option WrongToken) (state : JudgedValue) → (with_wrong_token wrong state).seen ≡ state.seen
wrong_seen None state = refl
wrong_seen (Some wrong) state = refl

token_length : (book : Option BookValue) (wrong : WrongToken) (books : List BookValue) → length (token_in book wrong books) ≡ length books
token_length None wrong books = refl
token_length (Some book) wrong books = length-set books wrong.belongs.connection _

wrong_counted : (wrong : Option WrongToken) (state : JudgedValue) → AreCounted state → AreCounted (with_wrong_token wrong state)
wrong_counted None state h = h
wrong_counted (Some wrong) state h =
    record { sizes = h.sizes; books = token_length (slice_get state.books wrong.belongs.connection) wrong state.books ∙ h.books; lanes = h.lanes }

module _ (at : Option Side) (packet : ℕ) (seen : Seen) where
  known_counted : (index : ℕ) (flow : Flow) (belongs : Belongs) (keys : Option Keys) (book : Option BookValue) (lanes : Option LanesValue) (state : JudgedValue) → AreCounted state
      → AreCounted (judged_known at packet seen index flow belongs keys book lanes state)
      × ((judged_known at packet seen index flow belongs keys book lanes state).seen.flows ≡ state.seen.flows)
  known_counted index flow belongs (Some keys) (Some book) (Some lanes) state h =
      let told = judged_flow at packet seen index flow belongs keys (record { book = book; lanes = lanes }) in
      let it = key_sizes belongs.connection keys.a told.keys.a state.seen h.sizes in
      let flows = key_flows belongs.connection keys.a told.keys.a state.seen in (
        record {
          sizes = it.0;
          books = length-set state.books belongs.connection told.left.book ∙ h.books ∙ sym it.1;
          lanes = length-set state.lanes index told.left.lanes ∙ h.lanes ∙ sym (ap (λ (fs : List Flow). length fs) flows);
        },
        flows,
      )
  known_counted index flow belongs (Some keys) (Some book) None state h = (h, refl)
  known_counted index flow belongs (Some keys) None lanes state h = (h, refl)
  known_counted index flow belongs None book lanes state h = (h, refl)

  belonging_counted : (index : ℕ) (flow : Flow) (belongs : Option Belongs) (state : JudgedValue) → AreCounted state
      → AreCounted (judged_belonging at packet seen index flow belongs state) × ((judged_belonging at packet seen index flow belongs state).seen.flows ≡ state.seen.flows)
  belonging_counted index flow None state h = (h, refl)
  belonging_counted index flow (Some belongs) state h =
      known_counted index flow belongs (slice_get state.seen.connections belongs.connection) (slice_get state.books belongs.connection) (slice_get state.lanes index) state h

  in_flow_counted : (index : ℕ) (flow : Option Flow) (state : JudgedValue) → AreCounted state
      → AreCounted (judged_in_flow at packet seen index flow state) × ((judged_in_flow at packet seen index flow state).seen.flows ≡ state.seen.flows)
  in_flow_counted index None state h = (h, refl)
  in_flow_counted index (Some flow) state h = belonging_counted index flow flow.belongs state h

  place_counted : (place : Option Place) (state : JudgedValue) → AreCounted state
      → AreCounted (judged_place at packet seen place state) × ((judged_place at packet seen place state).seen.flows ≡ state.seen.flows)
  place_counted None state h = (h, refl)
  place_counted (Some place) state h =
      let told = with_wrong_token place.wrong_token state in
      let it = in_flow_counted place.flow (slice_get told.seen.flows place.flow) told (wrong_counted place.wrong_token state h) in
      (it.0, it.1 ∙ ap (λ (x : SeenFlows). x.flows) (wrong_seen place.wrong_token state))

-- behind a segment, whose flows are those that it leaves
module _ (d : Drawn) (U T V W : Type 0) (state : JudgedValue) (packet : ℕ) (seen : Seen) (own : IsOwn d seen) (is : IsBehind U T V W d seen own) (h : TokensHold d U T state.seen)
    (at : Option Side) (counts : AreCounted state) where
  abbrev next : SeenFlows
  next = (taken state.seen packet seen true).now

  pub grown_counted : AreCounted (grown next state)
  grown_counted =
      let it = taken_sizes d U T V W state.seen packet seen own is h counts.sizes in
      let books = counts.books in
      let lanes = counts.lanes in
      let connections = it.1 in
      let flows = it.2 in
      record {
        sizes = it.0;
        books = grown_length (length next.connections) empty_book state.books (let low = connections.0 in omega (arith, books, low)) (let high = connections.1 in omega (arith, books, high));
        lanes = grown_length (length next.flows) empty_lanes state.lanes (let low = flows.0 in omega (arith, lanes, low)) (let high = flows.1 in omega (arith, lanes, high));
      }

  pub judged_counted : AreCounted (judged at true state packet seen) × ((judged at true state packet seen).seen.flows ≡ next.flows)
  judged_counted =
      subst (λ (b : Bool). AreCounted (judged_taken at packet seen (taken state.seen packet seen b) state) × ((judged_taken at packet seen (taken state.seen packet seen b) state).seen.flows ≡ next.flows))
      (sym good) (place_counted at packet seen (taken state.seen packet seen true).place (grown next state) grown_counted)
    where
      good : (seen.has_good_sum || not true) ≡ true
      good = ap (λ (b : Bool). b || false) own.good
