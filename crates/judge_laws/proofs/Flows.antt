-- A flow that is open keeps its connection, and a side its key.
use Rattle.std.proofs.Common.{◌≡◌, refl, ap, ◌∙◌, sym, subst, ℕ, Bool, true, false, not, ◌&&◌, ◌||◌, is_none, if◌then◌else◌, ◌⊎◌, inl, inr, Option, Some, None, List, [], ◌∷◌}
use Rattle.std.proofs.Math.ListN.{set}
use Rattle.std.specs.List.{slice_get}
use Rattle.sides.specs.declared.side.Side.{Side}
use Rattle.sides.specs.declared.side.Side.TheVariants.{A, B}
use Rattle.segment_wire.specs.Options.{option_octets}
use Rattle.capture_reader.specs.Seen.{Seen}
use Rattle.seen_connections.specs.declared.asked.Answer.{Answer}
use Rattle.seen_connections.specs.declared.asked.Answer.TheVariants as answer
use Rattle.seen_connections.specs.declared.connections.Keys.{Keys}
use Rattle.seen_connections.specs.declared.flow.Belongs.{Belongs}
use Rattle.seen_connections.specs.declared.flow.Flow.{Flow}
use Rattle.seen_connections.specs.declared.flow.Opened.{Opened}
use Rattle.seen_connections.specs.declared.flow.Opening.{Opening}
use Rattle.seen_connections.specs.declared.flow_list.Found.{Found}
use Rattle.seen_connections.specs.Asked.{first_answer, first_asked}
use Rattle.seen_connections.specs.Connections.{IsThere, SeenFlows, answer_of, answered, begins, begun_with, connections_after, ended, flow_after, followed, gone_on, key_of, learnt_by, taken}
use Rattle.seen_connections.specs.Flows.{begun, counted, flow_between, going_on, is_acknowledged_by, is_between, last_that, unless_over}
use Rattle.seen_connections.specs.Keys.{belongs_by}
use Rattle.seen_connections.specs.SameEnds.{ends_in, same_end}
use Rattle.rule_book.specs.Judged.{with_key}
use Rattle.judge_laws.proofs.Books.{before_end, set_either, set_there}

-- ---- flows

abbrev pub FlowsGo : List Flow → List Flow → Type 0
FlowsGo old new = (i : ℕ) (flow : Flow) (b : Belongs) (o : Opened) → slice_get old i ≡ Some flow → flow.belongs ≡ Some b → flow.opened ≡ Some o
    → (later : Flow) × (slice_get new i ≡ Some later) × (later.belongs ≡ Some b) × (later.opened ≡ Some o)

pub flows_same : (flows : List Flow) → FlowsGo flows flows
flows_same flows i flow b o h belongs opened = (flow, h, belongs, opened)

some_is : {X : Type 0} → (x y : X) → Some x ≡ Some y → x ≡ y
some_is x y e = cc

flows_set : (flows : List Flow) (i : ℕ) (was new : Flow) → slice_get flows i ≡ Some was
    → ((b : Belongs) (o : Opened) → was.belongs ≡ Some b → was.opened ≡ Some o → (new.belongs ≡ Some b) × (new.opened ≡ Some o)) → FlowsGo flows (set flows i new)
flows_set flows i was new there stays j flow b o h belongs opened = by (set_either flows i j new flow h)
  where
    by : ((i ≡ j) × (slice_get (set flows i new) j ≡ Some new)) ⊎ (slice_get (set flows i new) j ≡ Some flow)
        → (later : Flow) × (slice_get (set flows i new) j ≡ Some later) × (later.belongs ≡ Some b) × (later.opened ≡ Some o)
    by (inl both) =
        let same : was ≡ flow = some_is was flow (sym there ∙ ap (slice_get flows) both.0 ∙ h) in
        let kept = stays b o (ap (λ (f : Flow). f.belongs) same ∙ belongs) (ap (λ (f : Flow). f.opened) same ∙ opened) in
        (new, both.1, kept.0, kept.1)
    by (inr other) = (flow, other, belongs, opened)

there_over : (flows : List Flow) (i : ℕ) (flow : Option Flow) → slice_get flows i ≡ flow → IsThere flows (unless_over i flow)
there_over flows i None e = tt
there_over flows i (Some flow) e = by flow.is_over
  where
    by : (b : Bool) → IsThere flows (if b then None else Some (record { index = i; flow = flow }))
    by true = tt
    by false = e

there_on : (flows : List Flow) (i : Option ℕ) → IsThere flows (going_on flows i)
there_on flows None = tt
there_on flows (Some i) = there_over flows i (slice_get flows i) refl

-- a flow that is open isn't opened again
no_answer : (seen : Seen) (flow : Flow) (o : Opened) → flow.opened ≡ Some o → answer_of seen flow ≡ None
no_answer seen flow o e =
    by (not seen.segment.head.syn) (not seen.segment.head.ack_set) flow.opened
    (if not (same_end seen.source flow.other) || not (is_acknowledged_by seen.segment.head.ack flow) then None else first_answer flow.opening (option_octets seen.segment.options)) e
  where
    by : (a b : Bool) (opened : Option Opened) (rest : Option Answer) → opened ≡ Some o → (if a || (b || not (is_none opened)) then None else rest) ≡ None
    by true b opened rest e = refl
    by false true opened rest e = refl
    by false false (Some x) rest e = refl
    by false false None rest e = cc

followed_go : (state : SeenFlows) (packet : ℕ) (seen : Seen) (index : ℕ) (was : Flow) (is_cut : Bool) → slice_get state.flows index ≡ Some was
    → FlowsGo state.flows (followed state packet seen index (counted is_cut true was)).now.flows
followed_go state packet seen index was is_cut there =
    let flow = counted is_cut true was in
    flows_set state.flows index was (flow_after seen (answered state seen flow (answer_of seen flow)) flow) there (λ b o belongs opened.
    let none = no_answer seen flow o opened in (
      ap (λ (a : Option Answer). (answered state seen flow a).belongs) none ∙ belongs,
      ap (λ (a : Option Answer). (answered state seen flow a).opened) none ∙ opened,
    ))

gone_go : (state : SeenFlows) (packet : ℕ) (seen : Seen) (is_good : Bool) (found : Option Found) → IsThere state.flows found
    → FlowsGo state.flows (gone_on state packet seen is_good found).now.flows
gone_go state packet seen is_good None there = flows_same state.flows
gone_go state packet seen true (Some found) there = followed_go state packet seen found.index found.flow seen.is_cut there
gone_go state packet seen false (Some found) there =
    flows_set state.flows found.index found.flow (counted seen.is_cut false found.flow) there (λ b o belongs opened. (belongs, opened))

ended_go : (flows : List Flow) (found : Option Found) → IsThere flows found → FlowsGo flows (ended found flows)
ended_go flows None there = flows_same flows
ended_go flows (Some found) there =
    flows_set flows found.index found.flow (record found.flow { is_over = true }) there (λ b o belongs opened. (belongs, opened))

begun_go : (state : SeenFlows) (packet : ℕ) (seen : Seen) (found : Option Found) (opening : Option Opening) → IsThere state.flows found
    → FlowsGo state.flows (begun_with state packet seen found opening).now.flows
begun_go state packet seen found None there = ended_go state.flows found there
begun_go state packet seen found (Some opening) there = λ i flow b o h belongs opened.
    (flow, before_end state.flows (begun packet seen opening (belongs_by opening state.known) ∷ []) i flow h, belongs, opened)

pub taken_flows : (state : SeenFlows) (packet : ℕ) (seen : Seen) (is_good : Bool) → FlowsGo state.flows (taken state packet seen is_good).now.flows
taken_flows state packet seen is_good = by (is_good && begins seen found)
  where
    found : Option Found
    found = flow_between (ends_in seen) state.flows

    there : IsThere state.flows found
    there = there_on state.flows (last_that (is_between (ends_in seen)) 0 state.flows)

    opening : Option Opening
    opening = first_asked (option_octets seen.segment.options)

    by : (b : Bool) → FlowsGo state.flows (if b then begun_with state packet seen found opening else gone_on state packet seen is_good found).now.flows
    by true = begun_go state packet seen found opening there
    by false = gone_go state packet seen is_good found there

-- ---- keys

-- a key that is known stays
abbrev pub KeyStays : Keys → Keys → Type 0
KeyStays old new = (side : Side) (key : ℕ) → key_of side old ≡ Some key → key_of side new ≡ Some key

abbrev pub KeysGo : List Keys → List Keys → Type 0
KeysGo old new = (c : ℕ) (keys : Keys) → slice_get old c ≡ Some keys → (later : Keys) × (slice_get new c ≡ Some later) × KeyStays keys later

pub keys_same : (all : List Keys) → KeysGo all all
keys_same all c keys h = (keys, h, λ side key is. is)

keys_after : (state : SeenFlows) (flow : ℕ) (told : Option Answer) → KeysGo state.connections (connections_after state flow told)
keys_after state flow None = keys_same state.connections
keys_after state flow (Some (answer.Join join)) = keys_same state.connections
keys_after state flow (Some (answer.Key key checksums)) = λ c keys h.
    (keys, before_end state.connections (record { a = None; b = key; checksums = checksums; flow = flow } ∷ []) c keys h, λ side key is. is)

gone_keys : (state : SeenFlows) (packet : ℕ) (seen : Seen) (is_good : Bool) (found : Option Found)
    → KeysGo state.connections (gone_on state packet seen is_good found).now.connections
gone_keys state packet seen is_good None = keys_same state.connections
gone_keys state packet seen true (Some found) = keys_after state found.index (answer_of seen (counted seen.is_cut true found.flow))
gone_keys state packet seen false (Some found) = keys_same state.connections

begun_keys : (state : SeenFlows) (packet : ℕ) (seen : Seen) (found : Option Found) (opening : Option Opening)
    → KeysGo state.connections (begun_with state packet seen found opening).now.connections
begun_keys state packet seen found None = keys_same state.connections
begun_keys state packet seen found (Some opening) = keys_same state.connections

pub taken_keys : (state : SeenFlows) (packet : ℕ) (seen : Seen) (is_good : Bool) → KeysGo state.connections (taken state packet seen is_good).now.connections
taken_keys state packet seen is_good = by (is_good && begins seen found)
  where
    found : Option Found
    found = flow_between (ends_in seen) state.flows

    opening : Option Opening
    opening = first_asked (option_octets seen.segment.options)

    by : (b : Bool) → KeysGo state.connections (if b then begun_with state packet seen found opening else gone_on state packet seen is_good found).now.connections
    by true = begun_keys state packet seen found opening
    by false = gone_keys state packet seen is_good found

-- ---- A's key, where a segment told it

learnt_flows : (state : SeenFlows) (connection a : ℕ) (keys : Option Keys) → (learnt_by state connection a keys).flows ≡ state.flows
learnt_flows state connection a None = refl
learnt_flows state connection a (Some keys) = refl

pub key_flows : (connection : ℕ) (before told : Option ℕ) (state : SeenFlows) → (with_key connection before told state).flows ≡ state.flows
key_flows connection None (Some a) state = learnt_flows state connection a (slice_get state.connections connection)
key_flows connection None None state = refl
key_flows connection (Some known) None state = refl
key_flows connection (Some known) (Some a) state = refl

-- the keys behind a segment
pub record AreTold (before told : Keys) : Type 0 where
  pub a : (key : ℕ) → before.a ≡ Some key → told.a ≡ Some key
  pub b : told.b ≡ before.b

pub told_stay : (before told : Keys) → AreTold before told → KeyStays before told
told_stay before told are A key is = are.a key is
told_stay before told are B key is = ap (λ (b : ℕ). Some b) are.b ∙ is

-- stand in the place of those before it
pub record ArePut (told : Keys) (all : List Keys) (connection : ℕ) : Type 0 where
  pub keys : Keys
  pub there : slice_get all connection ≡ Some keys
  pub same : (side : Side) → key_of side keys ≡ key_of side told

keys_learnt : (state : SeenFlows) (connection a : ℕ) (before told : Keys) → slice_get state.connections connection ≡ Some before → AreTold before told → told.a ≡ Some a
    → ArePut told (learnt_by state connection a (slice_get state.connections connection)).connections connection
keys_learnt state connection a before told there are key = record {
  keys = record before { a = Some a };
  there =
      ap (λ (k : Option Keys). slice_get (learnt_by state connection a k).connections connection) there
      ∙ set_there state.connections connection (record before { a = Some a }) before there;
  same = alike;
}
  where
    alike : (side : Side) → key_of side (record before { a = Some a }) ≡ key_of side told
    alike A = sym key
    alike B = ap (λ (b : ℕ). Some b) (sym are.b)

pub keys_put : (connection : ℕ) (before told : Keys) (state : SeenFlows) → slice_get state.connections connection ≡ Some before → AreTold before told
    → ArePut told (with_key connection before.a told.a state).connections connection
keys_put connection before told state there are = by before.a refl told.a refl
  where
    old : before.a ≡ told.a → ArePut told state.connections connection
    old same = record { keys = before; there = there; same = alike }
      where
        alike : (side : Side) → key_of side before ≡ key_of side told
        alike A = same
        alike B = ap (λ (b : ℕ). Some b) (sym are.b)

    by : (o : Option ℕ) → before.a ≡ o → (t : Option ℕ) → told.a ≡ t → ArePut told (with_key connection o t state).connections connection
    by None e None f = old (e ∙ sym f)
    by None e (Some a) f = keys_learnt state connection a before told there are f
    by (Some known) e None f = old (e ∙ sym (are.a known e))
    by (Some known) e (Some a) f = old (e ∙ sym (are.a known e))

-- and all others stay
learnt_go : (state : SeenFlows) (connection a : ℕ) (before : Keys) → slice_get state.connections connection ≡ Some before → before.a ≡ None
    → KeysGo state.connections (set state.connections connection (record before { a = Some a }))
learnt_go state connection a before there none c keys h = by (set_either state.connections connection c (record before { a = Some a }) keys h)
  where
    new : List Keys
    new = set state.connections connection (record before { a = Some a })

    stays : before ≡ keys → KeyStays keys (record before { a = Some a })
    stays same A key is = absurd (no_some key (sym none ∙ ap (λ (k : Keys). k.a) same ∙ is))
      where
        no_some : (k : ℕ) → None ≡ Some k → ⊥
        no_some k e = cc
    stays same B key is = ap (λ (k : Keys). Some k.b) same ∙ is

    by : ((connection ≡ c) × (slice_get new c ≡ Some (record before { a = Some a }))) ⊎ (slice_get new c ≡ Some keys)
        → (later : Keys) × (slice_get new c ≡ Some later) × KeyStays keys later
    by (inl both) = (record before { a = Some a }, both.1, stays (some_is before keys (sym there ∙ ap (slice_get state.connections) both.0 ∙ h)))
    by (inr other) = (keys, other, λ side key is. is)

pub put_go : (connection : ℕ) (before : Keys) (told : Option ℕ) (state : SeenFlows) → slice_get state.connections connection ≡ Some before
    → KeysGo state.connections (with_key connection before.a told state).connections
put_go connection before told state there = by before.a refl told
  where
    by : (o : Option ℕ) → before.a ≡ o → (t : Option ℕ) → KeysGo state.connections (with_key connection o t state).connections
    by None e None = keys_same state.connections
    by None e (Some a) =
        subst (λ (k : Option Keys). KeysGo state.connections (learnt_by state connection a k).connections) (sym there) (learnt_go state connection a before there e)
    by (Some known) e None = keys_same state.connections
    by (Some known) e (Some a) = keys_same state.connections
