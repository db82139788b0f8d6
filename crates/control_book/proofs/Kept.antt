-- What one call keeps, and so every list of calls.
use Rattle.std.proofs.Common.{◌≡◌, ◌≢◌, ℕ, inl, inr, Bool, true, false, List, [], ◌∷◌, length, Option, Some, None, get_or, set, refl, sym, ap, ◌∙◌, subst, eq-eqb, get_or-set_same, get_or-set_other}
use Rattle.std.specs.Prelude.{not, ◌&&◌, ◌||◌, ◌==◌, if◌then◌else◌}
use Rattle.std.specs.List.{list_any}
use Rattle.std.proofs.Math.Bool.{or-true}
use Rattle.std.proofs.lemmas.Bool.{cases_eq, cases_lt}
use Rattle.std.proofs.lemmas.List.{set_past}
use Rattle.fallback_state.specs.declared.fall.Fall.{Fall}
use Rattle.fallback_state.specs.declared.fall.Mode.{Mode}
use Rattle.fallback_state.specs.declared.fall.Mode.TheVariants.{Starting, Sure, Identity, InfiniteSend, InfiniteReceive, InfiniteBoth, Aborted}
use Rattle.fallback_state.specs.declared.fall.Event.{Event}
use Rattle.fallback_state.specs.declared.fall.Event.TheVariants.{KeysHeard}
use Rattle.fallback_state.specs.Table.{fall_step}
use Rattle.fallback_state.proofs.Steps.{standing, aborted_kept}
use Rattle.key_material.specs.declared.address.Address.{Address}
use Rattle.address_manager.specs.Addresses.{Addresses}
use Rattle.address_manager.specs.IdSet.{is_member}
use Rattle.control_book.specs.declared.registry.PathState.{PathState}
use Rattle.control_book.specs.declared.call.ControlCall.{ControlCall}
use Rattle.control_book.specs.declared.call.Notice.{Notice}
use Rattle.control_book.specs.Registry.{state_of, idle}
use Rattle.control_book.specs.Control.{Control, is_path}
use Rattle.control_book.specs.Replies.{is_aborted, is_right, carries, resets, address_notice, notice_on}
use Rattle.control_book.specs.Steps.{after, after_event, after_peer_key, after_notice}
use Rattle.control_book.specs.Laws.{after_all, gives_key, is_fast_close, ends_announcement}

-- both ways of a choice
pub either : (P : Control → Type 0) (b : Bool) (one other : Control) → P one → P other → P (if b then one else other)
either P true one other p q = p
either P false one other p q = q

pub told : (P : Control → Type 0) (n : Notice) (path : ℕ) (c : Control) → ((id : ℕ) → P (after_notice (Notice.Withdraw id) path c)) → P c → P (after_notice n path c)
told P (Notice.Withdraw id) path c w p = w id
told P Notice.Nothing path c w p = p
told P (Notice.Announce id) path c w p = p
told P (Notice.Carrier key) path c w p = p
told P Notice.Reset path c w p = p

left_false : (a b : Bool) → a || b ≡ false → a ≡ false
left_false true b e = cc
left_false false b e = refl

right_false : (a b : Bool) → a || b ≡ false → b ≡ false
right_false true b e = cc
right_false false b e = e

-- the first call, and the rest of them
first_no : (test : ControlCall → Bool) (asked : ControlCall) (calls : List ControlCall) → list_any test (asked ∷ calls) ≡ false → test asked ≡ false
first_no test asked calls other_kind = left_false (test asked) (list_any test calls) other_kind

rest_no : (test : ControlCall → Bool) (asked : ControlCall) (calls : List ControlCall) → list_any test (asked ∷ calls) ≡ false → list_any test calls ≡ false
rest_no test asked calls other_kind = right_false (test asked) (list_any test calls) other_kind

-- Keys.

keys_once : (c : Control) (asked : ControlCall) → gives_key asked ≡ false → (after c asked).keys ≡ c.keys
keys_once c (ControlCall.Look path) e = told (λ d. d.keys ≡ c.keys) (notice_on c path) path c (λ id. refl) refl
keys_once c (ControlCall.PeerKey key) e = cc
keys_once c (ControlCall.Keys own peer) e = cc
keys_once c (ControlCall.JoinBegin path) e = either (λ d. d.keys ≡ c.keys) _ _ c refl refl
keys_once c (ControlCall.JoinHeard path token) e = either (λ d. d.keys ≡ c.keys) _ _ c refl refl
keys_once c (ControlCall.Withdraw id) e = either (λ d. d.keys ≡ c.keys) _ _ c refl refl
keys_once c (ControlCall.Echoed id) e = either (λ d. d.keys ≡ c.keys) _ _ c refl refl
keys_once c (ControlCall.Removed id) e = either (λ d. d.keys ≡ c.keys) _ _ c refl refl
keys_once c (ControlCall.FastHeard key) e = either (λ d. d.keys ≡ c.keys) _ _ c refl refl
keys_once c _ e = refl

pub keys_all : (calls : List ControlCall) (c : Control) → list_any gives_key calls ≡ false → (after_all calls c).keys ≡ c.keys
keys_all [] c other_kind = refl
keys_all (asked ∷ calls) c other_kind =
    keys_all calls (after c asked) (rest_no gives_key asked calls other_kind) ∙ keys_once c asked (first_no gives_key asked calls other_kind)

-- The mode.

aborted_step : (fall : Fall) (path : ℕ) (sole : Bool) (event : Event) → fall.mode ≡ Aborted → (fall_step fall path sole event).0.mode ≡ Aborted
aborted_step fall path sole event is =
    subst (λ (mode : Mode). (fall_step (standing mode fall.confirmed fall.joined fall.failed) path sole event).0.mode ≡ Aborted)
    (sym is) (aborted_kept fall.confirmed fall.joined fall.failed path sole event)

pub aborted_once : (c : Control) (asked : ControlCall) → c.fall.mode ≡ Aborted → (after c asked).fall.mode ≡ Aborted
aborted_once c (ControlCall.Look path) is = told (λ d. d.fall.mode ≡ Aborted) (notice_on c path) path c (λ id. is) is
aborted_once c (ControlCall.Keys own peer) is = either (λ d. d.fall.mode ≡ Aborted) (own == c.keys.own) (after_event 0 false KeysHeard (after_peer_key peer c)) c (aborted_step c.fall 0 false KeysHeard is) is
aborted_once c (ControlCall.Fell path event) is = aborted_step c.fall path _ event is
aborted_once c (ControlCall.JoinBegin path) is = either (λ d. d.fall.mode ≡ Aborted) _ _ c is is
aborted_once c (ControlCall.JoinHeard path token) is = either (λ d. d.fall.mode ≡ Aborted) _ _ c is is
aborted_once c (ControlCall.Withdraw id) is = either (λ d. d.fall.mode ≡ Aborted) _ _ c is is
aborted_once c (ControlCall.Echoed id) is = either (λ d. d.fall.mode ≡ Aborted) _ _ c is is
aborted_once c (ControlCall.Removed id) is = either (λ d. d.fall.mode ≡ Aborted) _ _ c is is
aborted_once c ControlCall.FastClose is = refl
aborted_once c (ControlCall.FastHeard key) is = either (λ d. d.fall.mode ≡ Aborted) _ _ c refl is
aborted_once c _ is = is

pub aborted_all : (calls : List ControlCall) (c : Control) → c.fall.mode ≡ Aborted → (after_all calls c).fall.mode ≡ Aborted
aborted_all [] c is = is
aborted_all (asked ∷ calls) c is = aborted_all calls (after c asked) (aborted_once c asked is)

-- Removed addresses.

abbrev IsRemoved : List PathState → ℕ → Type 0
IsRemoved paths path = (state_of paths path).removed ≡ true

removed_set : (paths : List PathState) (place path : ℕ) (state : PathState) → (IsRemoved paths place → state.removed ≡ true)
    → IsRemoved paths path → IsRemoved (set paths place state) path
removed_set paths place path state keeps is =
    elim (cases_lt place (length paths)) [
      | inl within ↦ elim (cases_eq path place) [
        | inl same ↦
            let there : get_or (set paths place state) path idle ≡ state =
            ap (λ (k : ℕ). get_or (set paths place state) k idle) same ∙ get_or-set_same paths place state idle within in
            ap (λ (s : PathState). s.removed) there ∙ keeps (sym (ap (λ (k : ℕ). (state_of paths k).removed) same) ∙ is)
        | inr other ↦ ap (λ (s : PathState). s.removed) (get_or-set_other paths place path state idle other) ∙ is
      ]
      | inr past ↦ ap (λ (xs : List PathState). (state_of xs path).removed) (set_past paths place state past) ∙ is
    ]

pub removed_once : (c : Control) (asked : ControlCall) (path : ℕ) → IsRemoved c.paths path → IsRemoved (after c asked).paths path
removed_once c (ControlCall.Look at) path is = told (λ d. IsRemoved d.paths path) (notice_on c at) at c (λ id. is) is
removed_once c (ControlCall.Keys own peer) path is = either (λ d. IsRemoved d.paths path) _ _ c is is
removed_once c (ControlCall.JoinBegin at) path is = either (λ d. IsRemoved d.paths path) _ _ c (removed_set c.paths at path _ (λ h. h) is) is
removed_once c (ControlCall.JoinHeard at token) path is = either (λ d. IsRemoved d.paths path) _ _ c is is
removed_once c (ControlCall.Live at backup) path is = removed_set c.paths at path _ (λ h. h) is
removed_once c (ControlCall.Dead at) path is = removed_set c.paths at path _ (λ h. h) is
removed_once c (ControlCall.Rate at window rtt) path is = removed_set c.paths at path _ (λ h. h) is
removed_once c (ControlCall.Withdraw id) path is = either (λ d. IsRemoved d.paths path) _ _ c (removed_set c.paths id path _ (λ h. refl) is) is
removed_once c (ControlCall.Echoed id) path is = either (λ d. IsRemoved d.paths path) _ _ c is is
removed_once c (ControlCall.Removed id) path is = either (λ d. IsRemoved d.paths path) _ _ c (removed_set c.paths id path _ (λ h. refl) is) is
removed_once c (ControlCall.FastHeard key) path is = either (λ d. IsRemoved d.paths path) _ _ c is is
removed_once c _ path is = is

-- The carrier.

carrier_once : (c : Control) (asked : ControlCall) → is_fast_close asked ≡ false → (after c asked).notices.carrier ≡ c.notices.carrier
carrier_once c (ControlCall.Look path) e = told (λ d. d.notices.carrier ≡ c.notices.carrier) (notice_on c path) path c (λ id. refl) refl
carrier_once c (ControlCall.Keys own peer) e = either (λ d. d.notices.carrier ≡ c.notices.carrier) _ _ c refl refl
carrier_once c (ControlCall.JoinBegin path) e = either (λ d. d.notices.carrier ≡ c.notices.carrier) _ _ c refl refl
carrier_once c (ControlCall.JoinHeard path token) e = either (λ d. d.notices.carrier ≡ c.notices.carrier) _ _ c refl refl
carrier_once c (ControlCall.Withdraw id) e = either (λ d. d.notices.carrier ≡ c.notices.carrier) _ _ c refl refl
carrier_once c (ControlCall.Echoed id) e = either (λ d. d.notices.carrier ≡ c.notices.carrier) _ _ c refl refl
carrier_once c (ControlCall.Removed id) e = either (λ d. d.notices.carrier ≡ c.notices.carrier) _ _ c refl refl
carrier_once c ControlCall.FastClose e = cc
carrier_once c (ControlCall.FastHeard key) e = either (λ d. d.notices.carrier ≡ c.notices.carrier) _ _ c refl refl
carrier_once c _ e = refl

-- Why a path is told to reset.

aborted_is : (mode : Mode) → is_aborted mode ≡ true → mode ≡ Aborted
aborted_is Aborted e = refl
aborted_is _ e = cc

reset_to : (b : Bool) (other : Notice) → b ≡ true → (if b then Notice.Reset else other) ≡ Notice.Reset
reset_to true other e = refl
reset_to false other e = cc

resets_to : (c : Control) (path : ℕ) → resets c path ≡ true → notice_on c path ≡ Notice.Reset
resets_to c path is = reset_to (resets c path) _ is

reset_by : (b d : Bool) (key : ℕ) (announced withdrawn : Option ℕ)
    → (if b then Notice.Reset else (if d then Notice.Carrier key else address_notice announced withdrawn)) ≡ Notice.Reset → b ≡ true
reset_by true d key announced withdrawn e = refl
reset_by false true key announced withdrawn e = cc
reset_by false false key (Some id) withdrawn e = cc
reset_by false false key None (Some id) e = cc
reset_by false false key None None e = cc

resets_from : (a a' n n' r r' : Bool) → (a ≡ true → a' ≡ true) → n' ≡ n → (r ≡ true → r' ≡ true) → a && n || r ≡ true → a' && n' || r' ≡ true
resets_from true a' true n' r r' pa pn pr e = rw (pa refl, pn) refl
resets_from true a' false n' true r' pa pn pr e = rw (pr refl) (or-true (a' && n'))
resets_from true a' false n' false r' pa pn pr e = cc
resets_from false a' n n' true r' pa pn pr e = rw (pr refl) (or-true (a' && n'))
resets_from false a' n n' false r' pa pn pr e = cc

resets_once : (c : Control) (asked : ControlCall) (path : ℕ) → is_fast_close asked ≡ false → resets c path ≡ true → resets (after c asked) path ≡ true
resets_once c asked path other_kind is =
    resets_from (is_aborted c.fall.mode) (is_aborted (after c asked).fall.mode) (not (carries c path)) (not (carries (after c asked) path))
    (state_of c.paths path).removed (state_of (after c asked).paths path).removed
    (λ e. ap is_aborted (aborted_once c asked (aborted_is c.fall.mode e)))
    (ap (λ (carrier : Option ℕ). not (is_path carrier path)) (carrier_once c asked other_kind)) (removed_once c asked path) is

resets_all : (calls : List ControlCall) (c : Control) (path : ℕ) → list_any is_fast_close calls ≡ false → resets c path ≡ true → resets (after_all calls c) path ≡ true
resets_all [] c path other_kind is = is
resets_all (asked ∷ calls) c path other_kind is =
    resets_all calls (after c asked) path (rest_no is_fast_close asked calls other_kind) (resets_once c asked path (first_no is_fast_close asked calls other_kind) is)

pub reset_stays : (calls : List ControlCall) (c : Control) (path : ℕ) → notice_on c path ≡ Notice.Reset
    → list_any is_fast_close calls ≡ false → notice_on (after_all calls c) path ≡ Notice.Reset
reset_stays calls c path was other_kind =
    resets_to (after_all calls c) path (resets_all calls c path other_kind (reset_by (resets c path) (carries c path) _ _ _ was))

removed_all : (calls : List ControlCall) (c : Control) (path : ℕ) → IsRemoved c.paths path → IsRemoved (after_all calls c).paths path
removed_all [] c path is = is
removed_all (asked ∷ calls) c path is = removed_all calls (after c asked) path (removed_once c asked path is)

pub removed_resets : (calls : List ControlCall) (c : Control) (path : ℕ) → IsRemoved c.paths path → notice_on (after_all calls c) path ≡ Notice.Reset
removed_resets calls c path is =
    let d = after_all calls c in
    let removed : IsRemoved d.paths path = removed_all calls c path is in
    let why : resets d path ≡ true =
    ap (λ (b : Bool). is_aborted d.fall.mode && not (carries d path) || b) removed ∙ or-true (is_aborted d.fall.mode && not (carries d path)) in
    resets_to d path why

-- Announcements.

distinct : (a b : ℕ) → (a == b) ≡ false → a ≢ b
distinct a b other_kind = λ e. let yes : (a == b) ≡ true = eq-eqb a b e in cc

member_set : (ids : List Bool) (place id : ℕ) (member : Bool) → (place ≡ id → member ≡ true) → is_member ids id ≡ true → is_member (set ids place member) id ≡ true
member_set ids place id member keeps is =
    elim (cases_lt place (length ids)) [
      | inl within ↦ elim (cases_eq id place) [
        | inl same ↦
            ap (λ (k : ℕ). get_or (set ids place member) k false) same ∙ get_or-set_same ids place member false within ∙ keeps (sym same)
        | inr other ↦ get_or-set_other ids place id member false other ∙ is
      ]
      | inr past ↦ ap (λ (xs : List Bool). is_member xs id) (set_past ids place member past) ∙ is
    ]

either_addresses : (P : Addresses Address → Type 0) (b : Bool) (one other : Addresses Address) → P one → P other → P (if b then one else other)
either_addresses P true one other p q = p
either_addresses P false one other p q = q

abbrev IsDue : ℕ → Control → Type 0
IsDue id c = is_member c.addresses.due id ≡ true

due_once : (c : Control) (asked : ControlCall) (id : ℕ) → ends_announcement id asked ≡ false → IsDue id c → IsDue id (after c asked)
due_once c (ControlCall.Look path) id e is = told (IsDue id) (notice_on c path) path c (λ other. is) is
due_once c (ControlCall.PeerKey key) id e is = is
due_once c (ControlCall.Keys own peer) id e is = either (IsDue id) _ _ c is is
due_once c (ControlCall.Fell path event) id e is = is
due_once c (ControlCall.JoinBegin path) id e is = either (IsDue id) _ _ c is is
due_once c (ControlCall.JoinHeard path token) id e is = either (IsDue id) _ _ c is is
due_once c (ControlCall.Live path backup) id e is = is
due_once c (ControlCall.Dead path) id e is = is
due_once c (ControlCall.Backup path on) id e is = is
due_once c (ControlCall.Rate path window rtt) id e is = is
due_once c (ControlCall.Announce other) id e is = member_set c.addresses.due other id true (λ same. refl) is
due_once c (ControlCall.Withdraw other) id e is = either (IsDue id) _ _ c is is
due_once c (ControlCall.Heard other address port hmac) id e is =
    either_addresses (λ a. is_member a.due id ≡ true) (is_right other address port hmac c) _ c.addresses is is
due_once c (ControlCall.Echoed other) id e is =
    either (IsDue id) _ _ c (member_set c.addresses.due other id false (λ same. absurd (distinct other id e same)) is) is
due_once c (ControlCall.Removed other) id e is =
    either (IsDue id) _ _ c (member_set c.addresses.due other id false (λ same. absurd (distinct other id e same)) is) is
due_once c ControlCall.FastClose id e is = is
due_once c (ControlCall.FastHeard key) id e is = either (IsDue id) _ _ c is is

pub due_all : (calls : List ControlCall) (c : Control) (id : ℕ) → IsDue id c → list_any (ends_announcement id) calls ≡ false → IsDue id (after_all calls c)
due_all [] c id is other_kind = is
due_all (asked ∷ calls) c id is other_kind =
    due_all calls (after c asked) id (due_once c asked id (first_no (ends_announcement id) asked calls other_kind) is) (rest_no (ends_announcement id) asked calls other_kind)
