-- An id whose announcement is due is wanted by the calls that the control book took: since it was to be announced last, neither its echo
-- nor its removal was heard.
--
-- What holds of a value whose type a crate keeps to itself is said and proved without its name: `IfSome (first_sends
-- ..) (λ t. ..)` in a law, and its cases by what it is made of (`first_noted` of `world_laws` goes by the duty, not by
-- the kind of the segment). A definition of a library that the crate doesn't use is met through one that uses it
-- (`with_address` of `world_laws/proofs/Announcements/Wanted` is a field of `after_announce`).
use Rattle.world_laws.proofs.Words.{◌≡◌, refl, sym, ◌∙◌, ap, subst, ℕ, ◌&&◌, ◌||◌, ◌==◌, inl, inr, Bool, true, false, if◌then◌else◌, Option, Some, None, List}
use Rattle.world_laws.proofs.Words.{[], ◌∷◌, ◌++◌, length, replicate, is_some, set, get_or-set_same, get_or-set_other, both_ways, false≢true, cases_lt}
use Rattle.world_laws.proofs.Words.{get_or_past, get_or-replicate, set_past, Mode, Entry, is_member, lowest, no_ids, Addresses, address_of, after_announce}
use Rattle.world_laws.proofs.Words.{after_removed, Address, ControlCall, ControlReply, Notice, with_removed, lowest_living, standby, sole, Control}
use Rattle.world_laws.proofs.Words.{withdrawals_on, peer_or_zero, is_path, carries, address_notice, notice_on, is_known, Reply, told_to_announce, is_wanted}
use Rattle.world_laws.proofs.Words.{wanted_after}
use Rattle.std.proofs.Common.{eq-eqb, eqb-true}
use Rattle.std.proofs.Math.Bool.{or-true}
use Rattle.std.proofs.lemmas.List.Quantifiers.{position-Some}
use Rattle.std.specs.Map.{remove_entry}
use Rattle.control_book.specs.Registry.{stands}
use Rattle.control_book.specs.Replies.{is_right, resets, reply_to}
use Rattle.control_book.specs.Steps.{after}
use Rattle.control_book.proofs.Kept.{either, told}

-- ---- sets of ids

set_other : (ids : List Bool) (place id : ℕ) (member : Bool) → (place == id) ≡ false → is_member (set ids place member) id ≡ is_member ids id
set_other ids place id member apart = get_or-set_other ids place id member false (λ same. both_ways (place == id) apart (eq-eqb place id (sym same)))

cleared : (ids : List Bool) (id : ℕ) → is_member (set ids id false) id ≡ false
cleared ids id =
    elim (cases_lt id (length ids)) [
      | inl within ↦ get_or-set_same ids id false false within
      | inr past ↦ ap (λ (xs : List Bool). is_member xs id) (set_past ids id false past) ∙ get_or_past ids id false past
    ]

pub no_member : (id : ℕ) → is_member no_ids id ≡ false
unfolding no_ids
no_member id =
    elim (cases_lt id 256) [
      | inl within ↦ get_or-replicate 256 id false false within
      | inr past ↦ get_or_past (replicate 256 false) id false past
    ]

lowest_member : (ids : List Bool) (id : ℕ) → lowest ids ≡ Some id → is_member ids id ≡ true
lowest_member ids id is = (position-Some (λ member. member) ids id false is).1

-- ---- addresses by their ids

-- with this address under the id
abbrev with_address : List (ℕ × Address) → ℕ → Address → List (ℕ × Address)
with_address entries id address = (after_announce id address (record { announced = entries; kept = []; due = []; backups = [] })).announced

abbrev pub is_there : ℕ → List (ℕ × Address) → Bool
is_there id entries = is_some (address_of id entries)

-- the first entry has the id, or one of the others
first_is : (b c : Bool) (address : Address) (o : Option Address) → b ≡ c → is_some (if c then Some address else o) ≡ true → is_some (if b then Some address else o) ≡ true
first_is b c address o same is = ap (λ d. is_some (if d then Some address else o)) same ∙ is

inserted_own : (id : ℕ) (address : Address) (entries : List (ℕ × Address)) → is_there id (with_address entries id address) ≡ true
inserted_own id address [] = first_is (id == id) true address None (eq-eqb id id refl) refl
inserted_own id address (e ∷ entries) =
    (elim (id == e.0) as (λ b. (id == e.0) ≡ b → is_there id (with_address entries id address) ≡ true → is_there id (if b then (e.0, address) ∷ entries else e ∷ with_address entries id address) ≡ true) [
      | true ↦ λ same rest. first_is (id == e.0) true address (address_of id entries) same refl
      | false ↦ λ other rest. first_is (id == e.0) false e.1 (address_of id (with_address entries id address)) other rest
    ]) refl (inserted_own id address entries)

inserted_keeps : (id other : ℕ) (address : Address) (entries : List (ℕ × Address)) → is_there id entries ≡ true → is_there id (with_address entries other address) ≡ true
inserted_keeps id other address [] is = absurd (false≢true is)
inserted_keeps id other address (e ∷ entries) is = by (other == e.0) (id == e.0) refl is (inserted_keeps id other address entries)
  where
    by : (b c : Bool) → (id == e.0) ≡ c → is_some (if c then Some e.1 else address_of id entries) ≡ true → (is_there id entries ≡ true → is_there id (with_address entries other address) ≡ true)
        → is_there id (if b then (e.0, address) ∷ entries else e ∷ with_address entries other address) ≡ true
    by true true same is rest = first_is (id == e.0) true address (address_of id entries) same refl
    by true false same is rest = first_is (id == e.0) false address (address_of id entries) same is
    by false true same is rest = first_is (id == e.0) true e.1 (address_of id (with_address entries other address)) same refl
    by false false same is rest = first_is (id == e.0) false e.1 (address_of id (with_address entries other address)) same (rest is)

removed_keeps : (id other : ℕ) (entries : List (ℕ × Address)) → (other == id) ≡ false → is_there id entries ≡ true → is_there id (remove_entry (λ k. other == k) entries) ≡ true
removed_keeps id other [] apart is = absurd (false≢true is)
removed_keeps id other (e ∷ entries) apart is = by (other == e.0) refl (id == e.0) refl is (removed_keeps id other entries apart)
  where
    by : (b : Bool) → (other == e.0) ≡ b → (c : Bool) → (id == e.0) ≡ c → is_some (if c then Some e.1 else address_of id entries) ≡ true
        → (is_there id entries ≡ true → is_there id (remove_entry (λ k. other == k) entries) ≡ true)
        → is_there id (if b then entries else e ∷ remove_entry (λ k. other == k) entries) ≡ true
    by true first true same is rest = absurd (both_ways (other == id) apart (eq-eqb other id (eqb-true other e.0 first ∙ sym (eqb-true id e.0 same))))
    by true first false same is rest = is
    by false first true same is rest = first_is (id == e.0) true e.1 (address_of id (remove_entry (λ k. other == k) entries)) same refl
    by false first false same is rest = first_is (id == e.0) false e.1 (address_of id (remove_entry (λ k. other == k) entries)) same (rest is)

-- ---- a call

-- an id that is due is an announced one, and it is wanted
abbrev pub Wants : ℕ → Control → Bool → Type 0
Wants id c wanted = is_member c.addresses.due id ≡ true → (is_there id c.addresses.announced ≡ true) × (wanted ≡ true)

abbrev WantsIn : ℕ → Addresses Address → Bool → Type 0
WantsIn id a wanted = is_member a.due id ≡ true → (is_there id a.announced ≡ true) × (wanted ≡ true)

heard_wants : (id : ℕ) (wanted right : Bool) (one other : Addresses Address) → WantsIn id one wanted → WantsIn id other wanted → WantsIn id (if right then one else other) wanted
heard_wants id wanted true one other h g = h
heard_wants id wanted false one other h g = g

-- an announced id is known
there_known : (id : ℕ) (c : Control) → is_there id c.addresses.announced ≡ true → is_known id c ≡ true
there_known id c is = ap (λ b. stands c.paths id || (b || is_some (address_of id c.addresses.kept))) is ∙ or-true (stands c.paths id)

announce_wants : (id other : ℕ) (address : Address) (wanted same : Bool) (a : Addresses Address) → (other == id) ≡ same → WantsIn id a wanted
    → WantsIn id (record a { announced = with_address a.announced other address; due = set a.due other true }) (if same then true else wanted)
announce_wants id other address wanted true a is h due =
    (subst (λ k. is_there id (with_address a.announced k address) ≡ true) (sym (eqb-true other id is)) (inserted_own id address a.announced), refl)
announce_wants id other address wanted false a is h due =
    let old = h (sym (set_other a.due other id true is) ∙ due) in (inserted_keeps id other address a.announced old.0, old.1)

-- of a known id the announcement ends, and an unknown one has none
ends_wants : (id : ℕ) (c d : Control) (wanted : Bool) → Wants id c wanted → d.addresses.due ≡ set c.addresses.due id false → Wants id (if is_known id c then d else c) false
ends_wants id c d wanted h clears = (elim (is_known id c) as (λ known. is_known id c ≡ known → Wants id (if known then d else c) false) [
  | true ↦ λ known due. absurd (both_ways (is_member d.addresses.due id) (ap (λ xs. is_member xs id) clears ∙ cleared c.addresses.due id) due)
  | false ↦ λ unknown due. absurd (both_ways (is_known id c) unknown (there_known id c (h due).0))
]) refl

abbrev echoed_book : ℕ → Control → Control
echoed_book id c = record c { addresses = record c.addresses { due = set c.addresses.due id false } }

echoed_wants : (id other : ℕ) (c : Control) (wanted same : Bool) → (other == id) ≡ same → Wants id c wanted → Wants id (after c (ControlCall.Echoed other)) (if same then false else wanted)
echoed_wants id other c wanted true is h =
    subst (λ k. Wants id (after c (ControlCall.Echoed k)) false) (sym (eqb-true other id is)) (ends_wants id c (echoed_book id c) wanted h refl)
echoed_wants id other c wanted false is h =
    either (λ d. Wants id d wanted) (is_known other c) (echoed_book other c) c (λ due. h (sym (set_other c.addresses.due other id false is) ∙ due)) h

abbrev removed_book : ℕ → Control → Control
removed_book id c = record c { addresses = after_removed id c.addresses; paths = with_removed id c.paths }

removed_wants : (id other : ℕ) (c : Control) (wanted same : Bool) → (other == id) ≡ same → Wants id c wanted → Wants id (after c (ControlCall.Removed other)) (if same then false else wanted)
removed_wants id other c wanted true is h =
    subst (λ k. Wants id (after c (ControlCall.Removed k)) false) (sym (eqb-true other id is)) (ends_wants id c (removed_book id c) wanted h refl)
removed_wants id other c wanted false is h = either (λ d. Wants id d wanted) (is_known other c) (removed_book other c) c at h
  where
    at : is_member (set c.addresses.due other false) id ≡ true → (is_there id (remove_entry (λ k. other == k) c.addresses.announced) ≡ true) × (wanted ≡ true)
    at due = let old = h (sym (set_other c.addresses.due other id false is) ∙ due) in (removed_keeps id other c.addresses.announced is old.0, old.1)

pub wants_once : (c : Control) (asked : ControlCall) (id : ℕ) (wanted : Bool) → Wants id c wanted → Wants id (after c asked) (wanted_after id asked wanted)
wants_once c (ControlCall.Look path) id wanted h = told (λ d. Wants id d wanted) (notice_on c path) path c (λ other. h) h
wants_once c (ControlCall.Keys own peer) id wanted h = either (λ d. Wants id d wanted) _ _ c h h
wants_once c (ControlCall.JoinBegin path) id wanted h = either (λ d. Wants id d wanted) _ _ c h h
wants_once c (ControlCall.JoinHeard path token) id wanted h = either (λ d. Wants id d wanted) _ _ c h h
wants_once c (ControlCall.Announce other) id wanted h = announce_wants id other _ wanted (other == id) c.addresses refl h
wants_once c (ControlCall.Withdraw other) id wanted h = either (λ d. Wants id d wanted) _ _ c h h
wants_once c (ControlCall.Heard other address port hmac) id wanted h = heard_wants id wanted (is_right other address port hmac c) _ c.addresses h h
wants_once c (ControlCall.Echoed other) id wanted h = echoed_wants id other c wanted (other == id) refl h
wants_once c (ControlCall.Removed other) id wanted h = removed_wants id other c wanted (other == id) refl h
wants_once c (ControlCall.FastHeard key) id wanted h = either (λ d. Wants id d wanted) _ _ c h h
wants_once c _ id wanted h = h

-- ---- journals

pub wanted_push : (id : ℕ) (before : Bool) (entries : List (Entry ControlCall ControlReply)) (entry : Entry ControlCall ControlReply)
    → is_wanted id before (entries ++ entry ∷ []) ≡ wanted_after id entry.call (is_wanted id before entries)
wanted_push id before [] entry = refl
wanted_push id before (first ∷ entries) entry = wanted_push id (wanted_after id first.call before) entries entry

-- ---- a look

-- the id that a notice tells to announce
abbrev told_by : Notice → Option ℕ
told_by (Notice.Announce id) = Some id
told_by _ = None

told_in : (mode : Mode) (standby sole : Bool) (notice : Notice) → told_to_announce (Reply.Control (ControlReply.Standing mode standby sole notice)) ≡ told_by notice
told_in mode standby sole Notice.Nothing = refl
told_in mode standby sole _ = refl

-- an id that a look tells to announce is due
pub look_due : (c : Control) (path id : ℕ) → told_to_announce (Reply.Control (reply_to c (ControlCall.Look path))) ≡ Some id → is_member c.addresses.due id ≡ true
look_due c path id is =
    by (resets c path) (carries c path) (c.fall.confirmed && is_path (lowest_living c.paths) path)
    (sym (told_in c.fall.mode (standby c.paths c.addresses.backups path) (sole c.paths path) (notice_on c path)) ∙ is)
  where
    withdrawn : Option ℕ
    withdrawn = lowest (withdrawals_on c.notices.withdrawals path)

    none : (o : Option ℕ) → told_by (address_notice None o) ≡ Some id → is_member c.addresses.due id ≡ true
    none None is = let never : None ≡ Some id = is in cc
    none (Some other) is = let never : None ≡ Some id = is in cc

    at : (o : Option ℕ) → lowest c.addresses.due ≡ o → told_by (address_notice o withdrawn) ≡ Some id → is_member c.addresses.due id ≡ true
    at None first is = none withdrawn is
    at (Some other) first is = lowest_member c.addresses.due id (first ∙ is)

    by : (reset carried now : Bool) → told_by (if reset then Notice.Reset else (if carried then Notice.Carrier (peer_or_zero c.keys.peer) else address_notice (if now then lowest c.addresses.due else None) withdrawn)) ≡ Some id
        → is_member c.addresses.due id ≡ true
    by true carried now is = let never : None ≡ Some id = is in cc
    by false true now is = let never : None ≡ Some id = is in cc
    by false false false is = none withdrawn is
    by false false true is = at (lowest c.addresses.due) refl is
