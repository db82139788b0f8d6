-- What holds after a list of events.
use Rattle.std.proofs.Common.{◌≡◌, ◌≢◌, Bool, true, false, List, [], ◌∷◌, ◌⊎◌, inl, inr, refl, sym, subst, ◌∙◌, ap}
use Rattle.std.specs.Prelude.{All}
use Rattle.std.specs.Prelude.{◌||◌}
use Rattle.std.specs.List.{list_any}
use Rattle.std.proofs.lemmas.List.Elements.{All-head, All-tail}
use Rattle.fallback_state.specs.declared.fall.Fall.{Fall}
use Rattle.fallback_state.specs.declared.fall.Mode.{Mode}
use Rattle.fallback_state.specs.declared.fall.Mode.TheVariants.{Starting, Identity, Aborted}
use Rattle.fallback_state.specs.Table.{fall_step}
use Rattle.fallback_state.specs.Laws.{Happening, after_all, is_stop, is_failure}
use Rattle.fallback_state.proofs.Steps.{IsKept, kept, standing, identity_kept, aborted_kept, stopped, IsUnfailed, unfailed_kept}

pub joined_all : (fall : Fall) (hs : List Happening) → fall.joined ≡ true → fall.mode ≢ Identity → (after_all hs fall).mode ≢ Identity
joined_all fall [] joined ne = ne
joined_all fall (h ∷ hs) joined ne =
    let P : Fall → Type 0 = λ f. (f.joined ≡ true) × (f.mode ≢ Identity) in
    let k : IsKept P fall h.path = record {
      same = (joined, ne);
      confirmed = (joined, ne);
      failed = (joined, ne);
      identity = λ unjoined. absurd (cc);
      further = λ mode f. (joined, f.no_identity);
    } in
    let next = kept P fall h.path h.sole h.event k in
    joined_all (fall_step fall h.path h.sole h.event).0 hs next.0 next.1

pub started_all : (fall : Fall) (hs : List Happening) → fall.mode ≢ Starting → (after_all hs fall).mode ≢ Starting
started_all fall [] ne = ne
started_all fall (h ∷ hs) ne =
    let P : Fall → Type 0 = λ f. f.mode ≢ Starting in
    let k : IsKept P fall h.path = record {
      same = ne;
      confirmed = ne;
      failed = ne;
      identity = λ unjoined e. cc;
      further = λ mode f. f.no_start;
    } in
    started_all (fall_step fall h.path h.sole h.event).0 hs (kept P fall h.path h.sole h.event k)

pub confirmed_all : (fall : Fall) (hs : List Happening) → fall.confirmed ≡ true → (after_all hs fall).confirmed ≡ true
confirmed_all fall [] is = is
confirmed_all fall (h ∷ hs) is =
    let P : Fall → Type 0 = λ f. f.confirmed ≡ true in
    let k : IsKept P fall h.path = record { same = is; confirmed = refl; failed = is; identity = λ unjoined. is; further = λ mode f. is } in
    confirmed_all (fall_step fall h.path h.sole h.event).0 hs (kept P fall h.path h.sole h.event k)

-- no event touches whether the side joined
pub joined_same : (fall : Fall) (h : Happening) → (fall_step fall h.path h.sole h.event).0.joined ≡ fall.joined
joined_same fall h =
    let P : Fall → Type 0 = λ f. f.joined ≡ fall.joined in
    let k : IsKept P fall h.path = record { same = refl; confirmed = refl; failed = refl; identity = λ unjoined. refl; further = λ mode f. refl } in
    kept P fall h.path h.sole h.event k

pub joined_all_same : (fall : Fall) (hs : List Happening) → (after_all hs fall).joined ≡ fall.joined
joined_all_same fall [] = refl
joined_all_same fall (h ∷ hs) = joined_all_same (fall_step fall h.path h.sole h.event).0 hs ∙ joined_same fall h

pub aborted_all : (fall : Fall) (hs : List Happening) → fall.mode ≡ Aborted → (after_all hs fall).mode ≡ Aborted
aborted_all fall [] is = is
aborted_all fall (h ∷ hs) is =
    let next : (fall_step fall h.path h.sole h.event).0.mode ≡ Aborted =
    subst (λ (mode : Mode). (fall_step (standing mode fall.confirmed fall.joined fall.failed) h.path h.sole h.event).0.mode ≡ Aborted)
    (sym is) (aborted_kept fall.confirmed fall.joined fall.failed h.path h.sole h.event) in
    aborted_all (fall_step fall h.path h.sole h.event).0 hs next

-- one event in Identity
identity_next : (fall : Fall) (h : Happening) → fall.mode ≡ Identity → is_stop h.event ≡ false → (fall_step fall h.path h.sole h.event).0 ≡ fall
identity_next fall h is go =
    subst (λ (mode : Mode). (fall_step (standing mode fall.confirmed fall.joined fall.failed) h.path h.sole h.event).0 ≡ standing mode fall.confirmed fall.joined fall.failed)
    (sym is) (identity_kept fall.confirmed fall.joined fall.failed h.path h.sole h.event go)

pub identity_all : (fall : Fall) (hs : List Happening) → fall.mode ≡ Identity → All (λ h. is_stop h.event ≡ false) hs → after_all hs fall ≡ fall
identity_all fall [] is go = refl
identity_all fall (h ∷ hs) is go =
    ap (after_all hs) (identity_next fall h is (All-head (λ (x : Happening). is_stop x.event ≡ false) h hs go))
    ∙ identity_all fall hs is (All-tail (λ (x : Happening). is_stop x.event ≡ false) h hs go)

pub unfailed_all : (fall : Fall) (hs : List Happening) → All (λ h. is_failure h.event ≡ false) hs → IsUnfailed fall → IsUnfailed (after_all hs fall)
unfailed_all fall [] none u = u
unfailed_all fall (h ∷ hs) none u =
    unfailed_all (fall_step fall h.path h.sole h.event).0 hs (All-tail (λ (x : Happening). is_failure x.event ≡ false) h hs none)
    (unfailed_kept fall h.path h.sole h.event (All-head (λ (x : Happening). is_failure x.event ≡ false) h hs none) u)

cases_bool : (b : Bool) → (b ≡ true) ⊎ (b ≡ false)
cases_bool true = inl refl
cases_bool false = inr refl

-- after a fast close in Identity
stopped_next : (fall : Fall) (h : Happening) → is_stop h.event ≡ true → (fall_step fall h.path h.sole h.event).0.mode ≡ Aborted
stopped_next fall h is = stopped fall h.path h.sole h.event is

pub identity_stopped : (fall : Fall) (hs : List Happening) → fall.mode ≡ Identity → list_any (λ h. is_stop h.event) hs ≡ true → (after_all hs fall).mode ≡ Aborted
identity_stopped fall [] is stops = cc
identity_stopped fall (h ∷ hs) is stops =
    elim (cases_bool (is_stop h.event)) [
      | inl stop ↦ aborted_all (fall_step fall h.path h.sole h.event).0 hs (stopped_next fall h stop)
      | inr go ↦
          let rest : list_any (λ x. is_stop x.event) hs ≡ true = sym (ap (λ (b : Bool). b || list_any (λ x. is_stop x.event) hs) go) ∙ stops in
          subst (λ (f : Fall). (after_all hs f).mode ≡ Aborted) (sym (identity_next fall h is go)) (identity_stopped fall hs is rest)
    ]
