-- Each path of a connection stands two behind its number among the actors, and at no tick behind its round's end.
use Rattle.std.proofs.Common.{◌≡◌, refl, sym, ap, subst, ◌∙◌, ℕ, zero, suc, ◌+◌, ◌≤◌, ◌⊎◌, inl, inr, true, false, if◌then◌else◌, Option, Some, None, List, [], ◌∷◌, map, set, slice_get, arith}
use Rattle.std.proofs.lemmas.Option.{same_Some}
use Rattle.actor_desk.specs.declared.ask.Ask.{Ask}
use Rattle.actor_desk.specs.declared.ask.Reply.{Reply}
use Rattle.path_core.specs.Octets.{octets}
use Rattle.path_core.specs.Start.{first_turn, waiting_path}
use Rattle.path_core.specs.State.{PathState, path_of}
use Rattle.world_laws.proofs.Rounds.Frame.{takes_keeps, first_keeps}
use Rattle.world_laws.specs.Actors.{Actor, ActorCrew, member_asks, member_takes, member_next}
use Rattle.world_laws.specs.declared.member.Member.TheVariants.{App, Path}
use Rattle.world_laws.specs.Openings.{PathPlan, Start, opened_world, path_begins, paths_from}
use Rattle.world_laws.specs.StampedBooks.{answer_to}
use Rattle.world_laws.specs.Worlds.{WorldState, Turn, after_turn, all_over, asked, begins, crew_after, end_round, greatest, stepped, world_step}
use Rattle.world_core.proofs.Clocks.{begun_clock, takes_climbs}

-- ---- one actor in the place of another, and all

pub set_got : {X : Type 0} (xs : List X) (i j : ℕ) (d x : X) → slice_get (set xs i d) j ≡ Some x → (slice_get xs j ≡ Some x) ⊎ ((j ≡ i) × (x ≡ d))
set_got [] i j d x is = inl is
set_got (y ∷ xs) zero zero d x is = inr (refl, sym (same_Some d x is))
set_got (y ∷ xs) zero (suc j) d x is = inl is
set_got (y ∷ xs) (suc i) zero d x is = inl is
set_got {X = X} (y ∷ xs) (suc i) (suc j) d x is = elim (set_got xs i j d x is) [ inl same ↦ inl same | inr new ↦ inr (ap suc new.0, new.1) ]

pub map_got : {X : Type 0} (f : X → X) (xs : List X) (j : ℕ) (y : X) → slice_get (map f xs) j ≡ Some y → (x : X) × ((slice_get xs j ≡ Some x) × (y ≡ f x))
map_got f [] j y is = cc
map_got f (x ∷ xs) zero y is = (x, (refl, sym (same_Some (f x) y is)))
map_got f (x ∷ xs) (suc j) y is = map_got f xs j y is

-- ---- actors

abbrev pub StandsAt : ℕ → Actor (List ℕ) → Type 0
StandsAt i (App a) = Unit {0}
StandsAt i (Path p) = (i ≡ suc (suc (path_of p))) × (p.clock ≤ p.until)

takes_stands : (i : ℕ) (r : Reply) (m : Actor (List ℕ)) → StandsAt i m → StandsAt i (member_takes octets r m)
takes_stands i r (App a) stands = tt
takes_stands i r (Path p) stands =
    let keeps = takes_keeps octets r p in let climbs = takes_climbs octets r p in
    (stands.0 ∙ ap (λ (n : ℕ). suc (suc n)) (sym keeps.2), omega (arith, climbs.within stands.1, keeps.0))

next_stands : (i : ℕ) (m : Actor (List ℕ)) → StandsAt i m → StandsAt i (member_next m)
next_stands i (App a) stands = tt
next_stands i (Path p) stands =
    let q : PathState (List ℕ) = record p { clock = p.until; until = p.until + 100 } in let keeps = first_keeps q in
    (stands.0 ∙ ap (λ (n : ℕ). suc (suc n)) (sym keeps.2), omega (arith, begun_clock q, keeps.0))

-- ---- the crew

abbrev pub AreNumbered : List (ActorCrew (List ℕ)) → Type 0
AreNumbered crew = (i : ℕ) (c : ActorCrew (List ℕ)) → slice_get crew i ≡ Some c → StandsAt i c.member

one_numbered : (crew : List (ActorCrew (List ℕ))) (i : ℕ) (d : ActorCrew (List ℕ)) → AreNumbered crew → StandsAt i d.member → AreNumbered (set crew i d)
one_numbered crew i d h stands j x is = elim (set_got crew i j d x is)
    [ inl same ↦ h j x same | inr new ↦ subst (λ (n : ℕ). StandsAt n x.member) (sym new.0) (subst (λ (y : ActorCrew (List ℕ)). StandsAt i y.member) (sym new.1) stands) ]

step_numbered : (i : ℕ) (w : WorldState (List ℕ)) → AreNumbered w.crew → AreNumbered (world_step octets i w).crew
step_numbered i w h = (elim (slice_get w.crew i) as (λ o. slice_get w.crew i ≡ o → AreNumbered (stepped octets i o w).crew)
    [ None ↦ λ there. h | Some c ↦ λ there. so (member_asks octets c.member) c there ]) refl
  where
    so : (o : Option Ask) (c : ActorCrew (List ℕ)) → slice_get w.crew i ≡ Some c → AreNumbered (asked octets i o c w).crew
    so None c there = h
    so (Some ask) c there =
        one_numbered w.crew i (crew_after octets ask w.books c) h (takes_stands i (answer_to w.books ask) c.member (h i c there))

round_numbered : (w : WorldState (List ℕ)) → AreNumbered w.crew → AreNumbered (end_round w).crew
round_numbered w h = elim (all_over w.crew) as (λ b. AreNumbered (if b then record w { crew = map (begins (greatest 0 w.crew)) w.crew } else w).crew)
    [ true ↦ next | false ↦ h ]
  where
    next : AreNumbered (map (begins (greatest 0 w.crew)) w.crew)
    next j d is =
        let g = map_got (begins (greatest 0 w.crew)) w.crew j d is in
        subst (λ (y : ActorCrew (List ℕ)). StandsAt j y.member) (sym g.1.1) (next_stands j g.0.member (h j g.0 g.1.0))

pub turn_numbered : (t : Turn) (w : WorldState (List ℕ)) → AreNumbered w.crew → AreNumbered (after_turn octets t w).crew
turn_numbered (Turn.Step i) w h = step_numbered i w h
turn_numbered Turn.Round w h = round_numbered w h

-- ---- before the first step

first_stands : (start : Start) (number : ℕ) (plan : PathPlan)
    → StandsAt (suc (suc number)) (Path (first_turn (path_begins start number plan) start.lines))
first_stands start number plan =
    let q : PathState (List ℕ) = waiting_path (path_begins start number plan) start.lines in let keeps = first_keeps q in
    (ap (λ (n : ℕ). suc (suc n)) (sym keeps.2), omega (arith, begun_clock q, keeps.0))

paths_numbered : (start : Start) (number : ℕ) (plans : List PathPlan) (i : ℕ) (c : ActorCrew (List ℕ))
    → slice_get (paths_from start number plans) i ≡ Some c → StandsAt (suc (suc (number + i))) c.member
paths_numbered start number [] i c is = cc
paths_numbered start number (plan ∷ plans) zero c is =
    let same : number ≡ number + 0 = omega arith in
    subst (λ (n : ℕ). StandsAt (suc (suc n)) c.member) same
    (subst (λ (y : ActorCrew (List ℕ)). StandsAt (suc (suc number)) y.member) (same_Some _ c is) (first_stands start number plan))
paths_numbered start number (plan ∷ plans) (suc i) c is =
    subst (λ (n : ℕ). StandsAt (suc (suc n)) c.member) (omega arith) (paths_numbered start (suc number) plans i c is)

pub opened_numbered : (start : Start) → AreNumbered (opened_world start).crew
opened_numbered start zero c is = subst (λ (y : ActorCrew (List ℕ)). StandsAt 0 y.member) (same_Some _ c is) tt
opened_numbered start (suc zero) c is = subst (λ (y : ActorCrew (List ℕ)). StandsAt 1 y.member) (same_Some _ c is) tt
opened_numbered start (suc (suc i)) c is =
    subst (λ (n : ℕ). StandsAt (suc (suc n)) c.member) (omega arith) (paths_numbered start 0 start.paths i c is)
