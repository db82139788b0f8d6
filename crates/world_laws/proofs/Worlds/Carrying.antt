-- A world over octets is the world over segments as values, shown, as long as its turns are fresh.
use Rattle.world_laws.proofs.Words.{◌≡◌, refl, ◌∙◌, ap, ℕ, zero, suc, ◌&&◌, max, Bool, true, false, if◌then◌else◌, Option, Some, None, List, [], ◌∷◌, map, set}
use Rattle.world_laws.proofs.Words.{slice_get, Ask, StampedBooks, Carried, values, octets, asks_the_same, begins_the_same, takes_the_same, App, Path, Actor}
use Rattle.world_laws.proofs.Words.{ActorCrew, member_asks, member_takes, is_over, OctetsDoAsValues, WorldState, Turn, crew_after, asked, stepped, world_step}
use Rattle.world_laws.proofs.Words.{all_over, greatest, begins, end_round, after_turn, world_run, answer_to, IsFreshCrew, IsFreshMember, IsFreshTurn}
use Rattle.world_laws.proofs.Words.{shown_crew, shown_member, shown_world}

member_asks_same : (m : Actor Carried) → member_asks octets (shown_member m) ≡ member_asks values m
member_asks_same = elim [ App a ↦ refl | Path p ↦ asks_the_same p ]

over_same : (m : Actor Carried) → is_over (shown_member m) ≡ is_over m
over_same = elim [ App a ↦ refl | Path p ↦ refl ]

crew_same : (ask : Ask) (books : StampedBooks) (c : ActorCrew Carried) → IsFreshMember c.member
    → crew_after octets ask books (shown_crew c) ≡ shown_crew (crew_after values ask books c)
crew_same ask books c fresh = ap (λ m. record (crew_after octets ask books (shown_crew c)) { member = m }) (by c.member fresh)
  where
    by : (m : Actor Carried) → IsFreshMember m → member_takes octets (answer_to books ask) (shown_member m) ≡ shown_member (member_takes values (answer_to books ask) m)
    by (App a) fresh = refl
    by (Path p) fresh = ap (λ q. Path q) (takes_the_same (answer_to books ask) p fresh.sent fresh.next)

abbrev shown_if : Option (ActorCrew Carried) → Option (ActorCrew (List ℕ))
shown_if None = None
shown_if (Some c) = Some (shown_crew c)

got_same : (crew : List (ActorCrew Carried)) (i : ℕ) (o : Option (ActorCrew Carried)) → slice_get crew i ≡ o
    → slice_get (map shown_crew crew) i ≡ shown_if o
got_same [] i o is = ap shown_if is
got_same (c ∷ crew) zero o is = ap shown_if is
got_same (c ∷ crew) (suc i) o is = got_same crew i o is

set_same_shown : (crew : List (ActorCrew Carried)) (i : ℕ) (c : ActorCrew Carried) → set (map shown_crew crew) i (shown_crew c) ≡ map shown_crew (set crew i c)
set_same_shown [] i c = refl
set_same_shown (d ∷ crew) zero c = refl
set_same_shown (d ∷ crew) (suc i) c = ap (λ cs. shown_crew d ∷ cs) (set_same_shown crew i c)

step_same : (actor : ℕ) (w : WorldState Carried) → IsFreshCrew (slice_get w.crew actor) → world_step octets actor (shown_world w) ≡ shown_world (world_step values actor w)
step_same actor w fresh = by (slice_get w.crew actor) refl fresh
  where
    at : (c : ActorCrew Carried) → IsFreshMember c.member → (o : Option Ask)
        → asked octets actor o (shown_crew c) (shown_world w) ≡ shown_world (asked values actor o c w)
    at c fresh None = refl
    at c fresh (Some ask) =
        ap (λ crew. record (asked octets actor (Some ask) (shown_crew c) (shown_world w)) { crew = crew })
        (ap (set (map shown_crew w.crew) actor) (crew_same ask w.books c fresh) ∙ set_same_shown w.crew actor (crew_after values ask w.books c))

    by : (o : Option (ActorCrew Carried)) → slice_get w.crew actor ≡ o → IsFreshCrew o
        → stepped octets actor (slice_get (map shown_crew w.crew) actor) (shown_world w) ≡ shown_world (stepped values actor o w)
    by None is fresh = ap (λ o. stepped octets actor o (shown_world w)) (got_same w.crew actor None is)
    by (Some c) is fresh =
        ap (λ o. stepped octets actor o (shown_world w)) (got_same w.crew actor (Some c) is)
        ∙ ap (λ o. asked octets actor o (shown_crew c) (shown_world w)) (member_asks_same c.member)
        ∙ at c fresh (member_asks values c.member)

over_all_same : (crew : List (ActorCrew Carried)) → all_over (map shown_crew crew) ≡ all_over crew
over_all_same [] = refl
over_all_same (c ∷ crew) = ap (λ b. b && all_over (map shown_crew crew)) (over_same c.member) ∙ ap (λ b. is_over c.member && b) (over_all_same crew)

greatest_same : (known : ℕ) (crew : List (ActorCrew Carried)) → greatest known (map shown_crew crew) ≡ greatest known crew
greatest_same known [] = refl
greatest_same known (c ∷ crew) = greatest_same (max known c.pass.stamp) crew

begins_same : (stamp : ℕ) (c : ActorCrew Carried) → begins stamp (shown_crew c) ≡ shown_crew (begins stamp c)
begins_same stamp c = elim c.member as (λ m. begins stamp (record (shown_crew c) { member = shown_member m }) ≡ shown_crew (begins stamp (record c { member = m })))
    [ App a ↦ refl | Path p ↦ ap (λ q. record (begins stamp (shown_crew c)) { member = Path q }) (begins_the_same p) ]

begin_all_same : (stamp : ℕ) (crew : List (ActorCrew Carried)) → map (begins stamp) (map shown_crew crew) ≡ map shown_crew (map (begins stamp) crew)
begin_all_same stamp [] = refl
begin_all_same stamp (c ∷ crew) =
    ap (λ x. x ∷ map (begins stamp) (map shown_crew crew)) (begins_same stamp c) ∙ ap (λ cs. shown_crew (begins stamp c) ∷ cs) (begin_all_same stamp crew)

round_same : (w : WorldState Carried) → end_round (shown_world w) ≡ shown_world (end_round w)
round_same w =
    ap (λ (b : Bool). if b then record (shown_world w) { crew = map (begins (greatest 0 (map shown_crew w.crew))) (map shown_crew w.crew) } else shown_world w) (over_all_same w.crew)
    ∙ by (all_over w.crew)
  where
    by : (b : Bool)
        → (if b then record (shown_world w) { crew = map (begins (greatest 0 (map shown_crew w.crew))) (map shown_crew w.crew) } else shown_world w)
        ≡ shown_world (if b then record w { crew = map (begins (greatest 0 w.crew)) w.crew } else w)
    by true =
        ap (λ crew. record (shown_world w) { crew = crew })
        (ap (λ stamp. map (begins stamp) (map shown_crew w.crew)) (greatest_same 0 w.crew) ∙ begin_all_same (greatest 0 w.crew) w.crew)
    by false = refl

turn_same : (turn : Turn) (w : WorldState Carried) → IsFreshTurn turn w → after_turn octets turn (shown_world w) ≡ shown_world (after_turn values turn w)
turn_same = elim [ Turn.Step actor ↦ λ w fresh. step_same actor w fresh | Turn.Round ↦ λ w fresh. round_same w ]

pub run_same : OctetsDoAsValues
run_same [] w fresh = refl
run_same (turn ∷ turns) w fresh = ap (world_run octets turns) (turn_same turn w fresh.0) ∙ run_same turns (after_turn values turn w) fresh.1
