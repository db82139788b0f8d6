-- Each path of a connection has its windows and round-trip times.
use Rattle.std.proofs.Common.{◌≡◌, refl, sym, ◌∙◌, ap, ℕ, zero, suc, ◌+◌, true, false, if◌then◌else◌, Option, Some, None, List, [], ◌∷◌, map, set, slice_get, length, arith}
use Rattle.std.proofs.lemmas.Option.{same_Some}
use Rattle.actor_desk.specs.declared.ask.Ask.{Ask}
use Rattle.actor_desk.specs.declared.ask.Reply.{Reply}
use Rattle.path_core.specs.Octets.{octets}
use Rattle.world_laws.specs.Actors.{Actor, ActorCrew, member_asks, member_takes, member_next}
use Rattle.world_laws.specs.declared.member.Member.TheVariants.{App, Path}
use Rattle.world_laws.specs.Openings.{PathPlan, Start, opened_world, paths_from}
use Rattle.world_laws.specs.StampedBooks.{answer_to}
use Rattle.world_laws.specs.Worlds.{WorldState, Turn, after_turn, all_over, asked, begins, crew_after, end_round, greatest, stepped, world_run, world_step}
use Rattle.run_trace.specs.Rates.{EachPathHasItsRates, rates_of}

-- whether it is a path, as a number
abbrev paths_in : Actor (List ℕ) → ℕ
paths_in (App a) = 0
paths_in (Path p) = 1

abbrev count : List (ActorCrew (List ℕ)) → ℕ
count [] = 0
count (c ∷ crew) = paths_in c.member + count crew

rates_counted : (crew : List (ActorCrew (List ℕ))) → length (rates_of crew) ≡ count crew
rates_counted [] = refl
rates_counted (c ∷ crew) = (elim c.member as (λ m. length (rates_of crew) ≡ count crew → length (rates_of (record c { member = m } ∷ crew)) ≡ paths_in m + count crew)
    [ App a ↦ λ rest. omega (arith, rest) | Path p ↦ λ rest. omega (arith, rest) ]) (rates_counted crew)

takes_in : (r : Reply) (m : Actor (List ℕ)) → paths_in (member_takes octets r m) ≡ paths_in m
takes_in r (App a) = refl
takes_in r (Path p) = refl

next_in : (m : Actor (List ℕ)) → paths_in (member_next m) ≡ paths_in m
next_in (App a) = refl
next_in (Path p) = refl

set_counted : (crew : List (ActorCrew (List ℕ))) (i : ℕ) (c d : ActorCrew (List ℕ)) → slice_get crew i ≡ Some c → paths_in d.member ≡ paths_in c.member
    → count (set crew i d) ≡ count crew
set_counted [] i c d there same = refl
set_counted (x ∷ crew) zero c d there same =
    let is : x ≡ c = same_Some x c there in ap (λ (n : ℕ). n + count crew) (same ∙ ap (λ (y : ActorCrew (List ℕ)). paths_in y.member) (sym is))
set_counted (x ∷ crew) (suc i) c d there same = ap (λ (n : ℕ). paths_in x.member + n) (set_counted crew i c d there same)

map_counted : (stamp : ℕ) (crew : List (ActorCrew (List ℕ))) → count (map (begins stamp) crew) ≡ count crew
map_counted stamp [] = refl
map_counted stamp (c ∷ crew) = let here = next_in c.member in let rest = map_counted stamp crew in omega (arith, here, rest)

step_counted : (i : ℕ) (w : WorldState (List ℕ)) → count (world_step octets i w).crew ≡ count w.crew
step_counted i w = (elim (slice_get w.crew i) as (λ o. slice_get w.crew i ≡ o → count (stepped octets i o w).crew ≡ count w.crew)
    [ None ↦ λ there. refl | Some c ↦ λ there. so (member_asks octets c.member) c there ]) refl
  where
    so : (o : Option Ask) (c : ActorCrew (List ℕ)) → slice_get w.crew i ≡ Some c → count (asked octets i o c w).crew ≡ count w.crew
    so None c there = refl
    so (Some ask) c there = set_counted w.crew i c (crew_after octets ask w.books c) there (takes_in (answer_to w.books ask) c.member)

round_counted : (w : WorldState (List ℕ)) → count (end_round w).crew ≡ count w.crew
round_counted w = elim (all_over w.crew) as (λ b. count (if b then record w { crew = map (begins (greatest 0 w.crew)) w.crew } else w).crew ≡ count w.crew)
    [ true ↦ map_counted (greatest 0 w.crew) w.crew | false ↦ refl ]

run_counted : (turns : List Turn) (w : WorldState (List ℕ)) → count (world_run octets turns w).crew ≡ count w.crew
run_counted [] w = refl
run_counted (Turn.Step i ∷ turns) w = run_counted turns (after_turn octets (Turn.Step i) w) ∙ step_counted i w
run_counted (Turn.Round ∷ turns) w = run_counted turns (after_turn octets Turn.Round w) ∙ round_counted w

paths_counted : (start : Start) (number : ℕ) (plans : List PathPlan) → count (paths_from start number plans) ≡ length plans
paths_counted start number [] = refl
paths_counted start number (plan ∷ plans) = let rest = paths_counted start (suc number) plans in omega (arith, rest)

pub each_has_its_rates : EachPathHasItsRates
each_has_its_rates start turns =
    let counted = rates_counted (world_run octets turns (opened_world start)).crew in let kept = run_counted turns (opened_world start) in
    let first = paths_counted start 0 start.paths in omega (arith, counted, kept, first)
