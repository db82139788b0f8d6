-- The turns of a path whose first duty comes to something.
use Rattle.path_core.proofs.Words.{◌≡◌, refl, ℕ, ◌+◌, true, false, if◌then◌else◌, Some, None, List, [], ◌∷◌, is_none, Duty, octets, PathState, stands}
use Rattle.path_core.proofs.Words.{next_round, passable, passable_of, Ends, TakesTime, FirstStands}
use Rattle.path_core.proofs.TurnEnds.{turn_ends, begun_ends}

first_stands : {C : Type 0} (ds : List Duty) (p : PathState C) → is_none (passable_of ds p) ≡ true → FirstStands ds p
first_stands [] p none = tt
first_stands (d ∷ ds) p none = (elim (stands d p) as (λ b. stands d p ≡ b → is_none (if b then None else Some d) ≡ true → stands d p ≡ true)
    [ true ↦ λ comes none. comes | false ↦ λ comes none. cc ]) refl none

pub turn_is_over : (p : PathState (List ℕ)) → is_none (passable p) ≡ true → TakesTime p → Ends octets p
turn_is_over p none time = turn_ends octets p time (first_stands p.agenda p none)

pub round_is_over : (p : PathState (List ℕ)) → TakesTime p → Ends octets (next_round p)
round_is_over p t =
    begun_ends octets (record p { clock = p.until; until = p.until + 100 }) (record { delay = t.delay; timer_a = t.timer_a; timer_b = t.timer_b })
