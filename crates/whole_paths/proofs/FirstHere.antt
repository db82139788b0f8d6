-- Path 0 as a connection begins.
use Rattle.std.proofs.Common.{◌≡◌, refl, ap, Some, List, [], ◌∷◌}
use Rattle.std.specs.List.{slice_get}
use Rattle.std.proofs.lemmas.Option.{same_Some}
use Rattle.path_core.specs.Start.{first_turn}
use Rattle.path_core.specs.Values.{Carried}
use Rattle.world_laws.specs.Openings.{PathPlan, Start, new_path, opened_world, path_begins, paths_from}
use Rattle.whole_paths.specs.Finish.{IsPathAt}

pub first_here : (start : Start) (plan : PathPlan) → slice_get start.paths 0 ≡ Some plan → IsPathAt 0 (opened_world {C = Carried} start) (first_turn (path_begins start 0 plan) start.lines)
first_here start plan there = record { crew = new_path start 0 plan; there = by start.paths there; is = refl }
  where
    by : (plans : List PathPlan) → slice_get plans 0 ≡ Some plan → slice_get (paths_from {C = Carried} start 0 plans) 0 ≡ Some (new_path start 0 plan)
    by [] is = cc
    by (x ∷ plans) is = ap (λ (y : PathPlan). Some (new_path {C = Carried} start 0 y)) (same_Some x plan is)
