-- The actors of the opened world.
use Rattle.world_laws.proofs.Words.{◌≡◌, refl, sym, ◌∙◌, ap, subst, ℕ, zero, suc, ◌+◌, Some, List, [], ◌∷◌, arith, same_Some, slice_get, A, B, first_app_turn}
use Rattle.world_laws.proofs.Words.{App, ActorCrew, PathPlan, Start, new_crew, new_path, paths_from, opened_world}
use Rattle.stream_apps.specs.Starts.{fast_close_of}

-- a path is that of its plan
path_there : {C : Type 0} (start : Start) (first i number : ℕ) (plans : List PathPlan) (c : ActorCrew C) → number ≡ first + i → slice_get (paths_from start first plans) i ≡ Some c
    → (plan : PathPlan) × (slice_get plans i ≡ Some plan) × (c ≡ new_path start number plan)
path_there start first i number [] c is there = cc
path_there start first zero number (plan ∷ plans) c is there =
    let same : number ≡ first = omega (arith, is) in (plan, refl, sym (same_Some _ c there) ∙ ap (λ n. new_path start n plan) (sym same))
path_there start first (suc i) number (plan ∷ plans) c is there = path_there start (suc first) i number plans c (omega (arith, is)) there

-- what both applications and each path have, each actor has
pub opened_actors : {C : Type 0} (P : ℕ → ActorCrew C → Type 0) (start : Start) → P 0 (new_crew 0 (App (first_app_turn A start.buffer start.file_a (fast_close_of A start.lines))))
    → P 1 (new_crew 1 (App (first_app_turn B start.buffer start.file_b (fast_close_of B start.lines)))) → ((number : ℕ) (plan : PathPlan) → slice_get start.paths number ≡ Some plan → P (suc (suc number)) (new_path start number plan))
    → (actor : ℕ) (c : ActorCrew C) → slice_get (opened_world {C = C} start).crew actor ≡ Some c → P actor c
opened_actors P start a b paths zero c there = subst (P 0) (same_Some _ c there) a
opened_actors P start a b paths (suc zero) c there = subst (P 1) (same_Some _ c there) b
opened_actors P start a b paths (suc (suc number)) c there =
    let found = path_there start 0 number number start.paths c (omega arith) there in subst (P (suc (suc number))) (sym found.2) (paths number found.0 found.1)
