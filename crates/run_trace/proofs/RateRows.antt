-- The windows and round-trip times of paths, actor by actor.
use Rattle.std.proofs.Common.{◌≡◌, refl, ◌∙◌, ap, ℕ, zero, suc, ◌+◌, Option, Some, None, List, [], ◌∷◌, ◌++◌, drop, append_assoc, arith}
use Rattle.std.specs.Prelude.{option_map}
use Rattle.std.specs.Option.{option_to_list}
use Rattle.link_trace.specs.declared.rows.Rates.{Rates}
use Rattle.path_core.specs.State.{PathState}
use Rattle.world_core.specs.Looking.{path_at}
use Rattle.world_laws.specs.Actors.{ActorCrew}
use Rattle.run_trace.specs.Rates.{rates_in, rates_of}

rates_drop : (crew : List (ActorCrew (List ℕ))) (actor : ℕ)
    → rates_of (drop actor crew) ≡ option_to_list (option_map rates_in (path_at actor crew)) ++ rates_of (drop (suc actor) crew)
rates_drop [] zero = refl
rates_drop [] (suc actor) = refl
rates_drop (c ∷ crew) zero = refl
rates_drop (c ∷ crew) (suc actor) = rates_drop crew actor

shown_rates : {X : Type 0} (state : X → PathState (List ℕ)) (path : Option X) → option_map (λ x. rates_in (state x)) path ≡ option_map rates_in (option_map state path)
shown_rates state None = refl
shown_rates state (Some x) = refl

-- an actor more
pub rates_more : {X : Type 0} (state : X → PathState (List ℕ)) (crew : List (ActorCrew (List ℕ))) (actor : ℕ) (old new whole : List Rates) (path : Option X)
    → old ++ rates_of (drop actor crew) ≡ whole → new ≡ old ++ option_to_list (option_map (λ x. rates_in (state x)) path) → option_map state path ≡ path_at actor crew
    → new ++ rates_of (drop (actor + 1) crew) ≡ whole
rates_more state crew actor old new whole path before new_is path_is =
    let next : actor + 1 ≡ suc actor = omega arith in
    let told : option_map (λ x. rates_in (state x)) path ≡ option_map rates_in (path_at actor crew) = shown_rates state path ∙ ap (option_map rates_in) path_is in
    rw (new_is, told, next, append_assoc old (option_to_list (option_map rates_in (path_at actor crew))) (rates_of (drop (suc actor) crew)), ← rates_drop crew actor) before
