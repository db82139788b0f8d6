-- As long as A's end of path 0 of a mild connection lives, the connection goes on, or both files are delivered.
use Rattle.std.proofs.Common.{◌≡◌, refl, ap, ◌∙◌, ◌⊎◌, inl, inr, ℕ, zero, suc, Bool, true, false, ◌&&◌, List, [], ◌∷◌, Some}
use Rattle.std.specs.List.{slice_get}
use Rattle.std.proofs.lemmas.Option.{same_Some}
use Rattle.sides.specs.declared.side.Side.TheVariants.{A, B}
use Rattle.subflow_tcp.specs.States.{is_dead}
use Rattle.path_core.specs.Events.{is_dead_or_listening}
use Rattle.path_core.specs.State.{PathState}
use Rattle.path_core.specs.Values.{Carried, values}
use Rattle.world_laws.specs.declared.outcome.Outcome.TheVariants.{Delivered, Going}
use Rattle.world_laws.specs.Actors.{ActorCrew}
use Rattle.world_laws.specs.Openings.{Start}
use Rattle.world_laws.specs.Outcomes.{are_all_dead, is_no_live_path, notes_of, outcome_by, outcome_of, tells_abort, tells_end, was_told}
use Rattle.world_laws.specs.RoundDone.{reached}
use Rattle.world_laws.specs.Worlds.{Turn}
use Rattle.whole_paths.specs.Finish.{IsPathAt}
use Rattle.whole_paths.specs.Mild.{IsMildStart}
use Rattle.whole_paths.proofs.Deliveries.{never_aborted}

-- a path lives
lives : (crew : List (ActorCrew Carried)) (i : ℕ) (c : ActorCrew Carried) → slice_get crew i ≡ Some c → is_no_live_path c.member ≡ false → are_all_dead crew ≡ false
lives [] i c there alive = cc
lives (d ∷ crew) zero c there alive = ap (λ b. b && are_all_dead crew) (ap (λ (e : ActorCrew Carried). is_no_live_path e.member) (same_Some d c there) ∙ alive)
lives (d ∷ crew) (suc i) c there alive = ap (λ b. is_no_live_path d.member && b) (lives crew i c there alive) ∙ never (is_no_live_path d.member)
  where
    never : (b : Bool) → b && false ≡ false
    never true = refl
    never false = refl

module _ (start : Start) (mild : IsMildStart start) (turns : List Turn) (p : PathState Carried) (here : IsPathAt 0 (reached values start turns) p) (living : is_dead p.a.tcp.state ≡ false) where
  abbrev crew : List (ActorCrew Carried)
  crew = (reached values start turns).crew

  none_dead : are_all_dead crew ≡ false
  none_dead = lives crew 2 here.crew here.there (ap is_no_live_path here.is ∙ ap (λ b. b && is_dead_or_listening p.b.tcp.state) living)

  abbrev told : Bool
  told = was_told tells_end (notes_of A crew) && was_told tells_end (notes_of B crew)

  outcome_is : outcome_of crew ≡ outcome_by false false told false
  outcome_is =
      ap (λ b. outcome_by b (was_told tells_abort (notes_of B crew)) told (are_all_dead crew)) (never_aborted start turns mild A)
      ∙ ap (λ b. outcome_by false b told (are_all_dead crew)) (never_aborted start turns mild B)
      ∙ ap (λ b. outcome_by false false told b) none_dead

  pub goes_on_living : (outcome_of crew ≡ Going) ⊎ (outcome_of crew ≡ Delivered)
  goes_on_living = by told refl
    where
      by : (b : Bool) → told ≡ b → (outcome_of crew ≡ Going) ⊎ (outcome_of crew ≡ Delivered)
      by true all = inr (outcome_is ∙ ap (λ b. outcome_by false false b false) all)
      by false missing = inl (outcome_is ∙ ap (λ b. outcome_by false false b false) missing)
