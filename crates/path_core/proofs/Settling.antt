-- Passing a duty looks at nothing of the agenda.
--
-- The loop of `settle`: the invariant `settles_down l.self ≡ settles_down l.fn.self` and the measure `length
-- l.self.agenda`; passing looks at nothing of the agenda (`proofs/Settling` of `path_core`, one `refl` a duty).
use Rattle.path_core.proofs.Words.{◌≡◌, refl, ap, ◌∙◌, Bool, if◌then◌else◌, List, [], ◌∷◌, Duty, AskDuty, StepDuty, SendDuty, SilentDuty, PathState}
use Rattle.path_core.proofs.Words.{with_agenda, stands, passed, settled}

module _ {C : Type 0} where
  pub stands_anyway : (d : Duty) (es : List Duty) (p : PathState C) → stands d (with_agenda es p) ≡ stands d p
  stands_anyway (Duty.Ask AskDuty.JoinAgain) es p = refl
  stands_anyway (Duty.Step (StepDuty.Look s)) es p = refl
  stands_anyway (Duty.Send (SendDuty.ResetNoted s)) es p = refl
  stands_anyway (Duty.Silent (SilentDuty.Timer s)) es p = refl
  stands_anyway _ es p = refl

  pub passes_anyway : (d : Duty) (es : List Duty) (p : PathState C) → passed d (with_agenda es p) ≡ with_agenda es (passed d p)
  passes_anyway (Duty.Ask AskDuty.JoinAgain) es p = refl
  passes_anyway (Duty.Step (StepDuty.Look s)) es p = refl
  passes_anyway (Duty.Send (SendDuty.ResetNoted s)) es p = refl
  passes_anyway (Duty.Silent (SilentDuty.Timer s)) es p = refl
  passes_anyway _ es p = refl

  -- what stands in the agenda doesn't matter
  pub settles_anyway : (ds es : List Duty) (p : PathState C) → settled ds (with_agenda es p) ≡ settled ds p
  settles_anyway [] es p = refl
  settles_anyway (d ∷ ds) es p =
      ap (λ (b : Bool). if b then with_agenda (d ∷ ds) p else settled ds (passed d (with_agenda es p))) (stands_anyway d es p)
      ∙ ap (λ q. if stands d p then with_agenda (d ∷ ds) p else q) (ap (settled ds) (passes_anyway d es p) ∙ settles_anyway ds es (passed d p))
