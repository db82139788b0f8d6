-- A path of which what comes to nothing is passed over: its first duty comes to something.
use Rattle.world_laws.proofs.Words.{◌≡◌, refl, true, false, if◌then◌else◌, List, [], ◌∷◌, Duty, SendDuty, StepDuty, AskDuty, SilentDuty, stands, passed}
use Rattle.world_laws.proofs.Words.{PathState, with_agenda, settled, IsSettled}

module _ {C : Type 0} where
  same_stands : (d : Duty) (ds : List Duty) (p : PathState C) → stands d p ≡ true → stands d (with_agenda ds p) ≡ true
  same_stands (Duty.Ask AskDuty.JoinAgain) ds p is = is
  same_stands (Duty.Step (StepDuty.Look s)) ds p is = is
  same_stands (Duty.Send (SendDuty.Update s)) ds p is = is
  same_stands (Duty.Silent (SilentDuty.Timer s)) ds p is = is
  same_stands _ ds p is = is

  pub settled_settled : (ds : List Duty) (p : PathState C) → IsSettled (settled ds p)
  settled_settled [] p = tt
  settled_settled (d ∷ ds) p = (elim (stands d p) as (λ b. stands d p ≡ b → IsSettled (settled ds (passed d p)) → IsSettled (if b then with_agenda (d ∷ ds) p else settled ds (passed d p)))
      [ true ↦ λ is rest. same_stands d (d ∷ ds) p is | false ↦ λ is rest. rest ]) refl (settled_settled ds (passed d p))
