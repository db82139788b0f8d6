-- In what is left of a turn in which no copy is treated, the window is asked for no more.
use Rattle.clean_finish.proofs.Words.{◌≡◌, refl, sym, ap, ◌∙◌, Bool, true, false, ◌⊎◌, inl, inr, List, [], ◌∷◌, both_ways, Side, Duty, AskDuty, Has, any_duty}
use Rattle.clean_finish.proofs.Words.{ArePlain, is_window, is_plain}
use Rattle.clean_finish.proofs.Quiet.{no_window}

none_plain : (d : Duty) → is_plain d ≡ false → (ds : List Duty) → ArePlain ds → Has d ds → ⊥
none_plain d other [] plain there = there
none_plain d other (e ∷ ds) plain (inl same) = both_ways _ (sym (ap is_plain same) ∙ other) plain.0
none_plain d other (e ∷ ds) plain (inr later) = none_plain d other ds plain.2 later

module _ (q : Side) (d : Duty) (other : Duty.Ask (AskDuty.Window q) ≡ d → ⊥) where
  pub asked_before : (ds : List Duty) (b : Bool) → (b ≡ false) ⊎ Has (Duty.Ask (AskDuty.Window q)) (d ∷ ds)
      → any_duty (is_window q) ds ≡ false → b ≡ false
  asked_before ds b (inl is) none = is
  asked_before ds b (inr (inl same)) none = absurd (other same)
  asked_before ds b (inr (inr there)) none = absurd (no_window q ds none there)

  pub asks_no_more : (Duty.Ask (AskDuty.AckOut q) ≡ d → ⊥) → (ds : List Duty) (asked b : Bool) → any_duty (is_window q) ds ≡ false → ArePlain ds
      → (b ≡ false) ⊎ (Has (Duty.Ask (AskDuty.Window q)) (d ∷ ds) ⊎ (Has (Duty.Ask (AskDuty.AckOut q)) (d ∷ ds) × (asked ≡ true)))
      → b ≡ false
  asks_no_more apart ds asked b none plain (inl is) = is
  asks_no_more apart ds asked b none plain (inr (inl (inl same))) = absurd (other same)
  asks_no_more apart ds asked b none plain (inr (inl (inr there))) = absurd (no_window q ds none there)
  asks_no_more apart ds asked b none plain (inr (inr (inl same, so))) = absurd (apart same)
  asks_no_more apart ds asked b none plain (inr (inr (inr there, so))) = absurd (none_plain (Duty.Ask (AskDuty.AckOut q)) refl ds plain there)
