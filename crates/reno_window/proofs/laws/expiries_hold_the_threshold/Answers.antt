-- By induction on the expiries: each leaves the threshold as it was.
use Rattle.std.proofs.Common.{◌≡◌, ℕ, List, [], ◌∷◌, refl}
use Rattle.reno_window.specs.Window.{Window}
use Rattle.reno_window.specs.Laws.{after_repeated_expiries}
use Rattle.reno_window.proofs.laws.expiries_hold_the_threshold.Goals as goal

held : (flights : List ℕ) (w : Window) → (after_repeated_expiries flights w).ssthresh ≡ w.ssthresh
held [] w = refl
held (flight ∷ flights) w = held flights w

pub returns : goal.returns
returns c = held
