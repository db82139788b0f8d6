-- Duplicates beyond the third change the window alone, so that the acknowledgement finds the threshold of the third.
use Rattle.std.proofs.Common.{◌≡◌, ℕ, zero, suc, refl}
use Rattle.reno_window.specs.Window.{Window}
use Rattle.reno_window.specs.Rules.{after_third_duplicate}
use Rattle.reno_window.specs.Laws.{after_more_duplicates}
use Rattle.reno_window.proofs.laws.recovery_halves_the_flight.Goals as goal

record ChangesTheWindowAlone (old new : Window) : Type 0 where
  mss : new.mss ≡ old.mss
  ssthresh : new.ssthresh ≡ old.ssthresh
  in_fast_recovery : new.in_fast_recovery ≡ old.in_fast_recovery

after_duplicates : (n : ℕ) (w : Window) → ChangesTheWindowAlone w (after_more_duplicates n w)
after_duplicates zero w = record { mss = refl; ssthresh = refl; in_fast_recovery = refl }
after_duplicates (suc n) w =
    let before = after_duplicates n w in
    record { mss = before.mss; ssthresh = before.ssthresh; in_fast_recovery = before.in_fast_recovery }

pub returns : goal.returns
returns c flight bytes growth duplicates w =
    let same = after_duplicates duplicates (after_third_duplicate flight w) in
    rw (same.mss, same.ssthresh, same.in_fast_recovery) refl
