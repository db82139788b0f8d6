-- By induction on the acknowledgements: below the threshold each leaves all but the window as it was.
use Rattle.std.proofs.Common.{◌≡◌, ℕ, zero, suc, ◌+◌, ◌*◌, ◌<◌, ◌≤◌, min, true, false, nat_lt, refl, arith, rules}
use Rattle.reno_window.specs.Window.{Window}
use Rattle.reno_window.specs.Rules.{after_ack}
use Rattle.reno_window.specs.Laws.{after_acks}
use Rattle.reno_window.proofs.laws.slow_start_adds_a_segment.Goals as goal

record IsGrownBy (segments : ℕ) (old new : Window) : Type 0 where
  mss : new.mss ≡ old.mss
  window : new.window ≡ old.window + segments * old.mss
  ssthresh : new.ssthresh ≡ old.ssthresh
  in_fast_recovery : new.in_fast_recovery ≡ false

one_more : (bytes growth segments : ℕ) (old new : Window) → IsGrownBy segments old new
    → 0 < old.mss → old.mss ≤ bytes → old.window + suc segments * old.mss ≤ min old.ssthresh 1048576
    → IsGrownBy (suc segments) old (after_ack bytes growth new)
one_more bytes growth segments old new before some whole room =
    let below : new.window < new.ssthresh = omega (arith, before.mss, before.window, before.ssthresh) in
    let test : nat_lt new.window new.ssthresh ≡ true = search rules in
    rw (before.in_fast_recovery, test)
    record {
      mss = before.mss;
      window = omega (arith, before.mss, before.window, before.ssthresh);
      ssthresh = before.ssthresh;
      in_fast_recovery = refl;
    }

grown_by : (acks bytes growth : ℕ) (w : Window) → w.in_fast_recovery ≡ false
    → 0 < w.mss → w.mss ≤ bytes → w.window + acks * w.mss ≤ min w.ssthresh 1048576
    → IsGrownBy acks w (after_acks acks bytes growth w)
grown_by zero bytes growth w normal some whole room =
    record { mss = refl; window = omega arith; ssthresh = refl; in_fast_recovery = normal }
grown_by (suc acks) bytes growth w normal some whole room =
    one_more bytes growth acks w (after_acks acks bytes growth w)
    (grown_by acks bytes growth w normal some whole (omega arith)) some whole room

pub returns : goal.returns
returns c acks bytes growth w normal some whole room = (grown_by acks bytes growth w normal some whole room).window
