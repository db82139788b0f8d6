-- What the rules promise of whole runs.
use Rattle.std.specs.Prelude.{ℕ, zero, suc, ◌≡◌, ◌+◌, ◌*◌, ◌<◌, ◌≤◌, min, true, false, List, [], ◌∷◌}
use Rattle.reno_window.specs.Window.{Window}
use Rattle.reno_window.specs.Rules.{capped, ssthresh_after_loss, after_ack, after_third_duplicate, after_more_duplicate, after_expiry}

-- the window after so many duplicates beyond the third
abbrev pub after_more_duplicates : ℕ → Window → Window
after_more_duplicates zero w = w
after_more_duplicates (suc n) w = after_more_duplicate (after_more_duplicates n w)

-- a fast recovery ends with half the flight that it began with, however many duplicates it heard
abbrev pub RecoveryHalvesTheFlight : Type 0
RecoveryHalvesTheFlight = (flight bytes growth duplicates : ℕ) (w : Window)
    → after_ack bytes growth (after_more_duplicates duplicates (after_third_duplicate flight w))
    ≡ record w {
      window = capped (ssthresh_after_loss flight w);
      ssthresh = ssthresh_after_loss flight w;
      in_fast_recovery = false;
    }

-- the window after so many acknowledgements of as many octets each
abbrev pub after_acks : ℕ → ℕ → ℕ → Window → Window
after_acks zero bytes growth w = w
after_acks (suc n) bytes growth w = after_ack bytes growth (after_acks n bytes growth w)

-- up to the threshold each acknowledgement of a segment or more adds one segment
abbrev pub SlowStartAddsASegment : Type 0
SlowStartAddsASegment = (acks bytes growth : ℕ) (w : Window) → w.in_fast_recovery ≡ false
    → 0 < w.mss → w.mss ≤ bytes
    → w.window + acks * w.mss ≤ min w.ssthresh 1048576
    → (after_acks acks bytes growth w).window ≡ w.window + acks * w.mss

-- the window after expiries that send the same segment again, at these flights
abbrev pub after_repeated_expiries : List ℕ → Window → Window
after_repeated_expiries [] w = w
after_repeated_expiries (flight ∷ flights) w = after_expiry flight true (after_repeated_expiries flights w)

-- repeated expiries leave the threshold that the first loss set
abbrev pub RepeatedExpiriesHoldTheThreshold : Type 0
RepeatedExpiriesHoldTheThreshold = (flights : List ℕ) (w : Window)
    → (after_repeated_expiries flights w).ssthresh ≡ w.ssthresh
