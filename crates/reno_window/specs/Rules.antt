-- What each event makes of a congestion window (RFC 5681, sections 3.1 and 3.2).
use Rattle.std.specs.Prelude.{ℕ, ◌+◌, ◌*◌, ◌/◌, ◌^◌, ◌<◌, ◌≤◌, min, max, Bool, true, false, nat_lt, nat_le, if◌then◌else◌}
use Rattle.reno_window.specs.Window.{Window}

-- at most 2^20 octets
abbrev pub capped : ℕ → ℕ
capped octets = min 1048576 octets

-- section 3.1: IW is 4 SMSS where SMSS <= 1095, 3 SMSS where 1095 < SMSS <= 2190, and 2 SMSS where SMSS > 2190
abbrev pub segments_at_first : ℕ → ℕ
segments_at_first mss = if nat_le mss 1095 then 4 else (if nat_le mss 2190 then 3 else 2)

-- IW, in octets
abbrev pub initial_window : ℕ → ℕ
initial_window mss = segments_at_first mss * mss

-- ssthresh begins as high as a window gets
abbrev pub opening : ℕ → Window
opening mss = record { mss = mss; window = initial_window mss; ssthresh = 1048576; in_fast_recovery = false }

-- the window is larger by some octets, as far as a window gets
abbrev pub grown : ℕ → Window → Window
grown octets w = record w { window = capped (w.window + octets) }

-- equation 4: half the flight, and no less than two segments
abbrev pub ssthresh_after_loss : ℕ → Window → ℕ
ssthresh_after_loss flight w = max (flight / 2) (2 * w.mss)

-- section 3.2, step 6: the window deflates to ssthresh
abbrev pub recovered : Window → Window
recovered w = record w { window = capped w.ssthresh; in_fast_recovery = false }

-- equation 2: slow start adds what was acknowledged, at most a segment
abbrev pub slowly_started : ℕ → Window → Window
slowly_started bytes w = grown (min bytes w.mss) w

-- something new was acknowledged
abbrev pub after_ack : ℕ → ℕ → Window → Window
after_ack bytes growth w =
    if w.in_fast_recovery then recovered w
    else (if nat_lt w.window w.ssthresh then slowly_started bytes w else grown growth w)

-- section 3.2, steps 2 and 3: the three segments of the duplicates have left the network
abbrev pub after_third_duplicate : ℕ → Window → Window
after_third_duplicate flight w =
    let threshold = ssthresh_after_loss flight w in
    record w { window = capped (threshold + 3 * w.mss); ssthresh = threshold; in_fast_recovery = true }

-- section 3.2, step 4: so has one more
abbrev pub after_more_duplicate : Window → Window
after_more_duplicate w = grown w.mss w

-- section 3.1: one segment, and the threshold by the first expiry alone
abbrev pub after_expiry : ℕ → Bool → Window → Window
after_expiry flight again w = record w {
  window = w.mss;
  ssthresh = (if again then w.ssthresh else ssthresh_after_loss flight w);
  in_fast_recovery = false;
}

-- a window holds a segment, and is no greater than the cap
pub record IsCongestionWindow (mss window : ℕ) : Type 0 where
  pub least : mss ≤ window
  pub greatest : window ≤ 1048576

-- what holds of every window: segments of a size that the MSS option can tell, and a threshold of at least two of them
pub record IsSound (mss window ssthresh : ℕ) : Type 0 where
  pub some : 0 < mss
  pub small : mss < 2 ^ 16
  pub within : IsCongestionWindow mss window
  pub threshold : 2 * mss ≤ ssthresh
