-- What the rules promise of the means, and of whole runs.
use Rattle.std.specs.Prelude.{ℕ, zero, suc, ◌≡◌, ◌+◌, ◌*◌, ◌^◌, ◌<◌, ◌≤◌, min}
use Rattle.rtt_timer.specs.declared.estimate.Estimate.{Estimate}
use Rattle.rtt_timer.specs.Estimates.{distance, srtt_of, next_estimate, IsWithinBounds}
use Rattle.rtt_timer.specs.Timer.{Timer}
use Rattle.rtt_timer.specs.Rules.{after_expiry}

-- q is n / d, rounded up
abbrev pub IsRoundedUp : ℕ → ℕ → ℕ → Type 0
IsRoundedUp n d q = (n ≤ d * q) × (d * q < n + d)

-- SRTT becomes (1 - 1/8) SRTT + 1/8 R, rounded up to an eighth of a tick
abbrev pub SmoothsTheTime : Type 0
SmoothsTheTime = (r : ℕ) (e : Estimate)
    → IsRoundedUp (7 * e.srtt_eighths + 8 * r) 8 (next_estimate r e).srtt_eighths

-- RTTVAR becomes (1 - 1/4) RTTVAR + 1/4 |SRTT - R|, rounded up to a quarter of a tick
abbrev pub SmoothsTheVariation : Type 0
SmoothsTheVariation = (r : ℕ) (e : Estimate)
    → IsRoundedUp (3 * e.rttvar_quarters + 4 * distance (srtt_of e) r) 4 (next_estimate r e).rttvar_quarters

-- the timer after so many expiries in a row
abbrev pub after_expiries : ℕ → Timer → Timer
after_expiries zero t = t
after_expiries (suc n) t = after_expiry (after_expiries n t)

-- n expiries in a row make the timeout 2^n times as long, up to a minute
abbrev pub BacksOff : Type 0
BacksOff = (n : ℕ) (t : Timer) → IsWithinBounds t.rto
    → (after_expiries n t).rto ≡ min 60000 (2 ^ n * t.rto)
