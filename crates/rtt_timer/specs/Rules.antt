-- What each event makes of a retransmission timer (RFC 6298).
use Rattle.std.specs.Prelude.{ℕ, ◌*◌, min, Option, Some, None}
use Rattle.rtt_timer.specs.declared.estimate.Estimate.{Estimate}
use Rattle.rtt_timer.specs.Estimates.{first_estimate, next_estimate, rto_of}
use Rattle.rtt_timer.specs.Timer.{Timer}

-- rule 2.1: one second until a round-trip time is known
abbrev pub opening : Timer
opening = record { estimate = None; rto = 1000 }

-- the estimate with one more sample
abbrev pub estimate_with : ℕ → Option Estimate → Estimate
estimate_with r None = first_estimate r
estimate_with r (Some e) = next_estimate r e

-- a sample gives the estimate, and that the timeout
abbrev pub after_sample : ℕ → Timer → Timer
after_sample r t = let e = estimate_with r t.estimate in record { estimate = Some e; rto = rto_of e }

-- rule 5.5: RTO <- RTO * 2, up to a minute
abbrev pub after_expiry : Timer → Timer
after_expiry t = record { estimate = t.estimate; rto = min 60000 (2 * t.rto) }
