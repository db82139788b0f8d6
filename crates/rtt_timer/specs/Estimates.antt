-- SRTT and RTTVAR by the rules of RFC 6298, section 2. SRTT is counted in eighths of a tick, RTTVAR in quarters.
use Rattle.std.specs.Prelude.{ℕ, ◌+◌, ◌-◌, ◌*◌, ◌/◌, ◌≤◌, min, max}
use Rattle.rtt_timer.specs.declared.estimate.Estimate.{Estimate}

-- |x - y|
abbrev pub distance : ℕ → ℕ → ℕ
distance x y = max x y - min x y

-- SRTT in whole ticks
abbrev pub srtt_of : Estimate → ℕ
srtt_of e = e.srtt_eighths / 8

-- rule 2.2: SRTT <- R, RTTVAR <- R/2
abbrev pub first_estimate : ℕ → Estimate
first_estimate r = record { srtt_eighths = 8 * r; rttvar_quarters = 2 * r }

-- rule 2.3: RTTVAR <- (1 - 1/4) RTTVAR + 1/4 |SRTT - R|, by the SRTT from before; SRTT <- (1 - 1/8) SRTT + 1/8 R
abbrev pub next_estimate : ℕ → Estimate → Estimate
next_estimate r e = record {
  srtt_eighths = e.srtt_eighths - e.srtt_eighths / 8 + r;
  rttvar_quarters = e.rttvar_quarters - e.rttvar_quarters / 4 + distance (srtt_of e) r;
}

-- rules 2.4 and 2.5: not below a second, not above a minute
abbrev pub bounded : ℕ → ℕ
bounded rto = min 60000 (max 1000 rto)

-- RTO <- SRTT + max (G, 4 RTTVAR), bounded; G is one tick
abbrev pub rto_of : Estimate → ℕ
rto_of e = bounded (srtt_of e + max 1 e.rttvar_quarters)

-- no mean is above the greatest sample, of a minute
pub record IsMeasured (e : Estimate) : Type 0 where
  pub srtt : e.srtt_eighths ≤ 8 * 60000
  pub rttvar : e.rttvar_quarters ≤ 4 * 60000

-- a timeout between a second and a minute
pub record IsWithinBounds (rto : ℕ) : Type 0 where
  pub least : 1000 ≤ rto
  pub greatest : rto ≤ 60000
