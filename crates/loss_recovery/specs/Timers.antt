-- When the timer of an end runs, and what each event makes of it (RFC 6298, section 5).
use Rattle.std.specs.Prelude.{ℕ, ◌+◌, ◌-◌, min, max, Bool, true, false, ◌||◌, if◌then◌else◌, is_none, Option, Some, None}
use Rattle.rtt_timer.specs.Timer.{Timer}
use Rattle.rtt_timer.specs.Estimates.{srtt_of}
use Rattle.rtt_timer.specs.Rules as rules
use Rattle.rtt_timer.specs.declared.estimate.Estimate.{Estimate}
use Rattle.loss_recovery.specs.declared.timers.Timing.{Timing}

-- at first no timer runs, and the timeout is that of RFC 6298, section 2, rule 2.1
abbrev pub opening : Timing
opening = record { rtt = rules.opening; timer = None; expiries = 0; news = false }

-- an acceptable segment came: the expiries in a row end
abbrev pub heard : Timing → Timing
heard t = record t { expiries = 0 }

-- a sample is the time since the only sending, and at most a minute
abbrev pub time_since : ℕ → ℕ → ℕ
time_since first now = min (now - first) 60000

-- the estimate with the sample since this tick, if there is one
abbrev pub sampled : Option ℕ → ℕ → Timer → Timer
sampled None now rtt = rtt
sampled (Some first) now rtt = rules.after_sample (time_since first now) rtt

-- something new was acknowledged
abbrev pub measured : Option ℕ → ℕ → Timing → Timing
measured since now t = record t { rtt = sampled since now t.rtt; news = true }

-- without a reason no timer runs; it starts where it gets one, and anew where something new was acknowledged
abbrev pub timer_settled : Bool → Bool → ℕ → Timing → Option ℕ
timer_settled reason restart now t =
    if reason then (if is_none t.timer || (t.news || restart) then Some (now + t.rtt.rto) else t.timer) else None

-- the timer is settled so, and what was new counts no longer
abbrev pub settled : Bool → Bool → ℕ → Timing → Timing
settled reason restart now t = record t { timer = timer_settled reason restart now t; news = false }

-- the timeout is doubled, and the timer starts anew
abbrev pub expired : ℕ → Timing → Timing
expired now t =
    let rtt = rules.after_expiry t.rtt in
    record t { rtt = rtt; timer = Some (now + rtt.rto); expiries = t.expiries + 1 }

abbrev pub stopped : Timing → Timing
stopped t = record t { timer = None }

-- the smoothed round-trip time, at least 1; 1,000 ticks until it is known
abbrev pub told_of : Option Estimate → ℕ
told_of None = 1000
told_of (Some e) = max 1 (srtt_of e)

-- a timing's smoothed round-trip time, at least 1; 1,000 ticks until it is known
abbrev pub rtt_told : Timing → ℕ
rtt_told t = told_of t.rtt.estimate
