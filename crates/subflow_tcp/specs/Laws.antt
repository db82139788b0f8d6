-- What the rules promise of every end.
use Rattle.std.specs.Prelude.{ℕ, ◌≡◌, ◌+◌, ◌≤◌, ◌⊎◌, Bool, true, false, Option, Some, None, IfSome, IsSome}
use Rattle.rtt_timer.specs.Estimates.{IsWithinBounds}
use Rattle.loss_recovery.specs.Windows.{after_growth}
use Rattle.subflow_tcp.specs.declared.segments.Hint.{Hint}
use Rattle.subflow_tcp.specs.declared.segments.Occasion.{Occasion}
use Rattle.subflow_tcp.specs.declared.verdicts.Meaning.{Meaning}
use Rattle.subflow_tcp.specs.Segments.{Copy}
use Rattle.subflow_tcp.specs.State.{EndState}
use Rattle.subflow_tcp.specs.Taking.{after_arrival}
use Rattle.subflow_tcp.specs.Expiring.{is_timed, after_settling, after_fire}
use Rattle.subflow_tcp.specs.Emitting.{after_sending}

-- ---- the timer
-- a timer that ran out is set at least a second later, or not at all
abbrev pub FiredTimersRest : Type 0
FiredTimersRest = (now : ℕ) (s : EndState) → IsWithinBounds s.timing.rtt.rto
    → IfSome (after_fire now s).timing.timer (λ tick. now + 1000 ≤ tick)

-- settling stops the timer, keeps it, or sets it to the timeout from now on
abbrev pub IsSettled : ℕ → EndState → Option ℕ → Type 0
IsSettled now s timer = (timer ≡ None) ⊎ ((timer ≡ s.timing.timer) ⊎ (timer ≡ Some (now + s.timing.rtt.rto)))

-- whatever reasons there are, settling stops the timer, keeps it, or sets it to the timeout from now on
abbrev pub SettlingSetsTheTimeout : Type 0
SettlingSetsTheTimeout = (on restart : Bool) (now : ℕ) (s : EndState) → IsSettled now s (after_settling on restart now s).timing.timer

-- no timer runs on without a reason
abbrev pub NoTimerWithoutAReason : Type 0
NoTimerWithoutAReason = (on restart : Bool) (now : ℕ) (s : EndState) → is_timed on s ≡ false
    → (after_settling on restart now s).timing.timer ≡ None

-- with a reason a timer runs
abbrev pub TimerWithAReason : Type 0
TimerWithAReason = (on restart : Bool) (now : ℕ) (s : EndState) → is_timed on s ≡ true
    → IsSome (after_settling on restart now s).timing.timer

-- ---- the congestion window
-- cwnd, in octets
abbrev pub window_of : EndState → ℕ
window_of s = s.congestion.reno.window

-- the end is in a fast recovery
abbrev pub recovers : EndState → Bool
recovers s = s.congestion.reno.in_fast_recovery

-- whatever a segment means, the window falls only where a fast recovery ends or begins
abbrev pub ArrivalsKeepTheWindow : Type 0
ArrivalsKeepTheWindow = (meaning : Meaning) (hint : Hint) (now : ℕ) (c : Copy) (s : EndState) → window_of s ≤ 1048576
    → recovers s ≡ false → recovers (after_arrival meaning hint now c s) ≡ false
    → window_of s ≤ window_of (after_arrival meaning hint now c s)

-- a growth that is told is one
abbrev pub GrowthsKeepTheWindow : Type 0
GrowthsKeepTheWindow = (growth : ℕ) (s : EndState) → window_of s ≤ 1048576 → recovers s ≡ false
    → window_of s ≤ (after_growth growth s.congestion).reno.window

-- sending leaves it
abbrev pub SendingsKeepTheWindow : Type 0
SendingsKeepTheWindow = (occasion : Occasion) (now : ℕ) (s : EndState) → window_of (after_sending occasion now s) ≡ window_of s
