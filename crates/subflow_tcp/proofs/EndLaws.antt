-- The laws of every end.
use Rattle.std.proofs.Common.{◌≡◌, ℕ, ◌+◌, ◌≤◌, ◌⊎◌, Bool, true, false, if◌then◌else◌, ◌||◌, is_none, Option, Some, None, IfSome, refl, inl, inr, arith}
use Rattle.std.proofs.Math.Nat.{le_trans}
use Rattle.std.specs.Option.{IsSome}
use Rattle.subflow_send.specs.Rules.{ack_kind, sample_of, after_acknowledge}
use Rattle.subflow_tcp.specs.declared.handshake.State.TheVariants.{Established}
use Rattle.subflow_tcp.specs.declared.segments.Hint.{Hint}
use Rattle.subflow_tcp.specs.declared.segments.Occasion.{Occasion}
use Rattle.subflow_tcp.specs.declared.verdicts.Meaning.{Meaning}
use Rattle.subflow_tcp.specs.Segments.{Copy}
use Rattle.subflow_tcp.specs.State.{EndState}
use Rattle.subflow_tcp.specs.Taking.{after_payload, after_hearing, after_established, after_acknowledgement, is_duplicate, told_by, after_duplicate, after_interruption, after_death}
use Rattle.subflow_tcp.specs.Expiring.{is_timed, is_sixth, after_expiry}
use Rattle.subflow_tcp.specs.Laws.{FiredTimersRest, SettlingSetsTheTimeout, NoTimerWithoutAReason, TimerWithAReason, window_of, recovers, ArrivalsKeepTheWindow, GrowthsKeepTheWindow, SendingsKeepTheWindow}
use Rattle.subflow_tcp.proofs.WindowGrowth.{kind_grows, row_keeps, growth_keeps}

-- ---- the timer
either_rests : (b : Bool) (now : ℕ) (x y : EndState) → IfSome x.timing.timer (λ tick. now + 1000 ≤ tick) → IfSome y.timing.timer (λ tick. now + 1000 ≤ tick)
    → IfSome (if b then x else y).timing.timer (λ tick. now + 1000 ≤ tick)
either_rests true now x y p q = p
either_rests false now x y p q = q

pub fired_rests : FiredTimersRest
fired_rests now s bounds =
    let least = bounds.least in
    either_rests (is_sixth s) now (after_death true s) (after_expiry now s) tt (omega arith)

settled_either : (reason running restart : Bool) (now rto : ℕ) (timer : Option ℕ)
    → ((if reason then (if running then Some (now + rto) else timer) else None) ≡ None) ⊎ (((if reason then (if running then Some (now + rto) else timer) else None) ≡ timer) ⊎ ((if reason then (if running then Some (now + rto) else timer) else None) ≡ Some (now + rto)))
settled_either false running restart now rto timer = inl refl
settled_either true true restart now rto timer = inr (inr refl)
settled_either true false restart now rto timer = inr (inl refl)

pub settling_sets : SettlingSetsTheTimeout
settling_sets on restart now s =
    settled_either (is_timed on s) (is_none s.timing.timer || (s.timing.news || restart)) restart now s.timing.rtt.rto s.timing.timer

pub none_without : NoTimerWithoutAReason
none_without on restart now s e = rw e refl

runs_either : (o : Option ℕ) (again : Bool) (tick : ℕ) → IsSome (if is_none o || again then Some tick else o)
runs_either None again tick = refl
runs_either (Some was) true tick = refl
runs_either (Some was) false tick = refl

pub some_with : TimerWithAReason
some_with on restart now s e = rw e (runs_either s.timing.timer (s.timing.news || restart) (now + s.timing.rtt.rto))

-- ---- the congestion window
taken_keeps : (acknowledged now : ℕ) (hint : Hint) (c : Copy) (s : EndState) → window_of s ≤ 1048576 → recovers s ≡ false
    → recovers (if is_duplicate (ack_kind acknowledged s.send) (told_by hint c) c (after_acknowledgement acknowledged now s)
    then after_duplicate (after_acknowledgement acknowledged now s)
    else after_interruption (after_acknowledgement acknowledged now s)) ≡ false
    → window_of s ≤ window_of (if is_duplicate (ack_kind acknowledged s.send) (told_by hint c) c (after_acknowledgement acknowledged now s)
    then after_duplicate (after_acknowledgement acknowledged now s)
    else after_interruption (after_acknowledgement acknowledged now s))
taken_keeps acknowledged now hint c s within calm h =
    let grows = kind_grows (ack_kind acknowledged s.send) (sample_of acknowledged s.send) now (record s { send = after_acknowledge acknowledged s.send }) within calm in
    let first : window_of s ≤ window_of (after_acknowledgement acknowledged now s) = grows.window in
    let second = row_keeps (is_duplicate (ack_kind acknowledged s.send) (told_by hint c) c (after_acknowledgement acknowledged now s)) (after_acknowledgement acknowledged now s) grows.calm h in
    le_trans first second

pub arrivals_keep : ArrivalsKeepTheWindow
arrivals_keep (Meaning.Accepts acknowledged) hint now c s within calm h =
    let opened : EndState = record (after_hearing (after_payload 1 hint c s)) { state = Established } in
    (kind_grows (ack_kind acknowledged s.send) (sample_of acknowledged s.send) now (record opened { send = after_acknowledge acknowledged s.send }) within calm).window
arrivals_keep (Meaning.Taken pos acknowledged) hint now c s within calm h =
    taken_keeps acknowledged now hint c (after_established (after_hearing (after_payload pos hint c s))) within calm h
arrivals_keep _ hint now c s within calm h = omega arith

pub growths_keep : GrowthsKeepTheWindow
growths_keep growth s within calm = growth_keeps growth s.congestion.pending s.congestion within calm

pub sendings_keep : SendingsKeepTheWindow
sendings_keep Occasion.Reset now s = refl
sendings_keep _ now s = refl
