-- When a congestion window falls.
use Rattle.std.proofs.Common.{◌≡◌, ℕ, ◌≤◌, Bool, true, false, nat_lt, if◌then◌else◌, Option, Some, None, refl, arith, true≢false}
use Rattle.reno_window.specs.Window.{Window}
use Rattle.reno_window.specs.Rules as reno
use Rattle.loss_recovery.specs.declared.windows.Congestion.{Congestion}
use Rattle.loss_recovery.specs.declared.windows.Pending.{Pending}
use Rattle.loss_recovery.specs.Windows.{acknowledged, grown_by, is_growth_linked}
use Rattle.subflow_send.specs.declared.record.AckKind.{AckKind}
use Rattle.subflow_send.specs.declared.record.AckKind.TheVariants.{New, Duplicate, Old, Future}
use Rattle.subflow_tcp.specs.State.{EndState}
use Rattle.subflow_tcp.specs.Taking.{after_ack_kind, after_duplicate, after_interruption}

-- no smaller, within the cap, and in no fast recovery
pub record Grows (before after : Window) : Type 0 where
  pub window : before.window ≤ after.window
  pub cap : after.window ≤ 1048576
  pub calm : after.in_fast_recovery ≡ false

pub same_grows : (w : Window) → w.window ≤ 1048576 → w.in_fast_recovery ≡ false → Grows w w
same_grows w within calm = record { window = omega arith; cap = within; calm = calm }

grown_grows : (octets : ℕ) (w : Window) → w.window ≤ 1048576 → w.in_fast_recovery ≡ false → Grows w (reno.grown octets w)
grown_grows octets w within calm = record { window = omega arith; cap = omega arith; calm = calm }

calm_window : (r b : Bool) (w z x y : Window) → r ≡ false → Grows w x → Grows w y → Grows w (if r then z else (if b then x else y))
calm_window true b w z x y e p q = absurd (true≢false e)
calm_window false true w z x y e p q = p
calm_window false false w z x y e p q = q

pub ack_grows : (bytes growth : ℕ) (w : Window) → w.window ≤ 1048576 → w.in_fast_recovery ≡ false → Grows w (reno.after_ack bytes growth w)
ack_grows bytes growth w within calm =
    calm_window w.in_fast_recovery (nat_lt w.window w.ssthresh) w (reno.recovered w) (reno.slowly_started bytes w) (reno.grown growth w) calm (grown_grows _ w within calm) (grown_grows growth w within calm)

either : (b : Bool) (w : Window) (x y : Congestion) → Grows w x.reno → Grows w y.reno → Grows w (if b then x else y).reno
either true w x y p q = p
either false w x y p q = q

pub acknowledged_grows : (octets rtt : ℕ) (c : Congestion) → c.reno.window ≤ 1048576 → c.reno.in_fast_recovery ≡ false → Grows c.reno (acknowledged octets rtt c).reno
acknowledged_grows octets rtt c within calm =
    either (is_growth_linked octets c.reno) c.reno _ _ (same_grows c.reno within calm) (ack_grows _ 0 c.reno within calm)

pub kind_grows : (kind : AckKind) (since : Option ℕ) (now : ℕ) (s : EndState) → s.congestion.reno.window ≤ 1048576 → s.congestion.reno.in_fast_recovery ≡ false
    → Grows s.congestion.reno (after_ack_kind kind since now s).congestion.reno
kind_grows (New octets) since now s within calm = acknowledged_grows octets _ s.congestion within calm
kind_grows _ since now s within calm = same_grows s.congestion.reno within calm

-- a duplicate that begins no fast recovery
duplicate_choice : (r d : Bool) (x y z : Congestion) (w : ℕ) → r ≡ false → y.reno.window ≡ w → z.reno.in_fast_recovery ≡ true
    → (if r then x else (if d then y else z)).reno.in_fast_recovery ≡ false → w ≤ (if r then x else (if d then y else z)).reno.window
duplicate_choice true d x y z w e f g h = cc
duplicate_choice false true x y z w e f g h = omega arith
duplicate_choice false false x y z w e f g h = cc

duplicate_keeps : (s : EndState) → s.congestion.reno.in_fast_recovery ≡ false → (after_duplicate s).congestion.reno.in_fast_recovery ≡ false
    → s.congestion.reno.window ≤ (after_duplicate s).congestion.reno.window
duplicate_keeps s calm h =
    duplicate_choice s.congestion.reno.in_fast_recovery (nat_lt s.congestion.duplicates 2) _ _ _ s.congestion.reno.window calm refl refl h

pub row_keeps : (b : Bool) (s : EndState) → s.congestion.reno.in_fast_recovery ≡ false
    → (if b then after_duplicate s else after_interruption s).congestion.reno.in_fast_recovery ≡ false
    → s.congestion.reno.window ≤ (if b then after_duplicate s else after_interruption s).congestion.reno.window
row_keeps true s calm h = duplicate_keeps s calm h
row_keeps false s calm h = omega arith

pub growth_keeps : (growth : ℕ) (p : Option Pending) (c : Congestion) → c.reno.window ≤ 1048576 → c.reno.in_fast_recovery ≡ false
    → c.reno.window ≤ (grown_by growth p c).reno.window
growth_keeps growth None c within calm = omega arith
growth_keeps growth (Some p) c within calm = (ack_grows p.acked growth c.reno within calm).window
