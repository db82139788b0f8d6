-- By induction on the number of expiries.
use Rattle.std.proofs.Common.{◌≡◌, ℕ, zero, suc, ◌*◌, ◌^◌, min, arith}
use Rattle.std.proofs.Math.Nat.{pow-succ'}
use Rattle.rtt_timer.specs.Estimates.{IsWithinBounds}
use Rattle.rtt_timer.specs.Timer.{Timer}
use Rattle.rtt_timer.specs.Laws.{after_expiries}
use Rattle.rtt_timer.proofs.laws.expiries_double.Goals as goal

backs_off : (n : ℕ) (t : Timer) → IsWithinBounds t.rto
    → (after_expiries n t).rto ≡ min 60000 (2 ^ n * t.rto)
backs_off zero t within = omega arith
backs_off (suc n) t within =
    let once_more : 2 ^ suc n * t.rto ≡ 2 * (2 ^ n * t.rto) = rw (pow-succ') (omega arith) in
    let before = backs_off n t within in
    omega arith

pub returns : goal.returns
returns c = backs_off
