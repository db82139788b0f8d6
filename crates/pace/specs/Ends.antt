-- What holds of a lane at the ends of rounds.
use Rattle.std.specs.Prelude.{ℕ, zero, suc, ◌≡◌, ◌+◌, ◌*◌, ◌≤◌, true, None, IfSome}
use Rattle.pace.specs.Lane.{Setting, Lane, none_left}
use Rattle.pace.specs.Rules.{opens_round}
use Rattle.pace.specs.Going.{Going, Reason}
use Rattle.pace.specs.Rounds.{Linked}

-- a round ended with this lane
pub record Ended (k : Setting) (w : Lane) : Type 0 where
  pub begun : Lane
  pub tick : ℕ
  pub going : Going k begun tick none_left w

-- one round leads from w to u, in which both applications and the path came to the end of their turns
pub record Passed (k : Setting) (w u : Lane) : Type 0 where
  pub tick : ℕ
  pub going : Going k (opens_round w) tick none_left u
  pub writer : u.writer_over ≡ true
  pub reader : u.reader_over ≡ true

-- a number of rounds leads from w to u
abbrev pub Trail : Setting → ℕ → Lane → Lane → Type 0
Trail k zero w u = w ≡ u
Trail k (suc n) w u = (v : Lane) × Trail k n w v × Passed k v u

-- A timer runs at w, or may: since the end of a round at most seven rounds ago it has had a reason and no
-- news, and it runs out no earlier than 800 ticks after that end.
pub record HasWaited (k : Setting) (w : Lane) : Type 0 where
  pub base : Lane
  pub count : ℕ
  pub few : count ≤ 7
  pub ended : Ended k base
  pub reason : Reason k base
  pub trail : Trail k count base w
  pub same : w.acked ≤ base.acked
  pub same_control : w.control_acked ≤ base.control_acked
  pub ticks : w.until ≡ base.until + 100 * count
  pub timer : IfSome w.timer (λ x. Reason k w × (base.until + 800 ≤ x))

-- no timer runs, or one has waited
pub data IsStill (k : Setting) (w : Lane) : Type 0 where
  rests : w.timer ≡ None → IsStill k w
  waits : HasWaited k w → IsStill k w

-- a round ended, and no timer has waited for long
pub record Calm (k : Setting) (w : Lane) : Type 0 where
  pub ended : Ended k w
  pub still : IsStill k w

-- a timer that begins in the next round runs for its whole timeout, and one that has waited for the rest of it
abbrev pub tick_by : (k : Setting) (w : Lane) → IsStill k w → ℕ
tick_by k w (rests none) = w.until + k.rto
tick_by k w (waits h) = h.base.until + 800

-- a tick before which no timer runs out in the round after a calm end
abbrev pub calm_tick : (k : Setting) (w : Lane) → Calm k w → ℕ
calm_tick k w c = tick_by k w c.still

-- a number of rounds leads both lanes of a connection from w and v to u and x, linked at the end of each round
abbrev pub LinkedTrail : Setting → Setting → ℕ → Lane → Lane → Lane → Lane → Type 0
LinkedTrail k j zero w v u x = (w ≡ u) × (v ≡ x)
LinkedTrail k j (suc n) w v u x = (y : Lane) × (z : Lane) × LinkedTrail k j n w v y z
    × Passed k y u × Passed j z x × Linked u x
