-- What a retransmission timer is: what its samples say, and its timeout.
use Rattle.std.specs.Prelude.{ℕ, Option}
use Rattle.rtt_timer.specs.declared.estimate.Estimate.{Estimate}

pub record Timer : Type 0 where
  -- none until the first sample
  pub estimate : Option Estimate
  -- in ticks
  pub rto : ℕ
