-- What a congestion window is (RFC 5681). All sizes are octets.
use Rattle.std.specs.Prelude.{ℕ, Bool}

pub record Window : Type 0 where
  -- SMSS
  pub mss : ℕ
  -- cwnd
  pub window : ℕ
  pub ssthresh : ℕ
  -- a third duplicate came, and nothing new was acknowledged since, nor did the timer expire
  pub in_fast_recovery : Bool
