-- One end of a subflow by positions.
use Rattle.std.specs.Prelude.{ℕ, Bool, true, false, nat_lt, nat_le, ◌||◌, ◌^◌, ◌≡◌, Option, Some, None, List, [], ◌∷◌}
use Rattle.subflow_send.specs.Records.{SendState, Record}
use Rattle.subflow_recv.specs.Receiving.{Receiving}
use Rattle.subflow_tcp.specs.declared.handshake.State.{State}
use Rattle.subflow_tcp.specs.declared.spelling.Numbers.{Numbers}
use Rattle.loss_recovery.specs.declared.timers.Timing.{Timing}
use Rattle.loss_recovery.specs.declared.windows.Congestion.{Congestion}
use Rattle.subflow_tcp.specs.declared.dues.Due.{Due}
use Rattle.subflow_tcp.specs.States.{is_behind_fin}

pub record EndState : Type 0 where
  -- ports and initial numbers, which the octets alone need
  pub numbers : Numbers
  -- how far the end is
  pub state : State
  -- SND.UNA, SND.NXT, and what isn't acknowledged
  pub send : SendState
  -- RCV.NXT, and what has come from there on
  pub recv : Receiving
  -- the position of the peer's FIN, once one was heard
  pub fin_at : Option ℕ
  pub timing : Timing
  pub congestion : Congestion
  pub due : Due

-- a record isn't acknowledged
abbrev pub is_some_record : List Record → Bool
is_some_record [] = false
is_some_record (r ∷ rs) = true

-- the SYN, a piece or the FIN isn't acknowledged whole
abbrev pub has_records : EndState → Bool
has_records s = is_some_record s.send.records

-- the edge lies behind this position, where there is one
abbrev pub is_behind : Option ℕ → ℕ → Bool
is_behind None edge = false
is_behind (Some pos) edge = nat_lt pos edge

-- the receive edge lies behind the peer's FIN
abbrev pub is_fin_passed : EndState → Bool
is_fin_passed s = is_behind s.fin_at s.recv.edge

-- positions end at 2^61: an end there takes nothing more
abbrev pub is_at_limit : EndState → Bool
is_at_limit s = nat_le (2 ^ 61) s.send.nxt || nat_le (2 ^ 61) s.recv.edge

-- once the FIN was pushed, the end is in one of the states behind that
abbrev pub IsFinTold : Bool → State → Type 0
IsFinTold false state = Unit {0}
IsFinTold true state = is_behind_fin state ≡ true
