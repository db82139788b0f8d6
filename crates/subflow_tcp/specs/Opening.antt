-- The ends of a path before anything came.
use Rattle.std.specs.Prelude.{ℕ, Bool, None, []}
use Rattle.subflow_send.specs.Rules as sending
use Rattle.subflow_recv.specs.Receiving.{Receiving}
use Rattle.subflow_tcp.specs.declared.handshake.State.{State}
use Rattle.subflow_tcp.specs.declared.handshake.State.TheVariants.{SynSent}
use Rattle.loss_recovery.specs.Timers as timers
use Rattle.loss_recovery.specs.Windows as windows
use Rattle.subflow_tcp.specs.Dues.{nothing_due}
use Rattle.subflow_tcp.specs.State.{EndState}

-- nothing has come; the peer's SYN will stand at position 0, and its first octet at 1
abbrev pub nothing_came : Receiving
nothing_came = record { edge = 1; window = 1048576; places = []; incoming = None }

-- an end before its first segment; its SYN is to be sent as soon as the state lets it
abbrev pub new_end : State → Bool → ℕ → ℕ → ℕ → EndState
new_end state opens path own mss = record {
  numbers = record { path = path; opens = opens; own = own; peer = None };
  state = state;
  send = sending.opening;
  recv = nothing_came;
  fin_at = None;
  timing = timers.opening;
  congestion = windows.opening mss;
  due = nothing_due;
}

-- the waiting end opens
abbrev pub after_begin : EndState → EndState
after_begin s = record s { state = SynSent }
