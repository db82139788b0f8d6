-- The timer of an end: when it runs, and what its expiry makes (RFC 6298, section 5; RFC 5681, section 3.1).
use Rattle.std.specs.Prelude.{ℕ, Bool, true, not, ◌&&◌, ◌||◌, nat_le, if◌then◌else◌}
use Rattle.subflow_send.specs.Rules.{after_expired, again_at_expiry}
use Rattle.subflow_tcp.specs.declared.verdicts.Fired.{Fired}
use Rattle.subflow_tcp.specs.declared.verdicts.Fired.TheVariants.{Again, Probe, Died}
use Rattle.subflow_tcp.specs.States.{is_closed_to_segments}
use Rattle.loss_recovery.specs.Timers as timers
use Rattle.loss_recovery.specs.Windows as windows
use Rattle.subflow_tcp.specs.Dues.{owing_first}
use Rattle.subflow_tcp.specs.State.{EndState, has_records}
use Rattle.subflow_tcp.specs.Sizes.{flight_told}
use Rattle.subflow_tcp.specs.Taking.{after_death}

-- a record that isn't acknowledged is a reason for the timer; the layer above has others
abbrev pub is_timed : Bool → EndState → Bool
is_timed on s = not (is_closed_to_segments s.state) && (on || has_records s)

-- the timer is settled by whether there is a reason for it
abbrev pub after_settling : Bool → Bool → ℕ → EndState → EndState
after_settling on restart now s = record s { timing = timers.settled (is_timed on s) restart now s.timing }

-- ---- an expiry
-- five came before it without an acceptable segment in between
abbrev pub is_sixth : EndState → Bool
is_sixth s = nat_le 5 s.timing.expiries

-- the first record is sent again, and every other one is to be sent; the window is one segment, and the timeout doubles
abbrev pub after_expiry : ℕ → EndState → EndState
after_expiry now s = record s {
  send = after_expired s.send;
  timing = timers.expired now s.timing;
  congestion = windows.expired (flight_told s.send) (again_at_expiry s.send) s.congestion;
  due = (if has_records s then owing_first s.due else s.due);
}

-- the sixth in a row ends the end by a reset
abbrev pub after_fire : ℕ → EndState → EndState
after_fire now s = if is_sixth s then after_death true s else after_expiry now s

-- the sixth in a row is death; else the first record goes again, or without one what the layer above owes
abbrev pub fired_of : EndState → Fired
fired_of s = if is_sixth s then Died else (if has_records s then Again else Probe)
