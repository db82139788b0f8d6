-- The states of an end and how its FINs change them (RFC 9293, section 3.3.2).
use Rattle.std.specs.Prelude.{Bool, true, false}
use Rattle.subflow_tcp.specs.declared.handshake.State.{State}
use Rattle.subflow_tcp.specs.declared.handshake.State.TheVariants.{Waiting, Listen, SynSent, SynReceived, Established, FinWait1, FinWait2, CloseWait, Closing, LastAck, TimeWait, Dead}

-- an end that sends no record: it waits, it listens, or it is dead
abbrev pub is_closed_to_segments : State → Bool
is_closed_to_segments Waiting = true
is_closed_to_segments Listen = true
is_closed_to_segments Dead = true
is_closed_to_segments _ = false

abbrev pub is_opening : State → Bool
is_opening SynSent = true
is_opening _ = false

-- the SYN/ACK isn't acknowledged
abbrev pub is_half_open : State → Bool
is_half_open SynReceived = true
is_half_open _ = false

abbrev pub is_dead : State → Bool
is_dead Dead = true
is_dead _ = false

abbrev pub is_waiting : State → Bool
is_waiting Waiting = true
is_waiting _ = false

-- the FIN may be sent: both SYNs are acknowledged, and no FIN was sent
abbrev pub may_finish : State → Bool
may_finish Established = true
may_finish CloseWait = true
may_finish _ = false

-- the FIN was pushed, or the end is dead
abbrev pub is_behind_fin : State → Bool
is_behind_fin FinWait1 = true
is_behind_fin FinWait2 = true
is_behind_fin Closing = true
is_behind_fin LastAck = true
is_behind_fin TimeWait = true
is_behind_fin Dead = true
is_behind_fin _ = false

-- the own FIN is sent
abbrev pub after_finish : State → State
after_finish Established = FinWait1
after_finish CloseWait = LastAck
after_finish s = s

-- the own FIN is acknowledged; LastAck and TimeWait stay
abbrev pub after_fin_acked : State → State
after_fin_acked FinWait1 = FinWait2
after_fin_acked Closing = TimeWait
after_fin_acked s = s

-- the peer's FIN is passed
abbrev pub after_fin_passed : State → State
after_fin_passed Established = CloseWait
after_fin_passed FinWait1 = Closing
after_fin_passed FinWait2 = TimeWait
after_fin_passed s = s

-- the handshake is done
abbrev pub after_handshake : State → State
after_handshake SynReceived = Established
after_handshake s = s
