-- The FINs of an end, and what the layer above makes due.
use Rattle.std.specs.Prelude.{◌^◌, Bool, ◌&&◌, nat_lt, if◌then◌else◌}
use Rattle.subflow_send.specs.Rules as sending
use Rattle.subflow_recv.specs.Receiving.{after_pass}
use Rattle.subflow_tcp.specs.States as states
use Rattle.subflow_tcp.specs.Dues.{owing_ack, owing_probe}
use Rattle.subflow_tcp.specs.Judging.{is_at}
use Rattle.subflow_tcp.specs.State.{EndState}

-- the FIN is due behind the last piece
abbrev pub after_finishing : EndState → EndState
after_finishing s = record s { send = sending.after_finish s.send; state = states.after_finish s.state }

-- the edge is at the peer's FIN; positions are below 2^62
abbrev pub is_fin_next : EndState → Bool
is_fin_next s = is_at s.recv.edge s.fin_at && nat_lt s.recv.edge (2 ^ 62)

-- the edge moves over it, and what is kept behind it is forgotten
abbrev pub after_passing_fin : EndState → EndState
after_passing_fin s = record s { recv = after_pass s.recv; state = states.after_fin_passed s.state }

-- an acknowledgement is due, at SND.NXT or one below SND.UNA
abbrev pub after_owing : Bool → EndState → EndState
after_owing below s = record s { due = (if below then owing_probe s.due else owing_ack s.due) }
