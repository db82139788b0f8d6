use Rattle.std.proofs.Common.{ℕ, List}
use Rattle.link_model.proofs.Waits.{no_room_yet, room_sent, waits_shortly}
use Rattle.link_model.proofs.laws.queues_have_their_room.Goals as goal

pub returns-clause-begun : goal.returns-clause-begun
returns-clause-begun c = λ seed path delay lines from. no_room_yet (List ℕ) seed path delay lines from

pub returns-clause-room : goal.returns-clause-room
returns-clause-room c = λ strip alter from of octets length now link room. room_sent strip alter from of octets length now link room

pub returns-clause-wait : goal.returns-clause-wait
returns-clause-wait c = λ rate waiting is room. waits_shortly rate waiting is room
