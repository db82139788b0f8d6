-- As RCV.NXT of an end moves over octets, the end owes an acknowledgement (RFC 9293, section 3.10.7.4).
use Rattle.std.specs.Prelude.{◌≡◌, ◌<◌, ◌⊎◌, true, false, List}
use Rattle.sides.specs.declared.side.Side.{Side}
use Rattle.subflow_tcp.specs.State.{is_fin_passed}
use Rattle.subflow_tcp.specs.States.{is_dead}
use Rattle.path_core.specs.State.{PathState, end_at}
use Rattle.path_core.specs.Values.{Carried, values}
use Rattle.world_laws.specs.Openings.{Start}
use Rattle.world_laws.specs.RoundDone.{reached}
use Rattle.world_laws.specs.Worlds.{Turn, after_turn}
use Rattle.whole_paths.specs.Finish.{IsPathAt}
use Rattle.whole_paths.specs.Mild.{IsMildStart}

-- By each turn of a mild connection, at an end of path 0 that lives still: an acknowledgement is due once RCV.NXT is greater, or it is past the
-- peer's FIN.
abbrev pub WhatRisesIsOwed : Type 0
WhatRisesIsOwed = (start : Start) (turns : List Turn) (turn : Turn) → IsMildStart start
    → let w = reached values start turns in (p q : PathState Carried)
    → IsPathAt 0 w p → IsPathAt 0 (after_turn values turn w) q → (s : Side) → is_dead (end_at s q).tcp.state ≡ false
    → (end_at s p).tcp.recv.edge < (end_at s q).tcp.recv.edge
    → ((end_at s q).tcp.due.ack ≡ true) ⊎ (is_fin_passed (end_at s q).tcp ≡ true)
