-- RCV.NXT of an end rises only behind a copy that the end took, so that its expiries in a row are over (RFC 6298, section 5).
use Rattle.std.specs.Prelude.{◌≡◌, ◌<◌, ◌≤◌, false, List}
use Rattle.sides.specs.declared.side.Side.{Side}
use Rattle.subflow_tcp.specs.States.{is_dead}
use Rattle.path_core.specs.End.{PathEnd}
use Rattle.path_core.specs.State.{PathState, end_at}
use Rattle.path_core.specs.Values.{Carried, values}
use Rattle.world_laws.specs.Openings.{Start}
use Rattle.world_laws.specs.RoundDone.{reached}
use Rattle.world_laws.specs.Worlds.{Turn, after_turn}
use Rattle.whole_paths.specs.AsFar.{stage}
use Rattle.whole_paths.specs.ExpiriesInARow.{in_a_row}
use Rattle.whole_paths.specs.Finish.{IsPathAt}

-- the end is past the handshake, and has no expiry since its peer was heard last
pub record IsHeardNow (e : PathEnd) : Type 0 where
  pub past : 3 ≤ stage e.tcp.state
  pub none : in_a_row e ≡ 0

-- by each turn by which RCV.NXT of an end of path 0 rises, that lives still
abbrev pub EachRiseEndsTheRow : Type 0
EachRiseEndsTheRow = (start : Start) (turns : List Turn) (turn : Turn) → let w = reached values start turns in (p q : PathState Carried)
    → IsPathAt 0 w p → IsPathAt 0 (after_turn values turn w) q → (s : Side) → is_dead (end_at s q).tcp.state ≡ false
    → (end_at s p).tcp.recv.edge < (end_at s q).tcp.recv.edge → IsHeardNow (end_at s q)

-- until the handshake of an end of path 0 is done nothing came to it behind its peer's SYN
abbrev pub EdgesWaitForTheHandshake : Type 0
EdgesWaitForTheHandshake = (start : Start) (turns : List Turn) (p : PathState Carried) → IsPathAt 0 (reached values start turns) p → (s : Side)
    → stage (end_at s p).tcp.state ≤ 2 → (end_at s p).tcp.recv.edge ≡ 1
