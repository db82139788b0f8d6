-- What an end is to be told is told soon still, by each turn between open ends of path 0 of a mild connection, where windows have room.
use Rattle.std.specs.Prelude.{ℕ, ◌+◌, ◌≡◌, ◌<◌, ◌⊎◌, true, List}
use Rattle.sides.specs.declared.side.Side.{Side}
use Rattle.sides.specs.Side.{peer}
use Rattle.subflow_tcp.specs.State.{is_fin_passed}
use Rattle.path_core.specs.State.{PathState, end_at}
use Rattle.path_core.specs.Values.{Carried}
use Rattle.world_laws.specs.Openings.{Start}
use Rattle.world_laws.specs.Worlds.{Turn}
use Rattle.whole_paths.specs.Finish.{is_harmed}
use Rattle.whole_paths.specs.Mending.{IsBegunTurn, IsToldBy, IsToldSoon}
use Rattle.whole_paths.specs.WindowRoom.{IsRoomy}

-- of a side, as the path becomes another one
pub record ToldStays (s : Side) (p q : PathState Carried) : Type 0 where
  -- what is told by a tick is told by that tick still
  pub comes : (position by : ℕ) → IsToldBy s position by p → IsToldBy s position by q
  -- what its peer owes is owed still, or goes in the turn, or was harmed, or the peer is past the side's FIN
  pub owed : (end_at (peer s) p).tcp.due.ack ≡ true
      → ((end_at (peer s) q).tcp.due.ack ≡ true)
      ⊎ ((is_fin_passed (end_at (peer s) q).tcp ≡ true)
      ⊎ ((is_harmed (peer s) p q ≡ true) ⊎ IsToldBy s (end_at (peer s) q).tcp.recv.edge (p.clock + 400) q))
  -- where more came an acknowledgement is owed, or the FIN came
  pub more : (end_at (peer s) p).tcp.recv.edge < (end_at (peer s) q).tcp.recv.edge
      → ((end_at (peer s) q).tcp.due.ack ≡ true) ⊎ (is_fin_passed (end_at (peer s) q).tcp ≡ true)
  -- the end is told soon still, or an answer was harmed
  pub soon : IsToldSoon s p → (is_harmed (peer s) p q ≡ true) ⊎ IsToldSoon s q

abbrev pub WhoIsToldStaysTold : Type 0
WhoIsToldStaysTold = (start : Start) (turns : List Turn) (turn : Turn) → IsRoomy start
    → (h : IsBegunTurn start turns turn) (s : Side) → ToldStays s h.before.path h.after.path
