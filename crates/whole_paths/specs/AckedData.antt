-- What an end's subflow hears acknowledged its Data ACKs acknowledge, too: each position with the place of its byte (RFC 8684, section 3.3.2).
use Rattle.std.specs.Prelude.{suc, ◌≡◌, ◌≤◌, ◌⊎◌, false, List, []}
use Rattle.sides.specs.declared.side.Side.{Side}
use Rattle.sides.specs.Side.{peer}
use Rattle.send_book.specs.State.{acked_len}
use Rattle.reassembly_book.specs.State.{received}
use Rattle.subflow_tcp.specs.States.{is_dead}
use Rattle.path_core.specs.State.{PathState, end_at}
use Rattle.path_core.specs.Values.{Carried, values}
use Rattle.world_laws.specs.Openings.{PathPlan, Start}
use Rattle.world_laws.specs.Promises.{arrived_at, written_by}
use Rattle.world_laws.specs.RoundDone.{reached}
use Rattle.world_laws.specs.Worlds.{Turn, WorldState}
use Rattle.whole_paths.specs.Delivery.{IsAllThere}
use Rattle.whole_paths.specs.Finish.{IsPathAt}
use Rattle.whole_paths.specs.Mending.{IsToldSoon}
use Rattle.whole_paths.specs.OnePathScripts.{BeginsWithOnePath}
use Rattle.whole_paths.specs.SegmentRounds.{Rounds}

-- as many bytes of the side's stream are acknowledged to its end as positions of its subflow, but for that of the SYN; and in the send book
pub record AreAckedAsBytes (s : Side) (p : PathState Carried) (w : WorldState Carried) : Type 0 where
  pub heard : (end_at s p).tcp.send.una ≤ suc (end_at s p).sending.heard
  pub booked : (end_at s p).tcp.send.una ≤ suc (acked_len (written_by s w).marks)

-- So it is where the turn of the only path is over, neither of its ends is dead, and the side's sent no FIN.
abbrev pub PositionsAreAckedAsBytes : Type 0
PositionsAreAckedAsBytes = (start : Start) (plan : PathPlan) (turns : List Turn) → BeginsWithOnePath start plan
    → (p : PathState Carried) → IsPathAt 0 (reached values start turns) p → p.agenda ≡ [] → ((t : Side) → is_dead (end_at t p).tcp.state ≡ false) → (s : Side)
    → (end_at s p).tcp.send.finished ≡ false
    → AreAckedAsBytes s p (reached values start turns)

-- In four rounds all is acknowledged of a stream that the peer's side had received, where the end was to be told soon; or all of it is there.
abbrev pub FourRoundsAcknowledge : Type 0
FourRoundsAcknowledge = (start : Start) (plan : PathPlan) (v u : List Turn) → BeginsWithOnePath start plan → Rounds start 4 v u → (s : Side)
    → (p : PathState Carried) → IsPathAt 0 (reached values start v) p → IsToldSoon s p
    → IsAllThere s (reached values start u) ⊎ (received (arrived_at (peer s) (reached values start v)) ≤ acked_len (written_by s (reached values start u)).marks)
