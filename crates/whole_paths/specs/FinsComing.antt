-- A DATA_FIN as it goes on its way: the peer hears it, unless more is sent behind it (RFC 8684, section 3.3.3).
use Rattle.std.specs.Prelude.{ℕ, ◌+◌, ◌^◌, ◌≡◌, ◌<◌, ◌≤◌, ◌⊎◌, false, true, Option, Some, List, [], ◌∷◌}
use Rattle.sides.specs.declared.side.Side.{Side}
use Rattle.sides.specs.Side.{peer}
use Rattle.path_segments.specs.declared.segment.PathMapping.TheVariants.{End}
use Rattle.path_segments.specs.declared.segment.PathOption.TheVariants.{Dss}
use Rattle.link_model.specs.declared.flight.Flight.{Flight}
use Rattle.path_agenda.specs.declared.duty.Duty.{Duty}
use Rattle.path_agenda.specs.declared.duty.Duty.TheVariants as duties
use Rattle.path_agenda.specs.declared.duty.SendDuty.TheVariants as send_duties
use Rattle.path_core.specs.State.{PathState, end_at}
use Rattle.path_core.specs.Values.{Carried, as_arrived, values}
use Rattle.world_laws.specs.Openings.{Start}
use Rattle.world_laws.specs.RoundDone.{reached}
use Rattle.world_laws.specs.Worlds.{Turn}
use Rattle.whole_paths.specs.BareSegments.{IsBareTo}
use Rattle.whole_paths.specs.Closing.{IsFinHeard}
use Rattle.whole_paths.specs.Copies.{IsUnderWay}
use Rattle.whole_paths.specs.EndRounds.{EndIsKnown}
use Rattle.whole_paths.specs.Finish.{IsPathAt, is_harmed}
use Rattle.whole_paths.specs.Mending.{IsBegunTurn, LeavesRoomFor}
use Rattle.whole_paths.specs.Mild.{IsMildStart}
use Rattle.whole_paths.specs.WindowRoom.{IsRoomy}
use Rattle.whole_paths.specs.SegmentRounds.{Rounds}

-- an acknowledgement that maps the side's DATA_FIN is under way to the peer, at this position, and comes by this tick
pub record FinComesBy (s : Side) (position by : ℕ) (p : PathState Carried) : Type 0 where
  pub copy : Flight Carried
  pub there : IsUnderWay copy p
  pub at : copy.carried.segment.position ≡ position
  pub bare : IsBareTo (peer s) p copy
  pub next : ℕ
  pub place : ℕ
  pub checksum : Option ℕ
  pub maps : (as_arrived copy.carried).options ≡ Dss (Some next) (Some (End place checksum)) ∷ []
  pub low : next < 2 ^ 62
  pub fair : place ≤ 2 ^ 62
  pub soon : copy.tick ≤ by

-- the peer heard it, or it comes so; or more was sent behind it, by which it may be overtaken
pub data FinIsTold (s : Side) (position by : ℕ) (p : PathState Carried) : Type 0 where
  heard : IsFinHeard (peer s) p → FinIsTold s position by p
  comes : FinComesBy s position by p → FinIsTold s position by p
  behind : position < (end_at s p).tcp.send.nxt → FinIsTold s position by p

-- of a side's DATA_FIN, as the path becomes another one
pub record FinsGoOn (s : Side) (p q : PathState Carried) : Type 0 where
  -- what is told by a tick is told by that tick still
  pub comes : (position by : ℕ) → FinIsTold s position by p → FinIsTold s position by q
  -- and one that is sent in the turn comes within 400 ticks, or is harmed
  pub sent : LeavesRoomFor (peer s) p → (others : List Duty) → p.agenda ≡ duties.Send (send_duties.DataFin s) ∷ others
      → (q ≡ p) ⊎ ((is_harmed s p q ≡ true) ⊎ FinComesBy s (end_at s p).tcp.send.nxt (p.clock + 400) q)

-- by each turn of a mild connection between ends past the handshake, of which B's may send a DSS
abbrev pub DataFinsComeSoon : Type 0
DataFinsComeSoon = (start : Start) (turns : List Turn) (turn : Turn) (h : IsBegunTurn start turns turn) (s : Side) → FinsGoOn s h.before.path h.after.path

-- it wasn't sent yet, or is told so within 400 ticks
pub data FinIsSoon (s : Side) (p : PathState Carried) : Type 0 where
  unsent : (end_at s p).sending.fin_sent ≡ false → FinIsSoon s p
  told : (position : ℕ) → FinIsTold s position (p.clock + 400) p → FinIsSoon s p

-- So it stays by each turn without a harm, where windows have room.
abbrev pub DataFinsStaySoon : Type 0
DataFinsStaySoon = (start : Start) (turns : List Turn) (turn : Turn) → IsRoomy start
    → (h : IsBegunTurn start turns turn) (s : Side) → FinIsSoon s h.before.path → (is_harmed s h.before.path h.after.path ≡ true) ⊎ FinIsSoon s h.after.path

-- In four rounds the peer's side knows where a stream ends whose DATA_FIN was told so; or more is sent behind it.
abbrev pub FourRoundsEnd : Type 0
FourRoundsEnd = (start : Start) (v u : List Turn) → IsMildStart start → Rounds start 4 v u → (s : Side)
    → (p q : PathState Carried) → IsPathAt 0 (reached values start v) p → IsPathAt 0 (reached values start u) q
    → (position : ℕ) → FinIsTold s position (p.clock + 400) p
    → EndIsKnown start s u ⊎ (position < (end_at s q).tcp.send.nxt)
