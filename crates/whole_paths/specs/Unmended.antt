-- What of a path's segments is still to be mended, counted: records of data that may be lost, and acknowledgements.
use Rattle.std.specs.Prelude.{ℕ, ◌+◌, ◌≡◌, ◌≤◌, ◌⊎◌, true, false, List, length}
use Rattle.sides.specs.declared.side.Side.{Side}
use Rattle.sides.specs.declared.side.Side.TheVariants.{A, B}
use Rattle.sides.specs.Side.{peer}
use Rattle.stream_lanes.specs.Words.{Has}
use Rattle.subflow_send.specs.Records.{Record}
use Rattle.path_core.specs.State.{PathState, end_at}
use Rattle.path_core.specs.Values.{Carried, values}
use Rattle.world_laws.specs.Openings.{PathPlan, Start}
use Rattle.world_laws.specs.RoundDone.{reached}
use Rattle.world_laws.specs.Worlds.{Turn}
use Rattle.whole_paths.specs.Debts.{Beginning, OwesOn, Stepping}
use Rattle.whole_paths.specs.Finish.{IsPathAt, is_harmed}
use Rattle.whole_paths.specs.Mending.{IsOpenTurn, IsRecordOf, IsToldSoon, IsWell, IsBegunTurn}
use Rattle.whole_paths.specs.OnePathScripts.{BeginsWithOnePath}
use Rattle.whole_paths.specs.News.{one_if}

-- each record of the side is well, but for those that stand at these positions
abbrev pub AreWellBut : Side → List ℕ → PathState Carried → Type 0
AreWellBut s lost p = (r : Record) → IsRecordOf (end_at s p) r → IsWell s p r ⊎ Has (λ n. n ≡ r.pos) lost

-- Of the segments that a side sends so many are to be mended at most: one for each record that may be lost, and one where the peer may not be told
-- how far the side is.
pub record OwesBy (s : Side) (debts : ℕ) (p : PathState Carried) : Type 0 where
  pub lost : List ℕ
  pub well : AreWellBut s lost p
  pub untold : ℕ
  pub told : IsToldSoon (peer s) p ⊎ (untold ≡ 1)
  pub few : length lost + untold ≤ debts

-- of both sides
pub record OwesAt (debts : ℕ) (p : PathState Carried) : Type 0 where
  pub by_a : ℕ
  pub by_b : ℕ
  pub a : OwesBy A by_a p
  pub b : OwesBy B by_b p
  pub few : by_a + by_b ≤ debts

-- after these turns, on path 0
pub record Owes (start : Start) (debts : ℕ) (turns : List Turn) : Type 0 where
  pub path : PathState Carried
  pub here : IsPathAt 0 (reached values start turns) path
  pub owes : OwesAt debts path

-- ---- by a turn

-- As the path becomes another one no more records may be lost, but for one if a segment of the side is harmed; none where the end owes an
-- acknowledgement, which goes alone.
pub record LosesNoMore (s : Side) (p q : PathState Carried) : Type 0 where
  pub unharmed : is_harmed s p q ≡ false → (lost : List ℕ) → AreWellBut s lost p → AreWellBut s lost q
  pub owing : (end_at s p).tcp.due.ack ≡ true → (lost : List ℕ) → AreWellBut s lost p → AreWellBut s lost q
  pub one_more : (lost : List ℕ) → AreWellBut s lost p
      → (more : List ℕ) × (length more ≤ length lost + one_if (is_harmed s p q)) × AreWellBut s more q

-- by a turn of a mild connection between open ends
abbrev pub HarmsAloneLoseRecords : Type 0
HarmsAloneLoseRecords = (start : Start) (turns : List Turn) (turn : Turn) (h : IsBegunTurn start turns turn) (s : Side)
    → LosesNoMore s h.before.path h.after.path

-- No more is to be mended of what the side sends, but for one if a segment of it is harmed; and where none is, the peer is told what it was.
pub record OwesNoMore (s : Side) (p q : PathState Carried) : Type 0 where
  pub owes : (debts : ℕ) → OwesBy s debts p → OwesBy s (debts + one_if (is_harmed s p q)) q
  pub told : is_harmed s p q ≡ false → IsToldSoon (peer s) p → IsToldSoon (peer s) q

abbrev pub HarmsAloneAreOwed : Type 0
HarmsAloneAreOwed = (start : Start) (plan : PathPlan) (turns : List Turn) (turn : Turn) → BeginsWithOnePath start plan
    → (h : IsOpenTurn start turns turn) (s : Side)
    → OwesNoMore s h.before.path h.after.path

-- by each step, and as a round begins
abbrev pub DebtsGoOn : Type 0
DebtsGoOn = (start : Start) (plan : PathPlan) (most debts : ℕ) (turns later : List Turn) → BeginsWithOnePath start plan
    → Stepping start plan most (Owes start) turns later ⊎ Beginning start plan most (Owes start) turns later → Owes start debts turns
    → OwesOn start plan most (Owes start) debts turns later
