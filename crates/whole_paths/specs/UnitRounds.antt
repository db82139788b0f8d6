-- In twenty rounds in which nothing is to be mended a stream goes on by a unit: a full segment more is read, or its end is told; as long as not all
-- of both streams is with the peers.
use Rattle.std.specs.Prelude.{ℕ, suc, zero, ◌+◌, ◌-◌, ◌*◌, ◌≡◌, ◌<◌, ◌≤◌, ◌⊎◌, min, true, List, [], ◌∷◌, ◌++◌, length}
use Rattle.sides.specs.declared.side.Side.{Side}
use Rattle.actor_desk.specs.Words.{pick}
use Rattle.path_core.specs.State.{PathState}
use Rattle.path_core.specs.Values.{Carried, values}
use Rattle.world_laws.specs.Openings.{PathPlan, Start}
use Rattle.world_laws.specs.Promises.{written_by}
use Rattle.world_laws.specs.RoundDone.{reached}
use Rattle.world_laws.specs.Worlds.{Turn, all_over}
use Rattle.whole_paths.specs.Courses.{round_end}
use Rattle.whole_paths.specs.Delivery.{AllIsThere, IsAllThere}
use Rattle.whole_paths.specs.EndRounds.{EndIsKnown, FinIsSent}
use Rattle.whole_paths.specs.Finish.{IsPathAt}
use Rattle.whole_paths.specs.GoingOn.{steps_of}
use Rattle.whole_paths.specs.Mending.{IsToldSoon}
use Rattle.whole_paths.specs.Mild.{IsMildStart}
use Rattle.whole_paths.specs.OnePathScripts.{BeginsWithOnePath}
use Rattle.whole_paths.specs.OpenCourses.{IsOpenAfter}
use Rattle.whole_paths.specs.SegmentRounds.{IsHeard, IsRound, IsWellAfter, StaysOpen, read_after}
use Rattle.whole_paths.specs.SharpCourses.{most_units, units}

-- ---- rounds after each of which all is well

module _ (start : Start) (Well : List Turn → Type 0) where
  -- so many, and before the first one
  abbrev pub WellRounds : ℕ → List Turn → List Turn → Type 0
  WellRounds zero v u = (v ≡ u) × Well v
  WellRounds (suc n) v u = (w : List Turn) × (WellRounds n v w × (IsRound start w u × Well u))

  -- After these turns a round goes on, and so many passed since a round was over.
  pub record WaitsSince (count : ℕ) (since turns : List Turn) : Type 0 where
    pub last : List Turn
    pub rounds : WellRounds count since last
    pub order : List ℕ
    pub is : turns ≡ last ++ Turn.Round ∷ steps_of order
    pub over : all_over (reached values start last).crew ≡ true
    pub stays_open : StaysOpen start last (Turn.Round ∷ steps_of order)

  -- Such a wait begins with each round before which all is well; it goes on by each step, and as the next round begins, if all is well still; and the
  -- round ends so many rounds later than that after which it began.
  pub record WaitsGoOn : Type 0 where
    pub begins : (v : List Turn) → all_over (reached values start v).crew ≡ true → Well v → IsOpenAfter start v
        → IsOpenAfter start (v ++ Turn.Round ∷ []) → WaitsSince 0 v (v ++ Turn.Round ∷ [])
    pub on : (count : ℕ) (v u : List Turn) (actor : ℕ) → WaitsSince count v u → IsOpenAfter start (u ++ Turn.Step actor ∷ [])
        → WaitsSince count v (u ++ Turn.Step actor ∷ [])
    pub next : (count : ℕ) (v u : List Turn) → WaitsSince count v u → all_over (reached values start u).crew ≡ true → Well u
        → IsOpenAfter start (u ++ Turn.Round ∷ []) → WaitsSince (suc count) v (u ++ Turn.Round ∷ [])
    pub ends : (count : ℕ) (v u : List Turn) → WaitsSince count v u → round_end values start u ≡ round_end values start v + 100 * suc count

-- ---- a unit

-- As rounds pass after which all is well, what the peer could tell of a stream is heard in six of them, or all of it is there; and a DATA_FIN that
-- was sent comes in four.
pub record WhatIsToldIsHeard (start : Start) (plan : PathPlan) (Well : List Turn → Type 0) : Type 0 where
  pub heard : (s : Side) (v u : List Turn) → WellRounds start Well 6 v u → IsAllThere s (reached values start u) ⊎ IsHeard start plan s v u
  pub fins : (s : Side) (v u : List Turn) → WellRounds start Well 4 v u → FinIsSent start s v → EndIsKnown start s u

-- Of that the Data ACKs need no more than that each end is told soon how far its peer is, or all of its stream is there. So what is left is that the
-- windows that are told are heard, and that each DATA_FIN comes which is sent.
pub record AreToldSoon (start : Start) (s : Side) (turns : List Turn) : Type 0 where
  pub path : PathState Carried
  pub here : IsPathAt 0 (reached values start turns) path
  pub told : IsToldSoon s path ⊎ IsAllThere s (reached values start turns)

pub record WindowsAndEndsAreHeard (start : Start) (plan : PathPlan) (Well : List Turn → Type 0) : Type 0 where
  pub windows : (s : Side) (v u : List Turn) → WellRounds start Well 6 v u
      → IsAllThere s (reached values start u)
      ⊎ (min (length (pick s start.file_a start.file_b)) (read_after start s v + (plan.mss - 28)) ≤ (written_by s (reached values start u)).edge)
  pub fins : (s : Side) (v u : List Turn) → WellRounds start Well 4 v u → FinIsSent start s v → EndIsKnown start s u

abbrev pub WhatIsToldIsHeardSo : Type 1
WhatIsToldIsHeardSo = (start : Start) (plan : PathPlan) (Well : List Turn → Type 0) → BeginsWithOnePath start plan
    → ((turns : List Turn) → Well turns → (s : Side) → AreToldSoon start s turns)
    → WindowsAndEndsAreHeard start plan Well → WhatIsToldIsHeard start plan Well

-- nothing of path 0 is to be mended
abbrev pub IsAllWell : Start → List Turn → Type 0
IsAllWell start turns = (s : Side) → IsWellAfter start s turns

abbrev pub ShortWaitsGoOn : Type 0
ShortWaitsGoOn = (start : Start) → WaitsGoOn start (IsAllWell start)

abbrev pub AUnitIsMade : Type 0
AUnitIsMade = (start : Start) (plan : PathPlan) → BeginsWithOnePath start plan
    → WhatIsToldIsHeard start plan (IsAllWell start) → (v u : List Turn) → WellRounds start (IsAllWell start) 20 v u
    → (most_units start plan ≤ units start plan (reached values start v))
    ⊎ (units start plan (reached values start v) < units start plan (reached values start u))

-- as many as there can be are there once all of both streams is
abbrev pub AllUnitsAreThere : Type 0
AllUnitsAreThere = (start : Start) (plan : PathPlan) (turns : List Turn) → IsMildStart start
    → most_units start plan ≤ units start plan (reached values start turns)
    → AllIsThere (reached values start turns)
