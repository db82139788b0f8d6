-- Debts are few at each open moment, where they are as path 0 opens.
use Rattle.std.specs.Prelude.{ℕ, ◌≡◌, ◌≤◌, false, List, [], ◌∷◌, ◌++◌, length}
use Rattle.sides.specs.declared.side.Side.{Side}
use Rattle.sides.specs.declared.side.Side.TheVariants.{A, B}
use Rattle.path_core.specs.State.{PathState}
use Rattle.path_core.specs.Values.{Carried, values}
use Rattle.world_laws.specs.Openings.{PathPlan, Start}
use Rattle.world_laws.specs.RoundDone.{reached}
use Rattle.world_laws.specs.Worlds.{Turn}
use Rattle.whole_paths.specs.Courses.{harmed_so_far}
use Rattle.whole_paths.specs.Debts.{OwesAtMost}
use Rattle.whole_paths.specs.Directions.{OwesAlong}
use Rattle.whole_paths.specs.Finish.{IsPathAt}
use Rattle.whole_paths.specs.OnePathScripts.{BeginsWithOnePath}
use Rattle.whole_paths.specs.OpenCourses.{IsNow, IsOpenAfter}
use Rattle.whole_paths.specs.Straying.{IsOpenFrom}
use Rattle.whole_paths.specs.Unmended.{AreWellBut}

-- After these turns both ends of path 0 are past the handshake, and B's may send a DSS; so it wasn't before the last one.
pub record HasJustOpened (start : Start) (turns : List Turn) : Type 0 where
  pub now : IsNow (IsOpenFrom B) (reached values start turns)
  pub unopened : (before : List Turn) (turn : Turn) → turns ≡ before ++ turn ∷ [] → IsNow (IsOpenFrom B) (reached values start before) → ⊥

-- along a direction there are no more debts then than segments were harmed
abbrev pub OpensWithFew : Start → PathPlan → ℕ → Side → Type 0
OpensWithFew start plan most s = (turns : List Turn) → HasJustOpened start turns → OwesAtMost start plan most (OwesAlong start s) turns

-- so there are no more at any open moment
abbrev pub FewAsItOpensAreFew : Type 0
FewAsItOpensAreFew = (start : Start) (plan : PathPlan) (most : ℕ) (s : Side) → BeginsWithOnePath start plan → OpensWithFew start plan most s
    → (turns : List Turn) → IsOpenAfter start turns → OwesAtMost start plan most (OwesAlong start s) turns

-- In B's direction none is owed after the turn by which B's end may send a DSS first: its end sent nothing behind its SYN.
abbrev pub BOwesNoneFirst : Type 0
BOwesNoneFirst = (start : Start) (plan : PathPlan) (turns : List Turn) (turn : Turn) → BeginsWithOnePath start plan
    → (p : PathState Carried) → IsPathAt 0 (reached values start turns) p → p.b.modes.clear ≡ false
    → IsNow (IsOpenFrom B) (reached values start (turns ++ turn ∷ [])) → OwesAlong start B 0 (turns ++ turn ∷ [])

-- In A's none is owed but for records that may be lost: nothing came to B behind A's SYN.
abbrev pub AOwesRecordsFirst : Type 0
AOwesRecordsFirst = (start : Start) (plan : PathPlan) (turns : List Turn) (turn : Turn) → BeginsWithOnePath start plan
    → (p : PathState Carried) → IsPathAt 0 (reached values start turns) p → p.b.modes.clear ≡ false
    → (now : IsNow (IsOpenFrom B) (reached values start (turns ++ turn ∷ []))) (lost : List ℕ) → AreWellBut A lost now.path
    → OwesAlong start A (length lost) (turns ++ turn ∷ [])

-- the last turn before was one by which B's end may send a DSS first
pub record OpensByClearing (start : Start) (turns : List Turn) : Type 0 where
  pub before : List Turn
  pub turn : Turn
  pub is : turns ≡ before ++ turn ∷ []
  pub path : PathState Carried
  pub here : IsPathAt 0 (reached values start before) path
  pub unclear : path.b.modes.clear ≡ false

-- as the path opens
abbrev pub PathsOpenByClearing : Type 0
PathsOpenByClearing = (start : Start) (plan : PathPlan) (turns : List Turn) → BeginsWithOnePath start plan → HasJustOpened start turns
    → OpensByClearing start turns

-- no more of A's records may be lost then than segments were harmed
pub record OpensWithFewLost (start : Start) (turns : List Turn) (h : HasJustOpened start turns) : Type 0 where
  pub lost : List ℕ
  pub well : AreWellBut A lost h.now.path
  pub few : length lost ≤ harmed_so_far values start turns

-- Where that is so there are few debts as the path opens.
abbrev pub OpensWithFewSo : Type 0
OpensWithFewSo = (start : Start) (plan : PathPlan) (most : ℕ) → BeginsWithOnePath start plan
    → ((turns : List Turn) (h : HasJustOpened start turns) → OpensWithFewLost start turns h) → (s : Side) → OpensWithFew start plan most s
