-- The wait for a record of a side from which path 0 is open: from B on it is so as soon as B may send a DSS, though A may not yet.
use Rattle.std.specs.Prelude.{ℕ, ◌+◌, ◌≡◌, ◌<◌, ◌≤◌, ◌⊎◌, List}
use Rattle.sides.specs.declared.side.Side.{Side}
use Rattle.sides.specs.Side.{peer}
use Rattle.path_core.specs.State.{end_at}
use Rattle.path_core.specs.Values.{values}
use Rattle.world_laws.specs.Openings.{Start}
use Rattle.world_laws.specs.RoundDone.{reached}
use Rattle.world_laws.specs.Worlds.{Turn}
use Rattle.whole_paths.specs.Courses.{BeginsARound, TakesAStep, counted, round_end}
use Rattle.whole_paths.specs.Mild.{IsMildStart}
use Rattle.whole_paths.specs.OpenCourses.{IsNow}
use Rattle.whole_paths.specs.RecordWaits.{AwaitsARecord, HasARecord}
use Rattle.whole_paths.specs.Straying.{IsOpenFrom}

-- a record of this side
pub record AwaitsARecordOf (s : Side) (start : Start) (x : ℕ) (turns : List Turn) : Type 0 where
  pub awaits : AwaitsARecord start x turns
  pub of : awaits.waits.side ≡ s

module _ (start : Start) (most : ℕ) (s : Side) where
  abbrev pub IsOpenFromAfter : List Turn → Type 0
  IsOpenFromAfter turns = IsNow (IsOpenFrom s) (reached values start turns)

  abbrev pub StepsFrom : List Turn → List Turn → Type 0
  StepsFrom = TakesAStep values start IsOpenFromAfter most

  abbrev pub OpensFrom : List Turn → List Turn → Type 0
  OpensFrom = BeginsARound values start IsOpenFromAfter most

  -- As a round begins a wait begins for the first record of the side that sent no FIN, whose window has room for what its peer sent, for a minute
  -- and as long as a segment is under way there and back; it goes on by each step, and as the next round begins, or something is counted; and no
  -- round begins past it, unless something is counted.
  pub record SenderIsAwaited : Type 0 where
    pub begins : (v u : List Turn) → OpensFrom v u → (h : HasARecord start v) → h.side ≡ s
        → (end_at (peer h.side) h.path).tcp.send.nxt ≤ (end_at h.side h.path).tcp.recv.edge + 1048576
        → AwaitsARecordOf s start (round_end values start v + 60800) u
    pub on : (x : ℕ) (v u : List Turn) → StepsFrom v u → AwaitsARecordOf s start x v → (counted values start v < counted values start u)
        ⊎ AwaitsARecordOf s start x u
    pub next : (x : ℕ) (v u : List Turn) → OpensFrom v u → AwaitsARecordOf s start x v → (counted values start v < counted values start u)
        ⊎ AwaitsARecordOf s start x u
    pub due : (x : ℕ) (v u : List Turn) → OpensFrom v u → AwaitsARecordOf s start x v → x < round_end values start v
        → counted values start v < counted values start u

-- in each mild connection, from each side
abbrev pub SendersAreAwaited : Type 0
SendersAreAwaited = (start : Start) (most : ℕ) (s : Side) → IsMildStart start → SenderIsAwaited start most s
