-- How a side's first record is mended that may be lost: SND.UNA rises past it, or the timer runs out, and it goes again.
use Rattle.std.specs.Prelude.{ℕ, ◌+◌, ◌≡◌, ◌<◌, ◌≤◌, true, List, [], ◌∷◌, length}
use Rattle.sides.specs.declared.side.Side.{Side}
use Rattle.stream_lanes.specs.Words.{Has}
use Rattle.subflow_send.specs.Records.{Record}
use Rattle.path_core.specs.State.{PathState, end_at}
use Rattle.path_core.specs.Values.{Carried}
use Rattle.world_laws.specs.Openings.{Start}
use Rattle.world_laws.specs.Worlds.{Turn}
use Rattle.whole_paths.specs.Finish.{is_harmed}
use Rattle.whole_paths.specs.Flights.{IsFirst}
use Rattle.whole_paths.specs.Mending.{IsOpenTurn}
use Rattle.whole_paths.specs.Mends.{MendsSoon}
use Rattle.whole_paths.specs.OpenCourses.{IsOpenAfter}
use Rattle.whole_paths.specs.Unmended.{AreWellBut}
use Rattle.whole_paths.specs.Waits.{IsNews, RunsTo}

-- so many records of a side may be lost, among them its first one, and the timer runs to this tick
pub record FirstIsLost (s : Side) (debts by : ℕ) (p : PathState Carried) : Type 0 where
  pub first : Record
  pub is_first : IsFirst first (end_at s p)
  pub lost : List ℕ
  pub among : Has (λ n. n ≡ first.pos) lost
  pub well : AreWellBut s lost p
  pub few : length lost ≤ debts
  pub runs : RunsTo by (end_at s p)

-- The timer ran out: of the side's records the first one alone may be lost, which goes before the clock is past this tick.
pub record FirstGoes (s : Side) (debts by : ℕ) (p : PathState Carried) : Type 0 where
  pub mends : MendsSoon s p
  pub in_time : p.clock ≤ by
  pub some : 0 < debts

-- of so many records that may be lost there is one less by this tick
pub data MendsFirst (s : Side) (debts by : ℕ) (p : PathState Carried) : Type 0 where
  waits : FirstIsLost s debts by p → MendsFirst s debts by p
  goes : FirstGoes s debts by p → MendsFirst s debts by p

-- what becomes of it, as the path becomes another one
pub data MendsFirstOn (s : Side) (debts by : ℕ) (p q : PathState Carried) : Type 0 where
  on : MendsFirst s debts by q → MendsFirstOn s debts by p q
  -- fewer may be lost
  fewer : (lost : List ℕ) → length lost < debts → AreWellBut s lost q → MendsFirstOn s debts by p q
  -- a segment is harmed
  harmed : (t : Side) → is_harmed t p q ≡ true → MendsFirstOn s debts by p q
  -- there is news, by which the timer may have started anew, and the first record isn't acknowledged whole
  news : (first : Record) → IsFirst first (end_at s p) → IsFirst first (end_at s q) → IsNews (end_at s p) (end_at s q) → MendsFirstOn s debts by p q

-- by a turn of a mild connection between open ends
abbrev pub LostRecordsAreMended : Type 0
LostRecordsAreMended = (start : Start) (turns : List Turn) (turn : Turn) (h : IsOpenTurn start turns turn) (s : Side) (debts by : ℕ)
    → MendsFirst s debts by h.before.path → MendsFirstOn s debts by h.before.path h.after.path

-- Where a turn is over such a wait begins, as the first record may be lost, and ends within a minute; and none ends before the round does.
pub record FirstIsAwaited (s : Side) (debts : ℕ) (p : PathState Carried) : Type 0 where
  pub begins : (first : Record) (others : List Record) → (end_at s p).tcp.send.records ≡ first ∷ others
      → (lost : List ℕ) → length lost ≤ debts → AreWellBut s lost p → Has (λ n. n ≡ first.pos) lost
      → (by : ℕ) × (by ≤ p.clock + 60000) × MendsFirst s debts by p
  pub in_time : (by : ℕ) → MendsFirst s debts by p → p.until ≤ by

-- of path 0, at each moment at which it is open and its turn is over
abbrev pub LostRecordsAreAwaited : Type 0
LostRecordsAreAwaited = (start : Start) (turns : List Turn) (h : IsOpenAfter start turns) → h.path.agenda ≡ []
    → (s : Side) (debts : ℕ) → FirstIsAwaited s debts h.path
