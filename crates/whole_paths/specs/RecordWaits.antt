-- A wait for a record: until its exchange is over by this tick (RFC 9293, section 3.10.7.4).
use Rattle.std.specs.Prelude.{ℕ, ◌+◌, ◌≡◌, ◌<◌, ◌≤◌, ◌⊎◌, true, false, List, [], ◌∷◌, ◌++◌}
use Rattle.sides.specs.declared.side.Side.{Side}
use Rattle.sides.specs.Side.{peer}
use Rattle.subflow_send.specs.Records.{Record, end_of}
use Rattle.subflow_send.specs.declared.record.RecordKind.TheVariants.{Data}
use Rattle.path_core.specs.State.{PathState, end_at}
use Rattle.path_core.specs.Values.{Carried, values}
use Rattle.world_laws.specs.Openings.{Start}
use Rattle.world_laws.specs.RoundDone.{reached}
use Rattle.world_laws.specs.Worlds.{Turn, all_over}
use Rattle.whole_paths.specs.Courses.{BeginsARoundAt, TakesAStepAt, counted_at, round_end}
use Rattle.whole_paths.specs.Exchanges.{IsExchanged}
use Rattle.whole_paths.specs.Finish.{IsPathAt}
use Rattle.whole_paths.specs.Flights.{IsFirst}
use Rattle.whole_paths.specs.Mild.{IsMildStart}
use Rattle.whole_paths.specs.OpenCourses.{IsNowAt}
use Rattle.whole_paths.specs.Straying.{IsOpen}

-- On a path, a first record of data whose end isn't acknowledged. The end sent no FIN, or not all of the record came; and the peer sent no more than
-- the end's window has room for.
pub record IsRecordAwaited (x : ℕ) (p : PathState Carried) : Type 0 where
  pub side : Side
  pub awaited : Record
  pub is_data : awaited.kind ≡ Data
  pub first : IsFirst awaited (end_at side p)
  pub left : (end_at side p).tcp.send.una < end_of awaited
  pub within : end_of awaited ≤ (end_at side p).tcp.send.nxt
  pub ahead : ((end_at side p).tcp.send.finished ≡ false) ⊎ ((end_at (peer side) p).tcp.recv.edge < end_of awaited)
  pub room : (end_at (peer side) p).tcp.send.nxt ≤ (end_at side p).tcp.recv.edge + 1048576
  pub exchange : IsExchanged side awaited x p

-- ---- on the path of a number

module _ (number : ℕ) (start : Start) where
  -- after these turns
  pub record AwaitsARecordAt (x : ℕ) (turns : List Turn) : Type 0 where
    pub path : PathState Carried
    pub here : IsPathAt number (reached values start turns) path
    pub waits : IsRecordAwaited x path

  -- an end of it that sent no FIN has a record that isn't acknowledged
  pub record HasARecordAt (turns : List Turn) : Type 0 where
    pub path : PathState Carried
    pub here : IsPathAt number (reached values start turns) path
    pub side : Side
    pub first : Record
    pub others : List Record
    pub records : (end_at side path).tcp.send.records ≡ first ∷ others
    pub unfinished : (end_at side path).tcp.send.finished ≡ false

  -- an end of it sent no FIN
  pub record SentNoFinAt (turns : List Turn) : Type 0 where
    pub path : PathState Carried
    pub here : IsPathAt number (reached values start turns) path
    pub side : Side
    pub unfinished : (end_at side path).tcp.send.finished ≡ false

-- its peer sent no more than its window has room for
abbrev pub LeavesRoom : {number : ℕ} {start : Start} {turns : List Turn} → SentNoFinAt number start turns → Type 0
LeavesRoom h = (end_at (peer h.side) h.path).tcp.send.nxt ≤ (end_at h.side h.path).tcp.recv.edge + 1048576

-- Of each moment of the course this is known of the path.
module _ (number : ℕ) (Holds : PathState Carried → Type 0) (start : Start) (most : ℕ) where
  abbrev pub StepsAt : List Turn → List Turn → Type 0
  StepsAt = TakesAStepAt values start number (λ turns. IsNowAt number Holds (reached values start turns)) most

  abbrev pub OpensAt : List Turn → List Turn → Type 0
  OpensAt = BeginsARoundAt values start number (λ turns. IsNowAt number Holds (reached values start turns)) most

  abbrev RisesAt : List Turn → List Turn → Type 0
  RisesAt v u = counted_at values start number v < counted_at values start number u

  -- As a round begins a wait begins, for a minute and 400 ticks there and back; it goes on by each step, and as the next
  -- round begins, or something is counted; and no round begins past it, unless something is counted.
  pub record RecordsAreAwaitedAt : Type 0 where
    -- where the peer of such an end filled its window, and sent its FIN behind, the peer's first record is waited for
    pub room : (v u : List Turn) → OpensAt v u → (h : SentNoFinAt number start v)
        → AwaitsARecordAt number start (round_end values start v + 60800) u ⊎ LeavesRoom h
    pub begins : (v u : List Turn) → OpensAt v u → HasARecordAt number start v → AwaitsARecordAt number start (round_end values start v + 60800) u
    pub on : (x : ℕ) (v u : List Turn) → StepsAt v u → AwaitsARecordAt number start x v → RisesAt v u ⊎ AwaitsARecordAt number start x u
    pub next : (x : ℕ) (v u : List Turn) → OpensAt v u → AwaitsARecordAt number start x v → RisesAt v u ⊎ AwaitsARecordAt number start x u
    pub due : (x : ℕ) (v u : List Turn) → OpensAt v u → AwaitsARecordAt number start x v → x < round_end values start v → RisesAt v u

-- ---- a course of moments at which path 0 is open

module _ (start : Start) where
  abbrev pub AwaitsARecord : ℕ → List Turn → Type 0
  AwaitsARecord = AwaitsARecordAt 0 start

  abbrev pub HasARecord : List Turn → Type 0
  HasARecord = HasARecordAt 0 start

  abbrev pub SentNoFin : List Turn → Type 0
  SentNoFin = SentNoFinAt 0 start

  module _ (most : ℕ) where
    abbrev pub Steps : List Turn → List Turn → Type 0
    Steps = StepsAt 0 IsOpen start most

    abbrev pub Opens : List Turn → List Turn → Type 0
    Opens = OpensAt 0 IsOpen start most

    abbrev pub RecordsAreAwaited : Type 0
    RecordsAreAwaited = RecordsAreAwaitedAt 0 IsOpen start most

-- in each mild connection
abbrev pub RecordsAreAwaitedAlways : Type 0
RecordsAreAwaitedAlways = (start : Start) (most : ℕ) → IsMildStart start → RecordsAreAwaited start most

-- ---- the beginning of a round

-- where each turn is over nothing is counted as the next round begins, whichever path's segments are counted
abbrev pub NoRoundCounts : Type 0
NoRoundCounts = (start : Start) (number : ℕ) (turns : List Turn) → all_over (reached values start turns).crew ≡ true
    → counted_at values start number (turns ++ Turn.Round ∷ []) ≡ counted_at values start number turns
