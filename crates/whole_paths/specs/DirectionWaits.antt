-- How what a direction owes is mended. An end hears what it wasn't told: its timer runs out, its first record goes again, and the peer answers. A
-- record that may be lost becomes the first one: all before it comes, and is acknowledged; then it goes again.
use Rattle.std.specs.Prelude.{ℕ, suc, ◌+◌, ◌≡◌, ◌<◌, ◌≤◌, ◌⊎◌, true, false, Some, List, [], length}
use Rattle.sides.specs.declared.side.Side.{Side}
use Rattle.sides.specs.Side.{peer}
use Rattle.link_model.specs.declared.flight.Flight.{Flight}
use Rattle.stream_lanes.specs.Words.{Has}
use Rattle.subflow_send.specs.Records.{Record, end_of}
use Rattle.subflow_send.specs.declared.record.RecordKind.TheVariants.{Data}
use Rattle.path_core.specs.State.{PathState, end_at}
use Rattle.path_core.specs.Values.{Carried, values}
use Rattle.world_laws.specs.Openings.{PathPlan, Start}
use Rattle.world_laws.specs.RoundDone.{reached}
use Rattle.world_laws.specs.Worlds.{Turn}
use Rattle.whole_paths.specs.Copies.{IsUnderWay}
use Rattle.whole_paths.specs.Courses.{round_end}
use Rattle.whole_paths.specs.Debts.{Beginning, DebtsAreMended, MendsOn, Stepping, one_timeout}
use Rattle.whole_paths.specs.Delivery.{IsAllThere}
use Rattle.whole_paths.specs.Directions.{AreHeardBut, OwesAlong, OwesThese}
use Rattle.whole_paths.specs.Expiries.{IsToSendAgain}
use Rattle.whole_paths.specs.Finish.{IsPathAt}
use Rattle.whole_paths.specs.FirstLost.{MendsFirst}
use Rattle.whole_paths.specs.Mending.{ComesBy, IsRecordOf, IsToldBy}
use Rattle.whole_paths.specs.Mild.{IsMildStart}
use Rattle.whole_paths.specs.OctetsPassed.{ComesUpTo}
use Rattle.whole_paths.specs.OnePathScripts.{BeginsWithOnePath}
use Rattle.whole_paths.specs.OpenCourses.{IsOpenAfter}
use Rattle.whole_paths.specs.Waits.{RunsTo}
use Rattle.whole_paths.specs.WindowRoom.{IsRoomy}

-- ---- what an end wasn't told

-- how far its peer is the end didn't hear, and it stands in the list
pub record EdgeIsUnheard (s : Side) (unheard : List ℕ) (p : PathState Carried) : Type 0 where
  pub behind : (end_at s p).tcp.send.una < (end_at (peer s) p).tcp.recv.edge
  pub among : Has (λ n. n ≡ (end_at (peer s) p).tcp.recv.edge) unheard

-- each segment under way to the side acknowledges no more than its end heard, or what stands in the list
abbrev pub NothingElseComes : Side → List ℕ → PathState Carried → Type 0
NothingElseComes s unheard p = (f : Flight Carried) (n : ℕ) → IsUnderWay f p → f.to ≡ s → f.carried.segment.rst ≡ false
    → f.carried.segment.acknowledged ≡ Some n → (n ≤ (end_at s p).tcp.send.una) ⊎ Has (λ m. m ≡ n) unheard

-- Level: what is known of the Data ACKs that an end heard, while its timer runs. By the tick x something is heard that stands in the list; the round goes on
-- to the tick `until`.
pub data HearsSoon (Level : PathState Carried → Type 0) (s : Side) (unheard : List ℕ) (x until : ℕ) (p : PathState Carried) : Type 0 where
  -- an answer that says so comes
  comes : (n : ℕ) → Has (λ m. m ≡ n) unheard → (end_at s p).tcp.send.una < n → (by : ℕ) → by ≤ x → IsToldBy s n by p
      → HearsSoon Level s unheard x until p
  -- the peer owes it
  owes : (n : ℕ) → Has (λ m. m ≡ n) unheard → (end_at s p).tcp.send.una < n → n ≤ (end_at (peer s) p).tcp.recv.edge → until + 400 ≤ x
      → (end_at (peer s) p).tcp.due.ack ≡ true → HearsSoon Level s unheard x until p
  -- what else is told comes before
  settles : EdgeIsUnheard s unheard p → (by : ℕ) → by + 61200 ≤ x → until ≤ by + 100 → AreHeardBut s unheard by p → HearsSoon Level s unheard x until p
  -- the timer runs, and no news comes that stands not in the list
  waits : EdgeIsUnheard s unheard p → NothingElseComes s unheard p → (tick : ℕ) → RunsTo tick (end_at s p)
      → Level p → tick + 1100 ≤ x → until + 1000 ≤ x → HearsSoon Level s unheard x until p
  -- the timer ran out
  resends : EdgeIsUnheard s unheard p → IsToSendAgain s p → until + 1000 ≤ x → HearsSoon Level s unheard x until p
  -- a record goes again that the peer is past
  flies : EdgeIsUnheard s unheard p → (r : Record) → r.kind ≡ Data → end_of r ≤ (end_at (peer s) p).tcp.recv.edge → (by : ℕ) → by + 500 ≤ x
      → until + 400 ≤ x → ComesBy s r by p → HearsSoon Level s unheard x until p

-- ---- records that may be lost

-- by the tick x fewer may be
pub data MendsInTurn (Level : PathState Carried → Type 0) (s : Side) (lost : List ℕ) (x until : ℕ) (p : PathState Carried) : Type 0 where
  -- all before one of them comes, and is heard
  comes : (position : ℕ) → Has (λ n. n ≡ position) lost → (by : ℕ) → by + 60700 ≤ x → until ≤ by + 100 → ComesUpTo s position by p
      → MendsInTurn Level s lost x until p
  told : (position : ℕ) → Has (λ n. n ≡ position) lost → (by : ℕ) → by + 60100 ≤ x → until + 60000 ≤ x → IsToldBy s position by p
      → MendsInTurn Level s lost x until p
  -- and it is the first one
  mends : (by : ℕ) → by ≤ x → Level p → MendsFirst s (length lost) by p
      → MendsInTurn Level s lost x until p

-- ---- both

pub data MendsThese (Level : PathState Carried → Type 0) (s : Side) (debts x until : ℕ) (p : PathState Carried) : Type 0 where
  hears : (lost unheard : List ℕ) → OwesThese s lost unheard p → length lost + length unheard ≤ debts → HearsSoon Level s unheard x until p
      → MendsThese Level s debts x until p
  mends : (lost : List ℕ) → OwesThese s lost [] p → length lost ≤ debts → MendsInTurn Level s lost x until p → MendsThese Level s debts x until p

-- after these turns, on path 0
pub record MendsAlongBy (Level : PathState Carried → Type 0) (start : Start) (s : Side) (debts x : ℕ) (turns : List Turn) : Type 0 where
  pub path : PathState Carried
  pub here : IsPathAt 0 (reached values start turns) path
  pub some : 0 < debts
  pub mends : MendsThese Level s debts x (round_end values start turns) path

-- over one path no less is acknowledged by Data ACKs than SND.UNA is past
abbrev pub IsLevel : Side → PathState Carried → Type 0
IsLevel s p = (end_at s p).tcp.send.una ≤ suc (end_at s p).sending.heard

abbrev pub MendsAlong : Start → Side → ℕ → ℕ → List Turn → Type 0
MendsAlong start s = MendsAlongBy (IsLevel s) start s

-- ---- over any number of paths

-- as path 0 becomes another one, the side's end hears that more of its stream is acknowledged: its timer starts anew, though SND.UNA stays
pub record HearsMore (start : Start) (s : Side) (v u : List Turn) : Type 0 where
  pub before : IsOpenAfter start v
  pub after : IsOpenAfter start u
  pub more : (end_at s before.path).sending.heard < (end_at s after.path).sending.heard

-- Along a direction of path 0 debts are mended, unless meanwhile more of the stream is acknowledged than the end heard.
pub record DebtsAreMendedUnlessMoreIsHeard (start : Start) (plan : PathPlan) (most : ℕ) (s : Side) : Type 0 where
  pub mends_on : (debts x : ℕ) (v u : List Turn) → Stepping start plan most (OwesAlong start s) v u → MendsAlongBy (λ p. Unit {0}) start s debts x v
      → MendsOn start plan most (OwesAlong start s) (MendsAlongBy (λ p. Unit {0}) start s) debts x v u ⊎ HearsMore start s v u
  pub mends_next : (debts x : ℕ) (v u : List Turn) → Beginning start plan most (OwesAlong start s) v u → MendsAlongBy (λ p. Unit {0}) start s debts x v
      → MendsOn start plan most (OwesAlong start s) (MendsAlongBy (λ p. Unit {0}) start s) debts x v u ⊎ HearsMore start s v u
  pub in_time : (debts x : ℕ) (v u : List Turn) → Beginning start plan most (OwesAlong start s) v u → MendsAlongBy (λ p. Unit {0}) start s debts x v → round_end values start v ≤ x
  pub begins : (debts : ℕ) (v u : List Turn) → Beginning start plan most (OwesAlong start s) v u → OwesAlong start s (suc debts) u
      → OwesAlong start s debts u ⊎ MendsAlongBy (λ p. Unit {0}) start s (suc debts) (round_end values start v + one_timeout) u

abbrev pub DirectionsAreMendedUnlessMoreIsHeard : Type 0
DirectionsAreMendedUnlessMoreIsHeard = (start : Start) (plan : PathPlan) (most : ℕ) (s : Side) → IsRoomy start → DebtsAreMendedUnlessMoreIsHeard start plan most s

-- ---- what is left to be shown of its numbers

-- At each moment at which path 0 is open RCV.NXT of the peer lies inside no record of data of the side's.
abbrev pub ArePassedWhole : Start → Side → Type 0
ArePassedWhole start s = (turns : List Turn) (h : IsOpenAfter start turns) (r : Record) → IsRecordOf (end_at s h.path) r → r.kind ≡ Data
    → ((end_at (peer s) h.path).tcp.recv.edge ≤ r.pos) ⊎ (end_of r ≤ (end_at (peer s) h.path).tcp.recv.edge)

-- And then, unless all of the side's stream is with the peer, no more is acknowledged by Data ACKs than SND.UNA is past, and where the turn is over
-- no less.
pub record NumbersAgree (start : Start) (s : Side) : Type 0 where
  pub below : (turns : List Turn) (h : IsOpenAfter start turns) → IsAllThere s (reached values start turns)
      ⊎ ((end_at s h.path).sending.heard < (end_at s h.path).tcp.send.una)
  pub level : (turns : List Turn) (h : IsOpenAfter start turns) → h.path.agenda ≡ [] → IsAllThere s (reached values start turns)
      ⊎ ((end_at s h.path).tcp.send.una ≤ suc (end_at s h.path).sending.heard)
  pub whole : ArePassedWhole start s

-- Records are passed whole over any number of paths.
abbrev pub RecordsArePassedWhole : Type 0
RecordsArePassedWhole = (start : Start) (s : Side) → IsMildStart start → ArePassedWhole start s

-- So numbers agree over one path.
abbrev pub NumbersAlwaysAgree : Type 0
NumbersAlwaysAgree = (start : Start) (plan : PathPlan) (s : Side) → BeginsWithOnePath start plan → NumbersAgree start s

-- Over one path debts along a direction are mended.
abbrev pub DirectionsAreMended : Type 0
DirectionsAreMended = (start : Start) (plan : PathPlan) (most : ℕ) (s : Side) → BeginsWithOnePath start plan
    → DebtsAreMended start plan most (OwesAlong start s) (MendsAlong start s)
