-- Rounds that clear what is sent before the first record that may be lost: it comes, and is acknowledged.
use Rattle.std.specs.Prelude.{ℕ, ◌≡◌, ◌<◌, ◌≤◌, ◌⊎◌, false, List, [], ◌∷◌, ◌++◌, length}
use Rattle.sides.specs.declared.side.Side.{Side}
use Rattle.sides.specs.Side.{peer}
use Rattle.stream_lanes.specs.Words.{Every, Has}
use Rattle.subflow_send.specs.Records.{Record}
use Rattle.path_core.specs.State.{PathState, end_at}
use Rattle.path_core.specs.Values.{Carried, values}
use Rattle.world_laws.specs.Openings.{Start}
use Rattle.world_laws.specs.RoundDone.{reached}
use Rattle.world_laws.specs.Worlds.{Turn, WorldState}
use Rattle.whole_paths.specs.Delivery.{IsAllThere}
use Rattle.whole_paths.specs.Finish.{IsPathAt, is_harmed}
use Rattle.whole_paths.specs.Mending.{IsToldSoon, IsWell}
use Rattle.whole_paths.specs.Mild.{IsMildStart}
use Rattle.whole_paths.specs.OpenCourses.{IsOpenAfter}
use Rattle.whole_paths.specs.SegmentRounds.{Rounds, StaysOpen}
use Rattle.whole_paths.specs.SentInOrder.{sent_up_to}
use Rattle.whole_paths.specs.Unmended.{AreWellBut}

-- each record of a side was well, or the peer's RCV.NXT has reached one that could be lost
pub data IsClearUpTo (s : Side) (lost : List ℕ) (p q : PathState Carried) : Type 0 where
  none : Every (IsWell s p) (end_at s p).tcp.send.records → IsClearUpTo s lost p q
  up_to : (position : ℕ) → Has (λ n. n ≡ position) lost → position ≤ (end_at (peer s) q).tcp.recv.edge → IsClearUpTo s lost p q

-- So it is after four rounds.
abbrev pub FourRoundsClear : Type 0
FourRoundsClear = (start : Start) (v u : List Turn) → IsMildStart start → Rounds start 4 v u → (s : Side)
    → (p q : PathState Carried) → IsPathAt 0 (reached values start v) p → IsPathAt 0 (reached values start u) q
    → (lost : List ℕ) → AreWellBut s lost p → IsClearUpTo s lost p q

-- each record of a side was well, or its stream is there, or SND.UNA has reached a record that could be lost
pub data IsAckedUpTo (s : Side) (lost : List ℕ) (p q : PathState Carried) (w : WorldState Carried) : Type 0 where
  none : Every (IsWell s p) (end_at s p).tcp.send.records → IsAckedUpTo s lost p q w
  all_there : IsAllThere s w → IsAckedUpTo s lost p q w
  up_to : (position : ℕ) → Has (λ n. n ≡ position) lost → position ≤ (end_at s q).tcp.send.una → IsAckedUpTo s lost p q w

-- So it is after four rounds more, where the end was to be told soon how far its peer was as they began.
abbrev pub EightRoundsClear : Type 0
EightRoundsClear = (start : Start) (v a u : List Turn) → IsMildStart start → Rounds start 4 v a → Rounds start 4 a u
    → (s : Side) (p m q : PathState Carried) → IsPathAt 0 (reached values start v) p → IsPathAt 0 (reached values start a) m
    → IsPathAt 0 (reached values start u) q → (lost : List ℕ) → AreWellBut s lost p → IsToldSoon s m
    → IsAckedUpTo s lost p q (reached values start u)

-- And where each record was well, all that was sent is acknowledged then.
abbrev pub EightRoundsAcknowledge : Type 0
EightRoundsAcknowledge = (start : Start) (v a u : List Turn) → IsMildStart start → Rounds start 4 v a → Rounds start 4 a u → (s : Side) (p m q : PathState Carried)
    → IsPathAt 0 (reached values start v) p → IsPathAt 0 (reached values start a) m → IsPathAt 0 (reached values start u) q
    → Every (IsWell s p) (end_at s p).tcp.send.records → IsToldSoon s m
    → IsAllThere s (reached values start u) ⊎ (sent_up_to (end_at s p).tcp.send ≤ (end_at s q).tcp.send.una)

-- the first record of a side is one that may be lost, or fewer may be
pub data IsFirstOrFewer (s : Side) (lost : List ℕ) (p : PathState Carried) : Type 0 where
  first : (r : Record) (others : List Record) → (end_at s p).tcp.send.records ≡ r ∷ others → Has (λ n. n ≡ r.pos) lost → IsFirstOrFewer s lost p
  fewer : (less : List ℕ) → length less < length lost → AreWellBut s less p → IsFirstOrFewer s lost p

-- So it is on path 0 of a mild connection, whose ends are open, where SND.UNA has reached a record that may be lost.
abbrev pub WhatIsReachedIsFirst : Type 0
WhatIsReachedIsFirst = (start : Start) (turns : List Turn) → IsMildStart start → (h : IsOpenAfter start turns) → (s : Side) (lost : List ℕ)
    → AreWellBut s lost h.path → (position : ℕ) → Has (λ n. n ≡ position) lost → position ≤ (end_at s h.path).tcp.send.una
    → IsFirstOrFewer s lost h.path

-- no segment of the side is harmed by turns of path 0, after others
abbrev pub NoneIsHarmed : Start → Side → List Turn → List Turn → Type 0
NoneIsHarmed start s turns [] = Unit {0}
NoneIsHarmed start s turns (turn ∷ more) = ((before : IsOpenAfter start turns) (after : IsOpenAfter start (turns ++ turn ∷ []))
    → is_harmed s before.path after.path ≡ false) × NoneIsHarmed start s (turns ++ turn ∷ []) more

-- By such turns no more records may be lost.
abbrev pub LostRecordsStay : Type 0
LostRecordsStay = (start : Start) (turns more : List Turn) → IsMildStart start → StaysOpen start turns more → (s : Side)
    → NoneIsHarmed start s turns more → (p q : PathState Carried) → IsPathAt 0 (reached values start turns) p
    → IsPathAt 0 (reached values start (turns ++ more)) q
    → (lost : List ℕ) → AreWellBut s lost p → AreWellBut s lost q

-- each record of a side was well, or its stream is there, or the first record is one that may be lost, or fewer may be
pub data IsSoonFirst (s : Side) (lost : List ℕ) (p q : PathState Carried) (w : WorldState Carried) : Type 0 where
  none : Every (IsWell s p) (end_at s p).tcp.send.records → IsSoonFirst s lost p q w
  all_there : IsAllThere s w → IsSoonFirst s lost p q w
  reached_one : IsFirstOrFewer s lost q → IsSoonFirst s lost p q w

-- So it is after eight rounds in which no segment of the side is harmed, where the end was to be told soon how far its peer was after the first four.
abbrev pub LostRecordsAreFirst : Type 0
LostRecordsAreFirst = (start : Start) (v a u more : List Turn) → IsMildStart start → Rounds start 4 v a
    → Rounds start 4 a u → u ≡ v ++ more → StaysOpen start v more → (s : Side) → NoneIsHarmed start s v more → (p m q : PathState Carried)
    → IsPathAt 0 (reached values start v) p → IsPathAt 0 (reached values start a) m → IsPathAt 0 (reached values start u) q
    → (lost : List ℕ) → AreWellBut s lost p → IsToldSoon s m → IsSoonFirst s lost p q (reached values start u)
