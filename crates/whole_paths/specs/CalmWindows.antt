-- A window of which nothing is to be mended: since the peer owed an answer nothing was harmed. So the answer is heard, or on its way, and what the
-- peer's book takes besides is told as its reader has read enough (RFC 9293, sections 3.8.6 and 3.8.6.2.2).
use Rattle.std.specs.Prelude.{◌+◌, ◌-◌, ◌≡◌, ◌≤◌, ◌⊎◌, true, false, List, [], ◌∷◌, ◌++◌, length}
use Rattle.sides.specs.declared.side.Side.{Side}
use Rattle.sides.specs.Side.{peer}
use Rattle.actor_desk.specs.Books.{books_in}
use Rattle.actor_desk.specs.Words.{pick}
use Rattle.path_core.specs.State.{PathState, end_at}
use Rattle.path_core.specs.Values.{Carried, values}
use Rattle.world_laws.specs.Openings.{PathPlan, Start}
use Rattle.world_laws.specs.Promises.{written_by}
use Rattle.world_laws.specs.RoundDone.{reached}
use Rattle.world_laws.specs.Worlds.{Turn}
use Rattle.whole_paths.specs.Delivery.{IsAllThere}
use Rattle.whole_paths.specs.Finish.{IsPathAt, is_harmed}
use Rattle.whole_paths.specs.Mending.{IsOpenTurn}
use Rattle.whole_paths.specs.OnePathScripts.{BeginsWithOnePath}
use Rattle.whole_paths.specs.OpenCourses.{IsOpenAfter}
use Rattle.whole_paths.specs.SegmentRounds.{IsRound, read_after}
use Rattle.whole_paths.specs.WindowsAssured.{IsAssured}
use Rattle.whole_paths.specs.WindowsHeld.{WindowsHold}

module _ (start : Start) (s : Side) where
  -- At some moment the peer owed an answer, and by each turn since then path 0 is open, and no segment of it is harmed.
  pub data OwedSince : List Turn → Type 0 where
    now : (turns : List Turn) (h : IsOpenAfter start turns) → (end_at (peer s) h.path).tcp.due.ack ≡ true → OwedSince turns
    later : (turns before : List Turn) (turn : Turn) → turns ≡ before ++ turn ∷ [] → OwedSince before → (h : IsOpenTurn start before turn)
        → ((u : Side) → is_harmed u h.before.path h.after.path ≡ false) → OwedSince turns

  -- so it is, or the side may send all of its file, or all of its stream is there
  pub data WindowIsKept (turns : List Turn) : Type 0 where
    since : OwedSince turns → WindowIsKept turns
    fits : length (pick s start.file_a start.file_b) ≤ (written_by s (reached values start turns)).edge → WindowIsKept turns
    there : IsAllThere s (reached values start turns) → WindowIsKept turns

module _ (Also : Start → PathPlan → Type 0) where
  -- Where so it is as a round is over, a window of a full segment's payload past what was read as the round began is heard, or comes within 400 ticks.
  abbrev pub WhatIsOwedIsTold : Type 0
  WhatIsOwedIsTold = (start : Start) (plan : PathPlan) (s : Side) (v w : List Turn) → BeginsWithOnePath start plan → Also start plan → IsRound start v w
      → OwedSince start s w → (p : PathState Carried) → IsPathAt 0 (reached values start w) p
      → IsAllThere s (reached values start w)
      ⊎ IsAssured (books_in (reached values start w).books) s (read_after start s v + (plan.mss - 28)) (p.clock + 400) p

  -- so windows are held
  abbrev pub WindowsHoldSo : Type 0
  WindowsHoldSo = WhatIsOwedIsTold → WindowsHold Also WindowIsKept
