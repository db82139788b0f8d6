-- How long a side stalls whose peer's side waits for more of its stream, where each end is told soon how far its peer is: six rounds, until its end
-- knows that the window is shut; then until its timer runs out, and what it asks so comes (RFC 9293, sections 3.8.6 and 3.8.6.1).
use Rattle.std.specs.Prelude.{ℕ, ◌+◌, ◌≡◌, ◌<◌, ◌≤◌, ◌⊎◌, true, List, length}
use Rattle.sides.specs.declared.side.Side.{Side}
use Rattle.sides.specs.Side.{peer}
use Rattle.actor_desk.specs.Words.{pick}
use Rattle.path_core.specs.State.{PathState, end_at}
use Rattle.path_core.specs.Values.{Carried, values}
use Rattle.world_laws.specs.Openings.{PathPlan, Start}
use Rattle.world_laws.specs.Promises.{written_by}
use Rattle.world_laws.specs.RoundDone.{reached}
use Rattle.world_laws.specs.Worlds.{Turn}
use Rattle.whole_paths.specs.Counts.{CountsAsMuch}
use Rattle.whole_paths.specs.Courses.{harmed_so_far, round_end}
use Rattle.whole_paths.specs.Debts.{Beginning, Stepping}
use Rattle.whole_paths.specs.Delivery.{IsAllThere}
use Rattle.whole_paths.specs.Directions.{DirectionIsWell}
use Rattle.whole_paths.specs.Finish.{IsPathAt}
use Rattle.whole_paths.specs.OnePathScripts.{BeginsWithOnePath}
use Rattle.whole_paths.specs.OpenCourses.{IsOpenAfter}
use Rattle.whole_paths.specs.ProbeWaits.{ProbeGoesBy}
use Rattle.whole_paths.specs.SentInOrder.{sent_up_to}
use Rattle.whole_paths.specs.UnitRounds.{WaitsSince}

module _ (start : Start) (s : Side) where
  -- RCV.NXT of the peer is there after these turns
  pub record IsReached (edge : ℕ) (turns : List Turn) : Type 0 where
    pub path : PathState Carried
    pub here : IsPathAt 0 (reached values start turns) path
    pub is : (end_at (peer s) path).tcp.recv.edge ≡ edge

  -- after these turns, on path 0, positions past this one were sent
  pub record IsSentPast (edge : ℕ) (turns : List Turn) : Type 0 where
    pub path : PathState Carried
    pub here : IsPathAt 0 (reached values start turns) path
    pub more : edge < (end_at s path).tcp.send.nxt

  -- RCV.NXT of the peer stays at the edge meanwhile; by the tick x it rises, or the peer owes an answer.
  module _ (Well : List Turn → Type 0) where
    pub data StallGoes (edge x : ℕ) (turns : List Turn) : Type 0 where
      -- it is waited for from the next round on; a timer is to run out only where nothing was sent past the edge
      fresh : IsReached edge turns → IsSentPast edge turns ⊎ (round_end values start turns + 63600 ≤ x) → round_end values start turns + 1300 ≤ x
          → StallGoes edge x turns
      -- for six rounds
      since : (count : ℕ) (v : List Turn) → WaitsSince start Well count v turns → count ≤ 5 → IsReached edge v → IsReached edge turns
          → IsSentPast edge v ⊎ (round_end values start v + 63400 ≤ x) → round_end values start v + 1100 ≤ x → StallGoes edge x turns
      -- something flies, for four
      flies : (count : ℕ) (v : List Turn) → WaitsSince start Well count v turns → count ≤ 3 → (p : PathState Carried)
          → IsPathAt 0 (reached values start v) p → edge < sent_up_to (end_at s p).tcp.send → IsReached edge turns
          → round_end values start v + 500 ≤ x → StallGoes edge x turns
      -- the window is shut
      probes : (by : ℕ) → by + 1500 ≤ x → (p : PathState Carried) → IsPathAt 0 (reached values start turns) p
          → ProbeGoesBy s by (round_end values start turns) p → IsReached edge turns → StallGoes edge x turns

    -- of some edge
    pub record Stalls (x : ℕ) (turns : List Turn) : Type 0 where
      pub edge : ℕ
      pub goes : StallGoes edge x turns

  -- This holds where the peer owes an answer, all of the file lies before the edge of the window, or all of the stream is there.
  pub record MeetsStalls (Holds : List Turn → Type 0) : Type 0 where
    pub owed : (turns : List Turn) (h : IsOpenAfter start turns) → (end_at (peer s) h.path).tcp.due.ack ≡ true → Holds turns
    pub fits : (turns : List Turn) → IsOpenAfter start turns
        → length (pick s start.file_a start.file_b) ≤ (written_by s (reached values start turns)).edge → Holds turns
    pub there : (turns : List Turn) → IsOpenAfter start turns → IsAllThere s (reached values start turns) → Holds turns

-- Then the waits of such a kind of debt, mended where nothing is owed of a first kind: each within 64,000 ticks.
pub record StallsAreWaitedFor (start : Start) (plan : PathPlan) (most : ℕ) (s : Side) (count : List Turn → ℕ) (First : ℕ → List Turn → Type 0)
    (Holds : List Turn → Type 0) : Type 0 where
  pub waits_on : (x : ℕ) (v u : List Turn) → Stepping start plan most First v u → First 0 v → Stalls start s (First 0) x v
      → (count v < count u) ⊎ (Holds u ⊎ Stalls start s (First 0) x u)
  pub waits_next : (x : ℕ) (v u : List Turn) → Beginning start plan most First v u → First 0 v → Stalls start s (First 0) x v
      → (count v < count u) ⊎ (Holds u ⊎ Stalls start s (First 0) x u)
  pub in_time : (x : ℕ) (v u : List Turn) → Beginning start plan most First v u → First 0 v → Stalls start s (First 0) x v
      → round_end values start v ≤ x
  pub begins : (v u : List Turn) → Beginning start plan most First v u → First 0 u
      → Holds u ⊎ Stalls start s (First 0) (round_end values start v + 64000) u

abbrev pub StallsAreMended : Type 1
StallsAreMended = (start : Start) (plan : PathPlan) (most : ℕ) (s : Side) (count : List Turn → ℕ) (First : ℕ → List Turn → Type 0)
    (Holds : List Turn → Type 0) → BeginsWithOnePath start plan → CountsAsMuch start (harmed_so_far values start) count
    → ((turns : List Turn) → First 0 turns → (t : Side) → DirectionIsWell t (reached values start turns)) → MeetsStalls start s Holds
    → StallsAreWaitedFor start plan most s count First Holds
