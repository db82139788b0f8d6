-- A round by threads: what it made, and what the rounds of a run made.
use Rattle.std.specs.Prelude.{ℕ, ◌≡◌, Bool, true, false, Option, Some, None, Result, Ok, Err, List, length, OnOk, IfErr}
use Rattle.outside_kit.specs.Outside.{Told}
use Rattle.journal_weave.specs.Rounds.{WeavesTo}
use Rattle.run_outside.specs.Calling.{OnlyPuts}
use Rattle.run_outside.specs.Ports.{IsPortsFault}
use Rattle.run_outside.specs.declared.status.Status.{Status}
use Rattle.world_core.specs.Kept.{Kept}
use Rattle.world_core.specs.RoundEnds.{round_ends}
use Rattle.mptcp_run.specs.Courses.{CourseMade, CourseCut}
use Rattle.mptcp_run.specs.Rounds.{AtRound}
use Rattle.mptcp_run.specs.Task.{Connection}
use Rattle.mptcp_run.specs.Task as course
use Rattle.mptcp_run.specs.WovenRounds.{WovenTo}
use Rattle.mptcp_run.specs.declared.rounds.Run.{Run}

-- an order was found
abbrev pub has_order : {X E : Type 0} → Result X E → Bool
has_order (Ok order) = true
has_order (Err e) = false

-- the actors make the steps of a round from this world on, up to its end, and the other world stands after them
pub record IsWoven (w : Connection) (next : Kept) (actors : List ℕ) : Type 0 where
  pub weaves : WeavesTo w next.state actors
  pub stands : next.failed ≡ false

-- a round leads to this world
pub record GoesTo (w : Connection) (next : Kept) : Type 0 where
  pub round : WovenTo w next.state
  pub stands : next.failed ≡ false

-- a run waits, before its first round
abbrev pub Waits : Option Run → Type 0
Waits None = ⊥
Waits (Some run) = AtRound run × (run.rounds ≡ 0)

-- At most so many rounds were made by threads from the opening on: all turns of such a course, and as many rounds as they end, or
-- those up to an error.
pub record AreMade (most : ℕ) (run : Run) (before after : Told) {T : Type 0} (result : Run × Result T Status) : Type 0 where
  pub ok : OnOk result.1 ((made : CourseMade (course.threads most) run.opening run.world.state result.0.world.state before after)
      × (result.0.rounds ≡ length (round_ends made.turns run.world.state)))
  pub stands : OnOk result.1 (result.0.world.failed ≡ false)
  pub cut : IfErr result.1 (CourseCut (course.threads most) run.opening run.world.state before after)
  pub fault : IfErr result.1 (IsPortsFault before.port_faults after.port_faults)
  pub only : OnlyPuts before after
