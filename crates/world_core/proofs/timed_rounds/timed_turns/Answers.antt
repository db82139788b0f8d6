use Rattle.std.proofs.Common.{sym, ap, subst, ◌<◌}
use Rattle.path_core.specs.Octets.{octets}
use Rattle.world_core.specs.Kept.{Kept}
use Rattle.world_core.specs.Steps.{StampRises}
use Rattle.world_core.proofs.CutMade.{at_err}
use Rattle.world_core.proofs.TimedRounds.{next_goes, stamps_left, step_uses, timed_cut_more, timed_cut_now, timed_more}
use Rattle.world_core.proofs.timed_rounds.timed_turns.Goals as goal

pub loop-step-preserved : goal.loop-step-preserved
loop-step-preserved c = (
  ap (λ w. w.failed) c.in_ok-go.ensures.ok,
  λ v h. c.loop-step.invariant.1 v
      (timed_more octets c.in-Some.step.actor c.loop-step.world.state c.go.new.self.state v c.in-Some.ensures.step (ap (λ w. w.state) c.in_ok-go.ensures.ok) h),
  λ v h. c.loop-step.invariant.2 v
      (timed_cut_more octets c.in-Some.step.actor c.loop-step.world.state c.go.new.self.state v c.in-Some.ensures.step (ap (λ w. w.state) c.in_ok-go.ensures.ok) h),
)

pub loop-step-smaller : goal.loop-step-smaller
loop-step-smaller c =
    let actor = c.in-Some.step.actor in let w = c.loop-step.world.state in
    subst (λ (k : Kept). stamps_left k.state.crew < stamps_left w.crew) (sym c.in_ok-go.ensures.ok)
    (step_uses actor w (next_goes actor w c.in-Some.ensures.step) (subst (λ (k : Kept). StampRises actor w k.state) c.in_ok-go.ensures.ok c.in_ok-go.ensures.rises))

pub returns-in_err-go-clause-cut : goal.returns-in_err-go-clause-cut
returns-in_err-go-clause-cut c = at_err c.from_residual.result (c.loop-step.invariant.2 c.go.new.self.state
    (timed_cut_now octets c.loop-step.world.state c.go.new.self.state
    (record { outcome = c.in_err-go.ensures.outcome; lists = c.in_err-go.ensures.lists })))
