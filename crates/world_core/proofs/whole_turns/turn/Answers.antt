use Rattle.std.proofs.Common.{sym, ◌∙◌, ap, subst}
use Rattle.path_core.specs.Octets.{octets}
use Rattle.world_laws.specs.Serial.{TurnTo}
use Rattle.world_core.proofs.CutMade.{at_err, turn_cut_now, turn_cut_more}
use Rattle.world_core.proofs.RoundsMade.{turn_more}
use Rattle.world_core.proofs.whole_turns.turn.Goals as goal

pub loop-preserved : goal.loop-preserved
loop-preserved c = (
  ap (λ w. w.failed) c.in_ok-go.ensures.ok,
  λ v h. c.loop.invariant.1 v
      (turn_more octets c.args.actor c.loop.world.state v (sym c.in_ok-go.ensures.going ∙ c.if-branch.true)
      (subst (λ w. TurnTo octets c.args.actor w v) (ap (λ w. w.state) c.in_ok-go.ensures.ok) h)),
  λ v h. c.loop.invariant.2 v
      (turn_cut_more octets c.args.actor c.loop.world.state c.go.new.self.state v (sym c.in_ok-go.ensures.going ∙ c.if-branch.true)
      (ap (λ w. w.state) c.in_ok-go.ensures.ok) h),
)

pub returns-in_err-go-clause-cut : goal.returns-in_err-go-clause-cut
returns-in_err-go-clause-cut c = at_err c.from_residual.result (c.loop.invariant.2 c.go.new.self.state
    (turn_cut_now octets c.args.actor c.loop.world.state c.go.new.self.state
    (record { outcome = c.in_err-go.ensures.outcome; lists = c.in_err-go.ensures.lists })))
