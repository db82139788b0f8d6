use Rattle.std.proofs.Common.{Option, refl, subst}
use Rattle.judge_call.specs.Answers.{IsAnswer}
use Rattle.judge_call.specs.Words.{Line}
use Rattle.judge_call.specs.declared.status.Status.TheVariants as ends
use Rattle.judge_call.proofs.judging.judge.Goals as goal

pub returns-in-Some : goal.returns-in-Some
returns-in-Some g c = record {
  exact = subst (λ (line : Option Line). IsAnswer line (g.O.Outside.told c.args.outside.now) (g.O.Outside.told c.judge_line.new.outside) c.judge_line.result)
      c.in-Some.ensures c.judge_line.ensures;
}

pub returns-in-None : goal.returns-in-None
returns-in-None g c = record {
  exact = subst (λ (line : Option Line). IsAnswer line (g.O.Outside.told c.args.outside.now) (g.O.Outside.told c.args.outside.now) ends.Usage)
      c.in-None.ensures (refl, refl);
}
