use Rattle.judge_call.proofs.Planned.{follows_nothing}
use Rattle.judge_call.proofs.judging.put_if_asked.Goals as goal

pub returns-in-None : goal.returns-in-None
returns-in-None g c = rw c.in-None.is (follows_nothing (g.O.Outside.told c.args.outside.now).calls _)
