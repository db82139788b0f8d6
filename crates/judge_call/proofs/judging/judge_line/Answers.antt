use Rattle.std.proofs.Common.{List, ℕ, subst}
use Rattle.outside_kit.specs.Calls as call
use Rattle.judge_call.proofs.Planned.{one_done}
use Rattle.judge_call.proofs.Telling.{answered, out_of_memory}
use Rattle.judge_call.specs.Answers.{IsJudged}
use Rattle.judge_call.specs.Words.{as_line}
use Rattle.judge_call.proofs.judging.judge_line.Goals as goal

pub returns-in-Ok : goal.returns-in-Ok
returns-in-Ok g c =
    answered (as_line c.args.line.now) c.in-Ok.octets.items (g.O.Outside.told c.args.outside.now) (g.O.Outside.told c.judge_octets.new.outside) c.judge_octets.result c.in-Ok.ensures.whole
    (subst
    (λ (octets : List ℕ). IsJudged (as_line c.args.line.now) octets (g.O.Outside.told c.args.outside.now).calls (g.O.Outside.told c.judge_octets.new.outside).calls
    c.judge_octets.result)
    c.deref.ensures.value (c.judge_octets.ensures (g.O.Outside.told c.args.outside.now).calls (one_done (call.Load c.args.line.now.capture.now) _ _ c.in-Ok.ensures.recorded)))

pub returns-in-Err-Memory : goal.returns-in-Err-Memory
returns-in-Err-Memory g c = out_of_memory (as_line c.args.line.now) (g.O.Outside.told c.args.outside.now) (g.O.Outside.told c.load.new.self)
    c.in-Err-Memory.ensures.recorded
