use Rattle.outside_kit.specs.Calls as call
use Rattle.judge_call.specs.declared.status.Status.TheVariants as ends
use Rattle.judge_call.proofs.Planned.{follows_done, follows_failed}
use Rattle.judge_call.proofs.putting.bind.Goals as goal

pub returns-in-Ok : goal.returns-in-Ok
returns-in-Ok g c = follows_done (call.Bind c.args.port c.args.name.now) _ _ _ c.in-Ok.ensures.recorded

pub returns-in-Err-Failed : goal.returns-in-Err-Failed
returns-in-Err-Failed g c = follows_failed (call.Bind c.args.port c.args.name.now) ends.Put _ _ tt c.in-Err-Failed.ensures.recorded

pub returns-in-Err-Memory : goal.returns-in-Err-Memory
returns-in-Err-Memory g c = follows_failed (call.Bind c.args.port c.args.name.now) ends.Memory _ _ tt c.in-Err-Memory.ensures.recorded
