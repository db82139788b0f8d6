use Rattle.std.proofs.Common.{arith}
use Rattle.pipe_model.specs.Pipe.{opening}
use Rattle.pipe_model.proofs.PipeRuns.{acknowledged-after_steps, written-after_steps}
use Rattle.pipe_model.proofs.laws.acknowledged_was_received.Goals as goal

pub returns-clause-received : goal.returns-clause-received
returns-clause-received c steps = (acknowledged-after_steps steps opening 0 (record { acked = omega arith; written = omega arith })).acked

pub returns-clause-written : goal.returns-clause-written
returns-clause-written c steps =
    let kept = acknowledged-after_steps steps opening 0 (record { acked = omega arith; written = omega arith }) in
    rw (written-after_steps steps opening) at kept.written
