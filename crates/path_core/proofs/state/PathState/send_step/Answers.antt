use Rattle.path_core.proofs.Words.{◌∙◌, octets}
use Rattle.path_core.proofs.SegmentsTold.{step_sent}
use Rattle.path_core.proofs.state.PathState.send_step.Goals as goal

pub returns-clause-value : goal.returns-clause-value
returns-clause-value c =
    c.sent_step.ensures.value ∙ step_sent octets c.args.duty c.send_of-from.result c.args.self.now c.send_of-from.ensures
