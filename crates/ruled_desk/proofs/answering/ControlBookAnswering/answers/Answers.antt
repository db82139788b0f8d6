use Rattle.ruled_desk.proofs.Words.{control_kind, control_small}
use Rattle.ruled_desk.proofs.answering.ControlBookAnswering.answers.Goals as goal

pub returns : goal.returns
returns c = λ call can sound. (control_kind c.args.self.now call, control_small c.args.self.now call sound can)
