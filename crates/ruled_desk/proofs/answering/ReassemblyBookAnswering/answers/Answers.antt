use Rattle.ruled_desk.proofs.Words.{reassembly_kind, reassembly_small}
use Rattle.ruled_desk.proofs.answering.ReassemblyBookAnswering.answers.Goals as goal

pub returns : goal.returns
returns c = λ call can sound. (reassembly_kind c.args.self.now call, reassembly_small c.args.self.now call sound can)
