use Rattle.ruled_desk.proofs.Words.{send_kind, send_small}
use Rattle.ruled_desk.proofs.answering.SendBookAnswering.answers.Goals as goal

pub returns : goal.returns
returns c = λ call can sound.
    (send_kind c.args.self.now call c.marks_tile.ensures.tile can, send_small c.args.self.now call c.marks_tile.ensures.tile sound)
