use Rattle.ruled_desk.proofs.Words.{◌∙◌}
use Rattle.ruled_desk.proofs.errands.serve_next.Goals as goal

pub finish-requires : goal.finish-requires
finish-requires g c = (c.in-Some.errand, c.next.ensures.job ∙ c.in-Some.is, c.run.ensures)
