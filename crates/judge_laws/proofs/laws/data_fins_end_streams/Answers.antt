use Rattle.judge_laws.proofs.Ends.{before_ends, ends_streams}
use Rattle.judge_laws.proofs.laws.data_fins_end_streams.Goals as goal

pub returns-clause-ends : goal.returns-clause-ends
returns-clause-ends c = ends_streams

pub returns-clause-brought : goal.returns-clause-brought
returns-clause-brought c = before_ends
