use Rattle.pipe_model.proofs.PipeRuns.{read_by-IsPrefix}
use Rattle.pipe_model.proofs.laws.read_is_a_prefix.Goals as goal

pub returns : goal.returns
returns c = read_by-IsPrefix
