use Rattle.pipe_model.specs.Pipe.{opening}
use Rattle.pipe_model.specs.Runs.{after_steps}
use Rattle.pipe_model.proofs.PipeRuns.{ended-steps, read_by-whole, told-after_steps}
use Rattle.pipe_model.proofs.laws.end_is_told_at_the_whole.Goals as goal

pub returns-clause-whole : goal.returns-clause-whole
returns-clause-whole c = read_by-whole

pub returns-clause-nothing_read : goal.returns-clause-nothing_read
returns-clause-nothing_read c steps more told = (ended-steps more (after_steps steps opening) (told-after_steps steps told)).1

pub returns-clause-nothing_written : goal.returns-clause-nothing_written
returns-clause-nothing_written c steps more told = (ended-steps more (after_steps steps opening) (told-after_steps steps told)).0
