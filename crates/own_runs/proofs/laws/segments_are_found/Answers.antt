use Rattle.own_runs.proofs.Segments.{are_found, written_are_found}
use Rattle.own_runs.proofs.laws.segments_are_found.Goals as goal

pub returns-clause-read : goal.returns-clause-read
returns-clause-read c = are_found

pub returns-clause-written : goal.returns-clause-written
returns-clause-written c = written_are_found
