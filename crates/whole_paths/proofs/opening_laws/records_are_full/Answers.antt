use Rattle.whole_paths.proofs.FewRecords.{opens_owing_segments, records_are_full}
use Rattle.whole_paths.proofs.opening_laws.records_are_full.Goals as goal

pub returns-clause-full : goal.returns-clause-full
returns-clause-full c = records_are_full

pub returns-clause-owing : goal.returns-clause-owing
returns-clause-owing c = opens_owing_segments
