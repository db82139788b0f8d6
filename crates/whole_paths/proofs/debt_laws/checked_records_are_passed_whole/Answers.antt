use Rattle.whole_paths.proofs.CutRecords as records
use Rattle.whole_paths.proofs.debt_laws.checked_records_are_passed_whole.Goals as goal

pub returns : goal.returns
returns c = records.checked_records_are_passed_whole
