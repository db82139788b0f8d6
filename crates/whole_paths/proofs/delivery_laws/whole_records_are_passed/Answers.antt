use Rattle.whole_paths.proofs.RecordsPassed as records
use Rattle.whole_paths.proofs.delivery_laws.whole_records_are_passed.Goals as goal

pub returns : goal.returns
returns c = records.whole_records_are_passed
