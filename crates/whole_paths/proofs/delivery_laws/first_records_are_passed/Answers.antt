use Rattle.whole_paths.proofs.RecordsPassed as records
use Rattle.whole_paths.proofs.delivery_laws.first_records_are_passed.Goals as goal

pub returns : goal.returns
returns c = records.first_records_are_passed
