use Rattle.whole_paths.proofs.RecordsWell as records
use Rattle.whole_paths.proofs.delivery_laws.each_record_stays_well.Goals as goal

pub returns : goal.returns
returns c = records.each_record_stays_well
