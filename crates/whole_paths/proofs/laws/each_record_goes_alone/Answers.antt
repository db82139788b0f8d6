use Rattle.path_core.specs.Octets.{octets}
use Rattle.path_core.specs.Values.{values}
use Rattle.whole_paths.proofs.RecordsGo as records
use Rattle.whole_paths.proofs.laws.each_record_goes_alone.Goals as goal

pub returns-clause-octets : goal.returns-clause-octets
returns-clause-octets c = records.each_record_goes_alone octets

pub returns-clause-values : goal.returns-clause-values
returns-clause-values c = records.each_record_goes_alone values
