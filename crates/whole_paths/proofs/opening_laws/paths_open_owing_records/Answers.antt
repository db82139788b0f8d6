use Rattle.path_core.specs.Octets.{octets}
use Rattle.path_core.specs.Values.{values}
use Rattle.whole_paths.proofs.EarlyRecords.{early_never_falls, early_over_octets, opens_owing_records}
use Rattle.whole_paths.proofs.opening_laws.paths_open_owing_records.Goals as goal

pub returns-clause-owing : goal.returns-clause-owing
returns-clause-owing c = opens_owing_records

pub returns-clause-early_values : goal.returns-clause-early_values
returns-clause-early_values c = early_never_falls values

pub returns-clause-early_octets : goal.returns-clause-early_octets
returns-clause-early_octets c = early_never_falls octets

pub returns-clause-over_octets : goal.returns-clause-over_octets
returns-clause-over_octets c = early_over_octets
