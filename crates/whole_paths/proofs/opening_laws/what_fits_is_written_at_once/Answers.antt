use Rattle.path_core.specs.Octets.{octets}
use Rattle.path_core.specs.Values.{values}
use Rattle.whole_paths.proofs.WrittenAtOnce.{what_fits_is_written_at_once}
use Rattle.whole_paths.proofs.opening_laws.what_fits_is_written_at_once.Goals as goal

pub returns-clause-values : goal.returns-clause-values
returns-clause-values c = what_fits_is_written_at_once values

pub returns-clause-octets : goal.returns-clause-octets
returns-clause-octets c = what_fits_is_written_at_once octets
