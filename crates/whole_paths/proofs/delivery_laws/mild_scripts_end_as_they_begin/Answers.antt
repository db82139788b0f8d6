use Rattle.whole_paths.proofs.OnePathScripts.{ends_as_it_begins, mild_scripts_begin_with_one_path}
use Rattle.whole_paths.proofs.OverOctets.{ends_as_it_begins_in_octets}
use Rattle.whole_paths.proofs.ThereInTime.{what_is_there_in_time_is_delivered}
use Rattle.whole_paths.proofs.delivery_laws.mild_scripts_end_as_they_begin.Goals as goal

pub returns-clause-starts : goal.returns-clause-starts
returns-clause-starts c = mild_scripts_begin_with_one_path

pub returns-clause-there : goal.returns-clause-there
returns-clause-there c = what_is_there_in_time_is_delivered

pub returns-clause-values : goal.returns-clause-values
returns-clause-values c = ends_as_it_begins

pub returns-clause-octets : goal.returns-clause-octets
returns-clause-octets c = ends_as_it_begins_in_octets
