use Rattle.whole_paths.proofs.ShortWaits as waits
use Rattle.whole_paths.proofs.UnitRounds as units
use Rattle.whole_paths.proofs.delivery_laws.a_unit_is_made.Goals as goal

pub returns-clause-waits : goal.returns-clause-waits
returns-clause-waits c = units.short_waits_go_on

pub returns-clause-made : goal.returns-clause-made
returns-clause-made c = units.a_unit_is_made

pub returns-clause-all : goal.returns-clause-all
returns-clause-all c = units.all_units_are_there

pub returns-clause-free : goal.returns-clause-free
returns-clause-free c = waits.what_is_not_owed_is_well
