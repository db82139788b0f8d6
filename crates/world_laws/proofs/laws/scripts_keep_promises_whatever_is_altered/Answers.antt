use Rattle.world_laws.proofs.Promises.OfScripts as scripts
use Rattle.world_laws.proofs.laws.scripts_keep_promises_whatever_is_altered.Goals as goal

pub returns-clause-starts : goal.returns-clause-starts
returns-clause-starts c = scripts.scripts_fit

pub returns-clause-anyway : goal.returns-clause-anyway
returns-clause-anyway c = scripts.scripts_keep_anyway

pub returns-clause-checked : goal.returns-clause-checked
returns-clause-checked c = scripts.checked_scripts_keep_octets

pub returns-clause-shown : goal.returns-clause-shown
returns-clause-shown c = scripts.scripts_are_shown_of_values
