use Rattle.whole_paths.proofs.ClearRounds as clear
use Rattle.whole_paths.proofs.NearRounds as near
use Rattle.whole_paths.proofs.near_laws.what_is_well_is_acknowledged.Goals as goal

pub returns-clause-well : goal.returns-clause-well
returns-clause-well c = clear.eight_rounds_acknowledge

pub returns-clause-free : goal.returns-clause-free
returns-clause-free c = near.what_owes_none_is_acknowledged
