use Rattle.whole_paths.proofs.DirectionsMended as directions
use Rattle.whole_paths.proofs.debt_laws.directions_are_mended.Goals as goal

pub returns : goal.returns
returns c = directions.directions_are_mended
