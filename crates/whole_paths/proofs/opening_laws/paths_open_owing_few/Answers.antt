use Rattle.whole_paths.proofs.EarlyCopies.{came_never_falls, opens_losing_few}
use Rattle.whole_paths.proofs.QuietOpenings.{lost_early_never_falls, opens_owing_few}
use Rattle.whole_paths.proofs.opening_laws.paths_open_owing_few.Goals as goal

pub returns-clause-loses : goal.returns-clause-loses
returns-clause-loses c = opens_losing_few

pub returns-clause-count : goal.returns-clause-count
returns-clause-count c = came_never_falls

pub returns-clause-owes : goal.returns-clause-owes
returns-clause-owes c = opens_owing_few

pub returns-clause-fewer : goal.returns-clause-fewer
returns-clause-fewer c = lost_early_never_falls
