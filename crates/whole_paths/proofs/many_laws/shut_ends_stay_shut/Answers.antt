use Rattle.whole_paths.proofs.EdgeStands.{nothing_is_tried_past_the_edge}
use Rattle.whole_paths.proofs.EdgeStands as edges
use Rattle.whole_paths.proofs.many_laws.shut_ends_stay_shut.Goals as goal

pub returns-clause-stays : goal.returns-clause-stays
returns-clause-stays c = edges.shut_ends_stay_shut

pub returns-clause-untried : goal.returns-clause-untried
returns-clause-untried c = nothing_is_tried_past_the_edge
