use Rattle.clean_finish.proofs.Books.{asks_as_lanes, hears_as_lanes}
use Rattle.clean_finish.proofs.laws.books_answer_as_lanes_do.Goals as goal

pub returns-clause-asks : goal.returns-clause-asks
returns-clause-asks c = asks_as_lanes

pub returns-clause-hears : goal.returns-clause-hears
returns-clause-hears c = hears_as_lanes
