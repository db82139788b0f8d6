use Rattle.reassembly_book.proofs.Arrivals.{read_is_what_came_first}
use Rattle.reassembly_book.proofs.laws.read_is_what_came_first.Goals as goal

pub returns : goal.returns
returns c = read_is_what_came_first
