use Rattle.actor_desk.proofs.InKind.{books_answer}
use Rattle.actor_desk.proofs.laws.books_answer_in_kind.Goals as goal

pub returns : goal.returns
returns c = books_answer
