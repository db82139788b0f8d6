use Rattle.send_book.proofs.Grants.{granted_at_most_once}
use Rattle.send_book.proofs.laws.granted_at_most_once.Goals as goal

pub returns : goal.returns
returns c = granted_at_most_once
