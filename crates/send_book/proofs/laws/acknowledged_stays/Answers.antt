use Rattle.send_book.proofs.Grants.{acknowledged_stays}
use Rattle.send_book.proofs.laws.acknowledged_stays.Goals as goal

pub returns : goal.returns
returns c = acknowledged_stays
