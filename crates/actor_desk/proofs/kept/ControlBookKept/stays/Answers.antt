use Rattle.control_book.proofs.RowsRight.{right_once}
use Rattle.actor_desk.proofs.kept.ControlBookKept.stays.Goals as goal

pub returns : goal.returns
returns c = λ book call can right. right_once book call can right
