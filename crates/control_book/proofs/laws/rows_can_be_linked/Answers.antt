use Rattle.control_book.proofs.RowsRight.{rows_stay_right, rows_can_grow}
use Rattle.control_book.proofs.laws.rows_can_be_linked.Goals as goal

pub returns-clause-kept : goal.returns-clause-kept
returns-clause-kept c = rows_stay_right

pub returns-clause-told : goal.returns-clause-told
returns-clause-told c = rows_can_grow
