use Rattle.whole_paths.proofs.Arrivals as arrivals
use Rattle.whole_paths.proofs.laws.each_piece_comes_in_order.Goals as goal

pub returns-clause-comes : goal.returns-clause-comes
returns-clause-comes c = arrivals.each_piece_comes_in_order

pub returns-clause-records : goal.returns-clause-records
returns-clause-records c = arrivals.each_mapped_record_is_a_piece

pub returns-clause-copies : goal.returns-clause-copies
returns-clause-copies c = arrivals.each_copy_arrives
