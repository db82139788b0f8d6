use Rattle.whole_paths.proofs.ClearFirst as clear_first
use Rattle.whole_paths.proofs.delivery_laws.b_is_clear_first.Goals as goal

pub returns-clause-first : goal.returns-clause-first
returns-clause-first c = clear_first.b_is_clear_first

pub returns-clause-quiet : goal.returns-clause-quiet
returns-clause-quiet c = clear_first.b_sends_nothing_before
