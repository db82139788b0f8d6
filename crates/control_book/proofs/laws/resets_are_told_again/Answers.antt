use Rattle.control_book.proofs.Kept.{reset_stays, removed_resets}
use Rattle.control_book.proofs.laws.resets_are_told_again.Goals as goal

pub returns-clause-stays : goal.returns-clause-stays
returns-clause-stays c = reset_stays

pub returns-clause-removed : goal.returns-clause-removed
returns-clause-removed c = removed_resets
