use Rattle.whole_paths.proofs.NumbersAgree as numbers
use Rattle.whole_paths.proofs.PassedWhole as whole
use Rattle.whole_paths.proofs.debt_laws.records_are_passed_whole.Goals as goal

pub returns-clause-unchecked : goal.returns-clause-unchecked
returns-clause-unchecked c = whole.unchecked_records_are_passed_whole

pub returns-clause-always : goal.returns-clause-always
returns-clause-always c = numbers.records_are_passed_whole
