use Rattle.whole_paths.proofs.NumbersAgree as numbers
use Rattle.whole_paths.proofs.debt_laws.numbers_agree.Goals as goal

pub returns : goal.returns
returns c = numbers.numbers_always_agree
