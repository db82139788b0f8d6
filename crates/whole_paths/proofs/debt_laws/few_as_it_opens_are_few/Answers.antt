use Rattle.whole_paths.proofs.OpenFirst as opens
use Rattle.whole_paths.proofs.OpenQuiet as quiet
use Rattle.whole_paths.proofs.debt_laws.few_as_it_opens_are_few.Goals as goal

pub returns-clause-opens : goal.returns-clause-opens
returns-clause-opens c = opens.few_as_it_opens_are_few

pub returns-clause-b : goal.returns-clause-b
returns-clause-b c = quiet.b_owes_none_first

pub returns-clause-a : goal.returns-clause-a
returns-clause-a c = quiet.a_owes_records_first

pub returns-clause-first : goal.returns-clause-first
returns-clause-first c = quiet.opens_with_few_so
