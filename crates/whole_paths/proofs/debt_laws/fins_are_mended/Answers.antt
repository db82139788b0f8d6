use Rattle.whole_paths.proofs.FinsMended as fins
use Rattle.whole_paths.proofs.debt_laws.fins_are_mended.Goals as goal

pub returns-clause-mended : goal.returns-clause-mended
returns-clause-mended c = fins.fins_are_mended

pub returns-clause-few : goal.returns-clause-few
returns-clause-few c = fins.few_fins_are_owed

pub returns-clause-acked : goal.returns-clause-acked
returns-clause-acked c = fins.what_is_acked_lasts

pub returns-clause-none : goal.returns-clause-none
returns-clause-none c = fins.who_owes_no_fin_stands
