use Rattle.connection_table.specs.ListWords.{as_words}
use Rattle.connection_table.proofs.ValidLists.{valid_listed}
use Rattle.connection_table.proofs.listed_run.run_many.Goals as goal

pub returns-in-Err-clause-valid : goal.returns-in-Err-clause-valid
returns-in-Err-clause-valid g c =
    valid_listed _ (as_words c.in-Some.words) _ _ c.in-Err.many c.in-Some.ensures.exact c.in-Err.ensures.ends
