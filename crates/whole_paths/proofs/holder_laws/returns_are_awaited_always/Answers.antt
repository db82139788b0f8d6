use Rattle.whole_paths.proofs.ReturnWaits as waits
use Rattle.whole_paths.proofs.holder_laws.returns_are_awaited_always.Goals as goal

pub returns-clause-bounded : goal.returns-clause-bounded
returns-clause-bounded c = waits.all_news_is_bounded

pub returns-clause-awaited : goal.returns-clause-awaited
returns-clause-awaited c = waits.returns_are_awaited_always
