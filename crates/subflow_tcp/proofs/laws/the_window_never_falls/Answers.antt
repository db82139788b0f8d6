use Rattle.subflow_tcp.proofs.EndLaws.{arrivals_keep, growths_keep, sendings_keep}
use Rattle.subflow_tcp.proofs.laws.the_window_never_falls.Goals as goal

pub returns-clause-arrivals : goal.returns-clause-arrivals
returns-clause-arrivals c = arrivals_keep

pub returns-clause-growths : goal.returns-clause-growths
returns-clause-growths c = growths_keep

pub returns-clause-sendings : goal.returns-clause-sendings
returns-clause-sendings c = sendings_keep
