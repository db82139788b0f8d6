use Rattle.pace.proofs.Passing.{seven, eight, six}
use Rattle.pace.proofs.laws.rounds_bring_news.Goals as goal

pub returns-clause-payload : goal.returns-clause-payload
returns-clause-payload c = seven

pub returns-clause-news : goal.returns-clause-news
returns-clause-news c = eight

pub returns-clause-end : goal.returns-clause-end
returns-clause-end c = six
