use Rattle.connection_table.proofs.JoinsAsked.{joins_ask}
use Rattle.connection_table.proofs.laws.joins_ask_by_the_token.Goals as goal

pub returns : goal.returns
returns c = joins_ask
