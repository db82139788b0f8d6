use Rattle.connection_table.proofs.Heard as heard
use Rattle.connection_table.proofs.laws.asked_tokens_are_heard.Goals as goal

pub returns : goal.returns
returns c = heard.asked_tokens_are_heard
