use Rattle.whole_paths.proofs.DataAcksExchanged as exchanged
use Rattle.whole_paths.proofs.laws.each_ask_is_answered.Goals as goal

pub returns : goal.returns
returns c = exchanged.each_ask_is_answered
