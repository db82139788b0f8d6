use Rattle.message_pipe.proofs.Whole.{come_whole}
use Rattle.message_pipe.proofs.laws.messages_come_whole.Goals as goal

pub returns : goal.returns
returns c = come_whole
