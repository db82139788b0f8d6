use Rattle.message_pipe.proofs.OnePut.{one_by_one}
use Rattle.message_pipe.proofs.laws.messages_are_put_one_by_one.Goals as goal

pub returns : goal.returns
returns c = one_by_one
