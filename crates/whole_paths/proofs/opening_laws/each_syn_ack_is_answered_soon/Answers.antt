use Rattle.whole_paths.proofs.AnswersSoon.{each_syn_ack_is_answered_soon}
use Rattle.whole_paths.proofs.opening_laws.each_syn_ack_is_answered_soon.Goals as goal

pub returns : goal.returns
returns c = each_syn_ack_is_answered_soon
