use Rattle.whole_paths.proofs.SynAcks as syn_acks
use Rattle.whole_paths.proofs.laws.each_syn_ack_is_answered.Goals as goal

pub returns : goal.returns
returns c = syn_acks.each_syn_ack_is_answered
