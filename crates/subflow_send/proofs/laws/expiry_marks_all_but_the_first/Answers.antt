use Rattle.subflow_send.proofs.RecordLaws.{expiry_marks_all_but_the_first_lem}
use Rattle.subflow_send.proofs.laws.expiry_marks_all_but_the_first.Goals as goal

pub returns : goal.returns
returns c = expiry_marks_all_but_the_first_lem
