use Rattle.subflow_send.proofs.RecordLaws.{acknowledged_records_are_a_prefix_lem}
use Rattle.subflow_send.proofs.laws.acknowledged_records_are_a_prefix.Goals as goal

pub returns : goal.returns
returns c = acknowledged_records_are_a_prefix_lem
