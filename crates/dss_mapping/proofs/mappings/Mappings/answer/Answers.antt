use Rattle.dss_mapping.proofs.Answered.{answer-is}
use Rattle.dss_mapping.proofs.mappings.Mappings.answer.Goals as goal

pub returns-clause-value : goal.returns-clause-value
returns-clause-value c = answer-is c.args.told c.args.self.now.mappings c.first_answer.result c.first_answer.ensures
