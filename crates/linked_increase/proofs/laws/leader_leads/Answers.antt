use Rattle.linked_increase.proofs.Leading.{leader_leads}
use Rattle.linked_increase.proofs.laws.leader_leads.Goals as goal

pub returns : goal.returns
returns c rows m linked leads = leader_leads rows m linked.in_range leads
