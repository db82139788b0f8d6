use Rattle.clean_finish.proofs.Links.{head_arrives, sends_plainly, going_with}
use Rattle.clean_finish.proofs.laws.clean_links_are_lists.Goals as goal

pub returns-clause-first : goal.returns-clause-first
returns-clause-first c = head_arrives

pub returns-clause-plainly : goal.returns-clause-plainly
returns-clause-plainly c = sends_plainly

pub returns-clause-others : goal.returns-clause-others
returns-clause-others c = going_with
