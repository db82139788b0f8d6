use Rattle.whole_paths.proofs.Links.{each_uses_a_line_or_comes, hands_on_at_once}
use Rattle.whole_paths.proofs.laws.each_segment_uses_a_line_or_comes.Goals as goal

pub returns-clause-comes : goal.returns-clause-comes
returns-clause-comes c = each_uses_a_line_or_comes

pub returns-clause-at_once : goal.returns-clause-at_once
returns-clause-at_once c = hands_on_at_once
