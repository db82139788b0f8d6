use Rattle.whole_paths.proofs.EachText as each
use Rattle.whole_paths.proofs.many_laws.each_text_delivers.Goals as goal

pub returns-clause-octets : goal.returns-clause-octets
returns-clause-octets c = each.each_text_delivers_in_octets

pub returns-clause-values : goal.returns-clause-values
returns-clause-values c = each.each_text_delivers

pub returns-clause-ends_octets : goal.returns-clause-ends_octets
returns-clause-ends_octets c = each.each_text_ends_in_octets

pub returns-clause-ends : goal.returns-clause-ends
returns-clause-ends c = each.each_text_ends
