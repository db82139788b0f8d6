use Rattle.whole_paths.proofs.FirstTexts as first
use Rattle.whole_paths.proofs.many_laws.first_texts_deliver.Goals as goal

pub returns-clause-octets : goal.returns-clause-octets
returns-clause-octets c = first.first_texts_deliver_in_octets

pub returns-clause-values : goal.returns-clause-values
returns-clause-values c = first.first_texts_deliver

pub returns-clause-ends_octets : goal.returns-clause-ends_octets
returns-clause-ends_octets c = first.first_texts_end_in_octets

pub returns-clause-ends : goal.returns-clause-ends
returns-clause-ends c = first.first_texts_end
