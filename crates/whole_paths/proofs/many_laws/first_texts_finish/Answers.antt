use Rattle.whole_paths.proofs.BegunTexts as begun
use Rattle.whole_paths.proofs.many_laws.first_texts_finish.Goals as goal

pub returns-clause-octets : goal.returns-clause-octets
returns-clause-octets c = begun.first_texts_finish_in_octets

pub returns-clause-values : goal.returns-clause-values
returns-clause-values c = begun.first_texts_finish

pub returns-clause-text : goal.returns-clause-text
returns-clause-text c = begun.few_first_texts_finish
