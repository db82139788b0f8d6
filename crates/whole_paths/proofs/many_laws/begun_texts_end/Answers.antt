use Rattle.whole_paths.proofs.BegunTexts as begun
use Rattle.whole_paths.proofs.many_laws.begun_texts_end.Goals as goal

pub returns-clause-octets : goal.returns-clause-octets
returns-clause-octets c = begun.begun_texts_end_in_octets

pub returns-clause-values : goal.returns-clause-values
returns-clause-values c = begun.begun_texts_end
