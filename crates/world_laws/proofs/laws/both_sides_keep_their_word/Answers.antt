use Rattle.world_laws.proofs.Promises.Made.{keep_their_word, keep_their_word_in_octets}
use Rattle.world_laws.proofs.laws.both_sides_keep_their_word.Goals as goal

pub returns-clause-values : goal.returns-clause-values
returns-clause-values c = keep_their_word

pub returns-clause-octets : goal.returns-clause-octets
returns-clause-octets c = keep_their_word_in_octets
