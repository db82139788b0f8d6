use Rattle.whole_paths.proofs.KeyedFirst.{a_has_the_key_first}
use Rattle.whole_paths.proofs.opening_laws.a_has_the_key_first.Goals as goal

pub returns : goal.returns
returns c = a_has_the_key_first
