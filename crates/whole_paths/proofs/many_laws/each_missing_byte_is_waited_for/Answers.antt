use Rattle.whole_paths.proofs.ManyWaits as many
use Rattle.whole_paths.proofs.many_laws.each_missing_byte_is_waited_for.Goals as goal

pub returns : goal.returns
returns c = many.each_missing_byte_is_waited_for
