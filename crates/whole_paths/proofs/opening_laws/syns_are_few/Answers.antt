use Rattle.whole_paths.proofs.FewSyns.{syns_are_few}
use Rattle.whole_paths.proofs.opening_laws.syns_are_few.Goals as goal

pub returns : goal.returns
returns c = syns_are_few
