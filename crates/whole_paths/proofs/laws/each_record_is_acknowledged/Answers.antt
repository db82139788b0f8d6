use Rattle.whole_paths.proofs.Exchanges as exchanges
use Rattle.whole_paths.proofs.laws.each_record_is_acknowledged.Goals as goal

pub returns : goal.returns
returns c = exchanges.each_record_is_acknowledged
