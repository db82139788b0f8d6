use Rattle.whole_paths.proofs.Losing as records
use Rattle.whole_paths.proofs.delivery_laws.harms_alone_lose_records.Goals as goal

pub returns : goal.returns
returns c = records.harms_alone_lose_records
