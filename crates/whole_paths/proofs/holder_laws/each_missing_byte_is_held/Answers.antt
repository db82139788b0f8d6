use Rattle.whole_paths.proofs.FirstMissing as missing
use Rattle.whole_paths.proofs.holder_laws.each_missing_byte_is_held.Goals as goal

pub returns : goal.returns
returns c = missing.each_missing_byte_is_held
