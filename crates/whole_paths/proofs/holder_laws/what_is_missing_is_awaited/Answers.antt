use Rattle.whole_paths.proofs.MissingBytes as bytes
use Rattle.whole_paths.proofs.holder_laws.what_is_missing_is_awaited.Goals as goal

pub returns : goal.returns
returns c = bytes.what_is_missing_is_awaited
