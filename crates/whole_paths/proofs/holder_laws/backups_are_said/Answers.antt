use Rattle.whole_paths.proofs.HeardWords as words
use Rattle.whole_paths.proofs.holder_laws.backups_are_said.Goals as goal

pub returns : goal.returns
returns c = words.backups_are_said
