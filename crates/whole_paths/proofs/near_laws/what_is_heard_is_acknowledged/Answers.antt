use Rattle.whole_paths.proofs.HeardBytes as heard
use Rattle.whole_paths.proofs.near_laws.what_is_heard_is_acknowledged.Goals as goal

pub returns : goal.returns
returns c = heard.what_is_heard_is_acknowledged
