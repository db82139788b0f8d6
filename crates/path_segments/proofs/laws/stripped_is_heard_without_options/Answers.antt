use Rattle.path_segments.proofs.ChangedSegments.{stripped_is_heard}
use Rattle.path_segments.proofs.laws.stripped_is_heard_without_options.Goals as goal

pub returns : goal.returns
returns c = stripped_is_heard
