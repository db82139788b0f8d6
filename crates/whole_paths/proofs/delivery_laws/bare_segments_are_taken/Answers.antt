use Rattle.whole_paths.proofs.BareSegments as bare
use Rattle.whole_paths.proofs.delivery_laws.bare_segments_are_taken.Goals as goal

pub returns : goal.returns
returns c = bare.bare_segments_are_taken
