use Rattle.whole_paths.proofs.JoinedEnds as joined
use Rattle.whole_paths.proofs.many_laws.joined_ends_know_their_peers.Goals as goal

pub returns : goal.returns
returns c = joined.joined_ends_know_their_peers
