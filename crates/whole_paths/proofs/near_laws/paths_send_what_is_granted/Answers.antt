use Rattle.whole_paths.proofs.GrantedPositions as granted
use Rattle.whole_paths.proofs.near_laws.paths_send_what_is_granted.Goals as goal

pub returns : goal.returns
returns c = granted.paths_send_what_is_granted
