use Rattle.path_core.proofs.Handshakes.{capable_is_the_handshake}
use Rattle.path_core.proofs.laws.keys_are_those_of_the_handshake.Goals as goal

pub returns : goal.returns
returns c = capable_is_the_handshake
