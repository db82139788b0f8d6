use Rattle.whole_paths.proofs.TriedBytes as bytes
use Rattle.whole_paths.proofs.holder_laws.what_is_tried_is_awaited.Goals as goal

pub returns-clause-values : goal.returns-clause-values
returns-clause-values c = bytes.what_is_tried_is_awaited

pub returns-clause-octets : goal.returns-clause-octets
returns-clause-octets c = bytes.what_is_tried_is_awaited_in_octets
