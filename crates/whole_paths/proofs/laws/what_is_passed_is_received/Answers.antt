use Rattle.whole_paths.proofs.Received as passed
use Rattle.whole_paths.proofs.laws.what_is_passed_is_received.Goals as goal

pub returns-clause-placed : goal.returns-clause-placed
returns-clause-placed c = passed.what_is_passed_is_placed

pub returns-clause-granted : goal.returns-clause-granted
returns-clause-granted c = passed.what_is_granted_is_placed

pub returns-clause-received : goal.returns-clause-received
returns-clause-received c = passed.only_paths_receive

pub returns-clause-left : goal.returns-clause-left
returns-clause-left c = passed.granted_is_received
