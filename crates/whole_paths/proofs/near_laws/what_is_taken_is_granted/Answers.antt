use Rattle.whole_paths.proofs.TakenPieces as taken
use Rattle.whole_paths.proofs.near_laws.what_is_taken_is_granted.Goals as goal

pub returns-clause-taken : goal.returns-clause-taken
returns-clause-taken c = taken.what_is_taken_is_granted

pub returns-clause-served : goal.returns-clause-served
returns-clause-served c = taken.who_may_ask_is_served
