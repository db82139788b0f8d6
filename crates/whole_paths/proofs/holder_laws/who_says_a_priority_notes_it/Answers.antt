use Rattle.whole_paths.proofs.SaidWords as priorities
use Rattle.whole_paths.proofs.holder_laws.who_says_a_priority_notes_it.Goals as goal

pub returns : goal.returns
returns c p = priorities.priorities_are_noted p
