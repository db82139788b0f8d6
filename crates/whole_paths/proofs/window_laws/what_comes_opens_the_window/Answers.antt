use Rattle.whole_paths.proofs.AnswersAssure as answers
use Rattle.whole_paths.proofs.window_laws.what_comes_opens_the_window.Goals as goal

pub returns-clause-by_turn : goal.returns-clause-by_turn
returns-clause-by_turn c = answers.each_answer_assures

pub returns-clause-rounds : goal.returns-clause-rounds
returns-clause-rounds c = answers.what_comes_opens_the_window
