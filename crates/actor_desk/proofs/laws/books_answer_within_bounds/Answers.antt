use Rattle.actor_desk.proofs.Small.{opened_small, stay_small, answer_small}
use Rattle.actor_desk.proofs.laws.books_answer_within_bounds.Goals as goal

pub returns-clause-opened : goal.returns-clause-opened
returns-clause-opened c = opened_small

pub returns-clause-kept : goal.returns-clause-kept
returns-clause-kept c = stay_small

pub returns-clause-told : goal.returns-clause-told
returns-clause-told c = answer_small
