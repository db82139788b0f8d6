use Rattle.whole_paths.proofs.ManyCourses as many
use Rattle.whole_paths.proofs.many_laws.many_paths_bring_all.Goals as goal

pub returns-clause-brings : goal.returns-clause-brings
returns-clause-brings c = many.many_paths_bring_all

pub returns-clause-delivers : goal.returns-clause-delivers
returns-clause-delivers c = many.many_paths_deliver

pub returns-clause-serving : goal.returns-clause-serving
returns-clause-serving c = many.serving_paths_deliver
