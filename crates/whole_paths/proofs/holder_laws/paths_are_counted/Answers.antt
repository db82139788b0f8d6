use Rattle.whole_paths.proofs.CountedCourses as courses
use Rattle.whole_paths.proofs.holder_laws.paths_are_counted.Goals as goal

pub returns : goal.returns
returns c = courses.paths_are_counted
