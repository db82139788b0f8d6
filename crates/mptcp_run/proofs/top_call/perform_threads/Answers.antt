use Rattle.run_words.specs.Lines.{as_line}
use Rattle.mptcp_run.specs.Task.{task_from, first_world}
use Rattle.mptcp_run.specs.Task as course
use Rattle.mptcp_run.proofs.Courses.{no_woven_round}
use Rattle.mptcp_run.proofs.Performing.{nothing_made}
use Rattle.mptcp_run.proofs.top_call.perform_threads.Goals as goal

pub returns-in_default-clause-cut : goal.returns-in_default-clause-cut
returns-in_default-clause-cut g c =
    let task = task_from c.args.input.now (course.threads c.args.rounds) in
    nothing_made (as_line c.args.line.now) task (g.O.Outside.told c.args.outside.now) (no_woven_round c.args.rounds (first_world task))
