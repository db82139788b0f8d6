use Rattle.own_runs.proofs.AckRuns.{files_are, reads_are, tried_are}
use Rattle.own_runs.proofs.SeenFiles.{ends_are, seen_are, streams_are, whole_are}
use Rattle.own_runs.proofs.TimeRuns.{timed}
use Rattle.own_runs.proofs.laws.captures_show_the_files.Goals as goal

pub returns-clause-begins : goal.returns-clause-begins
returns-clause-begins c = streams_are

pub returns-clause-seen : goal.returns-clause-seen
returns-clause-seen c = seen_are

pub returns-clause-ends : goal.returns-clause-ends
returns-clause-ends c = ends_are

pub returns-clause-whole : goal.returns-clause-whole
returns-clause-whole c = whole_are

pub returns-clause-delivered : goal.returns-clause-delivered
returns-clause-delivered c = files_are timed

pub returns-clause-read : goal.returns-clause-read
returns-clause-read c = reads_are timed

pub returns-clause-tried : goal.returns-clause-tried
returns-clause-tried c = tried_are timed
