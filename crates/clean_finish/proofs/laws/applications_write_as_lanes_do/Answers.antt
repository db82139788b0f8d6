use Rattle.clean_finish.proofs.Writing.{write_step, close_step, turn_begins}
use Rattle.clean_finish.proofs.laws.applications_write_as_lanes_do.Goals as goal

pub returns-clause-writes : goal.returns-clause-writes
returns-clause-writes c k s t p w a b h = write_step k s t p w a b h

pub returns-clause-closes : goal.returns-clause-closes
returns-clause-closes c k s t p w a b h = close_step k s t p w a b h

pub returns-clause-begins : goal.returns-clause-begins
returns-clause-begins c k s t p w a b h = turn_begins k s t p w a b h
