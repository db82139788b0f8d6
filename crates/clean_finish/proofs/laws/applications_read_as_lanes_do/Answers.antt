use Rattle.clean_finish.proofs.Reading.{read_step, follows, reading_begins}
use Rattle.clean_finish.proofs.laws.applications_read_as_lanes_do.Goals as goal

pub returns-clause-reads : goal.returns-clause-reads
returns-clause-reads c k s t p w a b h = read_step k s t p w a b h

pub returns-clause-follows : goal.returns-clause-follows
returns-clause-follows c k s t p w a b h = follows k s t p w a b h

pub returns-clause-begins : goal.returns-clause-begins
returns-clause-begins c k s t p w a b h = reading_begins k s t p w a b h
