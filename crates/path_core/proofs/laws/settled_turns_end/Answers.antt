use Rattle.path_core.proofs.Words.{◌+◌, octets, values}
use Rattle.path_core.proofs.TurnEnds.{turn_ends, begun_ends}
use Rattle.path_core.proofs.laws.settled_turns_end.Goals as goal

pub returns-clause-octets : goal.returns-clause-octets
returns-clause-octets c = turn_ends octets

pub returns-clause-values : goal.returns-clause-values
returns-clause-values c = turn_ends values

pub returns-clause-rounds : goal.returns-clause-rounds
returns-clause-rounds c = λ p t.
    begun_ends octets (record p { clock = p.until; until = p.until + 100 }) (record { delay = t.delay; timer_a = t.timer_a; timer_b = t.timer_b })
