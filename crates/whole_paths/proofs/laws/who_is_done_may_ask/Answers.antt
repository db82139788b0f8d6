use Rattle.whole_paths.proofs.Room as room
use Rattle.whole_paths.proofs.laws.who_is_done_may_ask.Goals as goal

pub returns-clause-octets : goal.returns-clause-octets
returns-clause-octets c = room.who_is_done_may_ask_in_octets

pub returns-clause-values : goal.returns-clause-values
returns-clause-values c = room.who_is_done_may_ask
