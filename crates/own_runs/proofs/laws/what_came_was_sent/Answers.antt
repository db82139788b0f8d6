use Rattle.own_runs.proofs.CameSent.{came_was_sent}
use Rattle.own_runs.proofs.ToldAcks.{each_is_carried}
use Rattle.own_runs.proofs.laws.what_came_was_sent.Goals as goal

pub returns-clause-octets : goal.returns-clause-octets
returns-clause-octets c = came_was_sent

pub returns-clause-acks : goal.returns-clause-acks
returns-clause-acks c = each_is_carried
