use Rattle.world_laws.proofs.Words.{values, octets}
use Rattle.world_laws.proofs.Announcements.AsTold.{announcements_end}
use Rattle.world_laws.proofs.laws.announcements_end.Goals as goal

pub returns-clause-octets : goal.returns-clause-octets
returns-clause-octets c = announcements_end octets

pub returns-clause-values : goal.returns-clause-values
returns-clause-values c = announcements_end values
