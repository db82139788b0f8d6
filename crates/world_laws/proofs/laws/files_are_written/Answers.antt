use Rattle.world_laws.proofs.Words.{values, octets}
use Rattle.world_laws.proofs.Worlds.CastLifting.{writes_the_files}
use Rattle.world_laws.proofs.laws.files_are_written.Goals as goal

pub returns-clause-octets : goal.returns-clause-octets
returns-clause-octets c = writes_the_files octets

pub returns-clause-values : goal.returns-clause-values
returns-clause-values c = writes_the_files values
