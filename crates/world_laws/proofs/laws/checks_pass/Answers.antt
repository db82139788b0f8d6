use Rattle.world_laws.proofs.Falls.ChecksPass.{checks_pass, checks_pass_in_octets, no_failure_is_told}
use Rattle.world_laws.proofs.Promises.ChecksumsAreRight.{checksums_are_right}
use Rattle.world_laws.proofs.laws.checks_pass.Goals as goal

pub returns-clause-sums : goal.returns-clause-sums
returns-clause-sums c = checksums_are_right

pub returns-clause-values : goal.returns-clause-values
returns-clause-values c = checks_pass

pub returns-clause-octets : goal.returns-clause-octets
returns-clause-octets c = checks_pass_in_octets

pub returns-clause-untold : goal.returns-clause-untold
returns-clause-untold c = no_failure_is_told
