use Rattle.world_laws.proofs.Joins.Welcome.{each_copy_is_welcome}
use Rattle.world_laws.proofs.Joins.TokensAgree as agree
use Rattle.world_laws.proofs.Joins.OverOctets.{each_copy_is_welcome_in_octets}
use Rattle.world_laws.proofs.Promises.Made.{joins_in_octets}
use Rattle.world_laws.proofs.laws.joins_are_right.Goals as goal

pub returns-clause-values : goal.returns-clause-values
returns-clause-values c = agree.joins_are_right

pub returns-clause-octets : goal.returns-clause-octets
returns-clause-octets c = joins_in_octets

pub returns-clause-welcome : goal.returns-clause-welcome
returns-clause-welcome c = each_copy_is_welcome

pub returns-clause-heard : goal.returns-clause-heard
returns-clause-heard c = each_copy_is_welcome_in_octets
