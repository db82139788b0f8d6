use Rattle.connection_table.proofs.TokensShown.{octets_show_the_token, values_show_the_token}
use Rattle.connection_table.proofs.laws.joins_show_the_token.Goals as goal

pub returns-clause-values : goal.returns-clause-values
returns-clause-values c = values_show_the_token

pub returns-clause-octets : goal.returns-clause-octets
returns-clause-octets c = octets_show_the_token
