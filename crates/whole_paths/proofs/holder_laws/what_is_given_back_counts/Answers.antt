use Rattle.path_core.specs.Octets.{octets}
use Rattle.path_core.specs.Values.{values}
use Rattle.whole_paths.proofs.GivenBack as back
use Rattle.whole_paths.proofs.holder_laws.what_is_given_back_counts.Goals as goal

pub returns-clause-octets : goal.returns-clause-octets
returns-clause-octets c = back.given_back_never_falls octets

pub returns-clause-values : goal.returns-clause-values
returns-clause-values c = back.given_back_never_falls values

pub returns-clause-returns_octets : goal.returns-clause-returns_octets
returns-clause-returns_octets c = back.each_return_counts octets

pub returns-clause-returns : goal.returns-clause-returns
returns-clause-returns c = back.each_return_counts values

pub returns-clause-bounded : goal.returns-clause-bounded
returns-clause-bounded c = back.given_back_is_bounded
