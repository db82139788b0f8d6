use Rattle.link_trace.proofs.FirstOctets.{first_octets}
use Rattle.link_trace.proofs.laws.first_octets_are_the_places.Goals as goal

pub returns : goal.returns
returns c = first_octets
