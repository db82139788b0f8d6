use Rattle.path_core.proofs.Words.{refl}
use Rattle.path_core.proofs.state.PathState.departing_as.Goals as goal

pub returns-clause-value : goal.returns-clause-value
returns-clause-value c = rw (c.fate_now-fate.ensures, c.number_next-number.ensures, c.from.ensures, c.as_slice.ensures.value, c.in_ok-octets.ensures.value) refl

pub returns-clause-whole : goal.returns-clause-whole
returns-clause-whole c = rw c.from.ensures c.in_ok-octets.ensures.whole
