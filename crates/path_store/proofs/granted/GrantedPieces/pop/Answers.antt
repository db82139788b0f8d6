use Rattle.std.proofs.Common.{subst}
use Rattle.path_store.specs.Rising.{Rise}
use Rattle.path_store.proofs.Rising.{rise_front}
use Rattle.path_store.proofs.granted.GrantedPieces.pop.Goals as goal

pub invariant_of-self : goal.invariant_of-self
invariant_of-self c = λ rises. rise_front _ _ (subst Rise c.pop_back.ensures.items (c.self.invariant rises))
