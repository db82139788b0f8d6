use Rattle.std.proofs.Common.{◌∙◌, sym, ap}
use Rattle.path_store.specs.Granted.{granted_to}
use Rattle.path_store.proofs.Rising.{granted_to-append}
use Rattle.path_store.proofs.granted.GrantedPieces.granted_to.Goals as goal

pub returns : goal.returns
returns c = rw (c.max.ensures, c.granted_to.ensures, c.granted_to-2.ensures, ← c.self.view_is) (sym (granted_to-append _ _) ∙ ap granted_to c.as_slices.ensures.items)
