use Rattle.std.proofs.Common.{◌∙◌, sym, ap, not}
use Rattle.path_store.specs.Granted.{is_open}
use Rattle.path_store.proofs.Rising.{all_stay}
use Rattle.path_store.proofs.granted.is_first_acknowledged.Goals as goal

pub returns-in-Some-clause-none : goal.returns-in-Some-clause-none
returns-in-Some-clause-none c = λ is.
    all_stay c.args.heard c.args.pieces.now.items c.in-Some.first.now c.requires
    (ap (λ x. not (is_open c.args.heard x)) (sym c.in-Some.ensures.lookup) ∙ ap not (sym c.is_open.ensures) ∙ is)
