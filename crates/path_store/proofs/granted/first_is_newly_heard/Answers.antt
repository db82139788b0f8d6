use Rattle.std.proofs.Common.{◌∙◌, ap, is_some, arith}
use Rattle.path_store.specs.Granted.{is_newly_heard}
use Rattle.path_store.proofs.Rising.{first_tells}
use Rattle.path_store.proofs.granted.first_is_newly_heard.Goals as goal

pub returns-in-Some : goal.returns-in-Some
returns-in-Some c =
    c.is_newly_heard.ensures ∙ ap (is_newly_heard c.args.heard c.args.next) c.in-Some.ensures.lookup
    ∙ first_tells c.args.heard c.args.next c.args.pieces.now.items c.in-Some.first.now (omega (arith, c.front.ensures.variant.0 (ap is_some c.in-Some.is))) c.requires
