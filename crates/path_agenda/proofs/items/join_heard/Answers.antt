use Rattle.std.proofs.Common.{◌∙◌, sym, refl, arith}
use Rattle.path_agenda.specs.Items.{join_in, join_heard}
use Rattle.path_agenda.proofs.FirstTold.{told_here, told_later, told_by_none}
use Rattle.path_agenda.proofs.items.join_heard.Goals as goal

pub loop-item-init : goal.loop-item-init
loop-item-init c = refl

pub returns-in-Some : goal.returns-in-Some
returns-in-Some c =
    sym (told_here (join_heard c.args.step) (join_in c.args.step) (λ x xs. refl) c.args.items.now c.loop-item.item-index _ _ c.loop-item-test.true
    (sym c.join_in.ensures ∙ c.in-Some.is))
    ∙ c.loop-item.invariant

pub loop-item-preserved : goal.loop-item-preserved
loop-item-preserved c =
    sym (told_later (join_heard c.args.step) (join_in c.args.step) (λ x xs. refl) c.args.items.now c.loop-item.item-index _ c.loop-item-test.true
    (sym c.join_in.ensures ∙ c.in_default.is))
    ∙ c.loop-item.invariant

pub returns : goal.returns
returns c =
    sym (told_by_none (join_heard c.args.step) (join_in c.args.step) (λ x xs. refl) c.args.items.now c.loop-item.item-index
    (omega (arith, c.loop-item-test.false)))
    ∙ c.loop-item.invariant
