use Rattle.std.proofs.Common.{◌∙◌, sym, refl, arith}
use Rattle.link_model.proofs.Fates.{fate_here, fate_later, fate_at_end}
use Rattle.link_model.proofs.fate.fate_of.Goals as goal

pub loop-line-init : goal.loop-line-init
loop-line-init c = refl

pub returns-in-Some : goal.returns-in-Some
returns-in-Some c =
    sym (fate_here c.args.from c.args.number c.args.lines.now c.loop-line.line-index _ _ c.loop-line-test.true (sym c.fate_told.ensures ∙ c.in-Some.is))
    ∙ c.loop-line.invariant

pub loop-line-preserved : goal.loop-line-preserved
loop-line-preserved c =
    sym (fate_later c.args.from c.args.number c.args.lines.now c.loop-line.line-index _ c.loop-line-test.true (sym c.fate_told.ensures ∙ c.in_default.is))
    ∙ c.loop-line.invariant

pub returns : goal.returns
returns c =
    sym (fate_at_end c.args.from c.args.number c.args.lines.now c.loop-line.line-index (omega (arith, c.loop-line-test.false)))
    ∙ c.loop-line.invariant
