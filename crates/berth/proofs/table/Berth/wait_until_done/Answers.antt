use Rattle.std.proofs.Common.{◌∙◌, subst}
use Rattle.berth.specs.Rule.{HasDone}
use Rattle.berth.proofs.table.Berth.wait_until_done.Goals as goal

pub is_done-requires-clause-awaits : goal.is_done-requires-clause-awaits
is_done-requires-clause-awaits g c = (c.requires.awaits.0, c.loop.invariant.1 ∙ c.requires.awaits.1)

pub returns-then-is_done-clause-done : goal.returns-then-is_done-clause-done
returns-then-is_done-clause-done g c = subst (λ me. HasDone g.D.Deed.does me.0 c.is_done.new.seat.me) c.loop.invariant.1 (c.is_done.ensures.done c.if-is_done.true)
