use Rattle.std.proofs.Common.{sym, ◌∙◌, ap, subst}
use Rattle.world_core.specs.AsValues.{EndsAsValues}
use Rattle.world_core.specs.Kept.{IsKept, world}
use Rattle.world_core.proofs.AsValues.{ends_as_values}
use Rattle.world_core.proofs.Ending.{ended_is, ended_kept}
use Rattle.world_core.proofs.world.World.end_round.Goals as goal

pub invariant_of-self : goal.invariant_of-self
invariant_of-self c =
    subst (λ crew. IsKept c.self.inside.failed (world crew c.self.inside.books) c.self.inside.hearing) (sym c.end.ensures.crew)
    (ended_kept c.self.inside.crew.items c.self.inside.books c.self.inside.hearing c.self.inside.failed c.self.invariant)

pub returns-clause-values : goal.returns-clause-values
returns-clause-values c = λ _.
    let after = world c.end.new.crew.items c.self.inside.books in
    subst (λ before. EndsAsValues before after) (ap (λ kept. kept.state) c.self.view_is)
    (ends_as_values (world c.self.inside.crew.items c.self.inside.books) after
    (ap (λ crew. world crew c.self.inside.books) c.end.ensures.crew ∙ ended_is c.self.inside.crew.items c.self.inside.books))
