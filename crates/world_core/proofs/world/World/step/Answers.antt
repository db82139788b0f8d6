use Rattle.std.proofs.Common.{◌≡◌, ◌∙◌, sym, ap, subst}
use Rattle.world_core.specs.AsValues.{StepsAsValues}
use Rattle.world_core.specs.Kept.{world}
use Rattle.world_core.specs.declared.stepped.Stepped.TheVariants.{Made, Ended}
use Rattle.world_core.specs.Steps.{next_note, stepped_by}
use Rattle.world_core.proofs.Reported.{same_note}
use Rattle.world_core.proofs.AsValues.{steps_as_values}
use Rattle.world_core.proofs.world.World.step.Goals as goal

pub returns-in-Ok-Some-clause-values : goal.returns-in-Ok-Some-clause-values
returns-in-Ok-Some-clause-values c =
    let after = world c.advance.new.crew.items c.advance.new.books in
    subst (λ before. StepsAsValues c.args.actor before after) (ap (λ kept. kept.state) c.self.view_is)
    (steps_as_values c.args.actor (world c.self.inside.crew.items c.self.inside.books) after c.in-Ok-Some.ensures.ok)

pub returns-in-Ok-None-clause-values : goal.returns-in-Ok-None-clause-values
returns-in-Ok-None-clause-values c =
    let after = world c.advance.new.crew.items c.advance.new.books in
    subst (λ before. StepsAsValues c.args.actor before after) (ap (λ kept. kept.state) c.self.view_is)
    (steps_as_values c.args.actor (world c.self.inside.crew.items c.self.inside.books) after c.in-Ok-None.ensures.ok)

pub returns-in-Ok-Some-clause-told : goal.returns-in-Ok-Some-clause-told
returns-in-Ok-Some-clause-told c =
    subst (λ w. Made c.in-Ok-Some.note ≡ stepped_by (next_note c.args.actor w)) (ap (λ kept. kept.state) c.self.view_is)
    (ap stepped_by (sym c.in-Ok-Some.field-0-is ∙ c.in-Ok-Some.ensures.report ∙ same_note (next_note c.args.actor (world c.self.inside.crew.items c.self.inside.books))))

pub returns-in-Ok-None-clause-told : goal.returns-in-Ok-None-clause-told
returns-in-Ok-None-clause-told c =
    subst (λ w. Ended ≡ stepped_by (next_note c.args.actor w)) (ap (λ kept. kept.state) c.self.view_is)
    (ap stepped_by (sym c.in-Ok-None.field-0-is ∙ c.in-Ok-None.ensures.report ∙ same_note (next_note c.args.actor (world c.self.inside.crew.items c.self.inside.books))))
