use Rattle.std.proofs.Common.{subst, sym}
use Rattle.connection_table.specs.ManyRounds.{Changes, StepMade}
use Rattle.connection_table.proofs.Changes.{step_changes}
use Rattle.connection_table.proofs.rounds.go.Goals as goal

pub returns-in-Ok : goal.returns-in-Ok
returns-in-Ok c = record {
  made =
      subst (λ b. Changes (StepMade c.args.actor b) c.args.connection c.args.table.now c.step.new.self) (sym c.was_made.ensures)
      (step_changes c.args.connection c.args.actor c.args.table.now c.step.new.self _ c.requires.there c.requires.run c.step.ensures.home
      c.in-Ok.ensures.going c.in-Ok.ensures.ok c.in-Ok.ensures.rises c.in-Ok.ensures.stood);
}
