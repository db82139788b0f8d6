use Rattle.std.proofs.Common.{refl, ◌∙◌, subst, arith}
use Rattle.connection_table.specs.ManyRounds.{Changes, Runs, StepMade, TurnMade}
use Rattle.connection_table.proofs.Changes.{all_changed, all_there, changed_many, changes_none, changes_then, goes_up, some_map, step_runs}
use Rattle.connection_table.proofs.RoundMore.{TurnSoFar, turn_begins, turn_goes, turn_made}
use Rattle.connection_table.proofs.rounds.make_turn.Goals as goal

pub loop-init : goal.loop-init
loop-init c = record {
  run = c.requires.run;
  many = refl;
  so_far = changes_none (TurnSoFar c.args.actor) c.args.connection c.args.table.now
      (some_map _ Runs (λ x. TurnSoFar c.args.actor x x) (turn_begins c.args.actor) (all_there Runs c.args.table.now c.args.connection c.requires.run c.requires.there));
}

pub loop-preserved : goal.loop-preserved
loop-preserved c =
    let step = subst (λ b. Changes (StepMade c.args.actor b) c.args.connection c.loop.table c.go.new.table) c.if-branch.true c.in_ok-go.ensures.made in
    record {
      run = all_changed Runs (StepMade c.args.actor _) (step_runs c.args.actor _) c.args.connection c.loop.table c.go.new.table c.loop.invariant.run step;
      many = changed_many (StepMade c.args.actor _) c.args.connection c.loop.table c.go.new.table step ∙ c.loop.invariant.many;
      so_far = changes_then (TurnSoFar c.args.actor) (StepMade c.args.actor _) (TurnSoFar c.args.actor) (turn_goes c.args.actor) c.args.connection _ c.loop.table c.go.new.table
          c.loop.invariant.so_far step;
    }

pub returns : goal.returns
returns c =
    let step = subst (λ b. Changes (StepMade c.args.actor b) c.args.connection c.loop.table c.go.new.table) c.if-branch.false c.in_ok-go.ensures.made in
    record {
      made = changes_then (TurnSoFar c.args.actor) (StepMade c.args.actor _) (TurnMade c.args.actor) (turn_made c.args.actor) c.args.connection _ c.loop.table c.go.new.table
          c.loop.invariant.so_far step;
    }
