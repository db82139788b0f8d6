use Rattle.std.proofs.Common.{◌≡◌, ◌≤◌, ◌<◌, ◌∙◌, refl, ap, length, arith}
use Rattle.world_core.specs.Kept.{Kept}
use Rattle.world_core.specs.Rounds.{TurnsTo}
use Rattle.world_laws.specs.Serial.{TurnTo}
use Rattle.path_core.specs.Octets.{octets}
use Rattle.connection_table.specs.ManyRounds.{Runs, TurnMade, TurnsMade}
use Rattle.connection_table.specs.Tables.{Entry, entry_at}
use Rattle.connection_table.proofs.Changes.{all_changed, all_there, changed_many, changes_know, changes_none, changes_then, made_runs, some_map}
use Rattle.connection_table.proofs.RoundMore.{TurnsSoFar, turns_begin, turns_go, turns_made}
use Rattle.connection_table.proofs.rounds.make_turns.Goals as goal

pub loop-actor-init : goal.loop-actor-init
loop-actor-init c = record {
  run = c.requires.run;
  many = refl;
  within = omega arith;
  so_far = changes_none (TurnsSoFar c.actors-actors.result 0) c.args.connection c.args.table.now
      (some_map _ Runs (λ x. TurnsSoFar c.actors-actors.result 0 x x) (turns_begin c.actors-actors.result)
      (all_there Runs c.args.table.now c.args.connection c.requires.run c.requires.there));
}

pub loop-actor-preserved : goal.loop-actor-preserved
loop-actor-preserved c =
    let within : c.loop-actor.actor < c.actors-actors.result = omega (arith, c.loop-actor-test.true) in
    let made = c.in_ok-make_turn.ensures.made in
    record {
      run = all_changed Runs (TurnMade c.loop-actor.actor) (made_runs (TurnTo octets c.loop-actor.actor)) c.args.connection c.loop-actor.table c.make_turn.new.table c.loop-actor.invariant.run made;
      many = changed_many (TurnMade c.loop-actor.actor) c.args.connection c.loop-actor.table c.make_turn.new.table made ∙ c.loop-actor.invariant.many;
      within = omega (arith, within);
      so_far = changes_then (TurnsSoFar c.actors-actors.result c.loop-actor.actor) (TurnMade c.loop-actor.actor) _ (turns_go c.actors-actors.result c.loop-actor.actor within)
          c.args.connection _ c.loop-actor.table c.make_turn.new.table c.loop-actor.invariant.so_far made;
    }

pub returns : goal.returns
returns c =
    let past : c.actors-actors.result ≤ c.loop-actor.actor = omega (arith, c.loop-actor-test.false) in
    record {
      made = changes_know (λ (x : Entry). c.actors-actors.result ≡ length x.world.state.crew) (TurnsSoFar c.actors-actors.result c.loop-actor.actor) TurnsMade
          (λ x y count so. turns_made c.actors-actors.result c.loop-actor.actor past x y count so) c.args.connection c.args.table.now c.loop-actor.table
          (some_map (entry_at c.args.connection c.args.table.now) (λ x. c.world.result.now ≡ x.world) (λ x. c.actors-actors.result ≡ length x.world.state.crew)
          (λ x is. c.actors-actors.ensures ∙ ap (λ (k : Kept). length k.state.crew) is) c.world.ensures.world)
          c.loop-actor.invariant.so_far;
    }
