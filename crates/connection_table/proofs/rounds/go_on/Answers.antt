use Rattle.std.proofs.Common.{◌≡◌, ◌∙◌, ap, sym, true, false}
use Rattle.std.proofs.lemmas.Result.{on_ok_weaker}
use Rattle.world_core.specs.Kept.{Kept}
use Rattle.world_laws.specs.Outcomes.{outcome_of}
use Rattle.world_laws.specs.Serial.{goes_on}
use Rattle.connection_table.specs.ManyRounds.{Made, RoundIfGoing, RoundMade, Runs, goes_on_still}
use Rattle.connection_table.specs.Tables.{Entry, entry_at}
use Rattle.connection_table.proofs.Changes.{all_there, changes_know, changes_none, some_both, some_map}
use Rattle.connection_table.proofs.RoundMore.{stayed, went_on}
use Rattle.connection_table.proofs.rounds.go_on.Goals as goal

pub returns-then-goes_on : goal.returns-then-goes_on
returns-then-goes_on c = record {
  made =
      on_ok_weaker c.make_round.result
      (λ made. changes_know (λ (x : Entry). goes_on_still x ≡ true) RoundMade (Made RoundIfGoing) (λ x y going round. went_on x y going round)
      c.args.connection c.args.table.now c.make_round.new.table
      (some_map (entry_at c.args.connection c.args.table.now) (λ x. c.world.result.now ≡ x.world) (λ x. goes_on_still x ≡ true)
      (λ x is. sym (ap (λ (k : Kept). goes_on (outcome_of k.state.crew)) is) ∙ sym c.goes_on.ensures ∙ c.if-goes_on.true) c.world.ensures.world)
      made)
      c.make_round.ensures.made;
}

pub returns-else-goes_on : goal.returns-else-goes_on
returns-else-goes_on c = record {
  made =
      changes_none (Made RoundIfGoing) c.args.connection c.args.table.now
      (some_both _ Runs (λ (x : Entry). goes_on_still x ≡ false) _ (λ x runs over. stayed x runs.stands over)
      (all_there Runs c.args.table.now c.args.connection c.requires.run c.requires.there)
      (some_map (entry_at c.args.connection c.args.table.now) (λ x. c.world.result.now ≡ x.world) (λ x. goes_on_still x ≡ false)
      (λ x is. sym (ap (λ (k : Kept). goes_on (outcome_of k.state.crew)) is) ∙ sym c.goes_on.ensures ∙ c.if-goes_on.false) c.world.ensures.world));
}
