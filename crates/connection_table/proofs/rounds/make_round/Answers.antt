use Rattle.std.proofs.Common.{◌≡◌, ◌<◌, length, arith}
use Rattle.connection_table.specs.ManyRounds.{RoundMade, TurnsMade}
use Rattle.connection_table.specs.Steps.{after_end}
use Rattle.connection_table.specs.Tables.{Entry}
use Rattle.connection_table.proofs.Changes.{changed_many, changes_are, changes_then}
use Rattle.connection_table.proofs.RoundMore.{round_made}
use Rattle.connection_table.proofs.rounds.make_round.Goals as goal

pub end_round-requires : goal.end_round-requires
end_round-requires c =
    let many = changed_many TurnsMade c.args.connection c.args.table.now c.make_turns.new.table c.in_ok-make_turns.ensures.made in
    let there = c.requires.there in
    omega (arith, many, there)

pub returns : goal.returns
returns c = record {
  made = changes_then TurnsMade (λ (y z : Entry). z ≡ after_end y) RoundMade round_made c.args.connection c.args.table.now c.make_turns.new.table c.end_round.new.self
      c.in_ok-make_turns.ensures.made (changes_are after_end c.args.connection c.make_turns.new.table c.end_round.new.self c.end_round.ensures.next);
}
