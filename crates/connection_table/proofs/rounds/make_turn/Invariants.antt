use Rattle.std.proofs.Common.{◌≡◌, ◌-◌, ◌^◌, length}
use Rattle.std.specs.List.{All}
use Rattle.connection_table.specs.ManyRounds.{Changes, Runs}
use Rattle.connection_table.specs.Tables.{entry_at}
use Rattle.connection_table.proofs.Changes.{stamp_in}
use Rattle.connection_table.proofs.RoundMore.{TurnSoFar}
use Rattle.connection_table.proofs.rounds.make_turn.Given as goal

-- what the rest of the turn comes to, the whole turn does
abbrev pub invariant-loop : goal.invariant-loop
invariant-loop l = record {
  run : All Runs l.table;
  many : length l.table ≡ length l.initial.table;
  so_far : Changes (TurnSoFar l.actor) l.connection l.initial.table l.table;
}

abbrev pub decreases-loop : goal.decreases-loop
decreases-loop l = 2 ^ 62 - stamp_in l.actor (entry_at l.connection l.table)
