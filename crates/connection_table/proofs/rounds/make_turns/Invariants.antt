use Rattle.std.proofs.Common.{◌≡◌, ◌≤◌, length}
use Rattle.std.specs.List.{All}
use Rattle.connection_table.specs.ManyRounds.{Changes, Runs}
use Rattle.connection_table.proofs.RoundMore.{TurnsSoFar}
use Rattle.connection_table.proofs.rounds.make_turns.Given as goal

-- what the turns that are left come to, all turns do
abbrev pub invariant-loop-actor : goal.invariant-loop-actor
invariant-loop-actor l = record {
  run : All Runs l.table;
  many : length l.table ≡ length l.initial.table;
  within : l.actor ≤ l.actors;
  so_far : Changes (TurnsSoFar l.actors l.actor) l.connection l.initial.table l.table;
}
