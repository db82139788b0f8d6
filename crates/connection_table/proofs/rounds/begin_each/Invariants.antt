use Rattle.std.proofs.Common.{◌≡◌, ◌≤◌, length}
use Rattle.std.specs.List.{All}
use Rattle.path_core.specs.Octets.{octets}
use Rattle.world_core.specs.Rounds.{RoundTo}
use Rattle.connection_table.specs.ManyRounds.{RoundIfGoing, Runs}
use Rattle.connection_table.proofs.Changes.{SoFar}
use Rattle.connection_table.proofs.rounds.begin_each.Given as goal

-- the first connections have made theirs, and the rest are as they were
abbrev pub invariant-loop-connection : goal.invariant-loop-connection
invariant-loop-connection l = record {
  run : All Runs l.table;
  many : length l.table ≡ length l.initial.table;
  within : l.connection ≤ length l.table;
  so_far : SoFar (RoundTo octets) l.connection l.initial.table l.table;
}
