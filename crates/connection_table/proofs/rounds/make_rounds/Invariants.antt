use Rattle.std.proofs.Common.{◌≡◌, ◌≤◌}
use Rattle.std.specs.List.{All}
use Rattle.connection_table.specs.ManyRounds.{EachRound, IsSerialEnd, Runs}
use Rattle.connection_table.proofs.rounds.make_rounds.Given as goal

-- of each connection as many rounds were made as the loop counted
abbrev pub invariant-loop-round : goal.invariant-loop-round
invariant-loop-round l = record {
  some : 1 ≤ l._round;
  few : l._round ≤ l.most;
  run : All Runs l.table;
  made : EachRound (IsSerialEnd l._round) l.fn.table l.table;
}
