use Rattle.std.proofs.Common.{◌≡◌, ◌≤◌, ◌+◌, length}
use Rattle.connection_table.specs.Scripts.{first_alter}
use Rattle.connection_table.proofs.AlterLines.{alter_from}
use Rattle.connection_table.proofs.listed_script.first_alter.Given as goal

-- what is left has the first such line of the whole
abbrev pub invariant-loop-rest : goal.invariant-loop-rest
invariant-loop-rest l = record {
  few : l.number + length l.rest ≤ 65537;
  same : alter_from l.number l.rest ≡ first_alter l.fn.text;
}

abbrev pub decreases-loop-rest : goal.decreases-loop-rest
decreases-loop-rest l = length l.rest
