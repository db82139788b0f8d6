use Rattle.std.proofs.Common.{◌≡◌, ◌≤◌, ◌+◌, [], length, map}
use Rattle.octet_text.specs.Lines.{text_lines}
use Rattle.connection_table.specs.Lists.{as_names, read_on}
use Rattle.connection_table.proofs.list.read_lines.Given as goal

abbrev pub invariant-loop-rest : goal.invariant-loop-rest
invariant-loop-rest l =
    record {
      count : l.number ≡ length l.connections.items + 1;
      few : l.number ≤ 65;
      same : read_on l.number (map as_names l.connections.items) (text_lines l.rest) ≡ read_on 1 [] (text_lines l.fn.list);
    }

abbrev pub decreases-loop-rest : goal.decreases-loop-rest
decreases-loop-rest l = length l.rest
