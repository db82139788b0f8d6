use Rattle.std.proofs.Common.{◌≡◌, ◌≤◌, ◌+◌, [], length}
use Rattle.octet_text.specs.Lines.{text_lines}
use Rattle.link_script.specs.Ranges.{most_lines}
use Rattle.link_script.specs.Reading.{read_on}
use Rattle.link_script.proofs.reading.read_lines.Given as goal

abbrev pub invariant-loop-rest : goal.invariant-loop-rest
invariant-loop-rest l =
    record {
      few : l.number ≤ most_lines + 1;
      same : read_on l.number l.seen (text_lines l.rest) ≡ read_on 1 [] (text_lines l.fn.text);
    }

abbrev pub decreases-loop-rest : goal.decreases-loop-rest
decreases-loop-rest l = length l.rest
