use Rattle.run_log.proofs.Words.{◌≡◌, ◌+◌, ◌≤◌, length, text_lines, HasRoundBelow, read_on, reading}
use Rattle.run_log.proofs.reading.read_lines.Given as goal

abbrev pub invariant-loop-rest : goal.invariant-loop-rest
invariant-loop-rest l =
    record {
      few : l.number + length l.rest ≤ length l.bytes + 1;
      round : HasRoundBelow l.number l.expected;
      same : read_on l.setting.actors l.setting.width l.number l.expected l.turns.items (text_lines l.rest) ≡ reading l.setting.actors l.setting.width l.fn.bytes;
    }

abbrev pub decreases-loop-rest : goal.decreases-loop-rest
decreases-loop-rest l = length l.rest
