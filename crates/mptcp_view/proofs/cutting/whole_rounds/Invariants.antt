use Rattle.std.proofs.Common.{◌≡◌, ◌≤◌, ◌+◌, ◌++◌, [], length, string_bytes}
use Rattle.octet_text.specs.Lines.{text_lines}
use Rattle.mptcp_view.specs.Cutting.{round_words, rounds_in}
use Rattle.mptcp_view.proofs.cutting.whole_rounds.Given as goal

abbrev pub invariant-loop-rest : goal.invariant-loop-rest
invariant-loop-rest l =
    record {
      few : l.number + length l.rest ≤ length l.log;
      named : string_bytes l.end ≡ round_words l.number;
      same : l.part.items ++ rounds_in l.number l.before.items (text_lines l.rest) ≡ rounds_in 0 [] (text_lines l.log);
    }

abbrev pub decreases-loop-rest : goal.decreases-loop-rest
decreases-loop-rest l = length l.rest
