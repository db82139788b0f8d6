use Rattle.std.proofs.Common.{◌≡◌, ◌≤◌, ◌+◌, drop, length}
use Rattle.octet_text.specs.Lines.{text_lines}
use Rattle.mptcp_view.specs.Telling.{untold, untold_on}
use Rattle.mptcp_view.proofs.telling.untold.Given as goal

abbrev pub invariant-loop-rest : goal.invariant-loop-rest
invariant-loop-rest l =
    record {
      few : l.number + length l.rest ≤ length l.log + 1;
      least : l.at + 1 ≤ l.number;
      same : untold_on l.number (text_lines l.rest) (drop l.at l.trace) ≡ untold l.log l.trace;
    }

abbrev pub decreases-loop-rest : goal.decreases-loop-rest
decreases-loop-rest l = length l.rest
