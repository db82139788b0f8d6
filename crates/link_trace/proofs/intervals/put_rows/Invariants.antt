use Rattle.std.proofs.Common.{◌≡◌, ◌-◌, ◌++◌, string_bytes}
use Rattle.link_trace.specs.Intervals.{rows_from}
use Rattle.link_trace.proofs.intervals.put_rows.Given as goal

abbrev pub invariant-loop-row : goal.invariant-loop-row
invariant-loop-row l =
    string_bytes l.text ++ rows_from l.measured l.paths l.row (l.rows - l.row) l.path l.side l.shares l.answers
    ≡ string_bytes l.initial.text ++ rows_from l.measured l.paths 0 l.rows l.path l.side l.shares l.answers
