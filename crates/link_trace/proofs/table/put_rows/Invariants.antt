use Rattle.std.proofs.Common.{◌≡◌, ◌++◌, drop, string_bytes}
use Rattle.std.specs.List.{flat_map}
use Rattle.link_trace.specs.Tables.{row_words}
use Rattle.link_trace.proofs.table.put_rows.Given as goal

abbrev pub invariant-loop-row : goal.invariant-loop-row
invariant-loop-row l =
    string_bytes l.text ++ flat_map (row_words l.ticks) (drop l.row-index l.rows) ≡ string_bytes l.initial.text ++ flat_map (row_words l.ticks) l.rows
