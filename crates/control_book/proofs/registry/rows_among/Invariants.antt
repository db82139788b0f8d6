use Rattle.std.proofs.Common.{◌≡◌, ◌≤◌, ◌++◌, drop, length}
use Rattle.std.specs.List.{filter_map}
use Rattle.control_book.specs.Registry.{told_row}
use Rattle.control_book.proofs.registry.rows_among.Given as goal

abbrev pub invariant-loop-path : goal.invariant-loop-path
invariant-loop-path l =
    (length l.rows ≤ l.path-index)
    × (l.rows ++ filter_map (told_row l.paths l.came) (drop l.path-index l.among) ≡ filter_map (told_row l.paths l.came) l.among)
