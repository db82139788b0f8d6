use Rattle.std.proofs.Common.{◌≡◌, ◌++◌, drop, string_bytes}
use Rattle.std.specs.List.{flat_map}
use Rattle.link_script.specs.Writing.{ended, path_lines}
use Rattle.link_script.proofs.writing.put_paths.Given as goal

abbrev pub invariant-loop-i : goal.invariant-loop-i
invariant-loop-i l = string_bytes l.text ++ flat_map ended (path_lines l.i (drop l.i l.paths)) ≡ string_bytes l.fn.text ++ flat_map ended (path_lines 0 l.paths)
