use Rattle.std.proofs.Common.{◌≡◌, ◌-◌, ◌++◌, string_bytes}
use Rattle.std.specs.List.{flat_map, range_with_len}
use Rattle.link_trace.specs.Panels.{path_marks}
use Rattle.link_trace.proofs.panels.put_paths.Given as goal

abbrev pub invariant-loop-path : goal.invariant-loop-path
invariant-loop-path l =
    string_bytes l.text ++ flat_map (path_marks l.scale l.strokes) (range_with_len l.path (l.paths - l.path))
    ≡ string_bytes l.initial.text ++ flat_map (path_marks l.scale l.strokes) (range_with_len 0 l.paths)
