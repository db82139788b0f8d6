use Rattle.std.proofs.Common.{◌≡◌, ◌-◌, ◌++◌, string_bytes}
use Rattle.std.specs.List.{flat_map, range_with_len}
use Rattle.link_trace.specs.Windows.{window_line, window_lines}
use Rattle.link_trace.proofs.windows.put_lines.Given as goal

abbrev pub invariant-loop-path : goal.invariant-loop-path
invariant-loop-path l =
    string_bytes l.text ++ flat_map (window_line l.scale l.windows) (range_with_len l.path (l.paths - l.path))
    ≡ string_bytes l.initial.text ++ window_lines l.scale l.paths l.windows
