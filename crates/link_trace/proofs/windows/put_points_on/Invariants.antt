use Rattle.std.proofs.Common.{◌≡◌, ◌++◌, drop, string_bytes}
use Rattle.std.specs.List.{flat_map}
use Rattle.link_trace.specs.Windows.{point_on}
use Rattle.link_trace.proofs.windows.put_points_on.Given as goal

abbrev pub invariant-loop-window : goal.invariant-loop-window
invariant-loop-window l =
    string_bytes l.text ++ flat_map (point_on l.scale l.path) (drop l.window-index l.windows)
    ≡ string_bytes l.initial.text ++ flat_map (point_on l.scale l.path) l.windows
