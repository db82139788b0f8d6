use Rattle.std.proofs.Common.{◌≡◌, ◌++◌, drop, string_bytes}
use Rattle.std.specs.List.{flat_map}
use Rattle.link_trace.specs.Marks.{bar_on}
use Rattle.link_trace.proofs.marks.put_bars_on.Given as goal

abbrev pub invariant-loop-stroke : goal.invariant-loop-stroke
invariant-loop-stroke l =
    string_bytes l.text ++ flat_map (bar_on l.scale l.path) (drop l.stroke-index l.strokes)
    ≡ string_bytes l.initial.text ++ flat_map (bar_on l.scale l.path) l.strokes
