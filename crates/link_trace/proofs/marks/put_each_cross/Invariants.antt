use Rattle.std.proofs.Common.{◌≡◌, ◌++◌, drop, string_bytes}
use Rattle.std.specs.List.{flat_map}
use Rattle.link_trace.specs.Marks.{cross_of}
use Rattle.link_trace.proofs.marks.put_each_cross.Given as goal

abbrev pub invariant-loop-stroke : goal.invariant-loop-stroke
invariant-loop-stroke l =
    string_bytes l.text ++ flat_map (cross_of l.scale) (drop l.stroke-index l.strokes)
    ≡ string_bytes l.initial.text ++ flat_map (cross_of l.scale) l.strokes
