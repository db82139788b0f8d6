use Rattle.std.proofs.Common.{◌≡◌, ◌++◌, drop, string_bytes}
use Rattle.link_trace.specs.Marks.{stairs_from}
use Rattle.link_trace.proofs.marks.put_each_stair.Given as goal

abbrev pub invariant-loop-dot : goal.invariant-loop-dot
invariant-loop-dot l =
    string_bytes l.text ++ stairs_from l.scale l.top (drop l.dot-index l.dots)
    ≡ string_bytes l.initial.text ++ stairs_from l.scale 0 l.dots
