use Rattle.std.proofs.Common.{◌≡◌, drop, max}
use Rattle.link_trace.specs.Panels.{top_of}
use Rattle.link_trace.proofs.panels.top_of.Given as goal

abbrev pub invariant-loop-stroke : goal.invariant-loop-stroke
invariant-loop-stroke l = max l.top (top_of (drop l.stroke-index l.strokes)) ≡ top_of l.strokes
