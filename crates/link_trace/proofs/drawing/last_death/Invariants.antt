use Rattle.std.proofs.Common.{◌≡◌, drop, max}
use Rattle.link_trace.specs.Pictures.{last_death}
use Rattle.link_trace.proofs.drawing.last_death.Given as goal

abbrev pub invariant-loop-death : goal.invariant-loop-death
invariant-loop-death l = max l.last (last_death (drop l.death-index l.deaths)) ≡ last_death l.deaths
