use Rattle.std.proofs.Common.{◌≡◌, ◌++◌, drop}
use Rattle.world_laws.specs.Openings.{plans_from}
use Rattle.run_trace.specs.Initials.{initials_of}
use Rattle.run_trace.proofs.initials.initials_of.Given as goal

abbrev pub invariant-loop-path : goal.invariant-loop-path
invariant-loop-path l = l.initials.items ++ initials_of (plans_from l.script l.path (drop l.path l.lines)) ≡ initials_of (plans_from l.script 0 l.lines)
