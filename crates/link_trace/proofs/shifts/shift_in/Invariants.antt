use Rattle.std.proofs.Common.{◌≡◌, drop}
use Rattle.link_trace.specs.Shifts.{shift_in}
use Rattle.link_trace.proofs.shifts.shift_in.Given as goal

abbrev pub invariant-loop-shift : goal.invariant-loop-shift
invariant-loop-shift l = shift_in (drop l.shift-index l.shifts) l.path l.from ≡ shift_in l.shifts l.path l.from
