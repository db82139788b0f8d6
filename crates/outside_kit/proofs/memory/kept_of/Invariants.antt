use Rattle.std.proofs.Common.{◌≡◌, drop}
use Rattle.outside_kit.specs.Memory.{kept_at}
use Rattle.outside_kit.proofs.memory.kept_of.Given as goal

abbrev pub invariant-loop-fail : goal.invariant-loop-fail
invariant-loop-fail l = kept_at (drop l.fail-index l.failing) l.call ≡ kept_at l.failing l.call
