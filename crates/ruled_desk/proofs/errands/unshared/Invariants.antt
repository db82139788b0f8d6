use Rattle.std.proofs.Common.{◌≡◌}
use Rattle.ruled_desk.proofs.errands.unshared.Given as goal

-- it is still the one that was given
abbrev pub invariant-loop : goal.invariant-loop
invariant-loop g l = l.shared ≡ l.initial.shared
