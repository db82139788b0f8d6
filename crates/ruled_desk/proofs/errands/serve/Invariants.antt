use Rattle.std.proofs.Common.{◌≡◌, None}
use Rattle.ruled_desk.proofs.errands.serve.Given as goal

-- the worker has no turn
abbrev pub invariant-loop : goal.invariant-loop
invariant-loop g l = l.worker ≡ None
