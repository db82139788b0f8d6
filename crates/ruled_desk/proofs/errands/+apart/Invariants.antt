use Rattle.std.proofs.Common.{length, ◌+◌, ◌*◌}
use Rattle.ruled_desk.proofs.errands.+apart.Given as goal

abbrev pub decreases-ride_apart : goal.decreases-ride_apart
decreases-ride_apart g l = 2 * length l.givers.now

abbrev pub decreases-ride_beside : goal.decreases-ride_beside
decreases-ride_beside g l = 2 * length l.others.now + 1
