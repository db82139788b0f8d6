use Rattle.std.proofs.Common.{vec_len}
use Rattle.ruled_desk.proofs.errands.+ride_here.Given as goal

abbrev pub decreases-ride_here : goal.decreases-ride_here
decreases-ride_here g l = vec_len l.riders.now
