use Rattle.std.proofs.Common.{◌≡◌, ◌+◌, ◌≤◌, ◌++◌, reverse}
use Rattle.std.specs.Prelude.{vec_len, vec_capacity}
use Rattle.ruled_desk.specs.WholeRounds.{crew_of}
use Rattle.ruled_desk.proofs.mounting.put_behind.Given as goal

-- the actors so far and those of the riders that are left, the last one first, are all
abbrev pub invariant-loop-rider : goal.invariant-loop-rider
invariant-loop-rider g l =
    record {
      all : l.crew.items ++ crew_of (reverse l.riders.items) ≡ l.initial.crew.items ++ crew_of (reverse l.initial.riders.items);
      room : vec_len l.crew + vec_len l.riders ≤ vec_capacity l.crew;
    }

abbrev pub decreases-loop-rider : goal.decreases-loop-rider
decreases-loop-rider g l = vec_len l.riders
