use Rattle.std.proofs.Common.{◌≡◌, ◌+◌, ◌≤◌, ◌++◌, map, reverse}
use Rattle.std.specs.Prelude.{vec_len, vec_capacity}
use Rattle.ruled_desk.specs.WholeRounds.{without_pass}
use Rattle.ruled_desk.proofs.mounting.mount.Given as goal

-- the actors that are left and the riders so far, the last one first, are all
abbrev pub invariant-loop-last : goal.invariant-loop-last
invariant-loop-last g l =
    record {
      all : map without_pass l.crew.items ++ reverse l.riders.items ≡ map without_pass l.initial.crew.items;
      many : vec_len l.riders + vec_len l.crew ≡ vec_len l.initial.crew;
      room : vec_len l.initial.crew ≤ vec_capacity l.riders;
      back : vec_len l.initial.crew ≤ vec_capacity l.crew;
    }

abbrev pub decreases-loop-last : goal.decreases-loop-last
decreases-loop-last g l = vec_len l.crew
