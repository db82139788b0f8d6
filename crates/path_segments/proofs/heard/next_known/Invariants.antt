use Rattle.std.proofs.Common.{◌≡◌, length}
use Rattle.segment_wire.specs.OptionFront.{octets_alone, options_left}
use Rattle.path_segments.specs.Heard.{known_in}
use Rattle.path_segments.proofs.heard.next_known.Given as goal

abbrev pub invariant-loop-octets : goal.invariant-loop-octets
invariant-loop-octets l =
    known_in l.checksums (octets_alone (options_left l.left)) ≡ known_in l.checksums (octets_alone (options_left l.initial.left))

abbrev pub decreases-loop-octets : goal.decreases-loop-octets
decreases-loop-octets l = length (options_left l.left)
