use Rattle.std.proofs.Common.{◌-◌, length}
use Rattle.message_pipe.specs.Below.{PutsMore}
use Rattle.message_pipe.specs.Showing.{ShowsMore, StaysElsewhere}
use Rattle.message_pipe.proofs.showing.show_messages.Given as goal

abbrev pub invariant-loop-message : goal.invariant-loop-message
invariant-loop-message g l =
    ShowsMore l.octets l.from l.end ((g.O.Outside.told l.initial.outside).holds l.port) ((g.O.Outside.told l.outside).holds l.port)
    × StaysElsewhere l.port (g.O.Outside.told l.initial.outside) (g.O.Outside.told l.outside)
    × PutsMore l.port l.octets l.from l.end (g.O.Outside.told l.initial.outside).calls (g.O.Outside.told l.outside).calls

abbrev pub decreases-loop-message : goal.decreases-loop-message
decreases-loop-message g l = length l.octets - l.end
