use Rattle.std.proofs.Common.{ap}
use Rattle.world_core.specs.Logged.{all_turns}
use Rattle.mptcp_view.proofs.Answering.{view_made}
use Rattle.mptcp_view.proofs.showing.view_from.Goals as goal

pub returns-in-Ok-shown_by_tick-clause-shown : goal.returns-in-Ok-shown_by_tick-clause-shown
returns-in-Ok-shown_by_tick-clause-shown g c =
    let made = c.in-Ok.ensures in
    view_made c.args.view c.args.input.now (all_turns c.args.read.now.turns.items) (all_turns c.deref.result.now) c.args.world.now c.gather.new.world
    c.in-Ok.gathered.measured.items c.in-Ok.gathered.trace.items c.in-Ok-shown_by_tick.shown.items
    c.requires.opened (ap all_turns c.deref.ensures.value) made.world made.measured made.trace c.in-Ok-shown_by_tick.ensures
