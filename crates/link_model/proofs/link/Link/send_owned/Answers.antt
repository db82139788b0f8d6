use Rattle.std.proofs.Common.{refl}
use Rattle.link_model.proofs.link.Link.send_owned.Goals as goal

pub returns-clause-after : goal.returns-clause-after
returns-clause-after c =
    rw (c.count.ensures.after, c.wait.ensures, c.in_ok-launch.ensures.ok, c.on_time-first.ensures.value, c.ticks_waited.ensures.value, c.passage-fate.ensures.value, c.in_ok-octets.ensures, c.as_slice.ensures.value, c.peer.ensures, c.next_number-number.ensures, ← c.self.view_is) refl
