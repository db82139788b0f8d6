use Rattle.std.proofs.Common.{◌≡◌, ◌∙◌, sym, subst, ◌+◌, false}
use Rattle.link_model.specs.Passage.{is_full}
use Rattle.link_model.specs.State.{HasRoom}
use Rattle.link_model.specs.Steps.{rate_of, waiting_of}
use Rattle.link_model.proofs.Waits.{room_queued}
use Rattle.link_model.proofs.link.Link.waiting_by.Goals as goal

pub returns-clause-room : goal.returns-clause-room
returns-clause-room c =
    let rate = rate_of c.args.from c.args.self.now in
    let waits = waiting_of c.args.from c.args.self.now in
    let room : HasRoom rate waits = subst (HasRoom rate) c.waiting-waiting.ensures.value c.waiting-waiting.ensures.room in
    let not_full : is_full rate c.args.now (c.args.length + 20) waits ≡ false = sym c.requires.refused ∙ c.if-refused.false in
    rw (c.queued.ensures, c.shape.ensures.value, c.waiting-waiting.ensures.value) (room_queued rate c.args.now (c.args.length + 20) waits room not_full)
