use Rattle.mptcp_run.specs.Threads.{IsWoven}
use Rattle.mptcp_run.proofs.ThreadsMade.{if_ok, woven_goes}
use Rattle.mptcp_run.proofs.threads.next_world.Goals as goal

pub returns-in-Ok-clause-goes : goal.returns-in-Ok-clause-goes
returns-in-Ok-clause-goes g c =
    let woven = if_ok (λ order. IsWoven c.args.world.state c.by_threads-world.result.0 order.items) c.by_threads-world.result.1 c.in-Ok._order
    c.in-Ok.is c.by_threads-world.ensures.woven in
    woven_goes c.args.world.state c.by_threads-world.result.0 c.end_round.new.self c.in-Ok._order.items woven (c.end_round.ensures.next woven.stands)
