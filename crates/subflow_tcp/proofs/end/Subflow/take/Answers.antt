use Rattle.std.proofs.Common.{◌∙◌, ap}
use Rattle.subflow_tcp.specs.Segments.{copy_of}
use Rattle.subflow_tcp.specs.State.{EndState}
use Rattle.subflow_tcp.specs.Taking.{after_hearing, after_established, after_heard_ack, after_occupying, unkept}
use Rattle.subflow_tcp.proofs.end.Subflow.take.Goals as goal

pub returns-then-half_open-clause-after : goal.returns-then-half_open-clause-after
returns-then-half_open-clause-after c =
    c.owe_for.ensures
    ∙ ap (after_occupying (copy_of c.args.arriving.now)) (c.take_heard_ack-ack.ensures.after
    ∙ ap (after_heard_ack c.args.acknowledged (unkept c.args.data_ack) c.args.now (copy_of c.args.arriving.now)) (c.establish.ensures
    ∙ ap (λ (s : EndState). after_established (after_hearing s)) c.take_fin.ensures))

pub returns-clause-after : goal.returns-clause-after
returns-clause-after c =
    c.owe_for.ensures
    ∙ ap (after_occupying (copy_of c.args.arriving.now)) (c.take_heard_ack-ack.ensures.after
    ∙ ap (after_heard_ack c.args.acknowledged (unkept c.args.data_ack) c.args.now (copy_of c.args.arriving.now)) (c.establish.ensures
    ∙ ap (λ (s : EndState). after_established (after_hearing s)) c.take_fin.ensures))
