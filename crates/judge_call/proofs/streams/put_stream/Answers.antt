use Rattle.std.proofs.Common.{[], ◌∷◌, subst, sym}
use Rattle.std.proofs.lemmas.Result.{err_from_is_err_and}
use Rattle.outside_kit.specs.Calls as call
use Rattle.seen_streams.specs.Shows.{stream_of}
use Rattle.capture_verdict.specs.Sent.{IsSent}
use Rattle.judge_call.specs.Plan.{Does, PutsSent, stream_steps}
use Rattle.judge_call.proofs.Planned.{follows_longer, follows_none, follows_sent, follows_then}
use Rattle.judge_call.proofs.streams.put_stream.Goals as goal

pub returns-in_err-octets : goal.returns-in_err-octets
returns-in_err-octets g c =
    let p = err_from_is_err_and c.from_residual.result c.from_residual.ensures.1 in
    rw (p.1, p.2) (follows_none (stream_steps c.args.port c.args.name.now (stream_of c.args.stream.now).octet) (g.O.Outside.told c.args.outside.now).calls)

pub returns-in_err-bind : goal.returns-in_err-bind
returns-in_err-bind g c =
    let p = err_from_is_err_and c.from_residual-in_err-bind.result c.from_residual-in_err-bind.ensures.1 in
    rw (p.1, p.2) (follows_longer (Does (call.Bind c.args.port c.args.name.now) ∷ []) (PutsSent c.args.port (stream_of c.args.stream.now).octet ∷ []) _ _
    c.in_err-bind.field-0.0 c.in_err-bind.ensures)

pub returns : goal.returns
returns g c =
    let octet = (stream_of c.args.stream.now).octet in
    let sent = subst (IsSent octet) (sym c.deref.ensures.value) c.in_ok-octets.ensures in
    follows_then (Does (call.Bind c.args.port c.args.name.now) ∷ []) (PutsSent c.args.port octet ∷ []) _ _ _ c.put.result c.in_ok-bind.ensures.done
    (follows_sent c.args.port octet c.deref.result.now _ _ c.put.result sent c.put.ensures)
