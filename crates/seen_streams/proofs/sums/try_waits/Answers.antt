use Rattle.std.proofs.Common.{◌∙◌, List, ap}
use Rattle.std.proofs.lemmas.Result.{on_ok_weaker}
use Rattle.seen_octets.specs.Octets.{octet_at}
use Rattle.seen_streams.specs.declared.told.Waiting.{Waiting}
use Rattle.seen_streams.specs.Shows.{stream_of}
use Rattle.seen_streams.specs.Sums.{tried_sums}
use Rattle.seen_streams.specs.Waits.{still_open}
use Rattle.seen_streams.proofs.Gaps.{open_behind, tried_behind}
use Rattle.seen_streams.proofs.sums.try_waits.Goals as goal

pub returns-in_err-try_each-clause-gaps : goal.returns-in_err-try_each-clause-gaps
returns-in_err-try_each-clause-gaps c = c.in_ok-wake.ensures.gaps (octet_at c.args.octets.now) c.requires

pub wait_on-requires : goal.wait_on-requires
wait_on-requires c = c.in_ok-wake.ensures.gaps (octet_at c.args.octets.now) c.requires

pub returns-clause-stream : goal.returns-clause-stream
returns-clause-stream c =
    let octet = octet_at c.args.octets.now in
    let waits = c.wake.new.waits in
    let tried = λ (waiting : List Waiting). tried_sums c.args.packet c.args.first octet waiting (stream_of c.args.stream.now) in
    on_ok_weaker c.wait_on.result
    (λ _. c.in_ok-try_each.ensures ∙ ap tried c.deref.ensures.value
    ∙ tried_behind c.args.packet c.args.first octet waits.tried.items waits.fresh.items (stream_of c.args.stream.now) (c.in_ok-wake.ensures.unfilled octet c.requires)
    ∙ ap tried c.in_ok-wake.ensures.all)
    c.wait_on.ensures.all

pub returns-clause-waits : goal.returns-clause-waits
returns-clause-waits c =
    let octet = octet_at c.args.octets.now in
    let waits = c.wake.new.waits in
    on_ok_weaker c.wait_on.result
    (λ is. is ∙ open_behind octet waits.tried.items waits.fresh.items (c.in_ok-wake.ensures.unfilled octet c.requires)
    ∙ ap (still_open octet) c.in_ok-wake.ensures.all)
    c.wait_on.ensures.all
