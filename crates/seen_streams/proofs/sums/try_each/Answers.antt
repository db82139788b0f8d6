use Rattle.std.proofs.Common.{◌∙◌, ◌+◌, sym, ap, List, drop}
use Rattle.std.proofs.lemmas.List.{at_drop_more}
use Rattle.seen_octets.specs.Octets.{octet_at}
use Rattle.seen_streams.specs.declared.told.Waiting.{Waiting}
use Rattle.seen_streams.specs.Shows.{stream_of}
use Rattle.seen_streams.specs.Sums.{tried_sums}
use Rattle.seen_streams.proofs.sums.try_each.Goals as goal

pub loop-one-preserved : goal.loop-one-preserved
loop-one-preserved c =
    let octet = octet_at c.args.octets.now in
    let later = drop (c.loop-one.one-index + 1) c.args.waiting.now in
    let stream = stream_of c.loop-one.stream in
    ap (tried_sums c.args.packet c.args.first octet later) c.in_ok-try_one.ensures
    ∙ sym (at_drop_more (λ (waiting : List Waiting). tried_sums c.args.packet c.args.first octet waiting stream) c.args.waiting.now c.loop-one.one-index _ c.loop-one-test.true)
    ∙ c.loop-one.invariant
