use Rattle.std.proofs.lemmas.Result.{err_from_is_err_and}
use Rattle.capture_reader.specs.ReadBlocks.{as_read}
use Rattle.capture_reader.proofs.Walks.{block_from, no_block_from}
use Rattle.capture_reader.proofs.blocks.read_all.Goals as goal

pub returns-in_err-place : goal.returns-in_err-place
returns-in_err-place c =
    let p = err_from_is_err_and c.from_residual.result c.from_residual.ensures.1 in
    rw (p.1, p.2) (no_block_from c.in_err-place.field-0.0 c.loop-place.place (as_read c.loop-place.reading) c.args.octets.now c.rest_from.result.now _
    c.in_err-place.ensures.exact c.rest_from.ensures c.loop-place-test.true c.loop-place.invariant)

pub loop-place-preserved : goal.loop-place-preserved
loop-place-preserved c =
    block_from c.loop-place.place c.in_ok-place.field-0 (as_read c.loop-place.reading) (as_read c.read_front.new.reading) c.args.octets.now c.rest_from.result.now _
    c.in_ok-place.ensures.exact c.rest_from.ensures c.in_ok-place.ensures.within.0 c.in_ok-place.ensures.within.1 c.loop-place.invariant
