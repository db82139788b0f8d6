use Rattle.std.proofs.Common.{◌+◌, map, length, refl}
use Rattle.std.proofs.lemmas.List.{map-append}
use Rattle.capture_reader.specs.Captured.{as_captured}
use Rattle.capture_reader.proofs.Walks.{record_from, no_record_from}
use Rattle.capture_reader.proofs.records.records_behind.Goals as goal

pub returns-in_default : goal.returns-in_default
returns-in_default c =
    no_record_from c.args.order c.args.link c.loop-place.place (map as_captured c.loop-place.packets.items) c.args.octets.now c.rest_from.result.now _
    c.in_default.ensures.exact c.rest_from.ensures c.loop-place-test.true c.loop-place.invariant

pub loop-place-preserved : goal.loop-place-preserved
loop-place-preserved c =
    rw (c.in_ok-push.ensures.items, map-append) (record_from c.args.order c.args.link c.loop-place.place (c.loop-place.place + (16 + length c.in-Some.packet.octets.now))
    (map as_captured c.loop-place.packets.items) (as_captured c.in-Some.packet) c.args.octets.now c.rest_from.result.now _
    c.in-Some.ensures.exact c.rest_from.ensures c.in-Some.ensures.within refl c.loop-place.invariant)
