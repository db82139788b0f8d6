use Rattle.std.proofs.Common.{◌∙◌, ap, List}
use Rattle.seen_streams.specs.declared.told.ToldMapping.{ToldMapping}
use Rattle.seen_streams.specs.Content.{payload_of}
use Rattle.seen_streams.specs.Shows.{lane_of, mapped_of, stream_of}
use Rattle.rule_book.specs.Facts.{facts_of}
use Rattle.rule_book.specs.Stream.{within_each}
use Rattle.rule_book.proofs.Steps.{payload_by_steps}
use Rattle.rule_book.proofs.positions.take_octets.Goals as goal

pub returns : goal.returns
returns c =
    payload_by_steps (facts_of c.args.judging.now) c.args.position c.args.acknowledged (mapped_of c.args.stream.now c.args.lane.now c.args.learnt.now)
    (payload_of c.payload_at-payload.result) (stream_of c.judge_within.new.stream) (stream_of c.end_by_fin.new.stream) (stream_of c.take_payload.new.stream)
    (lane_of c.take_payload.new.lane) c.payload_at-payload.ensures.value
    (c.in_ok-judge_within.ensures
    ∙ ap (λ (mappings : List ToldMapping). within_each (facts_of c.args.judging.now) c.args.position mappings (stream_of c.args.stream.now)) c.deref.ensures.value)
    c.end_by_fin.ensures c.in_ok-take_payload.ensures.lane
    c.in_ok-take_payload.ensures.stream
