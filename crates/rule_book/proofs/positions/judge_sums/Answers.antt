use Rattle.std.proofs.Common.{◌∙◌, ℕ, Option, List, ap, sym}
use Rattle.seen_streams.specs.declared.told.ToldMapping.{ToldMapping}
use Rattle.seen_streams.specs.Both.{acked_of}
use Rattle.seen_streams.specs.Shows.{lane_of, stream_of}
use Rattle.seen_streams.specs.Sums.{with_sums}
use Rattle.rule_book.specs.Facts.{facts_of}
use Rattle.rule_book.specs.Stream.{summed}
use Rattle.rule_book.proofs.Steps.{sums_by_steps}
use Rattle.rule_book.proofs.positions.judge_sums.Goals as goal

pub returns : goal.returns
returns c =
    let facts = facts_of c.args.judging.now in
    let learnt = c.args.learnt.now.mappings.items in
    let old = acked_of c.args.stream.now c.args.lane.now in
    sums_by_steps facts c.in-Some.first learnt old (lane_of c.add_sums.new.lane) (lane_of c.try_sums.new.lane) (stream_of c.try_sums.new.stream)
    (c.in_ok-add_sums.ensures ∙ ap (λ (mappings : List ToldMapping). with_sums facts.packet mappings (lane_of c.args.lane.now)) c.deref.ensures.value) c.in_ok-try_sums.ensures.stream c.in_ok-try_sums.ensures.lane
    ∙ sym (ap (λ (o : Option ℕ). summed facts o learnt old) c.in-Some.is)
