use Rattle.std.proofs.Common.{◌∙◌, ℕ, Option, ap, map, sym}
use Rattle.mptcp_options.specs.Value.{value_of}
use Rattle.seen_streams.specs.Mapped.{Mapped}
use Rattle.seen_streams.specs.Shows.{lane_of, stream_of}
use Rattle.rule_book.specs.Facts.{facts_of}
use Rattle.rule_book.specs.Stream.{mapped_each, mapped_with, told_in}
use Rattle.rule_book.proofs.Steps.{begun, nothing_learnt}
use Rattle.rule_book.proofs.positions.learn_all.Goals as goal

pub returns-in_default : goal.returns-in_default
returns-in_default c =
    let stream = stream_of c.args.stream.now in
    let lane = lane_of c.args.lane.now in
    nothing_learnt stream lane _ _ c.new-learnt.ensures.mappings c.new-learnt.ensures.line
    ∙ sym (ap (λ (o : Option ℕ). mapped_with (facts_of c.args.judging.now) o c.args.position (map value_of c.args.options.now) (begun stream lane)) c.in_default.is)

pub returns : goal.returns
returns c =
    let facts = facts_of c.args.judging.now in
    let options = map value_of c.args.options.now in
    let stream = stream_of c.args.stream.now in
    let lane = lane_of c.args.lane.now in
    c.in_ok-learn_each.ensures
    ∙ ap (λ (state : Mapped). mapped_each (told_in facts c.in-Some.first) c.args.position options state)
    (nothing_learnt stream lane _ _ c.new-learnt.ensures.mappings c.new-learnt.ensures.line)
    ∙ sym (ap (λ (o : Option ℕ). mapped_with facts o c.args.position options (begun stream lane)) c.in-Some.is)
