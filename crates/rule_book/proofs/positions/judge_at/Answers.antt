use Rattle.std.proofs.Common.{◌∙◌, ap, List, map}
use Rattle.sides.specs.declared.side.Side.{Side}
use Rattle.mptcp_options.specs.declared.option.MpOption.{MpOption}
use Rattle.mptcp_options.specs.Value.{value_of}
use Rattle.seen_streams.specs.Both.{acked_of}
use Rattle.seen_streams.specs.Shows.{lane_of, mapped_of, stream_of}
use Rattle.rule_book.specs.Facts.{facts_of, first_of}
use Rattle.rule_book.specs.Stream.{judged_at}
use Rattle.rule_book.proofs.Steps.{judged_by_steps}
use Rattle.rule_book.proofs.positions.judge_at.Goals as goal

pub returns : goal.returns
returns c =
    let facts = facts_of c.args.judging.now in
    let keys = c.args.keyed.now.keys in
    let peers = stream_of c.args.peers.now in
    let stream = stream_of c.args.stream.now in
    let lane = lane_of c.args.lane.now in
    judged_by_steps facts c.args.position (map value_of c.deref-options.result.now) keys peers stream lane (lane_of c.take_fin.new.lane)
    c.first_of-own.result c.first_of-first.result (mapped_of c.learn_all.new.stream c.learn_all.new.lane c.in_ok-learnt.learnt)
    c.acknowledged.result (acked_of c.take_octets.new.stream c.take_octets.new.lane) (acked_of c.judge_sums.new.stream c.judge_sums.new.lane)
    (acked_of c.judge_acks.new.stream c.judge_acks.new.lane) c.take_fin.ensures c.first_of-own.ensures c.in_ok-learnt.ensures c.acknowledged.ensures
    c.in_ok-take_octets.ensures c.in_ok-judge_sums.ensures (c.first_of-first.ensures ∙ ap (λ (s : Side). first_of s keys) c.peer.ensures)
    c.in_ok-judge_acks.ensures
    ∙ ap (λ (options : List MpOption). judged_at facts c.args.position (map value_of options) keys peers stream lane) c.deref-options.ensures.value
