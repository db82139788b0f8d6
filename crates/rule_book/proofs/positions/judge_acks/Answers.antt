use Rattle.std.proofs.Common.{◌∙◌, ℕ, Option, ap, map, sym}
use Rattle.mptcp_options.specs.Value.{value_of}
use Rattle.seen_streams.specs.Both.{acked_of}
use Rattle.seen_streams.specs.Shows.{stream_of}
use Rattle.rule_book.specs.Facts.{facts_of}
use Rattle.rule_book.specs.Stream.{behind_acks}
use Rattle.rule_book.proofs.Steps.{acks_by_steps}
use Rattle.rule_book.proofs.positions.judge_acks.Goals as goal

pub returns : goal.returns
returns c =
    let facts = facts_of c.args.judging.now in
    let options = map value_of c.args.options.now in
    let peers = stream_of c.args.peers.now in
    let old = acked_of c.args.stream.now c.args.lane.now in
    acks_by_steps facts c.in-Some.first peers options old (acked_of c.judge_each_ack.new.stream c.judge_each_ack.new.lane) (stream_of c.judge_each_fail.new.stream)
    c.in_ok-judge_each_ack.ensures c.in_ok-judge_each_fail.ensures
    ∙ sym (ap (λ (o : Option ℕ). behind_acks facts o peers options old) c.in-Some.is)
