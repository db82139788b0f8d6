use Rattle.std.proofs.Common.{◌∙◌, ap}
use Rattle.judge_rules.specs.declared.finding.Rule.TheVariants as rule
use Rattle.judge_rules.specs.declared.finding.Verdict.{Verdict}
use Rattle.judge_rules.specs.Keys.{judged_address}
use Rattle.mptcp_options.specs.Value.{value_of}
use Rattle.seen_streams.specs.Shows.{stream_of}
use Rattle.rule_book.specs.Signals.{joined_by, told_verdict}
use Rattle.rule_book.proofs.signals.judge_hmacs.Goals as goal

pub returns : goal.returns
returns c =
    let packet = c.args.judging.now.packet in
    let announced = judged_address c.args.mine c.args.peers (value_of c.args.option.now) in
    c.in_ok-tell_verdict.ensures
    ∙ ap (λ (v : Verdict). told_verdict rule.AddressHmac packet v (stream_of c.take_join.new.stream)) c.judge_address-announced.ensures
    ∙ ap (told_verdict rule.AddressHmac packet announced)
    (c.in_ok-take_join.ensures ∙ ap (λ (v : Verdict). joined_by v packet (stream_of c.args.stream.now)) c.join_in-joined.ensures)
