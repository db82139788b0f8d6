use Rattle.std.proofs.Common.{◌∙◌, ap, sym, ℕ, Option}
use Rattle.judge_rules.specs.declared.finding.Rule.TheVariants as rule
use Rattle.judge_rules.specs.declared.finding.Verdict.{Verdict}
use Rattle.judge_rules.specs.Keys.{judged_fast_close}
use Rattle.mptcp_options.specs.Value.{value_of}
use Rattle.seen_streams.specs.Shows.{stream_of}
use Rattle.rule_book.specs.Facts.{facts_of}
use Rattle.rule_book.specs.Signals.{by_peers, told_verdict}
use Rattle.rule_book.proofs.signals.judge_by_keys.Goals as goal

pub returns : goal.returns
returns c =
    let facts = facts_of c.args.judging.now in
    let option = value_of c.args.option.now in
    c.in_ok-tell_verdict.ensures
    ∙ ap (λ (v : Verdict). told_verdict rule.FastCloseKey facts.packet v (stream_of c.judge_by_mine.new.stream)) c.judge_fast_close-verdict.ensures
    ∙ ap (told_verdict rule.FastCloseKey facts.packet (judged_fast_close c.in-Some.peers option)) c.in_ok-judge_by_mine.ensures
    ∙ sym (ap (λ (o : Option ℕ). by_peers o c.args.mine facts option (stream_of c.args.stream.now)) c.in-Some.is)
