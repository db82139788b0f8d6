use Rattle.std.proofs.Common.{◌∙◌, ap, sym}
use Rattle.std.proofs.lemmas.Result.{on_ok_weaker}
use Rattle.judge_rules.specs.declared.finding.Rule.TheVariants as rule
use Rattle.judge_rules.specs.declared.finding.Verdict.{Verdict}
use Rattle.seen_streams.specs.Shows.{stream_of}
use Rattle.seen_streams.specs.State.{Found, tell}
use Rattle.rule_book.specs.Signals.{joined_by}
use Rattle.rule_book.proofs.signals.take_join.Goals as goal

pub returns-in-Broke : goal.returns-in-Broke
returns-in-Broke c =
    let packet = c.args.packet in
    on_ok_weaker c.find.result
    (λ is. is ∙ ap (tell rule.JoinHmac packet (Found c.in-Broke.finding)) c.count_joins-in-Broke.ensures
    ∙ ap (λ (v : Verdict). joined_by v packet (stream_of c.args.stream.now)) (sym c.in-Broke.is))
    c.find.ensures
