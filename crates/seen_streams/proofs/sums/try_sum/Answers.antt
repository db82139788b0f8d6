use Rattle.std.proofs.Common.{◌∙◌, Option, ap, sym}
use Rattle.std.proofs.lemmas.Result.{on_ok_weaker}
use Rattle.judge_rules.specs.declared.finding.Finding.{Finding}
use Rattle.judge_rules.specs.declared.finding.Rule.TheVariants as rule
use Rattle.seen_streams.specs.Shows.{stream_of}
use Rattle.seen_streams.specs.State.{StreamValue, Found, counted, tell, tell_found}
use Rattle.seen_streams.proofs.sums.try_sum.Goals as goal

pub returns-in-Some : goal.returns-in-Some
returns-in-Some c =
    let before = stream_of c.args.stream.now in
    let packet = c.args.packet in
    on_ok_weaker c.find.result
    (λ is. is ∙ ap (λ (s : StreamValue). tell rule.DssSum packet (Found c.in-Some.finding) s) c.count_sum.ensures
    ∙ ap (λ (o : Option Finding). tell_found rule.DssSum packet o (record before { sums = counted before.sums })) (sym c.in-Some.is ∙ c.sum_fault.ensures))
    c.find.ensures

pub returns-in-None : goal.returns-in-None
returns-in-None c =
    let before = stream_of c.args.stream.now in
    c.count_sum.ensures
    ∙ ap (λ (o : Option Finding). tell_found rule.DssSum c.args.packet o (record before { sums = counted before.sums })) (sym c.in-None.is ∙ c.sum_fault.ensures)
