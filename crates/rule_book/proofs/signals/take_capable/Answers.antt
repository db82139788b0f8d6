use Rattle.std.proofs.Common.{◌∙◌, ap, sym}
use Rattle.std.proofs.lemmas.Result.{on_ok_weaker}
use Rattle.judge_rules.specs.declared.finding.Rule.TheVariants as rule
use Rattle.judge_rules.specs.declared.finding.Verdict.{Verdict}
use Rattle.mptcp_options.specs.Value.{value_of}
use Rattle.seen_connections.specs.declared.connections.Keys.{Keys}
use Rattle.seen_streams.specs.Shows.{stream_of}
use Rattle.seen_streams.specs.State.{StreamValue, Found, tell}
use Rattle.rule_book.specs.Facts.{facts_of}
use Rattle.rule_book.specs.Keyed.{keyed_of}
use Rattle.rule_book.specs.Signals.{KeyedValue, kept_option, keyed_by, with_a}
use Rattle.rule_book.proofs.signals.take_capable.Goals as goal

pub returns-in_ok-keep-in-Kept : goal.returns-in_ok-keep-in-Kept
returns-in_ok-keep-in-Kept c =
    let facts = facts_of c.args.judging.now in
    let option = value_of c.args.option in
    let keyed = c.args.keyed.now in
    ap (λ (k : KeyedValue). record k { keys = c.with_a-known.result }) (c.in_ok-keep-in-Kept.ensures (stream_of c.count_keys.new.self))
    ∙ ap (λ (ks : Keys). record (kept_option option (keyed_of keyed (stream_of c.count_keys.new.self))) { keys = ks }) c.with_a-known.ensures
    ∙ ap (λ (s : StreamValue). record (kept_option option (keyed_of keyed s)) { keys = with_a facts.side c.args.keys.now keyed.keys }) c.count_keys.ensures
    ∙ ap (λ (v : Verdict). keyed_by v facts option c.args.keys.now (keyed_of keyed (stream_of c.args.stream.now))) (sym c.in-Kept.is)

pub returns-in-Broke : goal.returns-in-Broke
returns-in-Broke c =
    let facts = facts_of c.args.judging.now in
    on_ok_weaker c.find.result
    (λ is. ap (keyed_of c.args.keyed.now) (is ∙ ap (tell rule.Keys facts.packet (Found c.in-Broke.finding)) c.count_keys-in-Broke.ensures)
    ∙ ap (λ (v : Verdict). keyed_by v facts (value_of c.args.option) c.args.keys.now (keyed_of c.args.keyed.now (stream_of c.args.stream.now))) (sym c.in-Broke.is))
    c.find.ensures
