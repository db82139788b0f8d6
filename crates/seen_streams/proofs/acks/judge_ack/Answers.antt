use Rattle.std.proofs.Common.{◌∙◌, ℕ, Result, ap, sym}
use Rattle.std.proofs.lemmas.Result.{on_ok_weaker}
use Rattle.judge_rules.specs.declared.acks.AckFacts.{AckFacts}
use Rattle.judge_rules.specs.declared.finding.Finding.{Finding}
use Rattle.judge_rules.specs.declared.finding.Rule.TheVariants as rule
use Rattle.judge_rules.specs.Acks.{ack_place}
use Rattle.seen_streams.specs.Acks.{ack_counted, acked_by}
use Rattle.seen_streams.specs.Both.{acked_of}
use Rattle.seen_streams.specs.Shows.{lane_of, stream_of}
use Rattle.seen_streams.specs.State.{StreamValue, Found, tell}
use Rattle.seen_streams.proofs.Learning.{ack_kept}
use Rattle.seen_streams.proofs.acks.judge_ack.Goals as goal

pub returns-in-Ok : goal.returns-in-Ok
returns-in-Ok c =
    let old = acked_of c.args.stream.now c.args.lane.now in
    ack_kept c.args.packet c.in-Ok.place old (stream_of c.count_ack.new.self) (stream_of c.acknowledge.new.stream) (lane_of c.acknowledge.new.lane)
    c.count_ack.ensures c.acknowledge.ensures.stream c.acknowledge.ensures.lane
    ∙ ap (λ (r : Result ℕ Finding). acked_by r c.args.packet (ack_counted old))
    (sym c.in-Ok.is ∙ c.ack_place.ensures ∙ ap (λ (f : AckFacts). ack_place f c.args.number.now) c.ack_facts-facts.ensures.value)

pub returns-in-Err : goal.returns-in-Err
returns-in-Err c =
    let old = acked_of c.args.stream.now c.args.lane.now in
    on_ok_weaker c.find.result
    (λ is. ap (λ (s : StreamValue). record old { stream = s })
    (is ∙ ap (λ (s : StreamValue). tell rule.DataAck c.args.packet (Found c.in-Err.finding) s) c.count_ack.ensures)
    ∙ ap (λ (r : Result ℕ Finding). acked_by r c.args.packet (ack_counted old))
    (sym c.in-Err.is ∙ c.ack_place.ensures ∙ ap (λ (f : AckFacts). ack_place f c.args.number.now) c.ack_facts-facts.ensures.value)) c.find.ensures
