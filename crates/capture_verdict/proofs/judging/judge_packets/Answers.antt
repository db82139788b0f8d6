use Rattle.std.proofs.Common.{◌≡◌, ℕ, ◌∙◌, ◌+◌, List, ap, sym, drop, map, arith}
use Rattle.std.proofs.lemmas.List.{at_drop_more}
use Rattle.capture_reader.specs.Captured.{as_captured}
use Rattle.capture_reader.specs.declared.capture.CapturedPacket.{CapturedPacket}
use Rattle.rule_book.specs.State.{JudgedValue, judged_of}
use Rattle.capture_verdict.specs.Judging.{judged_packets}
use Rattle.capture_verdict.proofs.judging.judge_packets.Goals as goal

pub loop-packet-init : goal.loop-packet-init
loop-packet-init c =
    let words = c.args.words.now in
    let none : c.new-judged.result.seen.last ≡ 0 = ap (λ (state : JudgedValue). state.seen.last) c.new-judged.ensures in
    record {
      last = omega (arith, none);
      judged = ap (λ (state : JudgedValue). judged_packets words.at words.check_sums state 1 (map as_captured c.args.packets.now)) c.new-judged.ensures;
    }

pub loop-packet-preserved : goal.loop-packet-preserved
loop-packet-preserved c =
    let words = c.args.words.now in
    let later = map as_captured (drop (c.loop-packet.packet-index + 1) c.args.packets.now) in
    let before = judged_of c.loop-packet.judged in
    record {
      last = omega (arith, c.in_ok-judge_packet.ensures.last, c.in_ok-number.ensures);
      judged = ap (λ (n : ℕ). judged_packets words.at words.check_sums (judged_of c.judge_packet.new.judged) n later) c.in_ok-number.ensures
          ∙ ap (λ (state : JudgedValue). judged_packets words.at words.check_sums state (c.loop-packet.number + 1) later) c.in_ok-judge_packet.ensures.judged
          ∙ sym (at_drop_more (λ (packets : List CapturedPacket). judged_packets words.at words.check_sums before c.loop-packet.number (map as_captured packets))
          c.args.packets.now c.loop-packet.packet-index _ c.loop-packet-test.true)
          ∙ c.loop-packet.invariant.judged;
    }
