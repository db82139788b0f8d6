use Rattle.std.proofs.Common.{◌≡◌, ◌<◌, drop, map}
use Rattle.capture_reader.specs.Captured.{as_captured}
use Rattle.rule_book.specs.Judged.{nothing_judged}
use Rattle.rule_book.specs.State.{judged_of}
use Rattle.capture_verdict.specs.Judging.{judged_packets}
use Rattle.capture_verdict.proofs.judging.judge_packets.Given as goal

abbrev pub invariant-loop-packet : goal.invariant-loop-packet
invariant-loop-packet l = record {
  last : l.judged.seen.last < l.number;
  judged : judged_packets l.words.at l.words.check_sums (judged_of l.judged) l.number (map as_captured (drop l.packet-index l.packets))
      ≡ judged_packets l.words.at l.words.check_sums nothing_judged 1 (map as_captured l.packets);
}
