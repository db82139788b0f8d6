-- What is known behind the first packets of a capture.
use Rattle.std.specs.Prelude.{Bool, Option, List}
use Rattle.sides.specs.declared.side.Side.{Side}
use Rattle.capture_reader.specs.Captured.{Captured}
use Rattle.rule_book.specs.Judged.{nothing_judged}
use Rattle.rule_book.specs.State.{JudgedValue}
use Rattle.capture_verdict.specs.Judging.{judged_packets}

abbrev pub judged_first : Option Side → Bool → List Captured → JudgedValue
judged_first at check_sums packets = judged_packets at check_sums nothing_judged 1 packets
