use Rattle.std.proofs.Common.{◌≡◌, drop}
use Rattle.seen_streams.specs.Shows.{stream_of}
use Rattle.rule_book.specs.Facts.{facts_of}
use Rattle.rule_book.specs.Stream.{within_each}
use Rattle.rule_book.proofs.positions.judge_within.Given as goal

abbrev pub invariant-loop-mapping : goal.invariant-loop-mapping
invariant-loop-mapping l =
    within_each (facts_of l.judging) l.position (drop l.mapping-index l.mappings) (stream_of l.stream)
    ≡ within_each (facts_of l.judging) l.position l.mappings (stream_of l.fn.stream)
