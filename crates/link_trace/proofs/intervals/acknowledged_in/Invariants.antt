use Rattle.std.proofs.Common.{◌≡◌, max, drop}
use Rattle.link_trace.specs.Intervals.{acknowledged_in}
use Rattle.link_trace.proofs.intervals.acknowledged_in.Given as goal

abbrev pub invariant-loop-answer : goal.invariant-loop-answer
invariant-loop-answer l = max l.most (acknowledged_in l.row (drop l.answer-index l.answers)) ≡ acknowledged_in l.row l.answers
