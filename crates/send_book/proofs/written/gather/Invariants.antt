use Rattle.std.proofs.Common.{◌≡◌, ◌++◌, take, drop}
use Rattle.send_book.specs.Written.{joined}
use Rattle.send_book.proofs.written.gather.Given as goal

abbrev pub invariant-loop-part : goal.invariant-loop-part
invariant-loop-part l = l.text ++ take l.left (drop l.passed (joined (drop l.part-index l.parts))) ≡ take l.count (drop l.skip (joined l.parts))
