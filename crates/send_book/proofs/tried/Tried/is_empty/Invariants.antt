use Rattle.std.proofs.Common.{◌≡◌, drop}
use Rattle.send_book.specs.Tried.{has_none}
use Rattle.send_book.proofs.tried.Tried.is_empty.Given as goal

abbrev pub invariant-loop-one : goal.invariant-loop-one
invariant-loop-one l = has_none (drop l.one-index l.one-items) ≡ has_none l.one-items
