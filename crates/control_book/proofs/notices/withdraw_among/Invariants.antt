use Rattle.std.proofs.Common.{◌≡◌, drop}
use Rattle.std.specs.Prelude.{fold}
use Rattle.control_book.specs.Steps.{withdrawn_on}
use Rattle.control_book.proofs.notices.withdraw_among.Given as goal

abbrev pub invariant-loop-path : goal.invariant-loop-path
invariant-loop-path l =
    fold (withdrawn_on l.id l.paths) l.withdrawals (drop l.path-index l.among) ≡ fold (withdrawn_on l.id l.paths) l.initial.withdrawals l.among
