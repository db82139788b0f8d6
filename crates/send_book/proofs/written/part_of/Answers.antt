use Rattle.std.proofs.Common.{◌≡◌, ℕ, List, IfOk, subst, arith}
use Rattle.send_book.proofs.Parts.{follow-rises, begins_by, cut_parts}
use Rattle.send_book.proofs.written.part_of.Goals as goal

pub ended_by-first-requires : goal.ended_by-first-requires
ended_by-first-requires c = follow-rises 0 c.args.parts.now c.requires.follow

pub overflow_sub-from : goal.overflow_sub-from
overflow_sub-from c =
    omega (
      arith,
      c.begin_of-begin.ensures,
      begins_by c.args.parts.now c.args.from c.ended_by-first.result c.requires.follow c.ended_by-first.ensures.within c.ended_by-first.ensures.ended,
    )

pub returns : goal.returns
returns c =
    let le = begins_by c.args.parts.now c.args.from c.ended_by-first.result c.requires.follow c.ended_by-first.ensures.within c.ended_by-first.ensures.ended in
    let P : List ℕ → Type 0 = λ xs. IfOk c.cut.result (λ text. text ≡ xs) in
    subst P (cut_parts c.args.parts.now c.ended_by-first.result c.begin_of-begin.result c.args.from _ c.begin_of-begin.ensures (omega (arith, c.begin_of-begin.ensures, le))) c.cut.ensures
