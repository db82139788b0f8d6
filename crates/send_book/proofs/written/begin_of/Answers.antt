use Rattle.std.proofs.Common.{◌≡◌, ℕ, suc, ◌-◌, length, take, ap, arith}
use Rattle.send_book.specs.Written.{joined}
use Rattle.send_book.proofs.Parts.{end_at}
use Rattle.send_book.proofs.written.begin_of.Goals as goal

pub returns : goal.returns
returns c =
    let e : suc (c.args.count - 1) ≡ c.args.count = omega arith in
    let end = end_at 0 c.args.parts.now (c.args.count - 1) c.index-parts-count.result c.requires.follow (omega (arith, c.requires.within)) in
    omega (arith, end, ap (λ (n : ℕ). length (joined (take n c.args.parts.now))) e)
