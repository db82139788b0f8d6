use Rattle.std.proofs.Common.{arith, sym, take_all, length-take-le}
use Rattle.fault_help.proofs.words.first_octets.Goals as goal

pub returns-then-word-le40 : goal.returns-then-word-le40
returns-then-word-le40 c = sym (take_all 40 c.args.word.now (omega (arith, c.if-word-le40.true)))

pub slice_bounds-result-end : goal.slice_bounds-result-end
slice_bounds-result-end c = sym (length-take-le 40 c.args.word.now (omega (arith, c.if-word-le40.false)))
