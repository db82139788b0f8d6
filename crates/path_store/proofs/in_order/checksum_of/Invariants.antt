use Rattle.std.specs.List.{concat}
use Rattle.path_store.proofs.Parts.{Summed}
use Rattle.path_store.proofs.in_order.checksum_of.Given as goal

abbrev pub invariant-loop-part : goal.invariant-loop-part
invariant-loop-part l = Summed l.mapping l.count l.left l.sum (concat l.part-iterator) (concat l.fn.parts)
