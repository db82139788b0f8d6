use Rattle.path_core.proofs.Words.{◌≡◌, ◌++◌, take, concat}
use Rattle.path_core.proofs.deliver.text_of.Given as goal

abbrev pub invariant-loop-part : goal.invariant-loop-part
invariant-loop-part l = l.text ++ take l.left (concat l.part-iterator) ≡ take l.count (concat l.fn.parts)
