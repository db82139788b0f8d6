use Rattle.std.proofs.Common.{◌-◌, set, ap, ◌∙◌, arith}
use Rattle.byte_pieces.specs.Pieces.{cut_end}
use Rattle.byte_pieces.proofs.Cutting.{last_cut-set}
use Rattle.byte_pieces.proofs.changes.cut_last.Goals as goal

pub returns-then-len-gt0 : goal.returns-then-len-gt0
returns-then-len-gt0 c =
    ap (set c.args.pieces.now.items (c.len-len.result - 1)) (c.cut_end.ensures ∙ ap (cut_end c.args.to) c.index_mut.ensures.value)
    ∙ last_cut-set c.args.to c.args.pieces.now.items (c.len-len.result - 1) c.index_mut.result.now (omega arith)
