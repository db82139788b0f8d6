use Rattle.std.proofs.Common.{◌^◌, ◌∙◌}
use Rattle.byte_pieces.proofs.Loops.{ordered-rises}
use Rattle.byte_pieces.proofs.Cutting.{pieces_below-taken}
use Rattle.byte_pieces.proofs.changes.cut_pieces.Goals as goal

pub begun_before-begun-requires : goal.begun_before-begun-requires
begun_before-begun-requires c = ordered-rises 0 (2 ^ 62) c.args.pieces.now.items c.requires

pub returns : goal.returns
returns c =
    c.cut_last.ensures
    ∙ pieces_below-taken 0 c.args.to (2 ^ 62) _ c.args.pieces.now.items _ c.requires c.begun_before-begun.ensures.value c.truncate.ensures.items
