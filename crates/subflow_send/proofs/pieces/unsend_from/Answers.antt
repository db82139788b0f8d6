use Rattle.std.proofs.Common.{◌≡◌, ◌+◌, ◌-◌, List, length, get_or, set, sym, ap, ◌∙◌, subst, arith}
use Rattle.subflow_send.specs.declared.pieces.Piece.{Piece}
use Rattle.subflow_send.specs.Pieces.{unsent_piece}
use Rattle.subflow_send.proofs.PieceLoops.{unsent_between, unsent_between-none, length-unsent_between, unsent_between-more, unsent_between-all}
use Rattle.subflow_send.proofs.pieces.unsend_from.Goals as goal

pub loop-index-init : goal.loop-index-init
loop-index-init c = sym (unsent_between-none c.args.from (c.args.from - c.args.from) c.args.pieces.now.items (omega arith))

pub index_mut-requires : goal.index_mut-requires
index_mut-requires c =
    omega (arith, ap length c.loop-index.invariant, length-unsent_between c.args.from (c.loop-index.index - c.args.from) c.args.pieces.now.items)

pub loop-index-preserved : goal.loop-index-preserved
loop-index-preserved c =
    let set_here = unsent_between-more c.args.from (c.loop-index.index - c.args.from) (c.loop-index.index + 1 - c.args.from) c.loop-index.index c.args.pieces.now.items c.index_mut.result.now
    (omega (arith, c.loop-index.auto.index)) (omega (arith, c.loop-index.auto.index)) (omega arith) in
    let P : List Piece → Type 0 = λ ps. set ps c.loop-index.index (unsent_piece (get_or ps c.loop-index.index c.index_mut.result.now)) ≡ unsent_between c.args.from (c.loop-index.index + 1 - c.args.from) c.args.pieces.now.items in
    ap (λ (p : Piece). set c.loop-index.pieces.items c.loop-index.index (unsent_piece p)) c.index_mut.ensures.value
    ∙ subst P (sym c.loop-index.invariant) set_here

pub returns : goal.returns
returns c = c.loop-index.invariant ∙ unsent_between-all c.args.from (c.loop-index.index - c.args.from) c.args.pieces.now.items (omega arith)
