use Rattle.std.proofs.Common.{Some, eq-eqb, sym, ap, ◌∙◌, arith}
use Rattle.subflow_send.specs.Records.{Record}
use Rattle.subflow_send.specs.Rules.{stands_at}
use Rattle.subflow_send.specs.Pieces.{piece_record}
use Rattle.subflow_send.proofs.ByPosition.{find_piece_at, find_piece_none}
use Rattle.subflow_send.proofs.pieces.piece_at.Goals as goal

pub returns-clause-value : goal.returns-clause-value
returns-clause-value c = sym (find_piece_none (stands_at c.args.pos) c.args.pieces.now.items (λ k d less. c.loop-index.invariant k d (omega arith)))

pub returns-then-found-pos-clause-value : goal.returns-then-found-pos-clause-value
returns-then-found-pos-clause-value c =
    let here = ap piece_record c.index-found.ensures in
    ap (λ (r : Record). Some r) (c.lend.ensures.value ∙ here)
    ∙ sym (find_piece_at (stands_at c.args.pos) c.args.pieces.now.items c.loop-index.index c.index-found.result.now (omega arith) c.loop-index.invariant
    (ap (stands_at c.args.pos) (sym here) ∙ eq-eqb c.index-found.result.now.pos c.args.pos c.if-found-pos.true))
