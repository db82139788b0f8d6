use Rattle.std.proofs.Common.{◌≡◌, ℕ, ◌<◌, ◌≤◌, Some, length, get_or, sym, ap, ◌∙◌, subst, ⊎_elim, add-one, arith}
use Rattle.std.proofs.lemmas.Bool.{cases_lt}
use Rattle.std.proofs.lemmas.List.{get_or_read}
use Rattle.subflow_send.specs.declared.pieces.Piece.{Piece}
use Rattle.subflow_send.specs.Pieces.{piece_end}
use Rattle.subflow_send.proofs.PieceLoops.{last_covered_at, sending_before-more}
use Rattle.subflow_send.proofs.pieces.last_covered.Goals as goal
use Rattle.subflow_send.proofs.pieces.last_covered.Goals.{then-pos-piece-via-then-pos-piece, then-pos-piece-via-else-pos-piece+then-pos-piece-2}

pub returns-then-pos-piece : goal.returns-then-pos-piece
returns-then-pos-piece c =
    let past : c.args.pos < piece_end c.index-piece.result.now = elim c.then-pos-piece.branch [
      | then-pos-piece-via-then-pos-piece w ↦ omega arith
      | then-pos-piece-via-else-pos-piece+then-pos-piece-2 w ↦ omega arith
    ] in
    c.loop-index.invariant.last_is
    ∙ last_covered_at c.args.pos c.args.pieces.now.items c.loop-index.index (omega arith) c.loop-index.invariant.before
    (λ d lt. subst (λ (p : Piece). c.args.pos < piece_end p) (get_or_read c.args.pieces.now.items c.loop-index.index c.index-piece.result.now lt c.index-piece.ensures d) past)

pub loop-index-preserved : goal.loop-index-preserved
loop-index-preserved c =
    let lt : c.loop-index.index < length c.args.pieces.now.items = omega arith in
    let own : piece_end c.index-piece.result.now ≤ c.args.pos = omega arith in record {
      before = λ k d less. ⊎_elim
          (λ h. c.loop-index.invariant.before k d h)
          (λ h. let e : c.loop-index.index ≡ k = omega arith in
          subst (λ (n : ℕ). piece_end (get_or c.args.pieces.now.items n d) ≤ c.args.pos) e
          (subst (λ (p : Piece). piece_end p ≤ c.args.pos) (get_or_read c.args.pieces.now.items c.loop-index.index c.index-piece.result.now lt c.index-piece.ensures d) own))
          (cases_lt k c.loop-index.index);
      last_is = rw add-one (ap (λ (p : Piece). Some p.sending) c.index-piece.ensures ∙ sym (sending_before-more c.args.pieces.now.items c.loop-index.index c.index-piece.result.now lt));
    }

pub returns : goal.returns
returns c =
    c.loop-index.invariant.last_is
    ∙ last_covered_at c.args.pos c.args.pieces.now.items c.loop-index.index (omega arith) c.loop-index.invariant.before (λ d lt. absurd (omega arith))
