use Rattle.std.proofs.Common.{◌∙◌, ap, ℕ, Some, List, arith}
use Rattle.subflow_send.proofs.AtPosition.{text_found, text_missing, text_past}
use Rattle.subflow_send.proofs.pieces.text_at.Goals as goal

pub returns-then-index-len : goal.returns-then-index-len
returns-then-index-len c =
    text_past c.args.pos c.begun_before-index.result c.args.pieces.now.items (omega arith) c.begun_before-index.ensures.before

pub returns-then-found-pos : goal.returns-then-found-pos
returns-then-found-pos c =
    let at = c.begun_before-index.ensures in
    text_missing c.args.pos c.begun_before-index.result c.args.pieces.now.items c.index-found.result.now c.requires (omega arith) c.index-found.ensures
    c.if-found-pos.true at.before at.behind

pub returns : goal.returns
returns c =
    let at = c.begun_before-index.ensures in
    ap (λ (octets : List ℕ). Some octets) c.as_text.ensures
    ∙ text_found c.args.pos c.begun_before-index.result c.args.pieces.now.items c.index-found.result.now (omega arith) c.index-found.ensures c.if-found-pos.false at.before
