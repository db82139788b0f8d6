use Rattle.std.proofs.Common.{◌-◌, List, map, refl, sym, ap, ◌∙◌, arith}
use Rattle.std.specs.Prelude.{is_some}
use Rattle.subflow_send.specs.declared.pieces.Piece.{Piece}
use Rattle.subflow_send.specs.Records.{Record, span_of}
use Rattle.subflow_send.specs.Sendings.{sent_again}
use Rattle.subflow_send.specs.Pieces.{piece_record, all_records}
use Rattle.subflow_send.proofs.Whole.{kept_same, is_some-map, spans-sent, sent_all-pieces, sent_all-fin}
use Rattle.subflow_send.proofs.Covering.{piece_len-all}
use Rattle.subflow_send.proofs.send.SubflowSend.sent.Goals as goal

pub send_unsent-requires : goal.send_unsent-requires
send_unsent-requires c =
    omega (arith, piece_len-all c.self.inside.syn c.self.inside.pieces c.self.inside.fin c.self.inside.una c.self.inside.nxt c.self.invariant.tile, c.self.invariant.bound)

pub invariant_of-self-then-send_unsent : goal.invariant_of-self-then-send_unsent
invariant_of-self-then-send_unsent c =
    kept_same c.self.inside.una c.self.inside.nxt c.self.inside.syn c.self.inside.syn c.self.inside.pieces c.send_unsent.new.self c.self.inside.fin c.self.inside.fin c.self.inside.finished
    c.self.invariant refl refl (ap (λ (ps : List Piece). map span_of (map piece_record ps)) c.send_unsent.ensures.sent ∙ spans-sent c.args.now c.self.inside.pieces)

pub returns-then-send_unsent : goal.returns-then-send_unsent
returns-then-send_unsent c =
    rw (← c.self.view_is)
    (ap (λ (rs : List Record). record { una = c.self.inside.una; nxt = c.self.inside.nxt; records = rs; finished = c.self.inside.finished })
    (ap (λ (ps : List Piece). all_records c.self.inside.syn ps (c.self.inside.nxt - 1) c.self.inside.fin) c.send_unsent.ensures.sent
    ∙ sym (sent_all-pieces c.args.now c.self.inside.syn c.self.inside.pieces (c.self.inside.nxt - 1) c.self.inside.fin
    (sym c.if_unsent.ensures ∙ c.in_default.is) (sym c.send_unsent.ensures.some ∙ c.if-send_unsent.true))))

pub invariant_of-self-2 : goal.invariant_of-self-2
invariant_of-self-2 c =
    kept_same c.self.inside.una c.self.inside.nxt c.self.inside.syn c.self.inside.syn c.self.inside.pieces c.send_unsent.new.self c.self.inside.fin c.again-self-inside.result c.self.inside.finished
    c.self.invariant refl (ap is_some c.again-self-inside.ensures ∙ is_some-map (sent_again c.args.now) c.self.inside.fin)
    (ap (λ (ps : List Piece). map span_of (map piece_record ps)) c.send_unsent.ensures.sent ∙ spans-sent c.args.now c.self.inside.pieces)

pub returns : goal.returns
returns c =
    let some = rw (← c.self.view_is) at c.requires in
    rw (← c.self.view_is)
    (ap (λ (rs : List Record). record { una = c.self.inside.una; nxt = c.self.inside.nxt; records = rs; finished = c.self.inside.finished })
    (ap (λ (ps : List Piece). all_records c.self.inside.syn ps (c.self.inside.nxt - 1) c.again-self-inside.result) c.send_unsent.ensures.sent
    ∙ ap (all_records c.self.inside.syn (Rattle.subflow_send.specs.Pieces.sent_pieces c.args.now c.self.inside.pieces) (c.self.inside.nxt - 1)) c.again-self-inside.ensures
    ∙ sym (sent_all-fin c.args.now c.self.inside.syn c.self.inside.pieces (c.self.inside.nxt - 1) c.self.inside.fin
    (sym c.if_unsent.ensures ∙ c.in_default.is) (sym c.send_unsent.ensures.some ∙ c.if-send_unsent.false) some)))
