use Rattle.std.proofs.Common.{◌-◌, List, map, refl, sym, ap, ◌∙◌}
use Rattle.std.specs.Prelude.{is_some}
use Rattle.subflow_send.specs.Records.{Record, span_of}
use Rattle.subflow_send.specs.Sendings.{to_be_sent}
use Rattle.subflow_send.specs.Pieces.{piece_record}
use Rattle.subflow_send.proofs.PieceLoops.{map-unsent_from_0}
use Rattle.subflow_send.proofs.Whole.{kept_same, is_some-map, spans-unsent, spans-expired, expired_all-syn}
use Rattle.subflow_send.proofs.send.SubflowSend.expired.Goals as goal

pub invariant_of-self : goal.invariant_of-self
invariant_of-self c =
    kept_same c.self.inside.una c.self.inside.nxt c.self.inside.syn _ c.self.inside.pieces c.expire_all.new.self c.self.inside.fin c.unsent_again-self-inside.result c.self.inside.finished
    c.self.invariant (sym (ap is_some c.in-Some.is)) (ap is_some c.unsent_again-self-inside.ensures ∙ is_some-map to_be_sent c.self.inside.fin)
    (ap (map span_of) (map-unsent_from_0 c.self.inside.pieces c.expire_all.new.self c.expire_all.ensures) ∙ spans-unsent (map piece_record c.self.inside.pieces))

pub returns-in-Some : goal.returns-in-Some
returns-in-Some c =
    rw (← c.self.view_is, c.in-Some.is, c.first_at_an_expiry.ensures, c.unsent_again-self-inside.ensures)
    (ap (λ (rs : List Record). record { una = c.self.inside.una; nxt = c.self.inside.nxt; records = rs; finished = c.self.inside.finished })
    (expired_all-syn c.in-Some.syn c.self.inside.pieces c.expire_all.new.self (c.self.inside.nxt - 1) c.self.inside.fin
    (map-unsent_from_0 c.self.inside.pieces c.expire_all.new.self c.expire_all.ensures)))

pub invariant_of-self-then-expire_first : goal.invariant_of-self-then-expire_first
invariant_of-self-then-expire_first c =
    kept_same c.self.inside.una c.self.inside.nxt c.self.inside.syn c.self.inside.syn c.self.inside.pieces c.expire_first.new.self c.self.inside.fin c.unsent_again-self-inside-then-expire_first.result c.self.inside.finished
    c.self.invariant refl (ap is_some c.unsent_again-self-inside-then-expire_first.ensures ∙ is_some-map to_be_sent c.self.inside.fin)
    (ap (map span_of) c.expire_first.ensures.marked ∙ spans-expired (map piece_record c.self.inside.pieces))
