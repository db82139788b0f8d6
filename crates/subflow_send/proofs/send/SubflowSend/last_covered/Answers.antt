use Rattle.std.proofs.Common.{Option, map, sym, ap, ◌∙◌}
use Rattle.std.specs.Option.{option_map}
use Rattle.subflow_send.specs.declared.record.Sending.{Sending}
use Rattle.subflow_send.specs.Rules.{last_covered}
use Rattle.subflow_send.specs.Pieces.{piece_record, sending_of}
use Rattle.subflow_send.proofs.Whole.{first_some}
use Rattle.subflow_send.proofs.Covering.{last_all}
use Rattle.subflow_send.proofs.send.SubflowSend.last_covered.Goals as goal

pub returns-in-Some : goal.returns-in-Some
returns-in-Some c =
    let above = rw (← c.self.view_is) at c.requires in
    let P : Option Sending = first_some (option_map sending_of (last_covered c.args.pos (map piece_record c.self.inside.pieces))) c.self.inside.syn in
    rw (← c.self.view_is)
    (sym (last_all c.self.inside.syn c.self.inside.pieces c.self.inside.fin c.self.inside.una c.self.inside.nxt c.args.pos c.self.invariant.tile c.self.invariant.begun above
    ∙ ap (λ (o : Option Sending). first_some o P) (sym c.unless.ensures ∙ c.in-Some.is)))

pub returns-in-Some-last_covered : goal.returns-in-Some-last_covered
returns-in-Some-last_covered c =
    let above = rw (← c.self.view_is) at c.requires in
    let P : Option Sending = first_some (option_map sending_of (last_covered c.args.pos (map piece_record c.self.inside.pieces))) c.self.inside.syn in
    rw (← c.self.view_is)
    (sym (last_all c.self.inside.syn c.self.inside.pieces c.self.inside.fin c.self.inside.una c.self.inside.nxt c.args.pos c.self.invariant.tile c.self.invariant.begun above
    ∙ ap (λ (o : Option Sending). first_some o P) (sym c.unless.ensures ∙ c.in_default.is)
    ∙ ap (λ (o : Option Sending). first_some o c.self.inside.syn) (sym c.last_covered.ensures ∙ c.in-Some-last_covered.is)))

pub returns : goal.returns
returns c =
    let above = rw (← c.self.view_is) at c.requires in
    let P : Option Sending = first_some (option_map sending_of (last_covered c.args.pos (map piece_record c.self.inside.pieces))) c.self.inside.syn in
    rw (← c.self.view_is)
    (sym (last_all c.self.inside.syn c.self.inside.pieces c.self.inside.fin c.self.inside.una c.self.inside.nxt c.args.pos c.self.invariant.tile c.self.invariant.begun above
    ∙ ap (λ (o : Option Sending). first_some o P) (sym c.unless.ensures ∙ c.in_default.is)
    ∙ ap (λ (o : Option Sending). first_some o c.self.inside.syn) (sym c.last_covered.ensures ∙ c.in_default-last_covered.is)))
