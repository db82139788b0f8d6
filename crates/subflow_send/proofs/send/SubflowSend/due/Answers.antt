use Rattle.std.proofs.Common.{◌-◌, Option, Some, map, find, sym, ap, ◌∙◌}
use Rattle.std.specs.Option.{option_map}
use Rattle.subflow_send.specs.declared.record.Sending.{Sending}
use Rattle.subflow_send.specs.Records.{Record}
use Rattle.subflow_send.specs.Rules.{is_unsent, syn_record, fin_record}
use Rattle.subflow_send.specs.Pieces.{piece_record, unsent_sending}
use Rattle.subflow_send.proofs.Whole.{first_some, find_all}
use Rattle.subflow_send.proofs.send.SubflowSend.due.Goals as goal

pub returns-in-Some-first_unsent-clause-value : goal.returns-in-Some-first_unsent-clause-value
returns-in-Some-first_unsent-clause-value c =
    let syn_none = sym c.if_unsent.ensures ∙ c.in_default.is in
    let rest : Option Record = option_map (fin_record (c.self.inside.nxt - 1)) (unsent_sending c.self.inside.fin) in
    rw (← c.self.view_is)
    (sym (find_all c.self.inside.syn c.self.inside.pieces (c.self.inside.nxt - 1) c.self.inside.fin
    ∙ ap (λ (o : Option Sending). first_some (option_map syn_record o) (first_some (find is_unsent (map piece_record c.self.inside.pieces)) rest)) syn_none
    ∙ ap (λ (o : Option Record). first_some o rest) (sym c.in-Some-first_unsent.ensures.value)))

pub returns-in-Some-if_unsent-clause-value : goal.returns-in-Some-if_unsent-clause-value
returns-in-Some-if_unsent-clause-value c =
    let syn_none = sym c.if_unsent.ensures ∙ c.in_default.is in
    let rest : Option Record = option_map (fin_record (c.self.inside.nxt - 1)) (unsent_sending c.self.inside.fin) in
    rw (← c.self.view_is)
    (sym (find_all c.self.inside.syn c.self.inside.pieces (c.self.inside.nxt - 1) c.self.inside.fin
    ∙ ap (λ (o : Option Sending). first_some (option_map syn_record o) (first_some (find is_unsent (map piece_record c.self.inside.pieces)) rest)) syn_none
    ∙ ap (λ (o : Option Record). first_some o rest) (sym c.in_default-first_unsent.ensures.value)
    ∙ ap (option_map (fin_record (c.self.inside.nxt - 1))) (sym c.if_unsent-2.ensures ∙ c.in-Some-if_unsent.is)
    ∙ ap (λ (r : Record). Some r) (sym c.fin_ref.ensures.value)))

pub returns-clause-value : goal.returns-clause-value
returns-clause-value c =
    let syn_none = sym c.if_unsent.ensures ∙ c.in_default.is in
    let rest : Option Record = option_map (fin_record (c.self.inside.nxt - 1)) (unsent_sending c.self.inside.fin) in
    rw (← c.self.view_is)
    (sym (find_all c.self.inside.syn c.self.inside.pieces (c.self.inside.nxt - 1) c.self.inside.fin
    ∙ ap (λ (o : Option Sending). first_some (option_map syn_record o) (first_some (find is_unsent (map piece_record c.self.inside.pieces)) rest)) syn_none
    ∙ ap (λ (o : Option Record). first_some o rest) (sym c.in_default-first_unsent.ensures.value)
    ∙ ap (option_map (fin_record (c.self.inside.nxt - 1))) (sym c.if_unsent-2.ensures ∙ c.in_default-if_unsent.is)))
