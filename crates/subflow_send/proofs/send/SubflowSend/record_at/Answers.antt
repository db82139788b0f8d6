use Rattle.std.proofs.Common.{◌-◌, ◌==◌, not, if◌then◌else◌, Option, Some, None, map, find, sym, ap, ◌∙◌}
use Rattle.std.specs.Option.{option_map}
use Rattle.subflow_send.specs.declared.record.Sending.{Sending}
use Rattle.subflow_send.specs.Records.{Record}
use Rattle.subflow_send.specs.Rules.{syn_record, fin_record, stands_at}
use Rattle.subflow_send.specs.Pieces.{piece_record}
use Rattle.subflow_send.proofs.Whole.{first_some}
use Rattle.subflow_send.proofs.ByPosition.{record_at_is}
use Rattle.subflow_send.proofs.send.SubflowSend.record_at.Goals as goal

pub returns-in-Some-at-clause-value : goal.returns-in-Some-at-clause-value
returns-in-Some-at-clause-value c =
    let fin : Option Record = option_map (fin_record (c.self.inside.nxt - 1)) (if not (c.args.pos == c.self.inside.nxt - 1) then None else c.self.inside.fin) in
    rw (← c.self.view_is)
    (sym (record_at_is c.args.pos (c.self.inside.nxt - 1) c.self.inside.syn c.self.inside.fin c.self.inside.pieces
    ∙ ap (λ (o : Option Sending). first_some (option_map syn_record o) (first_some (find (stands_at c.args.pos) (map piece_record c.self.inside.pieces)) fin)) (sym c.unless.ensures ∙ c.in_default.is)
    ∙ ap (λ (o : Option Record). first_some o fin) (sym c.in-Some-at.ensures.value)))

pub returns-in-Some-unless-clause-value : goal.returns-in-Some-unless-clause-value
returns-in-Some-unless-clause-value c =
    let fin : Option Record = option_map (fin_record (c.self.inside.nxt - 1)) (if not (c.args.pos == c.self.inside.nxt - 1) then None else c.self.inside.fin) in
    rw (← c.self.view_is)
    (sym (record_at_is c.args.pos (c.self.inside.nxt - 1) c.self.inside.syn c.self.inside.fin c.self.inside.pieces
    ∙ ap (λ (o : Option Sending). first_some (option_map syn_record o) (first_some (find (stands_at c.args.pos) (map piece_record c.self.inside.pieces)) fin)) (sym c.unless.ensures ∙ c.in_default.is)
    ∙ ap (λ (o : Option Record). first_some o fin) (sym c.in_default-at.ensures.value)
    ∙ ap (option_map (fin_record (c.self.inside.nxt - 1))) (sym c.unless-2.ensures ∙ c.in-Some-unless.is)
    ∙ ap (λ (r : Record). Some r) (sym c.fin_ref.ensures.value)))

pub returns-clause-value : goal.returns-clause-value
returns-clause-value c =
    let fin : Option Record = option_map (fin_record (c.self.inside.nxt - 1)) (if not (c.args.pos == c.self.inside.nxt - 1) then None else c.self.inside.fin) in
    rw (← c.self.view_is)
    (sym (record_at_is c.args.pos (c.self.inside.nxt - 1) c.self.inside.syn c.self.inside.fin c.self.inside.pieces
    ∙ ap (λ (o : Option Sending). first_some (option_map syn_record o) (first_some (find (stands_at c.args.pos) (map piece_record c.self.inside.pieces)) fin)) (sym c.unless.ensures ∙ c.in_default.is)
    ∙ ap (λ (o : Option Record). first_some o fin) (sym c.in_default-at.ensures.value)
    ∙ ap (option_map (fin_record (c.self.inside.nxt - 1))) (sym c.unless-2.ensures ∙ c.in_default-unless.is)))
