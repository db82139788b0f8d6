use Rattle.std.proofs.Common.{◌∙◌, ap, ◌-◌, arith}
use Rattle.std.specs.Prelude.{vec_capacity, vec_len}
use Rattle.connection_table.specs.Turns.{Turns}
use Rattle.connection_table.proofs.Turned.{opened_kept}
use Rattle.connection_table.proofs.slot.Slot.open.Goals as goal

pub invariant_of-result : goal.invariant_of-result
invariant_of-result c =
    let vec = c.turns.inside.turns in
    let room = ap (λ (t : Turns). t.room) c.turns.view_is in
    opened_kept c.args.input.now c.in_ok-copied.field-0 vec.items c.in_ok-open.field-0 c.in_ok-copied.ensures
    (ap (λ (t : Turns). t.made) c.turns.view_is ∙ (c.in_ok-reserve.ensures.made ∙ c.new-turns.ensures)) c.in_ok-open.ensures
    c.token_of.result (vec_capacity vec - vec_len vec) c.token_of.ensures c.requires.some_path
    (omega (arith, room, c.in_ok-reserve.ensures.room))
