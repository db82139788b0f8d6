use Rattle.std.proofs.Common.{sym, ◌∙◌}
use Rattle.connection_table.proofs.Turned.{ended_kept}
use Rattle.connection_table.proofs.slot.Slot.end_round.Goals as goal

pub invariant_of-self-2 : goal.invariant_of-self-2
invariant_of-self-2 c =
    let s = c.self.inside in
    ended_kept s.token s.turns.room s.failed (record { input = s.input; turns = s.turns.made; world = s.world }) c.self.invariant
    c.put.new.self.made c.end_round.new.self (sym c.end_round.ensures.over ∙ c.if-not-end_round.false) c.put.ensures.made c.end_round.ensures.next
    c.put.new.self.room
