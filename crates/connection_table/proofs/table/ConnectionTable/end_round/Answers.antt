use Rattle.std.proofs.Common.{◌≡◌, ap, length, arith}
use Rattle.connection_table.specs.Steps.{after_end, ends}
use Rattle.connection_table.specs.Tables.{Entry}
use Rattle.connection_table.proofs.Changing.{changed_table, of_old, others, put_next}
use Rattle.connection_table.proofs.table.ConnectionTable.end_round.Goals as goal

pub invariant_of-self : goal.invariant_of-self
invariant_of-self c =
    changed_table c.args.self.now c.self.inside.slots.items c.self.view_is c.args.connection c.from.result c.from.ensures
    (omega (arith, c.from.ensures, c.requires, ap length c.self.view_is)) c.index_mut.result.now c.end_round.new.self c.index_mut.ensures.value
    c.self.invariant c.end_round.ensures.input

pub returns-clause-over : goal.returns-clause-over
returns-clause-over c =
    of_old c.args.self.now c.self.inside.slots.items c.self.view_is c.args.connection c.from.result c.from.ensures
    (omega (arith, c.from.ensures, c.requires, ap length c.self.view_is)) c.index_mut.result.now c.end_round.new.self c.index_mut.ensures.value
    (λ (entry : Entry). c.end_round.result ≡ ends entry) c.end_round.ensures.over

pub returns-clause-next : goal.returns-clause-next
returns-clause-next c =
    of_old c.args.self.now c.self.inside.slots.items c.self.view_is c.args.connection c.from.result c.from.ensures
    (omega (arith, c.from.ensures, c.requires, ap length c.self.view_is)) c.index_mut.result.now c.end_round.new.self c.index_mut.ensures.value
    _
    (put_next c.args.self.now c.self.inside.slots.items c.self.view_is c.args.connection c.from.result c.from.ensures
    (omega (arith, c.from.ensures, c.requires, ap length c.self.view_is)) c.index_mut.result.now c.end_round.new.self c.index_mut.ensures.value
    (after_end c.index_mut.result.now) c.end_round.ensures.next)

pub returns-clause-others : goal.returns-clause-others
returns-clause-others c =
    others c.args.self.now c.self.inside.slots.items c.self.view_is c.args.connection c.from.result c.from.ensures
    (omega (arith, c.from.ensures, c.requires, ap length c.self.view_is)) c.index_mut.result.now c.end_round.new.self c.index_mut.ensures.value
