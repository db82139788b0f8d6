use Rattle.std.proofs.Common.{sym, ◌∙◌, ap, [], ◌∷◌, ◌++◌, arith}
use Rattle.run_log.specs.declared.turn.Turn.TheVariants.{Step}
use Rattle.world_core.specs.Steps.{is_made}
use Rattle.connection_table.proofs.Turned.{made_kept}
use Rattle.connection_table.proofs.slot.Slot.step.Goals as goal

pub invariant_of-self-in-Ok-Made : goal.invariant_of-self-in-Ok-Made
invariant_of-self-in-Ok-Made c =
    let s = c.self.inside in
    made_kept s.token s.turns.room s.failed (record { input = s.input; turns = s.turns.made; world = s.world }) c.self.invariant
    c.args.actor c.put.new.self.made c.step.new.self c.in-Ok-Made.ensures.ok
    (sym c.in-Ok-Made.ensures.going ∙ ap is_made c.in-Ok-Made.field-0-is)
    (c.put.ensures.made ∙ ap (λ turns. turns ++ Step c.args.actor ∷ []) c.in_ok-reserve.ensures.made)
    c.put.new.self.room c.in-Ok-Made.ensures.was (omega (arith, c.in_ok-reserve.ensures.room, c.put.ensures.room))
