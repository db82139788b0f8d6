use Rattle.std.proofs.Common.{sym, ◌∙◌, ap, subst, ◌-◌, arith}
use Rattle.actor_desk.specs.Journals.{above}
use Rattle.world_laws.specs.Fine.{NotesRise}
use Rattle.journal_weave.proofs.Gathered.{rises_at, order_more}
use Rattle.journal_weave.proofs.ordering.order_above.Goals as goal

pub notes_above-requires : goal.notes_above-requires
notes_above-requires g c =
    subst (λ notes. NotesRise 0 notes) (sym c.as_slice.ensures)
    (rises_at c.args.crew.now (c.loop-left.left - 1) c.index-crew-left.result c.requires (let few = c.loop-left.invariant.few in omega (arith, few, c.loop-left-test.true)))

pub loop-left-preserved : goal.loop-left-preserved
loop-left-preserved g c =
    let inv = c.loop-left.invariant in
    record {
      few = omega (arith, inv.few);
      order = order_more c.args.after c.args.crew.now c.loop-left.left (c.loop-left.left - 1) c.index-crew-left.result c.notes_above.result.now _ _
          (omega (arith, c.loop-left-test.true)) inv.few (c.notes_above.ensures ∙ ap (above c.args.after) c.as_slice.ensures) c.in_ok-put_notes.ensures.order inv.order;
      sorted = c.in_ok-put_notes.ensures.sorted;
    }
