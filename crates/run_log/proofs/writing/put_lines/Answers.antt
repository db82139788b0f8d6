use Rattle.std.proofs.Common.{List, subst, arith}
use Rattle.std.specs.Prelude.{All}
use Rattle.std.specs.Borrow.{Bor}
use Rattle.std.proofs.lemmas.Grind.{common_steps}
use Rattle.std.proofs.lemmas.List.{take_all}
use Rattle.std.proofs.lemmas.List.Elements.{All-more}
use Rattle.actor_desk.specs.declared.ask.Note.{Note}
use Rattle.run_log.specs.Fitting.{NoteFits}
use Rattle.run_log.proofs.writing.put_lines.Goals as goal

pub loop-note-preserved : goal.loop-note-preserved
loop-note-preserved c = record {
  text = grind (arith, common_steps);
  fits = All-more (λ (note : Bor Note). NoteFits note.now) c.args.steps.now c.loop-note.note-index _ c.loop-note-test.true c.loop-note.invariant.fits (subst (λ (note : Bor Note). NoteFits note.now) c.note-item.is c.in_ok-put_line.ensures.fits);
}

pub returns-clause-fits : goal.returns-clause-fits
returns-clause-fits c = subst (λ (notes : List (Bor Note)). All (λ note. NoteFits note.now) notes) (take_all c.loop-note.note-index c.args.steps.now c.loop-note-test.false) c.loop-note.invariant.fits
