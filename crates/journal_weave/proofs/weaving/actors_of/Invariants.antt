use Rattle.std.proofs.Common.{◌≡◌, ◌++◌, drop, map}
use Rattle.journal_weave.proofs.weaving.actors_of.Given as goal

abbrev pub invariant-loop-note : goal.invariant-loop-note
invariant-loop-note l = l.actors.items ++ map (λ note. note.now.actor) (drop l.note-index l.order) ≡ map (λ note. note.now.actor) l.order
