use Rattle.std.proofs.Common.{◌≡◌, ◌++◌, drop}
use Rattle.world_laws.specs.Outcomes.{read_by}
use Rattle.world_core.proofs.reading.read_by.Given as goal

abbrev pub invariant-loop-note : goal.invariant-loop-note
invariant-loop-note l = l.text ++ read_by (drop l.note-index l.notes) ≡ read_by l.notes
