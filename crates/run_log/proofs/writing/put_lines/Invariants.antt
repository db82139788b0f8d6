use Rattle.std.proofs.Common.{◌≡◌, ◌++◌, drop, take, map, string_bytes}
use Rattle.std.specs.Prelude.{All}
use Rattle.std.specs.List.{flat_map}
use Rattle.run_log.specs.Fitting.{NoteFits}
use Rattle.run_log.specs.Lines.{ended, step_text}
use Rattle.run_log.proofs.writing.put_lines.Given as goal

abbrev pub invariant-loop-note : goal.invariant-loop-note
invariant-loop-note l = record {
  text :
      string_bytes l.text ++ flat_map ended (map (λ note. step_text note.now) (drop l.note-index l.steps))
      ≡ string_bytes l.fn.text ++ flat_map ended (map (λ note. step_text note.now) l.steps);
  fits : All (λ note. NoteFits note.now) (take l.note-index l.steps);
}
