-- The text of a script, part after part.
use Rattle.std.proofs.Common.{◌≡◌, ℕ, List, ◌++◌, sym, append_assoc}
use Rattle.std.specs.List.{flat_map}
use Rattle.std.proofs.lemmas.List.Concat.{flat_map-append}
use Rattle.std.proofs.lemmas.List.{append-nil}
use Rattle.link_script.specs.declared.line.Line.{Line}
use Rattle.link_script.specs.declared.line.Line.TheVariants.{Header, End}
use Rattle.link_script.specs.declared.script.Script.{Script}
use Rattle.link_script.specs.Versions.{version_of}
use Rattle.link_script.specs.Writing.{ended, seed_lines, checksum_lines, short_lines, buffer_lines, path_lines, event_lines, text_of}

abbrev pub text_in : List Line → List ℕ
text_in lines = flat_map ended lines

abbrev pub text_so_far : Script → List ℕ
text_so_far script =
    ((((((ended (Header (version_of script.lines)) ++ text_in (seed_lines script.seed)) ++ text_in (checksum_lines script.checksum)) ++ text_in (short_lines script.short)) ++ text_in (buffer_lines script.buffer)) ++ text_in (path_lines 0 script.paths)) ++ text_in (event_lines script.lines)) ++ ended End

pub parts_of_text : (script : Script) → text_so_far script ≡ text_of script
unfolding text_of
parts_of_text script = sym (simp (flat_map-append, append_assoc, append-nil))
