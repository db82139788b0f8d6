use Rattle.std.proofs.Common.{◌≡◌, drop}
use Rattle.octet_text.specs.Lines.{text_lines}
use Rattle.fault_help.proofs.words.behind_lines.Given as goal

abbrev pub invariant-loop-index : goal.invariant-loop-index
invariant-loop-index l = text_lines l.rest ≡ drop l.index (text_lines l.text)
