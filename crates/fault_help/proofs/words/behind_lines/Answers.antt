use Rattle.std.proofs.Common.{◌∙◌, ap, drop, drop-drop}
use Rattle.octet_text.specs.Lines.{text_lines}
use Rattle.fault_help.proofs.words.behind_lines.Goals as goal

pub loop-index-preserved : goal.loop-index-preserved
loop-index-preserved c = c.behind_line-rest.ensures ∙ ap (drop 1) c.loop-index.invariant ∙ drop-drop 1 c.loop-index.index (text_lines c.args.text.now)
