use Rattle.run_log.proofs.LinesTell.{lines_tell_their_notes}
use Rattle.run_log.proofs.laws.a_line_tells_its_note.Goals as goal

pub returns : goal.returns
returns c = lines_tell_their_notes
