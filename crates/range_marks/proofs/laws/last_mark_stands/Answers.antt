use Rattle.range_marks.proofs.MarkLaws.{last_mark_stands_lem}
use Rattle.range_marks.proofs.laws.last_mark_stands.Goals as goal

pub returns : goal.returns
returns g c = last_mark_stands_lem g.row.M.Denot
