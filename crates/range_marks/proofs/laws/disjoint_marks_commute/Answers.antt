use Rattle.range_marks.proofs.MarkLaws.{disjoint_marks_commute_lem}
use Rattle.range_marks.proofs.laws.disjoint_marks_commute.Goals as goal

pub returns : goal.returns
returns g c = disjoint_marks_commute_lem g.row.M.Denot
