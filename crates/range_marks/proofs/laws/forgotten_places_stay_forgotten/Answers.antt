use Rattle.range_marks.proofs.MarkLaws.{forgotten_places_stay_forgotten_lem}
use Rattle.range_marks.proofs.laws.forgotten_places_stay_forgotten.Goals as goal

pub returns : goal.returns
returns g c = forgotten_places_stay_forgotten_lem g.row.M.Denot
