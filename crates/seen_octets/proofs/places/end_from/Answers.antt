use Rattle.seen_octets.proofs.Whole.{whole_all, whole_gap}
use Rattle.seen_octets.proofs.places.end_from.Goals as goal

pub returns-in-Some : goal.returns-in-Some
returns-in-Some c = whole_gap c.args.runs.now c.args.place c.in-Some.begin c.in-Some.field-0-1 c.in-Some.ensures.some

pub returns-in-None : goal.returns-in-None
returns-in-None c = whole_all c.args.runs.now c.args.place c.requires c.in-None.ensures.none
