use Rattle.seen_octets.proofs.Whole.{whole_none}
use Rattle.seen_octets.proofs.places.SeenPlaces.new.Goals as goal

pub invariant_of-result : goal.invariant_of-result
invariant_of-result c = (c.requires, whole_none c.new.result c.args.from c.new.ensures)
