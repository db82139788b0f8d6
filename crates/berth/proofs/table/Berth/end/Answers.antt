use Rattle.std.proofs.Common.{rules}
use Rattle.berth.proofs.Keeping.{ends}
use Rattle.berth.proofs.table.Berth.end.Goals as goal

pub store-requires : goal.store-requires
store-requires g c = (search rules, search rules, ends g.D.Deed.may g.D.Deed.does _ _ _ c.requires.rests)
