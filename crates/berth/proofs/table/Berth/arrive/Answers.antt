use Rattle.std.proofs.Common.{rules, ◌∙◌}
use Rattle.berth.proofs.Keeping.{arrives}
use Rattle.berth.proofs.table.Berth.arrive.Goals as goal

pub compare_exchange-requires : goal.compare_exchange-requires
compare_exchange-requires g c = (search rules, search rules, arrives g.D.Deed.may g.D.Deed.does _ _ _ c.requires.free)

pub returns-clause-free : goal.returns-clause-free
returns-clause-free g c = c.compare_exchange.ensures.2 ∙ c.requires.free
