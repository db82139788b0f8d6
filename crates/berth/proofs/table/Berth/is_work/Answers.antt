use Rattle.std.proofs.Common.{rules, ◌∙◌}
use Rattle.berth.proofs.Keeping.{takes_work, looked_work, looked_none}
use Rattle.berth.proofs.table.Berth.is_work.Goals as goal

pub compare_exchange-found-requires : goal.compare_exchange-found-requires
compare_exchange-found-requires g c = (search rules, search rules, takes_work g.D.Deed.may g.D.Deed.does _ _ _ c.requires.free)

pub returns-clause-work : goal.returns-clause-work
returns-clause-work g c is =
    looked_work g.D.Deed.may c.compare_exchange-found.result c.args.seat.now.me c.compare_exchange-found.new.seat.me is c.compare_exchange-found.ensures.2

pub returns-clause-still : goal.returns-clause-still
returns-clause-still g c is =
    looked_none g.D.Deed.may c.compare_exchange-found.result c.args.seat.now.me c.compare_exchange-found.new.seat.me is c.compare_exchange-found.ensures.2 ∙ c.requires.free
