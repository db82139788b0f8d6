use Rattle.std.proofs.Common.{rules}
use Rattle.berth.proofs.Keeping.{recalls, looked_back, looked_begun}
use Rattle.berth.proofs.table.Berth.is_recalled.Goals as goal

pub compare_exchange-found-requires : goal.compare_exchange-found-requires
compare_exchange-found-requires g c = (search rules, search rules, recalls g.D.Deed.may g.D.Deed.does _ _ _ c.requires.awaits.0 c.requires.awaits.1)

pub returns-clause-back : goal.returns-clause-back
returns-clause-back g c is = looked_back c.compare_exchange-found.result c.args.seat.now.me c.compare_exchange-found.new.seat.me is c.compare_exchange-found.ensures.2

pub returns-clause-still : goal.returns-clause-still
returns-clause-still g c is = looked_begun c.compare_exchange-found.result c.args.seat.now.me c.compare_exchange-found.new.seat.me is c.compare_exchange-found.ensures.2
