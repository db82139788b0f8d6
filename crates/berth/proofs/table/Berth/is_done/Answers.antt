use Rattle.std.proofs.Common.{rules}
use Rattle.berth.proofs.Keeping.{fetches, looked_done, looked_same}
use Rattle.berth.proofs.table.Berth.is_done.Goals as goal

pub load-requires : goal.load-requires
load-requires g c = (search rules, search rules, fetches g.D.Deed.may g.D.Deed.does _ _ _ c.requires.awaits.0 c.requires.awaits.1)

pub returns-clause-done : goal.returns-clause-done
returns-clause-done g c is = looked_done g.D.Deed.does c.load.result c.args.seat.now.me c.load.new.seat.me is c.load.ensures.2

pub returns-clause-still : goal.returns-clause-still
returns-clause-still g c is = looked_same g.D.Deed.does c.load.result c.args.seat.now.me c.load.new.seat.me is c.load.ensures.2
