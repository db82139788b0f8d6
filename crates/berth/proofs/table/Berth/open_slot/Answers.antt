use Rattle.std.proofs.Common.{rules}
use Rattle.berth.proofs.Keeping.{opens, looked_opened, looked_at_rest}
use Rattle.berth.proofs.table.Berth.open_slot.Goals as goal

pub load-requires : goal.load-requires
load-requires g c = (search rules, search rules, opens g.D.Deed.may g.D.Deed.does _ _ _ c.requires.rests)

pub returns-clause-opened : goal.returns-clause-opened
returns-clause-opened g c is = looked_opened c.load.result c.args.seat.now.me c.load.new.seat.me is c.load.ensures.2

pub returns-clause-still : goal.returns-clause-still
returns-clause-still g c is = looked_at_rest c.load.result c.args.seat.now.me c.load.new.seat.me c.requires.rests is c.load.ensures.2
