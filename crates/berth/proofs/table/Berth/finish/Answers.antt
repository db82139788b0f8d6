use Rattle.std.proofs.Common.{rules}
use Rattle.berth.proofs.Keeping.{finishes, in_slot, swapped}
use Rattle.berth.proofs.table.Berth.finish.Goals as goal

pub exchange-requires : goal.exchange-requires
exchange-requires g c = (search rules, in_slot c.args.seat.now.me _ _ c.requires.works.1)

pub store-requires : goal.store-requires
store-requires g c = (search rules, search rules, finishes g.D.Deed.may g.D.Deed.does _ _ _ c.requires.works.0 c.args.done (swapped c.args.seat.now.me c.exchange.new.seat.me _ _ _ c.requires.works.1 c.exchange.ensures.3) c.requires.works.2)
