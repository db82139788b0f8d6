use Rattle.std.proofs.Common.{rules}
use Rattle.berth.proofs.Keeping.{given_on, in_slot, is_given, after_given}
use Rattle.berth.proofs.table.Berth.give.Goals as goal

pub exchange-requires : goal.exchange-requires
exchange-requires g c = (search rules, in_slot c.args.seat.now.me _ _ c.requires.opened)

pub store-requires : goal.store-requires
store-requires g c = (search rules, search rules, given_on g.D.Deed.may g.D.Deed.does _ _ _ c.args.job (is_given c.args.seat.now.me c.exchange.new.seat.me _ c.args.job _ c.requires.opened c.exchange.ensures.3) c.requires.may)

pub returns-clause-given : goal.returns-clause-given
returns-clause-given g c = after_given c.exchange.new.seat.me c.store.new.seat.me c.args.job (is_given c.args.seat.now.me c.exchange.new.seat.me _ c.args.job _ c.requires.opened c.exchange.ensures.3) c.store.ensures.2
