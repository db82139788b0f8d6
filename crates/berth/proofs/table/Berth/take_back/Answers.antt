use Rattle.std.proofs.Common.{rules}
use Rattle.berth.proofs.Keeping.{rests, in_slot, swapped, not_none, was_in_slot}
use Rattle.berth.proofs.table.Berth.take_back.Goals as goal

pub exchange-requires : goal.exchange-requires
exchange-requires g c = (search rules, in_slot c.args.seat.now.me _ _ c.requires.done.1)

pub store-requires : goal.store-requires
store-requires g c = (search rules, search rules, rests g.D.Deed.may g.D.Deed.does _ _ _ (swapped c.args.seat.now.me c.exchange.new.seat.me _ _ _ c.requires.done.1 c.exchange.ensures.3))

pub unreachable-requires : goal.unreachable-requires
unreachable-requires g c = not_none c.args.seat.now.me _ c.requires.done.0 c.exchange.result c.requires.done.1 c.exchange.ensures.2 c.in-None.is

pub returns-clause-was : goal.returns-clause-was
returns-clause-was g c = was_in_slot c.args.seat.now.me _ c.requires.done.0 c.exchange.result c.in-Some.job c.requires.done.1 c.exchange.ensures.2 c.in-Some.is
