use Rattle.std.proofs.Common.{rules}
use Rattle.berth.proofs.Keeping.{in_slot, not_none, may_job, works_job}
use Rattle.berth.proofs.table.Berth.take_job.Goals as goal

pub exchange-requires : goal.exchange-requires
exchange-requires g c = (search rules, in_slot c.args.seat.now.me _ _ c.requires.work.2)

pub unreachable-requires : goal.unreachable-requires
unreachable-requires g c = not_none c.args.seat.now.me _ c.requires.work.0 c.exchange.result c.requires.work.2 c.exchange.ensures.2 c.in-None.is

pub returns-clause-may : goal.returns-clause-may
returns-clause-may g c = may_job g.D.Deed.may c.args.seat.now.me c.exchange.result c.in-Some.job c.requires.work c.exchange.ensures.2 c.in-Some.is

pub returns-clause-works : goal.returns-clause-works
returns-clause-works g c = works_job g.D.Deed.may c.args.seat.now.me c.exchange.new.seat.me c.exchange.result c.in-Some.job c.requires.work c.exchange.ensures.2 c.in-Some.is c.exchange.ensures.3
