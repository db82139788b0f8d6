use Rattle.std.proofs.Common.{◌+◌, arith}
use Rattle.path_core.specs.Octets.{octets}
use Rattle.world_core.specs.Rounds.{RoundTo}
use Rattle.connection_table.specs.ManyRounds.{IsSerialEnd, RoundIfGoing}
use Rattle.connection_table.proofs.RoundMore.{each_says, each_then, first_round, serial_more}
use Rattle.connection_table.proofs.rounds.make_rounds.Goals as goal

pub loop-round-init : goal.loop-round-init
loop-round-init c = record {
  some = omega arith;
  few = c.requires.some;
  run = c.in_ok-begin_each.ensures.run;
  made = each_says (RoundTo octets) (IsSerialEnd 1) first_round c.args.table.now c.begin_each.new.table c.in_ok-begin_each.ensures.made;
}

pub loop-round-preserved : goal.loop-round-preserved
loop-round-preserved c = record {
  some = omega (arith, c.loop-round.invariant.some);
  few = omega (arith, c.loop-round-test.true);
  run = c.in_ok-go_on_each.ensures.run;
  made = each_then (IsSerialEnd c.loop-round._round) RoundIfGoing (IsSerialEnd (c.loop-round._round + 1)) (serial_more c.loop-round._round c.loop-round.invariant.some)
      c.args.table.now c.loop-round.table c.go_on_each.new.table c.loop-round.invariant.made c.in_ok-go_on_each.ensures.made;
}
