use Rattle.std.proofs.Common.{refl}
use Rattle.mptcp_run.proofs.UnderWay.{opened_lists}
use Rattle.mptcp_run.proofs.rounds.Run.open.Goals as goal

pub returns : goal.returns
returns c = record {
  world = c.in_ok-world.ensures;
  opening = c.in_ok-opening.ensures;
  made_is = opened_lists c.args.input.now.script c.args.input.now.file_a c.args.input.now.file_b _ _ c.in_ok-made.ensures c.in_ok-world.ensures;
  rounds = refl;
}
