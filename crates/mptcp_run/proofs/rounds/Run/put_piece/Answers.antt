use Rattle.std.proofs.Common.{refl, arith}
use Rattle.mptcp_run.specs.Plan.{round_puts}
use Rattle.mptcp_run.proofs.RoundSteps.{round_untouched}
use Rattle.run_outside.proofs.Calling.{puts_none}
use Rattle.mptcp_run.proofs.PutsMade.{piece_put}
use Rattle.mptcp_run.proofs.rounds.Run.put_piece.Goals as goal

pub returns-in-Ok : goal.returns-in-Ok
returns-in-Ok g c last since =
    let piece = c.in-Ok.ensures in let put = c.put.ensures in
    piece_put c.args.self.now.made.items last c.args.self.now.world.state c.args.self.now.opening c.args.self.now.rounds _ _ _
    piece.read_by_b piece.read_by_a piece.lines since (let few = c.requires.few in omega (arith, few)) piece.fits _ _ c.put.result
    put.read_by_b put.read_by_a put.log put.read_by_b_err put.read_by_a_err put.log_err put.puts

pub returns-in-Err : goal.returns-in-Err
returns-in-Err g c last since = record {
  whole = tt;
  part = round_untouched c.args.self.now.made.items last c.args.self.now.world.state c.args.self.now.opening c.args.self.now.rounds _ _ (λ p. refl) since;
  puts = puts_none (round_puts c.args.self.now.opening c.args.self.now.rounds last c.args.self.now.world.state) _;
}
