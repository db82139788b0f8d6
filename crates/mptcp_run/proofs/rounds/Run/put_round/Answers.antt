use Rattle.std.proofs.Common.{refl}
use Rattle.std.proofs.lemmas.Result.{err_from_is_err_and}
use Rattle.mptcp_run.specs.Plan.{round_puts}
use Rattle.mptcp_run.proofs.RoundSteps.{round_untouched}
use Rattle.run_outside.proofs.Calling.{puts_none, puts_made, puts_ended}
use Rattle.mptcp_run.proofs.rounds.Run.put_round.Goals as goal

pub returns-clause-put : goal.returns-clause-put
returns-clause-put g c last since =
    let put = c.in_ok-put_piece.ensures last since in
    record { whole = put.whole; part = tt; puts = puts_made _ _ _ _ _ put.puts }

pub returns-in_default-clause-put : goal.returns-in_default-clause-put
returns-in_default-clause-put g c last since = record {
  whole = tt;
  part = round_untouched c.args.self.now.made.items last c.args.self.now.world.state c.args.self.now.opening c.args.self.now.rounds _ _ (λ p. refl) since;
  puts = puts_none (round_puts c.args.self.now.opening c.args.self.now.rounds last c.args.self.now.world.state) _;
}

pub returns-in_err-put_piece-clause-put : goal.returns-in_err-put_piece-clause-put
returns-in_err-put_piece-clause-put g c last since =
    let put = c.in_err-put_piece.ensures last since in let p = err_from_is_err_and c.from_residual.result c.from_residual.ensures.1 in
    rw (p.1, p.2) (record { whole = tt; part = put.part; puts = puts_ended _ _ _ c.in_err-put_piece.field-0.0 put.puts })
