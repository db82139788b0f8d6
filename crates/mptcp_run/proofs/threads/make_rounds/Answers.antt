use Rattle.std.proofs.Common.{refl, ◌∙◌, sym, ap, ◌+◌, ◌-◌, arith}
use Rattle.mptcp_run.specs.WovenRounds.{WovenTo, AreWovenRounds}
use Rattle.run_outside.proofs.Calling.{only_none, only_then}
use Rattle.run_outside.proofs.PortsLemmas.{fault_after}
use Rattle.mptcp_run.proofs.Folding.{RoundsPut, RoundsCut}
use Rattle.mptcp_run.proofs.Courses.{woven_made, woven_cut}
use Rattle.mptcp_run.proofs.RoundsMade.{put_more, put_last, cut_later, cut_now, rounds_over}
use Rattle.mptcp_run.proofs.RoundsWoven.{woven_kind}
use Rattle.mptcp_run.proofs.ThreadsMade.{when_ok, when_err, less_none}
use Rattle.mptcp_run.proofs.threads.make_rounds.Goals as goal

pub loop-round-init : goal.loop-round-init
loop-round-init g c = record {
  begins = c.requires.begins;
  rest = c.requires.rest;
  opening = refl;
  rounds = c.requires.none;
  few = omega arith;
  put = λ count v new h. less_none (λ m. RoundsPut AreWovenRounds c.args.run.opening m 0 count c.args.run.world.state v
      (g.O.Outside.told c.args.outside.now) new) c.args.most h;
  cut = λ new status h. less_none (λ m. RoundsCut AreWovenRounds c.args.run.opening m 0 c.args.run.world.state
      (g.O.Outside.told c.args.outside.now) new status) c.args.most h;
  only = only_none _;
}

pub loop-round-preserved : goal.loop-round-preserved
loop-round-preserved g c =
    let inv = c.loop-round.invariant in
    let going = sym c.goes_on.ensures ∙ c.if-not-goes_on.false in
    let opening = c.make_round-next.ensures.opening in
    let made = when_ok c.make_round-next.result.1 c.in-Ok.field-0 c.in-Ok.is c.make_round-next.ensures.made in
    record {
      rest = c.make_round-next.ensures.rest;
      begins = when_ok c.make_round-next.result.1 c.in-Ok.field-0 c.in-Ok.is c.make_round-next.ensures.begins;
      opening = opening ∙ inv.opening;
      rounds = when_ok c.make_round-next.result.1 c.in-Ok.field-0 c.in-Ok.is c.make_round-next.ensures.rounds ∙ ap (λ n. n + 1) inv.rounds;
      few = omega (arith, c.loop-round-test.true);
      put = λ count v new rest. inv.put count v new
          (put_more WovenTo AreWovenRounds woven_kind c.loop-round.run.opening (c.args.most - c.loop-round._round) (c.args.most - (c.loop-round._round + 1)) c.loop-round._round c.loop-round.run.rounds
          (omega (arith, c.loop-round-test.true)) inv.rounds
          c.make_round-next.result.0.opening (c.loop-round._round + 1) count c.loop-round.run.world.state c.make_round-next.result.0.world.state v _ _ new
          opening (omega arith) going made rest);
      cut = λ new status rest. inv.cut new status
          (cut_later WovenTo AreWovenRounds woven_kind c.loop-round.run.opening (c.args.most - c.loop-round._round) (c.args.most - (c.loop-round._round + 1)) c.loop-round._round c.loop-round.run.rounds
          (omega (arith, c.loop-round-test.true)) inv.rounds
          c.make_round-next.result.0.opening (c.loop-round._round + 1) c.loop-round.run.world.state c.make_round-next.result.0.world.state _ _ new status
          opening (omega arith) going made rest);
      only = only_then _ _ _ inv.only c.make_round-next.ensures.only;
    }

pub returns-in-Err-clause-made : goal.returns-in-Err-clause-made
returns-in-Err-clause-made g c = record {
  ok = tt;
  stands = tt;
  cut = (let inv = c.loop-round.invariant in
      woven_cut c.args.run.opening c.args.most c.args.run.world.state _ _ c.in-Err.status
      (inv.cut _ c.in-Err.status
      (cut_now WovenTo AreWovenRounds woven_kind c.loop-round.run.opening (c.args.most - c.loop-round._round) (c.args.most - (c.loop-round._round + 1)) c.loop-round._round c.loop-round.run.rounds
      (omega (arith, c.loop-round-test.true)) inv.rounds
      c.loop-round.run.world.state _ _ c.in-Err.status (when_err _ c.make_round-next.result.1 c.in-Err.status c.in-Err.is c.make_round-next.ensures.stops))));
  fault = (fault_after _ _ _ c.in-Err.status c.loop-round.invariant.only.counted (when_err _ c.make_round-next.result.1 c.in-Err.status c.in-Err.is c.make_round-next.ensures.fault));
  only = (only_then _ _ _ c.loop-round.invariant.only c.make_round-next.ensures.only);
}

pub returns-then-not-goes_on-clause-made : goal.returns-then-not-goes_on-clause-made
returns-then-not-goes_on-clause-made g c = record {
  ok = (let inv = c.loop-round.invariant in
      woven_made c.args.run.opening c.args.most c.args.run.world.state _ _ c.make_round-next.result.0.rounds c.make_round-next.result.0.world.state
      (inv.put _ _ _
      (put_last WovenTo AreWovenRounds woven_kind c.loop-round.run.opening (c.args.most - c.loop-round._round) (c.args.most - (c.loop-round._round + 1)) c.loop-round._round c.loop-round.run.rounds
      (omega (arith, c.loop-round-test.true)) inv.rounds
      c.make_round-next.result.0.rounds c.loop-round.run.world.state c.make_round-next.result.0.world.state _ _ (sym c.goes_on.ensures ∙ c.if-not-goes_on.true)
      (when_ok c.make_round-next.result.1 c.in-Ok.field-0 c.in-Ok.is c.make_round-next.ensures.made)
      (when_ok c.make_round-next.result.1 c.in-Ok.field-0 c.in-Ok.is c.make_round-next.ensures.rounds ∙ ap (λ n. n + 1) inv.rounds))));
  stands = (when_ok c.make_round-next.result.1 c.in-Ok.field-0 c.in-Ok.is c.make_round-next.ensures.begins).stands;
  cut = tt;
  fault = tt;
  only = (only_then _ _ _ c.loop-round.invariant.only c.make_round-next.ensures.only);
}

pub returns-clause-made : goal.returns-clause-made
returns-clause-made g c = record {
  ok = (let inv = c.loop-round.invariant in
      woven_made c.args.run.opening c.args.most c.args.run.world.state _ _ c.loop-round.run.rounds c.loop-round.run.world.state
      (inv.put _ _ _
      (rounds_over WovenTo AreWovenRounds woven_kind c.loop-round.run.opening (c.args.most - c.loop-round._round) c.loop-round._round
      c.loop-round.run.rounds c.loop-round.run.world.state _ (omega (arith, c.loop-round-test.false)) inv.rounds)));
  stands = c.loop-round.invariant.begins.stands;
  cut = tt;
  fault = tt;
  only = (c.loop-round.invariant.only);
}
