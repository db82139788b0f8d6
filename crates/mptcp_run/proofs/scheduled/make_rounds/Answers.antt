use Rattle.std.proofs.Common.{◌∙◌, sym, ap, ◌+◌, ◌-◌, arith}
use Rattle.std.proofs.lemmas.Result.{err_from_is_err_and}
use Rattle.run_outside.proofs.Calling.{only_then}
use Rattle.run_outside.proofs.PortsLemmas.{fault_after}
use Rattle.mptcp_run.specs.Schedules.{RoundBy, AreRoundsBy}
use Rattle.mptcp_run.proofs.Courses.{scheduled_made, scheduled_cut}
use Rattle.mptcp_run.proofs.RoundsMade.{put_more, put_last, cut_later, cut_now, rounds_over}
use Rattle.mptcp_run.proofs.BySchedule.{kind_by}
use Rattle.mptcp_run.proofs.scheduled.make_rounds.Goals as goal

pub loop-round-preserved : goal.loop-round-preserved
loop-round-preserved g c =
    let inv = c.loop-round.invariant in let made = c.in_ok-make_round.ensures in
    let going = sym c.goes_on.ensures ∙ c.if-not-goes_on.false in
    record {
      begins = made.begins;
      opening = made.opening ∙ inv.opening;
      rounds = made.rounds ∙ ap (λ n. n + 1) inv.rounds;
      few = omega (arith, c.loop-round-test.true);
      put = λ count v new rest. inv.put count v new
          (put_more (RoundBy c.args.schedule) (λ n ts w. AreRoundsBy c.args.schedule n ts w) (kind_by c.args.schedule) c.loop-round.run.opening (c.args.most - c.loop-round._round) (c.args.most - (c.loop-round._round + 1)) c.loop-round._round c.loop-round.run.rounds
          (omega (arith, c.loop-round-test.true)) inv.rounds
          c.make_round.new.run.opening (c.loop-round._round + 1) count c.loop-round.run.world.state c.make_round.new.run.world.state v _ _ new
          made.opening (omega arith) going made.made rest);
      cut = λ new status rest. inv.cut new status
          (cut_later (RoundBy c.args.schedule) (λ n ts w. AreRoundsBy c.args.schedule n ts w) (kind_by c.args.schedule) c.loop-round.run.opening (c.args.most - c.loop-round._round) (c.args.most - (c.loop-round._round + 1)) c.loop-round._round c.loop-round.run.rounds
          (omega (arith, c.loop-round-test.true)) inv.rounds
          c.make_round.new.run.opening (c.loop-round._round + 1) c.loop-round.run.world.state c.make_round.new.run.world.state _ _ new status
          made.opening (omega arith) going made.made rest);
      only = only_then _ _ _ inv.only made.only;
    }

pub returns-in_err-make_round-clause-cut : goal.returns-in_err-make_round-clause-cut
returns-in_err-make_round-clause-cut g c =
    let inv = c.loop-round.invariant in let p = err_from_is_err_and c.from_residual.result c.from_residual.ensures.1 in
    rw (p.1, p.2) (scheduled_cut c.args.run.now.opening c.args.most c.args.run.now.world.state _ _ c.args.schedule c.in_err-make_round.field-0.0
    (inv.cut _ c.in_err-make_round.field-0.0
    (cut_now (RoundBy c.args.schedule) (λ n ts w. AreRoundsBy c.args.schedule n ts w) (kind_by c.args.schedule) c.loop-round.run.opening (c.args.most - c.loop-round._round) (c.args.most - (c.loop-round._round + 1)) c.loop-round._round c.loop-round.run.rounds
    (omega (arith, c.loop-round-test.true)) inv.rounds
    c.loop-round.run.world.state _ _ c.in_err-make_round.field-0.0 c.in_err-make_round.ensures.stops)))

pub returns-then-not-goes_on-clause-ok : goal.returns-then-not-goes_on-clause-ok
returns-then-not-goes_on-clause-ok g c =
    let inv = c.loop-round.invariant in let made = c.in_ok-make_round.ensures in
    scheduled_made c.args.run.now.opening c.args.most c.args.run.now.world.state _ _ c.args.schedule c.make_round.new.run.rounds c.make_round.new.run.world.state
    (inv.put _ _ _
    (put_last (RoundBy c.args.schedule) (λ n ts w. AreRoundsBy c.args.schedule n ts w) (kind_by c.args.schedule) c.loop-round.run.opening (c.args.most - c.loop-round._round) (c.args.most - (c.loop-round._round + 1)) c.loop-round._round c.loop-round.run.rounds
    (omega (arith, c.loop-round-test.true)) inv.rounds
    c.make_round.new.run.rounds c.loop-round.run.world.state c.make_round.new.run.world.state _ _ (sym c.goes_on.ensures ∙ c.if-not-goes_on.true) made.made
    (made.rounds ∙ ap (λ n. n + 1) inv.rounds)))

pub returns-clause-ok : goal.returns-clause-ok
returns-clause-ok g c =
    let inv = c.loop-round.invariant in
    scheduled_made c.args.run.now.opening c.args.most c.args.run.now.world.state _ _ c.args.schedule c.loop-round.run.rounds c.loop-round.run.world.state
    (inv.put _ _ _
    (rounds_over (RoundBy c.args.schedule) (λ n ts w. AreRoundsBy c.args.schedule n ts w) (kind_by c.args.schedule) c.loop-round.run.opening (c.args.most - c.loop-round._round) c.loop-round._round
    c.loop-round.run.rounds c.loop-round.run.world.state _ (omega (arith, c.loop-round-test.false)) inv.rounds))

pub returns-then-not-goes_on-clause-stands : goal.returns-then-not-goes_on-clause-stands
returns-then-not-goes_on-clause-stands g c = c.in_ok-make_round.ensures.begins.stands

pub returns-clause-stands : goal.returns-clause-stands
returns-clause-stands g c = c.loop-round.invariant.begins.stands

pub returns-in_err-make_round-clause-fault : goal.returns-in_err-make_round-clause-fault
returns-in_err-make_round-clause-fault g c =
    let p = err_from_is_err_and c.from_residual.result c.from_residual.ensures.1 in
    rw (p.1, p.2) (fault_after _ _ _ c.in_err-make_round.field-0.0 c.loop-round.invariant.only.counted c.in_err-make_round.ensures.fault)

pub returns-in_err-make_round-clause-only : goal.returns-in_err-make_round-clause-only
returns-in_err-make_round-clause-only g c = only_then _ _ _ c.loop-round.invariant.only c.in_err-make_round.ensures.only

pub returns-then-not-goes_on-clause-only : goal.returns-then-not-goes_on-clause-only
returns-then-not-goes_on-clause-only g c = only_then _ _ _ c.loop-round.invariant.only c.in_ok-make_round.ensures.only

pub returns-clause-only : goal.returns-clause-only
returns-clause-only g c = c.loop-round.invariant.only
