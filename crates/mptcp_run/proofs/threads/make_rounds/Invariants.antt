use Rattle.std.proofs.Common.{◌≡◌, ◌≤◌, ◌-◌, None}
use Rattle.std.specs.Prelude.{All}
use Rattle.run_outside.specs.Calling.{OnlyPuts}
use Rattle.mptcp_run.specs.Rounds.{AtRound}
use Rattle.mptcp_run.specs.WovenRounds.{AreWovenRounds}
use Rattle.mptcp_run.proofs.threads.make_rounds.Given as goal
use Rattle.mptcp_run.proofs.Folding.{RoundsPut, RoundsCut}

-- what the rounds that are left come to, all rounds do
abbrev pub invariant-loop-round : goal.invariant-loop-round
invariant-loop-round g l = record {
  begins : AtRound l.run;
  rest : All (λ giver. giver ≡ None) l.givers;
  opening : l.run.opening ≡ l.initial.run.opening;
  rounds : l.run.rounds ≡ l._round;
  few : l._round ≤ l.most;
  put : (count : _) (v : _) (new : _) → RoundsPut AreWovenRounds l.run.opening (l.most - l._round) l._round count l.run.world.state v
      (g.O.Outside.told l.outside) new
      → RoundsPut AreWovenRounds l.initial.run.opening l.most 0 count l.initial.run.world.state v
      (g.O.Outside.told l.initial.outside) new;
  cut : (new : _) (status : _) → RoundsCut AreWovenRounds l.run.opening (l.most - l._round) l._round l.run.world.state
      (g.O.Outside.told l.outside) new status
      → RoundsCut AreWovenRounds l.initial.run.opening l.most 0 l.initial.run.world.state
      (g.O.Outside.told l.initial.outside) new status;
  only : OnlyPuts (g.O.Outside.told l.initial.outside) (g.O.Outside.told l.outside);
}
