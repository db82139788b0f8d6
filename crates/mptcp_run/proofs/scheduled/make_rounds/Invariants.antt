use Rattle.std.proofs.Common.{◌≡◌, ◌≤◌, ◌-◌, ℕ, List}
use Rattle.world_laws.specs.Worlds.{Turn}
use Rattle.run_outside.specs.Calling.{OnlyPuts}
use Rattle.mptcp_run.specs.Rounds.{AtRound}
use Rattle.mptcp_run.specs.Schedules.{AreRoundsBy}
use Rattle.mptcp_run.specs.declared.schedule.Schedule.{Schedule}
use Rattle.mptcp_run.proofs.scheduled.make_rounds.Given as goal
use Rattle.mptcp_run.proofs.Folding.{RoundsPut, RoundsCut}
use Rattle.mptcp_run.specs.Task.{Connection}

abbrev by : Schedule → ℕ → List Turn → Connection → Type 0
by schedule n ts w = AreRoundsBy schedule n ts w

-- what the rounds that are left come to, all rounds do
abbrev pub invariant-loop-round : goal.invariant-loop-round
invariant-loop-round g l = record {
  begins : AtRound l.run;
  opening : l.run.opening ≡ l.initial.run.opening;
  rounds : l.run.rounds ≡ l._round;
  few : l._round ≤ l.most;
  put : (count : _) (v : _) (new : _) → RoundsPut (by l.schedule) l.run.opening (l.most - l._round) l._round count l.run.world.state v
      (g.O.Outside.told l.outside) new
      → RoundsPut (by l.schedule) l.initial.run.opening l.most 0 count l.initial.run.world.state v
      (g.O.Outside.told l.initial.outside) new;
  cut : (new : _) (status : _) → RoundsCut (by l.schedule) l.run.opening (l.most - l._round) l._round l.run.world.state
      (g.O.Outside.told l.outside) new status
      → RoundsCut (by l.schedule) l.initial.run.opening l.most 0 l.initial.run.world.state
      (g.O.Outside.told l.initial.outside) new status;
  only : OnlyPuts (g.O.Outside.told l.initial.outside) (g.O.Outside.told l.outside);
}
