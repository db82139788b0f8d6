use Rattle.std.proofs.Common.{◌≡◌, ◌≤◌, ◌+◌, drop, length}
use Rattle.world_core.specs.Logged.{all_turns}
use Rattle.run_outside.specs.Calling.{OnlyPuts}
use Rattle.mptcp_run.specs.Replaying.{UnderWay}
use Rattle.mptcp_run.specs.Task.{Connection}
use Rattle.mptcp_run.proofs.replay.make_turns.Given as goal
use Rattle.mptcp_run.proofs.Folding.{TurnsPut, TurnsFault}

-- what the turns that are left come to, all turns do
abbrev pub invariant-loop-turn : goal.invariant-loop-turn
invariant-loop-turn g l =
    (last : Connection) × record {
      under : UnderWay last l.run;
      put : (v : _) (new : _) → TurnsPut l.run.opening l.run.rounds (all_turns (drop l.turn-index l.order)) last l.run.world.state v
          (g.O.Outside.told l.outside) new
          → TurnsPut l.initial.run.opening 0 (all_turns l.order) l.initial.run.world.state l.initial.run.world.state v
          (g.O.Outside.told l.initial.outside) new;
      fault : (status : _) (new : _) → TurnsFault l.run.opening l.run.rounds (all_turns (drop l.turn-index l.order)) last l.run.world.state l.line
          (g.O.Outside.told l.outside) new status
          → TurnsFault l.initial.run.opening 0 (all_turns l.order) l.initial.run.world.state l.initial.run.world.state l.lines
          (g.O.Outside.told l.initial.outside) new status;
      rounds : l.run.rounds ≤ l.turn-index;
      line : l.line ≡ l.lines + l.turn-index;
      few : l.turn-index ≤ length l.order;
      only : OnlyPuts (g.O.Outside.told l.initial.outside) (g.O.Outside.told l.outside);
    }
