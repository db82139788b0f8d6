-- A turn of a log that was made, from what its step or its round's end made.
use Rattle.std.proofs.Common.{◌≡◌, refl, sym, subst, ℕ, List, Option, Result, OnOk, IfErr, inl}
use Rattle.std.proofs.lemmas.Result.{on_ok_weaker}
use Rattle.outside_kit.specs.declared.port.Port.{Port}
use Rattle.outside_kit.specs.Outside.{Told}
use Rattle.path_core.specs.Octets.{octets}
use Rattle.run_log.specs.declared.turn.Turn as log_turn
use Rattle.run_log.specs.declared.turn.Turn.TheVariants as logged
use Rattle.world_core.specs.Kept.{Kept, standing}
use Rattle.world_core.specs.Logged.{turn_of}
use Rattle.world_laws.specs.Worlds.{Turn, world_step}
use Rattle.mptcp_run.specs.declared.rounds.Run.{Run}
use Rattle.run_outside.specs.declared.status.Status.{Status}
use Rattle.run_outside.specs.declared.status.Status.TheVariants.{Memory, Log}
use Rattle.mptcp_run.specs.Making.{TurnMade}
use Rattle.mptcp_run.specs.Replaying.{UnderWay, StepFault, TurnStops, IsReplayFault, round_turn}
use Rattle.mptcp_run.specs.Task.{Connection}
use Rattle.run_outside.proofs.Calls.{adds_none}
use Rattle.run_outside.proofs.Calling.{only_none}
use Rattle.run_outside.proofs.PortsLemmas.{OnOk-holds, IfErr-map}
use Rattle.mptcp_run.proofs.Turning.{under_step}

-- a step that wasn't made, as a turn: it makes no call
step_stops : (opening : Option (List ℕ)) (number actor : ℕ) (last w : Connection) (line : ℕ) (a : Told) (status : Status)
    → StepFault actor w line status → TurnStops opening number (Turn.Step actor) last w line a a status
step_stops opening number actor last w line a (Log at) h = (h.0, ((λ going. let stopped = h.1 in cc (going, stopped)), ((λ port. refl), adds_none a.calls)))
step_stops opening number actor last w line a Memory h = inl (refl, ((λ port. refl), adds_none a.calls))
step_stops opening number actor last w line a _ h = absurd h

step_cause : (actor : ℕ) (w : Connection) (line : ℕ) (f : Port → ℕ) (status : Status) → StepFault actor w line status → IsReplayFault f f status
step_cause actor w line f (Log at) h = tt
step_cause actor w line f Memory h = tt
step_cause actor w line f _ h = absurd h

-- a step: nothing is bound, put or loaded
pub step_made : (opening : Option (List ℕ)) (number : ℕ) (turn : log_turn.Turn) (actor : ℕ) (last : Connection) (line : ℕ) (run : Run) (world : Kept)
    (a : Told) (r : Result (Unit {0}) Status) → turn ≡ logged.Step actor → UnderWay last run
    → OnOk r (world ≡ standing (world_step octets actor run.world.state)) → IfErr r (StepFault actor run.world.state line)
    → TurnMade opening number (turn_of turn) last run.world.state line (record run { world = world }) a a r
step_made opening number turn actor last line run world a r is under ok fault =
    subst (λ t. TurnMade opening number (turn_of t) last run.world.state line (record run { world = world }) a a r) (sym is)
    (record {
      under = on_ok_weaker r (λ made. under_step last run (record run { world = world }) actor under made refl) ok;
      whole = OnOk-holds r _ (λ port. refl);
      made = OnOk-holds r _ (adds_none a.calls);
      stops = IfErr-map r (λ status h. step_stops opening number actor last run.world.state line a status h) fault;
      fault = IfErr-map r (λ status h. step_cause actor run.world.state line a.port_faults status h) fault;
      only = only_none a;
    })

-- the end of a round
pub end_made : (opening : Option (List ℕ)) (number : ℕ) (turn : log_turn.Turn) (last w : Connection) (line : ℕ) (run : Run)
    (a b : Told) (r : Result (Unit {0}) Status) → turn ≡ logged.Round
    → TurnMade opening number round_turn last w line run a b r → TurnMade opening number (turn_of turn) last w line run a b r
end_made opening number turn last w line run a b r is made =
    subst (λ t. TurnMade opening number (turn_of t) last w line run a b r) (sym is) made
