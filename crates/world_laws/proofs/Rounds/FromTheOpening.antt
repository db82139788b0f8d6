-- From the opening on each turn ends, so that serial turns exist at every moment.
use Rattle.world_laws.proofs.Words.{refl, ℕ, Option, List, arith, Side, A, B, start_of_app, IsAppSettled, untouched, first_app_turn, Codec, waiting_path}
use Rattle.world_laws.proofs.Words.{CanRunPath, CanRun, SerialExists, PathPlan, Start, path_begins, new_path, opened_world, WorldState, world_run, spelled}
use Rattle.stream_apps.specs.Starts.{fast_close_of}
use Rattle.world_laws.proofs.Worlds.Opened.{opened_actors}
use Rattle.world_laws.proofs.Lanes.Applying.{settled_app}
use Rattle.world_laws.proofs.Rounds.TurnsEnd.{IsSteady, IsSteadyWorld, begun_steady, run_steady, rounds_at}
use Rattle.world_laws.proofs.Rounds.SerialIsLawful.{rounds_lawful}

first_settled : (s : Side) (buffer : ℕ) (file : List ℕ) (tick : Option ℕ) → IsAppSettled (first_app_turn s buffer file tick)
first_settled s buffer file tick = (settled_app start_of_app (untouched s buffer file tick)).settled

module _ {C : Type 0} where
  opened_steady : (start : Start) → CanRun start → IsSteadyWorld {C = C} (opened_world start)
  opened_steady start can = record {
    crew = record {
      each = opened_actors (λ actor c. IsSteady c.member) start (first_settled A start.buffer start.file_a (fast_close_of A start.lines)) (first_settled B start.buffer start.file_b (fast_close_of B start.lines)) (λ number plan there. path number plan (can.paths.each number plan there));
    };
    books = record { a = record { whole = refl }; b = record { whole = refl } };
  }
    where
      path : (number : ℕ) (plan : PathPlan) → CanRunPath plan → IsSteady (new_path {C = C} start number plan).member
      path number plan runs =
          let payload = runs.payload in
          begun_steady (waiting_path (path_begins start number plan) start.lines) (record { delay = runs.delay; timer_a = omega arith; timer_b = omega arith }) (omega (arith, payload))

  pub serial_exists : (k : Codec C) → SerialExists k
  serial_exists k start turns can most =
      let w : WorldState C = world_run k turns (opened_world start) in
      let rounds = rounds_at k most w (run_steady k turns (opened_world start) (opened_steady start can)) in
      (spelled rounds.0, (rounds.0, rounds.1, refl), rounds_lawful k most rounds.0 w rounds.1)
