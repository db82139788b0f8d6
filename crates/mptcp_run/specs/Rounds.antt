-- A round that was made, with what it put.
use Rattle.std.specs.Prelude.{◌≡◌, ℕ, false, List, [], map, length, Option}
use Rattle.outside_kit.specs.declared.port.Port.{Port}
use Rattle.outside_kit.specs.declared.port.Port.TheVariants as port
use Rattle.sides.specs.declared.side.Side.TheVariants.{A, B}
use Rattle.stream_lanes.specs.Words.{Every}
use Rattle.world_laws.specs.Fine.{IsFine, lists_of}
use Rattle.world_laws.specs.Openings.{start_of, opened_world}
use Rattle.world_laws.specs.Outcomes.{output_of}
use Rattle.run_outside.specs.declared.input.Input.{Input}
use Rattle.world_core.specs.Kept.{standing}
use Rattle.world_laws.specs.Worlds.{greatest}
use Rattle.mptcp_run.specs.declared.report.Report.{Report}
use Rattle.mptcp_run.specs.declared.rounds.Run.{Run}
use Rattle.run_outside.specs.Ports.{HoldsMore, IsBetween}
use Rattle.world_core.specs.RoundEnds.{round_steps, steps_by_round, last_end}
use Rattle.run_outside.specs.LogText.{round_text, log_text, RoundFits, RoundsFit}
use Rattle.mptcp_run.specs.Putting.{opening_of}
use Rattle.mptcp_run.specs.Task.{Connection}

-- a round begins: each actor knows the greatest stamp so far
pub record Begins (w : Connection) : Type 0 where
  pub fine : IsFine (greatest 0 w.crew) w
  pub known : Every (λ c. c.pass.stamp ≡ greatest 0 w.crew) w.crew

-- a run whose last round was put, and whose next one begins
pub record AtRound (run : Run) : Type 0 where
  pub stands : run.world.failed ≡ false
  pub begins : Begins run.world.state
  pub made_is : run.made.items ≡ map length (lists_of run.world.state.crew)

-- a run before its first round
pub record IsOpened (input : Input) (report : Report) (run : Run) : Type 0 where
  pub world : run.world ≡ standing (opened_world (start_of input.script input.file_a input.file_b))
  pub opening : run.opening ≡ opening_of report input.script
  pub made_is : run.made.items ≡ map length (lists_of run.world.state.crew)
  pub rounds : run.rounds ≡ 0

-- ---- ports

-- a round was put
pub record HoldsRound (opening : Option (List ℕ)) (number : ℕ) (w v : Connection) (old new : Port → Option (List ℕ)) : Type 0 where
  pub read_by_b : HoldsMore (old port.ReadByB) (new port.ReadByB) (output_of B w) (λ text. text ≡ output_of B v)
  pub read_by_a : HoldsMore (old port.ReadByA) (new port.ReadByA) (output_of A w) (λ text. text ≡ output_of A v)
  pub log : HoldsMore (old port.Log) (new port.Log) [] (λ text. text ≡ round_text opening number (round_steps w v))
  pub fits : RoundFits opening number (round_steps w v)

-- some were
pub record HoldsEnds (opening : Option (List ℕ)) (number : ℕ) (w : Connection) (ends : List Connection) (old new : Port → Option (List ℕ)) : Type 0 where
  pub read_by_b : HoldsMore (old port.ReadByB) (new port.ReadByB) (output_of B w) (λ text. text ≡ output_of B (last_end w ends))
  pub read_by_a : HoldsMore (old port.ReadByA) (new port.ReadByA) (output_of A w) (λ text. text ≡ output_of A (last_end w ends))
  pub log : HoldsMore (old port.Log) (new port.Log) [] (λ text. text ≡ log_text opening number (steps_by_round w ends))
  pub fits : RoundsFit opening number (steps_by_round w ends)

-- the rounds of `low` were put whole, and a part of what those of `high` put beyond them
pub record HoldsPart (opening : Option (List ℕ)) (number : ℕ) (w : Connection) (low high : List Connection) (old new : Port → Option (List ℕ)) : Type 0 where
  pub read_by_b : HoldsMore (old port.ReadByB) (new port.ReadByB) (output_of B w) (IsBetween (output_of B (last_end w low)) (output_of B (last_end w high)))
  pub read_by_a : HoldsMore (old port.ReadByA) (new port.ReadByA) (output_of A w) (IsBetween (output_of A (last_end w low)) (output_of A (last_end w high)))
  pub log : HoldsMore (old port.Log) (new port.Log) []
      (IsBetween (log_text opening number (steps_by_round w low)) (log_text opening number (steps_by_round w high)))
