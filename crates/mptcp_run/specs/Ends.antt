-- How a run ends behind its loads: at its own end, at a turn that can't be made, or cut off.
use Rattle.std.specs.Prelude.{◌≡◌, ℕ, ◌≤◌, ◌⊎◌, List, [], ◌++◌, length, Result, Ok, Err}
use Rattle.sides.specs.declared.side.Side.TheVariants.{A, B}
use Rattle.outside_kit.specs.declared.port.Port.TheVariants.{ReadByA, ReadByB, Log}
use Rattle.outside_kit.specs.Calls.{Call}
use Rattle.outside_kit.specs.Outside.{Told, HoldsAfter}
use Rattle.run_words.specs.Lines.{Line}
use Rattle.world_laws.specs.Worlds.{Turn}
use Rattle.run_outside.specs.declared.status.Status.{Status}
use Rattle.run_outside.specs.declared.status.Status.TheVariants.{Delivered, Rounds, NoPath, Aborted, Put, Memory}
use Rattle.run_outside.specs.declared.status.Status.TheVariants as status_is
use Rattle.run_outside.specs.Plan.{AddsAll, AddsCut, AddsShort, plan_of}
use Rattle.mptcp_run.specs.Plan.{puts_so_far, all_puts}
use Rattle.run_outside.specs.Ports.{HoldsMore, HoldsWithin, IsBetween, Ports}
use Rattle.world_core.specs.RoundEnds.{round_ends}
use Rattle.mptcp_run.specs.Putting.{last_line, read_so_far, log_so_far, world_after, IsWhole, IsStopped, AreFirstOf}
use Rattle.mptcp_run.specs.Task.{Task, first_world, AreTurnsOf}

-- the run came to one of its own ends
abbrev pub HasEnded : Status → Type 0
HasEnded Delivered = Unit {0}
HasEnded Rounds = Unit {0}
HasEnded NoPath = Unit {0}
HasEnded (Aborted reader) = Unit {0}
HasEnded _ = ⊥

-- what is answered, at the run's own end or before it
abbrev pub either : Result Status Status → Status
either (Ok status) = status
either (Err status) = status

-- ---- what the ports hold

-- each port that was bound, and the log, holds its text for the rounds of these turns, and of the
-- next round a part
pub record HoldsCut (task : Task) (turns more : List Turn) (old new : Ports) : Type 0 where
  pub read_by_b : HoldsWithin (turns ++ more ≡ []) (old ReadByB) (new ReadByB)
      (read_so_far B task turns) (read_so_far B task (turns ++ more))
  pub read_by_a : HoldsWithin (turns ++ more ≡ []) (old ReadByA) (new ReadByA)
      (read_so_far A task turns) (read_so_far A task (turns ++ more))
  pub log : HoldsMore (old Log) (new Log) []
      (IsBetween (log_so_far task turns) (log_so_far task (turns ++ more)))

-- the ports hold what the first rounds of the task put, and of one more at most a part
pub record HoldsSomeRounds (task : Task) (old new : Ports) : Type 0 where
  pub turns : List Turn
  pub more : List Turn
  pub are : AreFirstOf task.course turns more (first_world task)
  pub one : length (round_ends more (world_after task turns)) ≤ 1
  pub ports : HoldsCut task turns more old new

-- the ports hold all that was read, and the log the whole text of all rounds and then a prefix of
-- the last line
pub record HoldsToLine (task : Task) (turns : List Turn) (old new : Ports) : Type 0 where
  pub read_by_b : HoldsAfter (old ReadByB) (new ReadByB) (λ _. read_so_far B task turns)
  pub read_by_a : HoldsAfter (old ReadByA) (new ReadByA) (λ _. read_so_far A task turns)
  pub log : HoldsMore (old Log) (new Log) []
      (IsBetween (log_so_far task turns) (log_so_far task turns ++ last_line task turns))

-- ---- with the calls that were made: these loads, the binds, and the puts of the same turns

module _ (loads : List Call) (line : Line) (task : Task) (old new : Told) where
  -- the run came to its own end
  pub record CameToEnd (status : Status) : Type 0 where
    pub ended : HasEnded status
    pub whole : IsWhole task status old.holds new.holds
    pub calls : AddsAll (plan_of loads line (all_puts task whole.turns)) old.calls new.calls

  -- the run was cut off while its ports were bound or in its rounds
  pub record IsCutInRounds (status : Status) : Type 0 where
    pub ports : HoldsSomeRounds task old.holds new.holds
    pub calls : AddsCut (plan_of loads line (puts_so_far task (ports.turns ++ ports.more))) status
        old.calls new.calls

  -- the run was cut off at its last line, which wasn't put whole
  pub record IsCutAtLine (status : Status) : Type 0 where
    pub turns : List Turn
    pub are : AreTurnsOf task.course turns (first_world task)
    pub ports : HoldsToLine task turns old.holds new.holds
    pub calls : AddsShort (plan_of loads line (all_puts task turns)) status old.calls new.calls

  -- one or the other
  abbrev pub IsCut : Status → Type 0
  IsCut status = IsCutInRounds status ⊎ IsCutAtLine status

  -- a turn of its log can't be made, where so many lines stand before the first one
  pub record IsHalted (opening at : ℕ) : Type 0 where
    pub stopped : IsStopped task opening at old.holds new.holds
    pub calls : AddsAll (plan_of loads line (puts_so_far task stopped.before)) old.calls new.calls

  -- the turns of a log end a run with this status
  abbrev pub ReplayEnds : ℕ → Status → Type 0
  ReplayEnds opening (status_is.Log at) = IsHalted opening at
  ReplayEnds opening (Put port) = IsCut (Put port)
  ReplayEnds opening Memory = IsCut Memory
  ReplayEnds opening status = ⊥
