-- The turns of a course, made and put from the opening on.
use Rattle.std.specs.Prelude.{◌≡◌, ℕ, ◌+◌, ◌≤◌, List, ◌∷◌, ◌++◌, length, Option}
use Rattle.outside_kit.specs.Outside.{Told}
use Rattle.path_core.specs.Octets.{octets}
use Rattle.world_laws.specs.Worlds.{Turn, world_run, AreLawful, IsLawfulTurn}
use Rattle.run_outside.specs.declared.status.Status.{Status}
use Rattle.run_outside.specs.declared.status.Status.TheVariants.{Put, Memory, Log}
use Rattle.run_outside.specs.Plan.{AddsAll, AddsCut}
use Rattle.mptcp_run.specs.Plan.{puts_by_round}
use Rattle.world_core.specs.RoundEnds.{round_ends}
use Rattle.mptcp_run.specs.Putting.{AreFirstOf}
use Rattle.mptcp_run.specs.Rounds.{HoldsEnds, HoldsPart}
use Rattle.mptcp_run.specs.Task.{Connection, Course, told, AreTurnsOf}

-- All turns of a course were made, from this world to that one. With the end of each round the
-- ports grew by what it puts, and these puts are the calls that were made.
pub record CourseMade (course : Course) (opening : Option (List ℕ)) (w v : Connection) (old new : Told) : Type 0 where
  pub turns : List Turn
  pub are : AreTurnsOf course turns w
  pub world : v ≡ world_run octets turns w
  pub ports : HoldsEnds opening 0 w (round_ends turns w) old.holds new.holds
  pub calls : AddsAll (puts_by_round opening 0 w (round_ends turns w)) old.calls new.calls

-- The first rounds of a course were made, and a run ends with this status: the ports grew by what they put, and by
-- a part of what the next round puts, whose last call that was made ended the run.
pub record CourseCut (course : Course) (opening : Option (List ℕ)) (w : Connection) (old new : Told) (status : Status) : Type 0 where
  pub turns : List Turn
  pub more : List Turn
  pub are : AreFirstOf course turns more w
  pub one : length (round_ends more (world_run octets turns w)) ≤ 1
  pub ports : HoldsPart opening 0 w (round_ends turns w) (round_ends (turns ++ more) w) old.holds new.holds
  pub calls : AddsCut (puts_by_round opening 0 w (round_ends (turns ++ more) w)) status old.calls new.calls

-- a turn of a log, the one behind so many, is the first that can't be made; the rounds before it
-- were put
pub record LogHalted (order : List Turn) (count : ℕ) (opening : Option (List ℕ)) (w : Connection) (old new : Told) : Type 0 where
  pub made : List Turn
  pub turn : Turn
  pub behind : List Turn
  pub order_is : order ≡ made ++ turn ∷ behind
  pub count_is : count ≡ length made
  pub lawful : AreLawful octets made w
  pub refused : IsLawfulTurn turn (world_run octets made w) → ⊥
  pub ports : HoldsEnds opening 0 w (round_ends made w) old.holds new.holds
  pub calls : AddsAll (puts_by_round opening 0 w (round_ends made w)) old.calls new.calls

-- the turns of a log end a run with this status; the first of them stands behind so many lines
abbrev pub LogStops : List Turn → ℕ → Option (List ℕ) → Connection → Told → Told → Status → Type 0
LogStops order lines opening w old new (Log line) = (count : ℕ) × ((line ≡ lines + count + 1) × LogHalted order count opening w old new)
LogStops order lines opening w old new (Put port) = CourseCut (told order) opening w old new (Put port)
LogStops order lines opening w old new Memory = CourseCut (told order) opening w old new Memory
LogStops order lines opening w old new status = ⊥
