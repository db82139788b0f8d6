-- A round, or a turn of a log, that was made and put, or ended the run: the ports, the calls and
-- the counts.
use Rattle.std.specs.Prelude.{◌≡◌, ℕ, ◌⊎◌, List, [], ◌∷◌, Option, Result, OnOk, OnErr, IfErr}
use Rattle.outside_kit.specs.Outside.{Told}
use Rattle.world_laws.specs.Worlds.{Turn}
use Rattle.mptcp_run.specs.declared.rounds.Run.{Run}
use Rattle.run_outside.specs.declared.status.Status.{Status}
use Rattle.run_outside.specs.declared.status.Status.TheVariants.{Memory}
use Rattle.mptcp_run.specs.Adding.{turn_puts}
use Rattle.run_outside.specs.Calling.{OnlyPuts, Puts}
use Rattle.run_outside.specs.Plan.{AddsAll, AddsCut}
use Rattle.mptcp_run.specs.Plan.{round_puts}
use Rattle.mptcp_run.specs.Replaying.{UnderWay, IsUnchanged, TurnHolds, TurnStops, last_after, IsReplayFault}
use Rattle.mptcp_run.specs.Rounds.{HoldsRound, HoldsPart}
use Rattle.mptcp_run.specs.Task.{Connection}

-- the rounds of this kind lead from a world to another one
module _ (To : Connection → Connection → Type 0) (opening : Option (List ℕ)) (number : ℕ) where
  -- a round from this world to that one was made and put
  pub record RoundMade (w v : Connection) (old new : Told) : Type 0 where
    pub round : To w v
    pub ports : HoldsRound opening number w v old.holds new.holds
    pub calls : AddsAll (round_puts opening number w v) old.calls new.calls

  -- a round from this world on was made, and a part of it was put
  pub record RoundCut (w : Connection) (old new : Told) (status : Status) : Type 0 where
    pub end : Connection
    pub round : To w end
    pub ports : HoldsPart opening number w [] (end ∷ []) old.holds new.holds
    pub calls : AddsCut (round_puts opening number w end) status old.calls new.calls

  -- the round from this world on ends a run with this status: it wasn't made for want of memory, or
  -- it was cut off
  abbrev pub RoundStops : Connection → Told → Told → Status → Type 0
  RoundStops w old new status =
      ((status ≡ Memory) × (IsUnchanged old.holds new.holds × AddsAll [] old.calls new.calls)) ⊎ RoundCut w old new status

module _ {X : Type 0} (opening : Option (List ℕ)) (number : ℕ) where
  -- the end of the round from this world to that one was put, or a part of it
  pub record RoundPut (last w : Connection) (old new : Told) (result : Result X Status) : Type 0 where
    pub whole : OnOk result (HoldsRound opening number last w old.holds new.holds)
    pub part : OnErr result (HoldsPart opening number last [] (w ∷ []) old.holds new.holds)
    pub puts : Puts (round_puts opening number last w) old new result

  -- A turn was made in world `w`, whose last round ended with `last`, and the run goes on; or it stands in this line
  -- of the log and can't be made, or its round wasn't put whole.
  pub record TurnMade (turn : Turn) (last w : Connection) (line : ℕ) (run : Run)
      (old new : Told)
      (result : Result X Status) : Type 0 where
    pub under : OnOk result (UnderWay (last_after turn last w) run)
    pub whole : OnOk result (TurnHolds opening number turn last w old.holds new.holds)
    pub made : OnOk result (AddsAll (turn_puts opening number turn last w) old.calls new.calls)
    pub stops : IfErr result (TurnStops opening number turn last w line old new)
    pub fault : IfErr result (IsReplayFault old.port_faults new.port_faults)
    pub only : OnlyPuts old new
