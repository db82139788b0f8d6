-- Rounds by a schedule: which actor makes the next step.
use Rattle.std.specs.Prelude.{ℕ, List}
use Rattle.path_core.specs.Octets.{octets}
use Rattle.world_core.specs.Rounds.{RoundTo}
use Rattle.world_core.specs.TimedRounds.{TimedRoundTo, IsTimed}
use Rattle.world_laws.specs.Serial.{IsSerial}
use Rattle.world_laws.specs.Worlds.{WorldState, Turn}
use Rattle.run_words.specs.Lines.{Work, serial, timed}
use Rattle.mptcp_run.specs.declared.schedule.Schedule.{Schedule}
use Rattle.mptcp_run.specs.declared.schedule.Schedule.TheVariants.{Serial, Timed}

-- the work of a command line that asks for at most so many rounds by it
abbrev pub work_by : Schedule → ℕ → Work
work_by Serial most = serial most
work_by Timed most = timed most

-- a round leads from this world to that one
abbrev pub RoundBy : Schedule → WorldState (List ℕ) → WorldState (List ℕ) → Type 0
RoundBy Serial w v = RoundTo octets w v
RoundBy Timed w v = TimedRoundTo octets w v

-- the turns of at most so many rounds; the last one is the first after which the connection doesn't go on
abbrev pub AreRoundsBy : Schedule → ℕ → List Turn → WorldState (List ℕ) → Type 0
AreRoundsBy Serial most turns w = IsSerial octets most turns w
AreRoundsBy Timed most turns w = IsTimed octets most turns w
