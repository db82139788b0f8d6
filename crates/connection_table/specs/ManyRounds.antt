-- Serial rounds of the connections of a table.
use Rattle.std.specs.Prelude.{ℕ, ◌≡◌, Bool, List, IsSomeAnd}
use Rattle.std.specs.List.{AllZip}
use Rattle.path_core.specs.Octets.{octets}
use Rattle.world_core.specs.Rounds.{RoundTo, TurnsTo, after_rounds}
use Rattle.world_core.specs.Steps.{StampRises}
use Rattle.world_laws.specs.Outcomes.{outcome_of}
use Rattle.world_laws.specs.Serial.{AreRounds, OneOf, TurnTo, goes_on}
use Rattle.world_laws.specs.Worlds.{is_going}
use Rattle.connection_table.specs.Steps.{after_step}
use Rattle.connection_table.specs.Tables.{Connection, Entry, IsShortEntry, Stands, entry_at, with_entry}

abbrev pub goes_on_still : Entry → Bool
goes_on_still e = goes_on (outcome_of e.world.state.crew)

-- ---- one connection of a table

-- the connection hasn't failed, and both of its files are short
pub record Runs (e : Entry) : Type 0 where
  pub stands : Stands e
  pub short : IsShortEntry e

-- P holds of the connection with this number as it was and as it is, and no other has changed
abbrev pub Changes : (P : Entry → Entry → Type 0) → ℕ → List Entry → List Entry → Type 0
Changes P number old new = IsSomeAnd (entry_at number old) (λ before. (after : Entry) × (P before after × (new ≡ with_entry number after old)))

-- a step of an actor, and whether its turn hadn't ended
pub record StepMade (actor : ℕ) (went : Bool) (before after : Entry) : Type 0 where
  pub stood : Stands before
  pub going : went ≡ is_going actor before.world.state
  pub is : after ≡ after_step actor before
  pub rises : StampRises actor before.world.state after.world.state

-- P holds of how a connection stood and how it stands, and it began with the same
pub record Made (P : Connection → Connection → Type 0) (before after : Entry) : Type 0 where
  pub input : after.input ≡ before.input
  pub stands : Stands after
  pub state : P before.world.state after.world.state

-- the turn of an actor, those of all actors, and a round
abbrev pub TurnMade : ℕ → Entry → Entry → Type 0
TurnMade actor = Made (TurnTo octets actor)

abbrev pub TurnsMade : Entry → Entry → Type 0
TurnsMade = Made (TurnsTo octets)

abbrev pub RoundMade : Entry → Entry → Type 0
RoundMade = Made (RoundTo octets)

-- a round where it goes on; else it stands as it stood
abbrev pub RoundIfGoing : Connection → Connection → Type 0
RoundIfGoing w v = OneOf (goes_on (outcome_of w.crew)) (RoundTo octets w v) (v ≡ w)

-- P holds of how each connection of a table stood and how it stands
abbrev pub EachRound : (Connection → Connection → Type 0) → List Entry → List Entry → Type 0
EachRound P old new = AllZip (Made P) old new

-- ---- serial rounds

-- a connection after at most so many serial rounds
abbrev pub IsSerialEnd : ℕ → Connection → Connection → Type 0
IsSerialEnd most first w = (rounds : List (List ℕ)) × AreRounds octets most rounds first × (w ≡ after_rounds octets rounds first)
