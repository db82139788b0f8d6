-- What the rounds and turns that are left come to, as a loop goes on.
use Rattle.std.specs.Prelude.{◌≡◌, ℕ, ◌+◌, ◌≤◌, List, ◌∷◌, ◌++◌, length, Option}
use Rattle.outside_kit.specs.Outside.{Told}
use Rattle.path_core.specs.Octets.{octets}
use Rattle.world_laws.specs.Worlds.{Turn, world_run, AreLawful, IsLawfulTurn}
use Rattle.run_outside.specs.declared.status.Status.{Status}
use Rattle.run_outside.specs.declared.status.Status.TheVariants.{Put, Memory, Log}
use Rattle.run_outside.specs.Plan.{AddsAll, AddsCut}
use Rattle.mptcp_run.specs.Plan.{puts_by_round}
use Rattle.world_core.specs.RoundEnds.{round_ends}
use Rattle.mptcp_run.specs.Putting.{AreFirst}
use Rattle.mptcp_run.specs.Rounds.{HoldsEnds, HoldsPart}
use Rattle.mptcp_run.specs.Task.{Connection}

-- ---- rounds of a kind

-- rounds from a world on, a number of them at most, by what their turns are
module _ (Are : ℕ → List Turn → Connection → Type 0) (opening : Option (List ℕ)) where
  -- all were made and put, from this world to that one, which has so many rounds behind it
  pub record RoundsPut (most number count : ℕ) (w v : Connection) (before after : Told) : Type 0 where
    pub turns : List Turn
    pub are : Are most turns w
    pub world : v ≡ world_run octets turns w
    pub count_is : count ≡ number + length (round_ends turns w)
    pub ports : HoldsEnds opening number w (round_ends turns w) before.holds after.holds
    pub calls : AddsAll (puts_by_round opening number w (round_ends turns w)) before.calls after.calls

  -- some were put, and of the next one a part
  pub record RoundsCut (most number : ℕ) (w : Connection) (before after : Told) (status : Status) : Type 0 where
    pub turns : List Turn
    pub more : List Turn
    pub are : AreFirst (λ n ts. Are n ts w) most turns more
    pub one : length (round_ends more (world_run octets turns w)) ≤ 1
    pub ports : HoldsPart opening number w (round_ends turns w) (round_ends (turns ++ more) w) before.holds after.holds
    pub calls : AddsCut (puts_by_round opening number w (round_ends (turns ++ more) w)) status before.calls after.calls

-- ---- the turns of a log

-- the turns of a log were made and put, from this world on, the last round having ended at that one
pub record TurnsPut (opening : Option (List ℕ)) (number : ℕ) (order : List Turn) (last w v : Connection)
    (before after : Told) : Type 0 where
  pub lawful : AreLawful octets order w
  pub world : v ≡ world_run octets order w
  pub ports : HoldsEnds opening number last (round_ends order w) before.holds after.holds
  pub calls : AddsAll (puts_by_round opening number last (round_ends order w)) before.calls after.calls

-- a turn of the log, the one behind so many, is the first that can't be made; the rounds before it were put
pub record TurnRefused (opening : Option (List ℕ)) (number : ℕ) (order : List Turn) (count : ℕ) (last w : Connection)
    (before after : Told) : Type 0 where
  pub made : List Turn
  pub turn : Turn
  pub behind : List Turn
  pub order_is : order ≡ made ++ turn ∷ behind
  pub count_is : count ≡ length made
  pub lawful : AreLawful octets made w
  pub refused : IsLawfulTurn turn (world_run octets made w) → ⊥
  pub ports : HoldsEnds opening number last (round_ends made w) before.holds after.holds
  pub calls : AddsAll (puts_by_round opening number last (round_ends made w)) before.calls after.calls

-- some turns were made and put, and of the round that ends next a part
pub record TurnsCut (opening : Option (List ℕ)) (number : ℕ) (order : List Turn) (last w : Connection)
    (before after : Told) (status : Status) : Type 0 where
  pub turns : List Turn
  pub more : List Turn
  pub behind : List Turn
  pub order_is : order ≡ turns ++ (more ++ behind)
  pub lawful : AreLawful octets (turns ++ more) w
  pub one : length (round_ends more (world_run octets turns w)) ≤ 1
  pub ports : HoldsPart opening number last (round_ends turns w) (round_ends (turns ++ more) w) before.holds after.holds
  pub calls : AddsCut (puts_by_round opening number last (round_ends (turns ++ more) w)) status before.calls after.calls

-- the turns of a log end a run with this status; the first of them stands behind so many lines
abbrev pub TurnsFault : Option (List ℕ) → ℕ → List Turn → Connection → Connection → ℕ → Told → Told → Status → Type 0
TurnsFault opening number order last w lines before after (Log line) =
    (count : ℕ) × ((line ≡ lines + count + 1) × TurnRefused opening number order count last w before after)
TurnsFault opening number order last w lines before after (Put port) = TurnsCut opening number order last w before after (Put port)
TurnsFault opening number order last w lines before after Memory = TurnsCut opening number order last w before after Memory
TurnsFault opening number order last w lines before after status = ⊥
