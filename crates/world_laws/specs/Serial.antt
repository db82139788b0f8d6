-- Whole turns in order of number: in each round the actors go one after the other, each to the end of its turn, and the rounds
-- end with the first whose outcome isn't Going, or after so many.
use Rattle.std.specs.Prelude.{ℕ, zero, suc, ◌≡◌, Bool, true, false, List, [], ◌∷◌, length}
use Rattle.path_core.specs.Codec.{Codec}
use Rattle.world_laws.specs.declared.outcome.Outcome.{Outcome}
use Rattle.world_laws.specs.declared.outcome.Outcome.TheVariants.{Going}
use Rattle.world_laws.specs.Outcomes.{outcome_of}
use Rattle.world_laws.specs.Worlds.{WorldState, Turn, is_going, world_step, end_round}

abbrev pub goes_on : Outcome → Bool
goes_on Going = true
goes_on _ = false

-- the first of two properties where the test is met, else the second
abbrev pub OneOf : Bool → Type 0 → Type 0 → Type 0
OneOf true this that = this
OneOf false this that = that

-- ---- the turns that numbers of steps say

-- a number of steps of an actor, and then these turns
abbrev pub steps_and : ℕ → ℕ → List Turn → List Turn
steps_and actor zero rest = rest
steps_and actor (suc n) rest = Turn.Step actor ∷ steps_and actor n rest

-- the numbers of steps of the actors from this one on, the end of the round, and then these turns
abbrev pub round_and : ℕ → List ℕ → List Turn → List Turn
round_and actor [] rest = Turn.Round ∷ rest
round_and actor (n ∷ counts) rest = steps_and actor n (round_and (suc actor) counts rest)

-- of these rounds, by the numbers of steps of their actors
abbrev pub spelled : List (List ℕ) → List Turn
spelled [] = []
spelled (counts ∷ rounds) = round_and 0 counts (spelled rounds)

module _ {C : Type 0} (k : Codec C) where
  -- ---- an actor's turn

  -- the world after so many steps of an actor
  abbrev pub after_steps : ℕ → ℕ → WorldState C → WorldState C
  after_steps actor zero w = w
  after_steps actor (suc n) w = after_steps actor n (world_step k actor w)

  -- with this many steps its turn ends
  abbrev pub IsTurn : ℕ → ℕ → WorldState C → Type 0
  IsTurn actor zero w = is_going actor w ≡ false
  IsTurn actor (suc n) w = (is_going actor w ≡ true) × IsTurn actor n (world_step k actor w)

  -- an actor's turn leads from one world to the other
  abbrev pub TurnTo : ℕ → WorldState C → WorldState C → Type 0
  TurnTo actor w v = (n : ℕ) × IsTurn actor n w × (v ≡ after_steps actor n w)

  -- ---- a round

  -- the turns of so many actors, from this one on, have these numbers of steps
  abbrev pub AreTurns : ℕ → ℕ → List ℕ → WorldState C → Type 0
  AreTurns zero actor counts w = counts ≡ []
  AreTurns (suc more) actor [] w = ⊥
  AreTurns (suc more) actor (n ∷ counts) w = IsTurn actor n w × AreTurns more (suc actor) counts (after_steps actor n w)

  -- the world after turns of so many steps, from this actor on
  abbrev pub after_turns : ℕ → List ℕ → WorldState C → WorldState C
  after_turns actor [] w = w
  after_turns actor (n ∷ counts) w = after_turns (suc actor) counts (after_steps actor n w)

  -- the world after the turns of a serial round, and the round's end
  abbrev pub after_round : List ℕ → WorldState C → WorldState C
  after_round counts w = end_round (after_turns 0 counts w)

  -- ---- rounds

  -- at most so many rounds, each of which has these numbers of steps; the last one is that whose outcome isn't Going
  abbrev pub AreRounds : ℕ → List (List ℕ) → WorldState C → Type 0
  AreRounds zero rounds w = rounds ≡ []
  AreRounds (suc most) [] w = ⊥
  AreRounds (suc most) (counts ∷ rounds) w =
      AreTurns (length w.crew) 0 counts w
      × OneOf (goes_on (outcome_of (after_round counts w).crew)) (AreRounds most rounds (after_round counts w)) (rounds ≡ [])

  -- the turns of at most so many serial rounds
  abbrev pub IsSerial : ℕ → List Turn → WorldState C → Type 0
  IsSerial most turns w = (rounds : List (List ℕ)) × AreRounds most rounds w × (turns ≡ spelled rounds)
