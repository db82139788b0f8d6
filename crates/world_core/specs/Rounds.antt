-- A round: each actor's turn in order of number, and its end.
use Rattle.std.specs.Prelude.{ℕ, ◌≡◌, List, [], ◌∷◌, length}
use Rattle.path_core.specs.Codec.{Codec}
use Rattle.world_laws.specs.Serial.{AreTurns, after_turns, after_round}
use Rattle.world_laws.specs.Worlds.{WorldState}

module _ {C : Type 0} (k : Codec C) where
  -- the turns of a number of actors, from this one on, lead from one world to the other
  abbrev pub TurnsFrom : ℕ → ℕ → WorldState C → WorldState C → Type 0
  TurnsFrom more actor w v = (counts : List ℕ) × AreTurns k more actor counts w × (v ≡ after_turns k actor counts w)

  -- after those of all actors
  abbrev pub TurnsTo : WorldState C → WorldState C → Type 0
  TurnsTo w v = TurnsFrom (length w.crew) 0 w v

  -- after a round
  abbrev pub RoundTo : WorldState C → WorldState C → Type 0
  RoundTo w v = (counts : List ℕ) × AreTurns k (length w.crew) 0 counts w × (v ≡ after_round k counts w)

  -- after these rounds
  abbrev pub after_rounds : List (List ℕ) → WorldState C → WorldState C
  after_rounds [] w = w
  after_rounds (counts ∷ rounds) w = after_rounds rounds (after_round k counts w)
