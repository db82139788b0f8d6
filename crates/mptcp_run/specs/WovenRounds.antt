-- Rounds in which the steps of all actors stand by stamp, then actor, whoever made them: the turns that a log tells.
use Rattle.std.specs.Prelude.{ℕ, zero, suc, ◌≡◌, List, [], ◌∷◌, ◌++◌, map}
use Rattle.actor_desk.specs.declared.ask.Note.{Note}
use Rattle.path_core.specs.Octets.{octets}
use Rattle.world_laws.specs.Outcomes.{outcome_of}
use Rattle.world_laws.specs.Serial.{goes_on, OneOf}
use Rattle.world_laws.specs.Weaving.{steps_by}
use Rattle.world_laws.specs.Worlds.{WorldState, Turn, end_round, world_run, AreLawful}
use Rattle.journal_weave.specs.Rounds.{IsWovenRound}
use Rattle.world_core.specs.RoundEnds.{round_ends, steps_by_round}

-- a connection whose links carry octets
abbrev Connection : Type 0
Connection = WorldState (List ℕ)

-- ---- one round

-- the world after these steps and the end of their round
abbrev pub after_woven : List ℕ → Connection → Connection
after_woven actors w = end_round (world_run octets (steps_by actors) w)

-- a round of such steps leads from this world to that one
pub record WovenTo (w v : Connection) : Type 0 where
  pub actors : List ℕ
  pub round : IsWovenRound actors w
  pub world : v ≡ after_woven actors w

-- ---- rounds

-- the turns that the steps of rounds tell: each of them, and the end of each round
abbrev pub turns_told : List (List Note) → List Turn
turns_told [] = []
turns_told (notes ∷ more) = steps_by (map (λ note. note.actor) notes) ++ Turn.Round ∷ turns_told more

-- at most so many rounds end with these worlds; the last one is the first after which the connection
-- doesn't go on
abbrev pub AreAtMost : ℕ → List Connection → Type 0
AreAtMost zero ends = ends ≡ []
AreAtMost (suc most) [] = ⊥
AreAtMost (suc most) (v ∷ ends) =
    OneOf (goes_on (outcome_of v.crew)) (AreAtMost most ends) (ends ≡ [])

-- The turns of at most so many rounds.
pub record AreWovenRounds (most : ℕ) (turns : List Turn) (w : Connection) : Type 0 where
  -- Each can be made.
  pub lawful : AreLawful octets turns w
  -- The turns are the steps of each round by stamp, then actor, and its end.
  pub in_order : turns ≡ turns_told (steps_by_round w (round_ends turns w))
  pub few : AreAtMost most (round_ends turns w)
