-- A clean script finishes, in whatever order the steps within the rounds come.
use Rattle.std.specs.Prelude.{ℕ, suc, ◌≡◌, ◌≤◌, ◌⊎◌, List, [], ◌∷◌, length, Some}
use Rattle.link_script.specs.declared.script.Script.{Script}
use Rattle.link_script.specs.Scripts.{HasRanges}
use Rattle.path_core.specs.Octets.{octets}
use Rattle.world_laws.specs.declared.outcome.Outcome.{Outcome}
use Rattle.world_laws.specs.declared.outcome.Outcome.TheVariants.{Going, Delivered}
use Rattle.world_laws.specs.Openings.{opened_world, start_of}
use Rattle.world_laws.specs.Outcomes.{outcome_of}
use Rattle.world_laws.specs.Worlds.{Turn, world_run, AreLawful}
use Rattle.clean_finish.specs.Bound.{enough}

-- how many rounds end by these turns
abbrev pub rounds_in : List Turn → ℕ
rounds_in [] = 0
rounds_in (Turn.Step actor ∷ turns) = rounds_in turns
rounds_in (Turn.Round ∷ turns) = suc (rounds_in turns)

-- P holds of every lawful list of turns of a connection by a clean script with files of 16 MiB at most, and of its outcome after
-- them, where so many rounds are enough. The list is any order of steps within the rounds.
abbrev pub OfCleanRuns : ((rounds : ℕ) (turns : List Turn) (outcome : Outcome) → Type 0) → Type 0
OfCleanRuns P = (script : Script) (file_a file_b : List ℕ) (rounds : ℕ) (turns : List Turn)
    → HasRanges script → enough script (length file_a) (length file_b) ≡ Some rounds
    → length file_a ≤ 16777216 → length file_b ≤ 16777216
    → AreLawful octets turns (opened_world (start_of script file_a file_b))
    → P rounds turns (outcome_of (world_run octets turns (opened_world (start_of script file_a file_b))).crew)

-- once enough rounds have ended both files are delivered
abbrev pub CleanScriptsFinish : Type 0
CleanScriptsFinish = OfCleanRuns (λ rounds turns outcome. rounds ≤ rounds_in turns → outcome ≡ Delivered)

-- until then it goes on: no reader is told of an abort, and the path lives
abbrev pub CleanScriptsGoOn : Type 0
CleanScriptsGoOn = OfCleanRuns (λ rounds turns outcome. (outcome ≡ Going) ⊎ (outcome ≡ Delivered))
