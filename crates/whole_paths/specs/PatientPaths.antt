-- Over one path both files are delivered with `patience`.
use Rattle.std.specs.Prelude.{ℕ, ◌+◌, ◌≡◌, ◌≤◌, ◌⊎◌, true, List, [], ◌∷◌, ◌++◌}
use Rattle.std.specs.List.{list_all}
use Rattle.link_script.specs.declared.script.PathLine.{PathLine}
use Rattle.link_script.specs.declared.script.Script.{Script}
use Rattle.path_core.specs.Codec.{Codec}
use Rattle.world_laws.specs.declared.outcome.Outcome.TheVariants.{Delivered}
use Rattle.world_laws.specs.Openings.{start_of}
use Rattle.world_laws.specs.Outcomes.{outcome_of}
use Rattle.world_laws.specs.Worlds.{Turn, AreLawful}
use Rattle.whole_paths.specs.Finish.{AnEndDied, IsBrief, IsMild, IsWhole, harmed, is_harmless_to_ends, opened, patience, rounds_in, run_of}
use Rattle.whole_paths.specs.OnePathScripts.{AnEndDiedEarly, Count, harms_alone}
use Rattle.whole_paths.specs.QuietOpenings.{lost_early}

-- What is paid for: each segment that is harmed; and each copy with octets that comes to B's end before that may send a DSS, but no more of them than
-- A's end has records as it may first, nor than A's file has full segments, where that fits the first window.
abbrev pub harms_and_early : {C : Type 0} → Codec C → Count
harms_and_early k start turns = lost_early start turns + harms_alone k start turns

-- ---- what is promised

module _ {C : Type 0} (k : Codec C) where
  -- the rounds that are enough for what is paid for of these turns
  abbrev pub enough_for : Script → PathLine → List ℕ → List ℕ → List Turn → ℕ
  enough_for script path file_a file_b turns = patience script path file_a file_b (harms_and_early k (start_of script file_a file_b) turns)

  -- Once the path is whole at the end of a round, both files are delivered when so many more have ended; or an end died early.
  abbrev pub PatientPathsEnd : Type 0
  PatientPathsEnd = (script : Script) (path : PathLine) (file_a file_b : List ℕ) (before more : List Turn) → IsMild script path file_a file_b
      → let turns = before ++ Turn.Round ∷ more in IsBrief script turns → AreLawful k turns (opened script file_a file_b)
      → IsWhole 0 (run_of k script file_a file_b (before ++ Turn.Round ∷ [])) → enough_for script path file_a file_b turns ≤ rounds_in more
      → (outcome_of (run_of k script file_a file_b turns).crew ≡ Delivered) ⊎ AnEndDiedEarly k (start_of script file_a file_b) turns

  -- As soon as so many have ended from the beginning on, both files are delivered, or an end died, however much is lost.
  abbrev pub PatientPathEnds : Type 0
  PatientPathEnds = (script : Script) (path : PathLine) (file_a file_b : List ℕ) (turns : List Turn) → IsMild script path file_a file_b
      → IsBrief script turns → AreLawful k turns (opened script file_a file_b) → enough_for script path file_a file_b turns ≤ rounds_in turns
      → (outcome_of (run_of k script file_a file_b turns).crew ≡ Delivered) ⊎ AnEndDied 0 (run_of k script file_a file_b turns)

  -- With four harmed segments at most, and no line by which the path dies or its address is taken back, they are delivered.
  abbrev pub FewLossesFinishPatiently : Type 0
  FewLossesFinishPatiently = (script : Script) (path : PathLine) (file_a file_b : List ℕ) (turns : List Turn) → IsMild script path file_a file_b
      → IsBrief script turns → list_all is_harmless_to_ends script.lines ≡ true → harmed k 0 turns (opened script file_a file_b) ≤ 4
      → AreLawful k turns (opened script file_a file_b) → enough_for script path file_a file_b turns ≤ rounds_in turns
      → outcome_of (run_of k script file_a file_b turns).crew ≡ Delivered
