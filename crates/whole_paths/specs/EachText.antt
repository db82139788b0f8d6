-- Connections by mild scripts over any number of paths, of one of which the script's text says that it is no backup (RFC 8684, sections 3.2 and 3.3.8).
use Rattle.std.specs.Prelude.{ℕ, ◌≡◌, ◌≤◌, ◌⊎◌, false, Some, List, [], ◌∷◌, ◌++◌}
use Rattle.std.specs.List.{slice_get}
use Rattle.link_script.specs.declared.script.PathLine.{PathLine}
use Rattle.link_script.specs.declared.script.Script.{Script}
use Rattle.path_core.specs.Codec.{Codec}
use Rattle.world_laws.specs.declared.outcome.Outcome.TheVariants.{Delivered}
use Rattle.world_laws.specs.Openings.{start_of}
use Rattle.world_laws.specs.Outcomes.{outcome_of}
use Rattle.world_laws.specs.Worlds.{Turn, AreLawful}
use Rattle.whole_paths.specs.Finish.{IsBrief, IsWhole, harmed, opened, rounds_in, run_of}
use Rattle.whole_paths.specs.FirstTexts.{RankNone}
use Rattle.whole_paths.specs.ManyPaths.{IsMildScript, patience_of_all}
use Rattle.whole_paths.specs.OnePathScripts.{AnEndDiedEarlyAt}

-- A mild script, and two files of 16 MiB at most. The line of the path of this number doesn't say `backup`, unless it is path 0, and no line tells a priority
-- of it.
pub record IsPathText (script : Script) (number : ℕ) (file_a file_b : List ℕ) : Type 0 where
  pub mild : IsMildScript script file_a file_b
  pub joins : (path : PathLine) → slice_get script.paths number ≡ Some path → (number ≡ 0) ⊎ (path.backup ≡ false)
  pub ranks : RankNone number script.lines

module _ {C : Type 0} (k : Codec C) where
  -- Once that path is whole at the end of a round, and still whole when so many more have ended, both files are delivered, whatever becomes of the others.
  abbrev pub EachTextDelivers : Type 0
  EachTextDelivers = (script : Script) (number : ℕ) (file_a file_b : List ℕ) (before more : List Turn) → IsPathText script number file_a file_b
      → let turns = before ++ Turn.Round ∷ more in IsBrief script turns → AreLawful k turns (opened script file_a file_b)
      → IsWhole number (run_of k script file_a file_b (before ++ Turn.Round ∷ [])) → IsWhole number (run_of k script file_a file_b turns)
      → patience_of_all script file_a file_b (harmed k number turns (opened script file_a file_b)) ≤ rounds_in more
      → outcome_of (run_of k script file_a file_b turns).crew ≡ Delivered

  -- without the second of these they are, or an end of this path died early
  abbrev pub EachTextEnds : Type 0
  EachTextEnds = (script : Script) (number : ℕ) (file_a file_b : List ℕ) (before more : List Turn) → IsPathText script number file_a file_b
      → let turns = before ++ Turn.Round ∷ more in IsBrief script turns → AreLawful k turns (opened script file_a file_b)
      → IsWhole number (run_of k script file_a file_b (before ++ Turn.Round ∷ []))
      → patience_of_all script file_a file_b (harmed k number turns (opened script file_a file_b)) ≤ rounds_in more
      → (outcome_of (run_of k script file_a file_b turns).crew ≡ Delivered) ⊎ AnEndDiedEarlyAt number k (start_of script file_a file_b) turns
