-- Connections by mild scripts over any number of paths, one of which told no side that it is a backup.
use Rattle.std.specs.Prelude.{ℕ, ◌≡◌, ◌≤◌, List, [], ◌∷◌, ◌++◌}
use Rattle.link_script.specs.declared.script.Script.{Script}
use Rattle.path_core.specs.Codec.{Codec}
use Rattle.world_laws.specs.declared.outcome.Outcome.TheVariants.{Delivered}
use Rattle.world_laws.specs.Outcomes.{outcome_of}
use Rattle.world_laws.specs.Worlds.{Turn, AreLawful}
use Rattle.whole_paths.specs.Backups.{ToldNoBackup}
use Rattle.whole_paths.specs.Finish.{IsBrief, IsWhole, harmed, opened, rounds_in, run_of}
use Rattle.whole_paths.specs.ManyPaths.{IsMildScript, patience_of_all}

module _ {C : Type 0} (k : Codec C) where
  -- Once the path of this number is whole at the end of a round, and still whole when so many more have ended, both files are delivered, whatever becomes of
  -- the other paths. Its journal alone says that it is no backup.
  abbrev pub RegularDeliversAt : ℕ → Type 0
  RegularDeliversAt number = (script : Script) (file_a file_b : List ℕ) (before more : List Turn) → IsMildScript script file_a file_b
      → let turns = before ++ Turn.Round ∷ more in IsBrief script turns → AreLawful k turns (opened script file_a file_b)
      → IsWhole number (run_of k script file_a file_b (before ++ Turn.Round ∷ [])) → IsWhole number (run_of k script file_a file_b turns)
      → ToldNoBackup number (run_of k script file_a file_b turns)
      → patience_of_all script file_a file_b (harmed k number turns (opened script file_a file_b)) ≤ rounds_in more
      → outcome_of (run_of k script file_a file_b turns).crew ≡ Delivered

  -- whichever path it is
  abbrev pub EachRegularPathDelivers : Type 0
  EachRegularPathDelivers = (number : ℕ) → RegularDeliversAt number

  -- path 0
  abbrev pub RegularPathsDeliver : Type 0
  RegularPathsDeliver = RegularDeliversAt 0
