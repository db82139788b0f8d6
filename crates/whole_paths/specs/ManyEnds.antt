-- Connections by mild scripts over any number of paths: once one of them is whole, both files are delivered after rounds enough, or one of its ends died early.
use Rattle.std.specs.Prelude.{ℕ, ◌≡◌, ◌≤◌, ◌⊎◌, List, [], ◌∷◌, ◌++◌}
use Rattle.link_script.specs.declared.script.Script.{Script}
use Rattle.path_core.specs.Codec.{Codec}
use Rattle.world_laws.specs.declared.outcome.Outcome.TheVariants.{Delivered}
use Rattle.world_laws.specs.Openings.{start_of}
use Rattle.world_laws.specs.Outcomes.{outcome_of}
use Rattle.world_laws.specs.Worlds.{Turn, AreLawful}
use Rattle.whole_paths.specs.Finish.{IsBrief, IsWhole, harmed, opened, rounds_in, run_of}
use Rattle.whole_paths.specs.ManyPaths.{IsMildScript, patience_of_all}
use Rattle.whole_paths.specs.OnePathScripts.{AnEndDiedEarlyAt}
use Rattle.whole_paths.specs.Serving.{ServesAt}

module _ {C : Type 0} (k : Codec C) where
  -- The path of this number, by turns so few that no count of segments ends, and where no end of the path ever stands by.
  abbrev pub DeliversOrDiesAt : ℕ → Type 0
  DeliversOrDiesAt number = (script : Script) (file_a file_b : List ℕ) (before more : List Turn) → IsMildScript script file_a file_b
      → let turns = before ++ Turn.Round ∷ more in IsBrief script turns → AreLawful k turns (opened script file_a file_b)
      → IsWhole number (run_of k script file_a file_b (before ++ Turn.Round ∷ []))
      → ((ts us : List Turn) → ts ++ us ≡ turns → ServesAt number (run_of k script file_a file_b ts))
      → patience_of_all script file_a file_b (harmed k number turns (opened script file_a file_b)) ≤ rounds_in more
      → (outcome_of (run_of k script file_a file_b turns).crew ≡ Delivered) ⊎ AnEndDiedEarlyAt number k (start_of script file_a file_b) turns

  -- whichever path it is
  abbrev pub EachWholePathEnds : Type 0
  EachWholePathEnds = (number : ℕ) → DeliversOrDiesAt number

  -- path 0
  abbrev pub FirstPathsEnd : Type 0
  FirstPathsEnd = DeliversOrDiesAt 0
