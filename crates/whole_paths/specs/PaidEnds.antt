-- What is promised of connections over one path that are so besides, from their beginning on, by what is counted of a run.
use Rattle.std.specs.Prelude.{ℕ, ◌≡◌, ◌≤◌, ◌⊎◌, true, List}
use Rattle.std.specs.List.{list_all}
use Rattle.link_script.specs.declared.script.PathLine.{PathLine}
use Rattle.link_script.specs.declared.script.Script.{Script}
use Rattle.path_core.specs.Codec.{Codec}
use Rattle.world_laws.specs.declared.outcome.Outcome.TheVariants.{Delivered}
use Rattle.world_laws.specs.Openings.{PathPlan, Start, plan_of, start_of}
use Rattle.world_laws.specs.Outcomes.{outcome_of}
use Rattle.world_laws.specs.Worlds.{Turn, AreLawful}
use Rattle.whole_paths.specs.Finish.{AnEndDied, IsBrief, IsMild, Patience, harmed, is_harmless_to_ends, opened, rounds_in, run_of}
use Rattle.whole_paths.specs.OnePathScripts.{Count}

module _ {C : Type 0} (k : Codec C) (Also : Start → PathPlan → Type 0) (count : Count) (enough : Patience) where
  -- as soon as rounds enough have ended for what is counted, both files are delivered, or an end died, however much is lost
  abbrev pub OnePathEndsBy : Type 0
  OnePathEndsBy = (script : Script) (path : PathLine) (file_a file_b : List ℕ) (turns : List Turn) → IsMild script path file_a file_b
      → Also (start_of script file_a file_b) (plan_of script 0 path) → IsBrief script turns
      → AreLawful k turns (opened script file_a file_b)
      → enough script path file_a file_b (count (start_of script file_a file_b) turns) ≤ rounds_in turns
      → (outcome_of (run_of k script file_a file_b turns).crew ≡ Delivered) ⊎ AnEndDied 0 (run_of k script file_a file_b turns)

  -- with four harmed segments at most, and no line by which the path dies or its address is taken back, they are delivered
  abbrev pub FewLossesFinishBy : Type 0
  FewLossesFinishBy = (script : Script) (path : PathLine) (file_a file_b : List ℕ) (turns : List Turn) → IsMild script path file_a file_b
      → Also (start_of script file_a file_b) (plan_of script 0 path) → IsBrief script turns
      → list_all is_harmless_to_ends script.lines ≡ true → harmed k 0 turns (opened script file_a file_b) ≤ 4
      → AreLawful k turns (opened script file_a file_b)
      → enough script path file_a file_b (count (start_of script file_a file_b) turns) ≤ rounds_in turns
      → outcome_of (run_of k script file_a file_b turns).crew ≡ Delivered
