-- What a run has read.
use Rattle.std.specs.Prelude.{◌≡◌, ℕ, ◌≤◌, List, length, Ok}
use Rattle.link_script.specs.Scripts.{HasRanges}
use Rattle.run_outside.specs.declared.input.Input.{Input}
use Rattle.link_script.specs.Reading.{reading}

-- a script that is run, and two files within their limit
pub record IsLoaded (input : Input) : Type 0 where
  pub text : List ℕ
  pub script : reading text ≡ Ok input.script
  pub ranges : HasRanges input.script
  pub few_a : length input.file_a ≤ 16777216
  pub few_b : length input.file_b ≤ 16777216
