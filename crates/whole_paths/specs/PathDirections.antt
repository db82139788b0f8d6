-- Scripts no line of which speaks of a whole direction of one of their paths.
use Rattle.std.specs.Prelude.{ℕ, ◌==◌, ◌≡◌, ◌≤◌, Bool, true, false, not, List}
use Rattle.std.specs.List.{list_all}
use Rattle.link_script.specs.Scripts.{HasRanges}
use Rattle.link_script.specs.declared.script.Script.{Script}
use Rattle.link_script.specs.declared.script.ScriptLine.{ScriptLine}
use Rattle.link_script.specs.declared.script.ScriptLine.TheVariants.{OnDirection}
use Rattle.path_core.specs.Octets.{octets}
use Rattle.world_laws.specs.Worlds.{Turn}
use Rattle.whole_paths.specs.Finish.{harmed, harms_to, opened}

-- whether a line speaks of each segment of a direction of this path: a rate, random loss or jitter
abbrev pub is_on_direction_of : ℕ → ScriptLine → Bool
is_on_direction_of path (OnDirection direction impairment) = direction.path == path
is_on_direction_of path _ = false

-- none of these lines does
abbrev pub SparesDirectionsOf : ℕ → List ScriptLine → Type 0
SparesDirectionsOf path lines = list_all (λ line. not (is_on_direction_of path line)) lines ≡ true

-- then each segment of the path that is harmed uses a line
abbrev pub HarmsOfAPathUseLines : Type 0
HarmsOfAPathUseLines = (script : Script) (file_a file_b : List ℕ) (number : ℕ) (turns : List Turn) → HasRanges script → SparesDirectionsOf number script.lines
    → harmed octets number turns (opened script file_a file_b) ≤ harms_to number script
