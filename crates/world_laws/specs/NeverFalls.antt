-- Connections whose options all arrive: where no line of the script takes Multipath TCP's options away, and none alters payload, no side
-- falls back (RFC 8684, sections 3.1 and 3.7).
use Rattle.std.specs.Prelude.{ℕ, ◌≡◌, ◌||◌, Bool, true, false, List}
use Rattle.std.specs.List.{list_any}
use Rattle.sides.specs.declared.side.Side.{Side}
use Rattle.fallback_state.specs.declared.fall.Mode.{Mode}
use Rattle.fallback_state.specs.Modes.{is_identity, is_infinite}
use Rattle.link_model.specs.Fate.{is_stripped}
use Rattle.link_model.specs.Steps.{lines_of}
use Rattle.link_script.specs.declared.script.Script.{Script}
use Rattle.link_script.specs.declared.script.ScriptLine.{ScriptLine}
use Rattle.link_script.specs.declared.script.Happens.TheVariants.{Stripped}
use Rattle.link_script.specs.declared.script.ScriptLine.TheVariants.{OnSegment, StripAll}
use Rattle.path_core.specs.Values.{Carried, values}
use Rattle.world_laws.specs.ModesSoFar.{was_ever}
use Rattle.world_laws.specs.Openings.{Start, opened_world, start_of}
use Rattle.world_laws.specs.PlainScripts.{IsPlainScript}
use Rattle.world_laws.specs.Promises.{IsPlain, NumbersFit}
use Rattle.world_laws.specs.Worlds.{WorldState, Turn, world_run}
use Rattle.path_core.specs.Octets.{octets}

-- lines that take no options away
pub record StripsNothing (lines : List ScriptLine) : Type 0 where
  pub strips : (from : Side) (number now : ℕ) → is_stripped from number now lines ≡ false

-- on each path
abbrev pub IsWhole : Start → Type 0
IsWhole start = (path : ℕ) → StripsNothing (lines_of path start.lines)

-- by this line options are taken away, of one segment or of all from a tick on
abbrev pub strips_options : ScriptLine → Bool
strips_options (OnSegment segment Stripped) = true
strips_options (StripAll path from tick) = true
strips_options _ = false

-- by no line are
abbrev pub StripsNone : Script → Type 0
StripsNone script = list_any strips_options script.lines ≡ false

-- the side is in plain TCP, or one of the two directions goes by an infinite mapping
abbrev pub is_fallen_back : Mode → Bool
is_fallen_back mode = is_identity mode || is_infinite mode

-- neither side is, nor was by its control book's journal
abbrev pub NeverFalls : {C : Type 0} → WorldState C → Type 0
NeverFalls w = (s : Side) → was_ever is_fallen_back s w ≡ false

-- P holds where nothing is altered or stripped, over segments as values
abbrev pub IsPromisedWhole : (WorldState Carried → Type 0) → Type 0
IsPromisedWhole P = (start : Start) (turns : List Turn) → IsPlain start → IsWhole start → P (world_run values turns (opened_world start))

-- P holds where nothing is altered or stripped, over octets
abbrev pub IsPromisedWholeOfOctets : (WorldState (List ℕ) → Type 0) → Type 0
IsPromisedWholeOfOctets P =
    (start : Start) (turns : List Turn) → IsPlain start → IsWhole start → NumbersFit start → P (world_run octets turns (opened_world start))

-- neither side does by a script with two short files, none of whose lines alters payload or takes options away
abbrev pub WholeScriptsNeverFall : Type 0
WholeScriptsNeverFall =
    (script : Script) (file_a file_b : List ℕ) (turns : List Turn) → IsPlainScript script file_a file_b → StripsNone script
    → NeverFalls (world_run octets turns (opened_world (start_of script file_a file_b)))
