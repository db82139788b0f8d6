-- What the script of a connection of a list says: the word `alter` is none of its words.
use Rattle.std.specs.Prelude.{ℕ, ◌≡◌, ◌&&◌, ◌||◌, ◌==◌, Bool, true, false, nat_lt, if◌then◌else◌, codes, List, [], ◌∷◌, Option, Some, None, Result, Ok, Err}
use Rattle.std.specs.List.{list_any, position_from}
use Rattle.std.specs.Str.{bytes_eq}
use Rattle.octet_text.specs.Lines.{text_lines}
use Rattle.link_script.specs.declared.fault.ScriptFault.{ScriptFault}
use Rattle.link_script.specs.declared.fault.ScriptFault.TheVariants.{Line, Memory}
use Rattle.link_script.specs.declared.fault.ScriptKind.{ScriptKind}
use Rattle.link_script.specs.declared.fault.ScriptKind.TheVariants.{TooMany, Header, Word}
use Rattle.link_script.specs.declared.script.Script.{Script}
use Rattle.link_script.specs.declared.script.ScriptLine.{ScriptLine}
use Rattle.link_script.specs.declared.script.Happens.TheVariants.{Altered}
use Rattle.link_script.specs.declared.script.ScriptLine.TheVariants.{OnSegment}
use Rattle.link_script.specs.Reading.{reading}
use Rattle.link_script.specs.Scripts.{HasRanges}
use Rattle.link_script.specs.Words.{words_of}

-- ---- the first line of it that would alter a payload

abbrev pub is_alter_first : List (List ℕ) → Bool
is_alter_first [] = false
is_alter_first (word ∷ words) = bytes_eq word (codes "alter")

abbrev pub is_alter_line : List ℕ → Bool
is_alter_line line = is_alter_first (words_of line)

-- counted from 1
abbrev pub first_alter : List ℕ → Option ℕ
first_alter text = position_from is_alter_line 1 (text_lines text)

-- ---- what is read

-- whatever its words are, a line is refused where it has to be the first line of a script, and where it is one too many
abbrev pub is_of_any_words : ScriptKind → Bool
is_of_any_words TooMany = true
is_of_any_words Header = true
is_of_any_words _ = false

-- the refused line comes before that line, or is refused whatever its words are
abbrev pub is_before : ℕ → ℕ → ScriptKind → Bool
is_before alter line kind = nat_lt line alter || (line == alter && is_of_any_words kind)

-- the first refused line, that line being one of an unknown word
abbrev pub refused_with : Option ℕ → ℕ → ScriptKind → ScriptFault
refused_with None line kind = Line line kind
refused_with (Some alter) line kind = if is_before alter line kind then Line line kind else Line alter Word

abbrev pub read_with : Option ℕ → Result Script ScriptFault → Result Script ScriptFault
read_with None (Ok script) = Ok script
read_with (Some alter) (Ok script) = Err (Line alter Word)
read_with alter (Err (Line line kind)) = Err (refused_with alter line kind)
read_with alter (Err Memory) = Err Memory

-- the script that a text says, or its first refused line: one with the word `alter` is refused as one of an unknown word
abbrev pub listed_reading : List ℕ → Result Script ScriptFault
listed_reading text = read_with (first_alter text) (reading text)

-- ---- what such a script is

abbrev pub is_alter : ScriptLine → Bool
is_alter (OnSegment segment Altered) = true
is_alter _ = false

-- a script has its ranges, and by none of its lines a payload is altered
pub record LeavesPayload (script : Script) : Type 0 where
  pub ranges : HasRanges script
  pub unaltered : list_any is_alter script.lines ≡ false
