-- A text as a script: the lines from the first on, and what they say together.
use Rattle.std.specs.Prelude.{◌≡◌, ℕ, suc, false, List, [], ◌∷◌, ◌++◌, Result, Ok, Err, nat_lt, fold, if◌then◌else◌, codes}
use Rattle.std.specs.List.{list_any}
use Rattle.std.specs.Str.{bytes_eq}
use Rattle.octet_text.specs.Lines.{text_lines}
use Rattle.link_script.specs.declared.fault.ScriptFault.{ScriptFault}
use Rattle.link_script.specs.declared.fault.ScriptFault.TheVariants as fault
use Rattle.link_script.specs.declared.fault.ScriptKind.{ScriptKind}
use Rattle.link_script.specs.declared.fault.ScriptKind.TheVariants as kind
use Rattle.link_script.specs.Ranges.{most_lines, default_seed, default_buffer}
use Rattle.link_script.specs.declared.line.Line.{Line}
use Rattle.link_script.specs.declared.line.Line.TheVariants.{Header, Seed, Checksum, Short, Buffer, Path, Event, End}
use Rattle.link_script.specs.declared.script.Script.{Script}
use Rattle.link_script.specs.declared.version.Version.{Version}
use Rattle.link_script.specs.declared.version.Version.TheVariants.{First, Second}
use Rattle.link_script.specs.Lines.{line_of}
use Rattle.link_script.specs.Places.{is_end, is_out_of_order, is_repeated}
use Rattle.link_script.specs.Steps.{◌>>=◌}
use Rattle.link_script.specs.Words.{words_of, is_passed_over}

-- A fault that a function returned is the one that reading gives; of want of memory nothing is said.
abbrev pub Fails : {Y : Type 0} → ScriptFault → Result Y ScriptFault → Type 0
Fails fault.Memory read = Unit {0}
Fails (fault.Line line kind) read = read ≡ Err (fault.Line line kind)

-- What a function returned is what reading gives: the value, seen by view, or the fault, unless memory ran out.
abbrev pub Gives : {X Y : Type 0} → (X → Y) → Result X ScriptFault → Result Y ScriptFault → Type 0
Gives view (Ok x) read = read ≡ Ok (view x)
Gives view (Err fault) read = Fails fault read

-- the first line that isn't passed over
abbrev pub first_line : List ℕ → Result Line ScriptKind
first_line text =
    if bytes_eq text (codes "mptcp-script 1") then Ok (Header First)
    else (if bytes_eq text (codes "mptcp-script 2") then Ok (Header Second) else Err kind.Header)

-- a line that may stand after these
abbrev pub in_place : List Line → Line → Result Line ScriptKind
in_place seen line = if is_out_of_order seen line then Err kind.Order else (if is_repeated seen line then Err kind.Repeated else Ok line)

-- the version that the first line tells
abbrev pub version_told : List Line → Version
version_told (Header version ∷ lines) = version
version_told lines = First

-- a later line, by its words
unfoldable pub later_line : List Line → List (List ℕ) → Result Line ScriptKind
later_line seen words = do
  line ← line_of (version_told seen) words
  in_place seen line

-- the next line after these
abbrev pub next_line : List Line → List ℕ → Result Line ScriptKind
next_line [] text = first_line text
next_line (first ∷ seen) text = later_line (first ∷ seen) (words_of text)

-- the fault of a line has its number
abbrev pub at_line : {A : Type 0} → ℕ → Result A ScriptKind → Result A ScriptFault
at_line number (Ok x) = Ok x
at_line number (Err kind) = Err (fault.Line number kind)

-- the lines read so far, after the line with this number
unfoldable pub seen_after : ℕ → List Line → List ℕ → Result (List Line) ScriptFault
seen_after number seen text =
    if nat_lt most_lines number then Err (fault.Line number kind.TooMany)
    else (if is_passed_over text then Ok seen
    else (at_line number (next_line seen text) >>= λ line. Ok (seen ++ line ∷ [])))

-- reading on from the line with this number: all lines, or the first fault
unfoldable pub read_on : ℕ → List Line → List (List ℕ) → Result (List Line) ScriptFault
read_on number seen [] = if list_any is_end seen then Ok seen else Err (fault.Line number kind.Missing)
read_on number seen (text ∷ texts) = seen_after number seen text >>= λ now. read_on (suc number) now texts

-- a script without a line
abbrev pub blank : Script
blank = record { seed = default_seed; checksum = false; short = false; buffer = default_buffer; paths = []; lines = [] }

-- what a line adds
abbrev pub with_line : Script → Line → Script
with_line script (Header version) = script
with_line script (Seed n) = record script { seed = n }
with_line script (Checksum on) = record script { checksum = on }
with_line script (Short on) = record script { short = on }
with_line script (Buffer octets) = record script { buffer = octets }
with_line script (Path index path) = record script { paths = script.paths ++ path ∷ [] }
with_line script (Event event) = record script { lines = script.lines ++ event ∷ [] }
with_line script End = script

-- what these lines say together
abbrev pub script_of : List Line → Script
script_of lines = fold with_line blank lines

-- the script that a text says, or its first fault
unfoldable pub reading : List ℕ → Result Script ScriptFault
reading text = read_on 1 [] (text_lines text) >>= λ lines. Ok (script_of lines)
