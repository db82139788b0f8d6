-- What the words of a command line ask for: a view, and the inputs of a replay.
use Rattle.std.specs.Prelude.{ℕ, ◌==◌, Bool, not, ◌&&◌, ◌||◌, if◌then◌else◌, Option, Some, None, option_map, List, [], ◌∷◌, codes, length}
use Rattle.std.specs.Str.{bytes_eq}
use Rattle.sides.specs.declared.side.Side.{Side}
use Rattle.sides.specs.declared.side.Side.TheVariants.{A, B}
use Rattle.sides.specs.Side.{side_word}
use Rattle.run_words.specs.Lines.{Line, as_line, is_given, replay}
use Rattle.mptcp_view.specs.declared.asking.Asked.{Asked}
use Rattle.mptcp_view.specs.declared.asking.DataNumbers.TheVariants.{Relative, Absolute}
use Rattle.mptcp_view.specs.declared.asking.View.{View}
use Rattle.mptcp_view.specs.declared.asking.View.TheVariants.{Capture, Rates, Summary, Picture, Text, Json, Page}

-- the view of this name, as it is without an option
abbrev pub view_named : List ℕ → Option View
view_named word =
    if bytes_eq word (codes "capture") then Some (Capture None)
    else (if bytes_eq word (codes "rates") then Some Rates
    else (if bytes_eq word (codes "summary") then Some Summary
    else (if bytes_eq word (codes "picture") then Some Picture
    else (if bytes_eq word (codes "text") then Some (Text Relative)
    else (if bytes_eq word (codes "json") then Some Json
    else (if bytes_eq word (codes "page") then Some Page else None))))))

abbrev pub side_named : List ℕ → Option Side
side_named word = if bytes_eq word (side_word A) then Some A else (if bytes_eq word (side_word B) then Some B else None)

-- `capture --at a` and `capture --at b`: what one side sees
abbrev pub view_at : List ℕ → List ℕ → List ℕ → Option View
view_at word option value =
    if bytes_eq word (codes "capture") && bytes_eq option (codes "--at") then option_map (λ side. Capture (Some side)) (side_named value)
    else None

-- `text --absolute`: data numbers as they stand
abbrev pub view_with : List ℕ → List ℕ → Option View
view_with word option =
    if bytes_eq word (codes "text") && bytes_eq option (codes "--absolute") then Some (Text Absolute) else None

-- what is asked for: a view of a replay
pub record Asking : Type 0 where
  pub view : View
  pub line : Line

abbrev pub as_asked : Asked → Asking
as_asked asked = record { view = asked.view; line = as_line asked.line }

-- the inputs of a replay of this log
abbrev pub line_with : List ℕ → List ℕ → List ℕ → List ℕ → List ℕ → Line
line_with script file_a file_b log out = record {
  work = replay log;
  names = record { script = script; file_a = file_a; file_b = file_b; read_by_b = out; read_by_a = out };
}

-- no name is empty
abbrev pub are_given : List ℕ → List ℕ → List ℕ → List ℕ → List ℕ → Bool
are_given script file_a file_b log out = is_given script && (is_given file_a && (is_given file_b && (is_given log && is_given out)))

-- OUT has the name of none of these
abbrev pub is_apart : List ℕ → List ℕ → List ℕ → List ℕ → List ℕ → Bool
is_apart out script file_a file_b log =
    not (bytes_eq out script) && (not (bytes_eq out file_a) && (not (bytes_eq out file_b) && not (bytes_eq out log)))

-- neither file has the name of the script or of the log, which are read as they stand
abbrev pub are_read_apart : List ℕ → List ℕ → List ℕ → List ℕ → Bool
are_read_apart script file_a file_b log =
    not (bytes_eq file_a script) && (not (bytes_eq file_a log) && (not (bytes_eq file_b script) && not (bytes_eq file_b log)))

-- the names can be those of a view, and of a run of messages where that is asked
abbrev pub are_names : Bool → List ℕ → List ℕ → List ℕ → List ℕ → List ℕ → Bool
are_names messages script file_a file_b log out =
    are_given script file_a file_b log out
    && (is_apart out script file_a file_b log && (not messages || are_read_apart script file_a file_b log))

-- what is asked: a view of what has these names. None of them is empty, and OUT is none of the inputs; of a run of
-- messages neither file is the script or the log.
abbrev pub asked_of : Bool → Option View → List ℕ → List ℕ → List ℕ → List ℕ → List ℕ → Option Asking
asked_of messages view script file_a file_b log out =
    if are_names messages script file_a file_b log out
    then option_map (λ view. record { view = view; line = line_with script file_a file_b log out }) view else None

-- a view's name and five names
abbrev pub asked_plainly : Bool → List (List ℕ) → Option Asking
asked_plainly messages (word ∷ script ∷ file_a ∷ file_b ∷ log ∷ out ∷ []) = asked_of messages (view_named word) script file_a file_b log out
asked_plainly messages words = None

-- a view's name, an option of it in one word, and five names
abbrev pub asked_flagged : Bool → List (List ℕ) → Option Asking
asked_flagged messages (word ∷ option ∷ script ∷ file_a ∷ file_b ∷ log ∷ out ∷ []) =
    asked_of messages (view_with word option) script file_a file_b log out
asked_flagged messages words = None

-- a view's name, an option of it in two words, and five names
abbrev pub asked_with : Bool → List (List ℕ) → Option Asking
asked_with messages (word ∷ option ∷ value ∷ script ∷ file_a ∷ file_b ∷ log ∷ out ∷ []) =
    asked_of messages (view_at word option value) script file_a file_b log out
asked_with messages words = None

-- seven words have an option in one word, eight one in two
abbrev pub asked_in : Bool → List (List ℕ) → Option Asking
asked_in messages words =
    if length words == 7 then asked_flagged messages words
    else (if length words == 8 then asked_with messages words else asked_plainly messages words)
