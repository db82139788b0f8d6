-- What holds of every log.
use Rattle.std.specs.Prelude.{◌≡◌, ℕ, suc, ◌<◌, ◌≤◌, List, [], ◌∷◌, ◌++◌, length, take, map, Ok, Err, IsOk, All}
use Rattle.std.specs.List.{flat_map, AllByRecursion}
use Rattle.octet_text.specs.Lines.{text_lines}
use Rattle.linked_increase.specs.Paths.{IsInRange}
use Rattle.control_book.specs.declared.call.ControlReply.TheVariants.{Rows}
use Rattle.actor_desk.specs.declared.ask.Note.{Note}
use Rattle.actor_desk.specs.declared.ask.Reply.{Reply}
use Rattle.actor_desk.specs.declared.ask.Reply.TheVariants.{Control}
use Rattle.run_log.specs.declared.fault.LogFault.TheVariants.{Line}
use Rattle.run_log.specs.declared.form.Expected.TheVariants.{Format}
use Rattle.run_log.specs.declared.outcome.Outcome.{Outcome}
use Rattle.run_log.specs.declared.turn.Turn.{Turn}
use Rattle.run_log.specs.declared.turn.Turn.TheVariants.{Step, Round}
use Rattle.run_log.specs.Fitting.{IsByte, IsLong, NoteFits}
use Rattle.actor_desk.specs.Kinds.{IsOfKind}
use Rattle.run_log.specs.Telling.{as_told}
use Rattle.run_log.specs.Form.{read_on, reading}
use Rattle.run_log.specs.Lines.{opening_lines, old_opening_lines, rounds_lines, outcome_text, step_text, ended}

-- rows that a reply tells are those of paths whose window and round-trip time are in range
abbrev pub HasRowsInRange : Reply → Type 0
HasRowsInRange (Control (Rows rows)) = All IsInRange rows
HasRowsInRange reply = Unit {0}

-- a note of a run of so many actors
pub record CanBeLogged (actors : ℕ) (note : Note) : Type 0 where
  pub actor : note.actor < actors
  pub fits : NoteFits note
  pub rows : HasRowsInRange note.reply

-- the turns that the notes of a round tell
abbrev pub turns_of_round : List Note → List Turn
turns_of_round notes = map (λ note. Step note.actor) notes ++ Round ∷ []

abbrev pub turns_of : List (List Note) → List Turn
turns_of rounds = flat_map turns_of_round rounds

-- the text of a log that opens with these lines
abbrev pub log_behind : List (List ℕ) → List (List Note) → Outcome → List ℕ
log_behind opening rounds outcome = flat_map ended (opening ++ (rounds_lines 0 rounds ++ outcome_text outcome ∷ []))

-- the log of some rounds reads to their turns, in both formats
abbrev pub ReadsToItsTurns : Type 0
ReadsToItsTurns = (actors width key_a key_b : ℕ) (first : List Note) (rounds : List (List Note)) (outcome : Outcome)
    → IsByte width → IsLong (length rounds) → AllByRecursion (AllByRecursion (CanBeLogged actors)) (first ∷ rounds)
    → (reading actors width (log_behind (opening_lines width key_a key_b) (first ∷ rounds) outcome) ≡ Ok (turns_of (first ∷ rounds)))
    × (reading actors width (log_behind (old_opening_lines key_a key_b) (first ∷ rounds) outcome) ≡ Ok (turns_of (first ∷ rounds)))

-- lines that a log begins with
abbrev pub BeginsALog : ℕ → ℕ → List (List ℕ) → Type 0
BeginsALog actors width lines = (more : List (List ℕ)) × IsOk (read_on actors width 1 Format [] (lines ++ more))

-- the first `before` lines begin a log, and with the next one, if there is one, no log begins
pub record IsFirstRefused (actors width : ℕ) (lines : List (List ℕ)) (before : ℕ) : Type 0 where
  pub few : before ≤ length lines
  pub begins : BeginsALog actors width (take before lines)
  pub refused : before < length lines → BeginsALog actors width (take (suc before) lines) → ⊥

-- the line of a fault is the first one that no log has there; where the text begins a log and isn't one, it is the line behind its last
abbrev pub RefusesTheFirst : Type 0
RefusesTheFirst = (actors width : ℕ) (text : List ℕ) (number : ℕ) → IsLong (length (text_lines text)) → reading actors width text ≡ Err (Line number)
    → (before : ℕ) × (number ≡ suc before) × IsFirstRefused actors width (text_lines text) before

-- two notes with one line are told alike, where the replies are of the asked kind
abbrev pub LinesTellTheirNotes : Type 0
LinesTellTheirNotes = (a b : Note) → NoteFits a → NoteFits b → IsOfKind a.ask a.reply → IsOfKind b.ask b.reply → step_text a ≡ step_text b → as_told a ≡ as_told b
