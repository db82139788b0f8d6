-- The text that the rounds of a run put to its log.
use Rattle.std.specs.Prelude.{ℕ, zero, suc, List, [], ◌∷◌, ◌++◌, flat_map, Option, Some, None}
use Rattle.actor_desk.specs.declared.ask.Note.{Note}
use Rattle.std.specs.List.{AllByRecursion}
use Rattle.run_log.specs.Fitting.{IsLong, NoteFits}
use Rattle.run_log.specs.Lines.{ended, round_lines}

-- what the first round puts before its lines
abbrev pub opening_at : List ℕ → ℕ → List ℕ
opening_at opening zero = opening
opening_at opening (suc number) = []

-- what the end of a round puts to a log
abbrev pub logged_text : List ℕ → ℕ → List Note → List ℕ
logged_text opening number steps = opening_at opening number ++ flat_map ended (round_lines number steps)

-- nothing, where none is kept
abbrev pub round_text : Option (List ℕ) → ℕ → List Note → List ℕ
round_text None number steps = []
round_text (Some opening) number steps = logged_text opening number steps

-- the log of rounds, of which the first has this number
abbrev pub log_text : Option (List ℕ) → ℕ → List (List Note) → List ℕ
log_text opening number [] = []
log_text opening number (steps ∷ more) = round_text opening number steps ++ log_text opening (suc number) more

-- ---- numbers

-- the numbers of logged notes are numbers of their types
abbrev pub NotesFit : Option (List ℕ) → List Note → Type 0
NotesFit None steps = Unit {0}
NotesFit (Some opening) steps = AllByRecursion NoteFits steps

-- the number of a round is one, and so are those of its logged notes
abbrev pub RoundFits : Option (List ℕ) → ℕ → List Note → Type 0
RoundFits opening number steps = IsLong number × NotesFit opening steps

-- the numbers of rounds, of which the first is this one, are such, and those of their logged notes
abbrev pub RoundsFit : Option (List ℕ) → ℕ → List (List Note) → Type 0
RoundsFit opening number [] = Unit {0}
RoundsFit opening number (steps ∷ more) = RoundFits opening number steps × RoundsFit opening (suc number) more
