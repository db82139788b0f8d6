-- The form of a log, line after line: what may stand next, and what it tells.
use Rattle.std.specs.Prelude.{◌≡◌, ℕ, suc, ◌<◌, Bool, true, false, ◌&&◌, List, [], ◌∷◌, ◌++◌, Option, Some, None, Result, Ok, Err, if◌then◌else◌, codes}
use Rattle.std.specs.Str.{bytes_eq}
use Rattle.octet_text.specs.Lines.{text_lines}
use Rattle.link_script.specs.Steps.{◌>>=◌}
use Rattle.run_log.specs.declared.fault.LogFault.{LogFault}
use Rattle.run_log.specs.declared.fault.LogFault.TheVariants.{Line, Memory}
use Rattle.run_log.specs.declared.form.Expected.{Expected}
use Rattle.run_log.specs.declared.form.Expected.TheVariants.{Format, Width, Keys, Turns, Nothing}
use Rattle.run_log.specs.declared.form.Taken.{Taken}
use Rattle.run_log.specs.declared.turn.Turn.{Turn}
use Rattle.run_log.specs.declared.turn.Turn.TheVariants.{Step, Round}
use Rattle.run_log.specs.Fields.{step_actor, is_keys_line, is_outcome_line}
use Rattle.run_log.specs.Lines.{round_text, width_text}

-- a line that tells no turn
abbrev pub silent : Expected → Taken
silent next = record { next = next; turn = None }

-- a line that tells a turn
abbrev pub tells : Turn → Expected → Taken
tells turn next = record { next = next; turn = Some turn }

-- the first line names the format, of which the first names no width
abbrev pub format_line : List ℕ → Option Taken
format_line line =
    if bytes_eq line (codes "mptcp-log 2") then Some (silent Width)
    else (if bytes_eq line (codes "mptcp-log 1") then Some (silent Keys) else None)

-- the second line of the newer format names the octets of a data number
abbrev pub width_line : ℕ → List ℕ → Option Taken
width_line width line = if bytes_eq line (width_text width) then Some (silent Keys) else None

-- behind the format, and the width where one stands, come the keys, and behind them the first turn
abbrev pub keys_line : List ℕ → Option Taken
keys_line line = if is_keys_line line then Some (silent (Turns 0 false)) else None

-- a line that is no step ends the round, or, directly behind the end of a round, the log
abbrev pub end_line : ℕ → Bool → List ℕ → Option Taken
end_line round may_end line =
    if bytes_eq line (round_text round) then Some (tells Round (Turns (suc round) true))
    else (if may_end && is_outcome_line line then Some (silent Nothing) else None)

-- a step goes on with the round
abbrev pub step_or : ℕ → Option ℕ → Option Taken → Option Taken
step_or round (Some actor) other = Some (tells (Step actor) (Turns round false))
step_or round None other = other

-- a step of one of so many actors, or what ends the round or the log
abbrev pub turn_line : ℕ → ℕ → Bool → List ℕ → Option Taken
turn_line actors round may_end line = step_or round (step_actor actors line) (end_line round may_end line)

-- A fault that a function returned is the one that reading gives; of want of memory nothing is said.
abbrev pub Fails : {Y : Type 0} → LogFault → Result Y LogFault → Type 0
Fails Memory read = Unit {0}
Fails (Line number) read = read ≡ Err (Line number)

-- what a line tells, and what may stand behind it; None where it can't stand there
unfoldable pub taken_line : ℕ → ℕ → Expected → List ℕ → Option Taken
taken_line actors width Format line = format_line line
taken_line actors width Width line = width_line width line
taken_line actors width Keys line = keys_line line
taken_line actors width (Turns round may_end) line = turn_line actors round may_end line
taken_line actors width Nothing line = None

abbrev pub turn_list : Option Turn → List Turn
turn_list (Some turn) = turn ∷ []
turn_list None = []

abbrev pub is_nothing : Expected → Bool
is_nothing Nothing = true
is_nothing expected = false

-- the round whose end may stand next is below a bound
abbrev pub HasRoundBelow : ℕ → Expected → Type 0
HasRoundBelow bound (Turns round may_end) = round < bound
HasRoundBelow bound expected = Unit {0}

-- the text is a log where nothing more may stand; else the line behind the last one is missing
abbrev pub at_end : ℕ → Expected → List Turn → Result (List Turn) LogFault
at_end number expected turns = if is_nothing expected then Ok turns else Err (Line number)

-- what the line with this number makes of what may stand next and the turns so far
abbrev pub after_line : ℕ → List Turn → Option Taken → Result (Expected × List Turn) LogFault
after_line number turns (Some line) = Ok (line.next, turns ++ turn_list line.turn)
after_line number turns None = Err (Line number)

-- reading on from the line with this number, where so much is known
unfoldable pub read_on : ℕ → ℕ → ℕ → Expected → List Turn → List (List ℕ) → Result (List Turn) LogFault
read_on actors width number expected turns [] = at_end number expected turns
read_on actors width number expected turns (line ∷ lines) =
    after_line number turns (taken_line actors width expected line) >>= λ known. read_on actors width (suc number) known.0 known.1 lines

-- the turns of a log for so many actors and data numbers of so many octets, or the first line that is refused
unfoldable pub reading : ℕ → ℕ → List ℕ → Result (List Turn) LogFault
reading actors width text = read_on actors width 1 Format [] (text_lines text)

-- What a function returned is what reading gives: the value, seen by view, or the line of the fault, unless memory ran out.
abbrev pub Gives : {X Y : Type 0} → (X → Y) → Result X LogFault → Result Y LogFault → Type 0
Gives view (Ok x) read = read ≡ Ok (view x)
Gives view (Err fault) read = Fails fault read
