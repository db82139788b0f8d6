-- What is read of a log: all of it, or where it was cut off, as that of a run that was killed, its whole rounds.
use Rattle.std.specs.Prelude.{◌≡◌, ℕ, suc, if◌then◌else◌, List, [], ◌∷◌, ◌++◌, Ok, Err, IsErr, codes}
use Rattle.std.specs.Fmt.{decimal}
use Rattle.std.specs.Str.{bytes_eq}
use Rattle.octet_text.specs.Lines.{text_lines}
use Rattle.link_script.specs.declared.script.Script.{Script}
use Rattle.run_log.specs.declared.fault.LogFault.TheVariants as log_fault
use Rattle.run_log.specs.declared.turn.Turn.{Turn}
use Rattle.run_outside.specs.Reading.{log_reading}
use Rattle.run_outside.specs.declared.status.Status.{Status}
use Rattle.run_outside.specs.declared.status.Status.TheVariants as status
use Rattle.mptcp_view.specs.declared.cutting.Extent.{Extent}
use Rattle.mptcp_view.specs.declared.cutting.Extent.TheVariants.{Whole, WholeRounds}

-- the line that ends the round of this number
abbrev pub round_words : ℕ → List ℕ
round_words number = codes "round " ++ decimal number

-- The rounds of lines whose end is among them, as octets: the first one has this number, and these octets stand before.
abbrev pub rounds_in : ℕ → List ℕ → List (List ℕ) → List ℕ
rounds_in number before [] = []
rounds_in number before (line ∷ lines) =
    if bytes_eq line (round_words number) then (before ++ (line ++ 10 ∷ [])) ++ rounds_in (suc number) [] lines
    else rounds_in number (before ++ (line ++ 10 ∷ [])) lines

-- the whole rounds of a log, whose first one is round 0, as the log of a run that has used them up
abbrev pub whole_rounds : List ℕ → List ℕ
whole_rounds log = rounds_in 0 [] (text_lines log) ++ codes "outcome rounds\n"

-- the octets are this much of a log; its whole rounds are read only where it isn't a log as it stands
abbrev pub IsPart : Extent → Script → List ℕ → List ℕ → Type 0
IsPart Whole script log part = part ≡ log
IsPart WholeRounds script log part = IsErr (log_reading script log) × (part ≡ whole_rounds log)

-- the octets are this much of a log, and the turns are what they say
abbrev pub IsRead : Script → List ℕ → Extent → List ℕ → List Turn → Type 0
IsRead script log extent part turns = IsPart extent script log part × (log_reading script part ≡ Ok turns)

-- a log is refused at this line, and its whole rounds are refused too
abbrev pub IsUnread : Script → List ℕ → Status → Type 0
IsUnread script log (status.Log line) = (log_reading script log ≡ Err (log_fault.Line line)) × IsErr (log_reading script (whole_rounds log))
IsUnread script log status.Memory = Unit {0}
IsUnread script log _ = ⊥
