-- The last turn of a log is the end of a round.
use Rattle.std.proofs.Common.{◌≡◌, refl, sym, subst, ℕ, suc, Bool, true, false, cond, List, [], ◌∷◌, ◌++◌, Option, Some, None, Result, Ok}
use Rattle.std.specs.Prelude.{codes}
use Rattle.std.specs.Str.{bytes_eq}
use Rattle.std.proofs.lemmas.List.{append-nil}
use Rattle.octet_text.specs.Lines.{text_lines}
use Rattle.link_script.specs.Steps.{◌>>=◌}
use Rattle.run_log.specs.declared.fault.LogFault.{LogFault}
use Rattle.run_log.specs.declared.form.Expected.{Expected}
use Rattle.run_log.specs.declared.form.Expected.TheVariants.{Format, Width, Keys, Turns, Nothing}
use Rattle.run_log.specs.declared.form.Taken.{Taken}
use Rattle.run_log.specs.declared.turn.Turn as logged_turn
use Rattle.run_log.specs.declared.turn.Turn.{Turn}
use Rattle.run_log.specs.Fields.{step_actor, is_keys_line, is_outcome_line}
use Rattle.run_log.specs.Form.{silent, tells, taken_line, turn_list, step_or, end_line, at_end, after_line, read_on, reading}
use Rattle.run_log.specs.Lines.{round_text, width_text}
use Rattle.run_outside.specs.Reading.{EndsInRound}

abbrev LogTurns : Type 0
LogTurns = List logged_turn.Turn

-- where the log may end, its turns end with a round
abbrev MayEnd : Expected → LogTurns → Type 0
MayEnd (Turns round true) turns = EndsInRound turns
MayEnd Nothing turns = EndsInRound turns
MayEnd expected turns = Unit {0}

abbrev Keeps : LogTurns → Option Taken → Type 0
Keeps turns None = Unit {0}
Keeps turns (Some line) = MayEnd line.next (turns ++ turn_list line.turn)

one_keeps : (b : Bool) (turns : LogTurns) (next : Expected) → MayEnd next (turns ++ []) → Keeps turns (cond b (Some (silent next)) None)
one_keeps true turns next h = h
one_keeps false turns next h = tt

format_keeps : (b c : Bool) (turns : LogTurns) → Keeps turns (cond b (Some (silent Width)) (cond c (Some (silent Keys)) None))
format_keeps true c turns = tt
format_keeps false true turns = tt
format_keeps false false turns = tt

round_keeps : (b c : Bool) (round : ℕ) (turns : LogTurns) → (c ≡ true → EndsInRound turns)
    → Keeps turns (cond b (Some (tells Turn.Round (Turns (suc round) true))) (cond c (Some (silent Nothing)) None))
round_keeps true c round turns h = (turns, refl)
round_keeps false true round turns h = subst EndsInRound (sym (append-nil turns)) (h refl)
round_keeps false false round turns h = tt

end_keeps : (round : ℕ) (may_end : Bool) (line : List ℕ) (turns : LogTurns) → MayEnd (Turns round may_end) turns → Keeps turns (end_line round may_end line)
end_keeps round true line turns h = round_keeps (bytes_eq line (round_text round)) (is_outcome_line line) round turns (λ e. h)
end_keeps round false line turns h = round_keeps (bytes_eq line (round_text round)) false round turns (λ e. absurd cc)

step_keeps : (o : Option ℕ) (round : ℕ) (turns : LogTurns) (other : Option Taken) → Keeps turns other → Keeps turns (step_or round o other)
step_keeps (Some actor) round turns other h = tt
step_keeps None round turns other h = h

taken_keeps : (actors width : ℕ) (expected : Expected) (line : List ℕ) (turns : LogTurns) → MayEnd expected turns → Keeps turns (taken_line actors width expected line)
unfolding taken_line
taken_keeps actors width Format line turns h = format_keeps (bytes_eq line (codes "mptcp-log 2")) (bytes_eq line (codes "mptcp-log 1")) turns
taken_keeps actors width Width line turns h = one_keeps (bytes_eq line (width_text width)) turns Keys tt
taken_keeps actors width Keys line turns h = one_keeps (is_keys_line line) turns (Turns 0 false) tt
taken_keeps actors width (Turns round may_end) line turns h = step_keeps (step_actor actors line) round turns (end_line round may_end line) (end_keeps round may_end line turns h)
taken_keeps actors width Nothing line turns h = tt

abbrev ok_turns : LogTurns → Result LogTurns LogFault
ok_turns turns = Ok turns

end_ends : (number : ℕ) (expected : Expected) (turns all : LogTurns) → MayEnd expected turns → at_end number expected turns ≡ Ok all → EndsInRound all
end_ends number Nothing turns all h e = let same : ok_turns turns ≡ ok_turns all = e in subst EndsInRound (cc) h
end_ends number _ turns all h e = absurd cc

read_ends : (lines : List (List ℕ)) (actors width number : ℕ) (expected : Expected) (turns all : LogTurns) → MayEnd expected turns
    → read_on actors width number expected turns lines ≡ Ok all → EndsInRound all
unfolding read_on
read_ends [] actors width number expected turns all h e = end_ends number expected turns all h e
read_ends (line ∷ lines) actors width number expected turns all h e =
    by (taken_line actors width expected line) (taken_keeps actors width expected line turns h) (λ next more. read_ends lines actors width (suc number) next more all) e
  where
    by : (o : Option Taken) → Keeps turns o
        → ((next : Expected) (more : LogTurns) → MayEnd next more → read_on actors width (suc number) next more lines ≡ Ok all → EndsInRound all)
        → (after_line number turns o >>= λ known. read_on actors width (suc number) known.0 known.1 lines) ≡ Ok all → EndsInRound all
    by None h later e = absurd cc
    by (Some next) h later e = later next.next (turns ++ turn_list next.turn) h e

-- the turns that a log tells end with a round
pub log_ends : (actors width : ℕ) (text : List ℕ) (all : LogTurns) → reading actors width text ≡ Ok all → EndsInRound all
unfolding reading
log_ends actors width text all e = read_ends (text_lines text) actors width 1 Format [] all tt e
