-- The line of a fault is the first one that no log has there.
--
-- The first refused line: reading as a walk over states; from every state the rest of some log is written down.
use Rattle.run_log.proofs.Words.{◌≡◌, ℕ, suc, ◌+◌, ◌^◌, ◌<◌, ◌≤◌, Bool, true, false, List, [], ◌∷◌, ◌++◌, length, take, Some, None, Result, Ok, refl, ap, sym}
use Rattle.run_log.proofs.Words.{◌∙◌, arith, cond, Option, subst, Err, codes, is_ok, text_lines, LogFault, Expected, Format, Width, Keys, Turns, Nothing, Turn}
use Rattle.run_log.proofs.Words.{round_text, width_text, keys_text, outcome_text, IsLong, HasRoundBelow, is_nothing, taken_line, read_on, reading, turn_list}
use Rattle.run_log.proofs.Words.{BeginsALog, IsFirstRefused, RefusesTheFirst}
use Rattle.run_log.specs.declared.form.Taken.{Taken}
use Rattle.run_log.specs.declared.outcome.Outcome.{Outcome}
use Rattle.run_log.proofs.LogReads.{bytes_same, round_no_step, outcome_no_step, outcome_again, keys_again}
use Rattle.run_log.proofs.Walking.{IsBelow, taken_below}

module _ (actors width : ℕ) where
  -- whether lines are the rest of a log, and what is asked of the first of them
  abbrev goes_on : Option Taken → (Expected → Bool) → Bool
  goes_on (Some line) rest = rest line.next
  goes_on None rest = false

  rest_of_log : Expected → List (List ℕ) → Bool
  rest_of_log expected [] = is_nothing expected
  rest_of_log expected (line ∷ lines) = goes_on (taken_line actors width expected line) (λ next. rest_of_log next lines)

  -- ---- every beginning can be finished

  finish_turns : ℕ → Bool → List (List ℕ)
  finish_turns round true = outcome_text Outcome.Rounds ∷ []
  finish_turns round false = round_text round ∷ outcome_text Outcome.Rounds ∷ []

  finish : Expected → List (List ℕ)
  finish Format = codes "mptcp-log 1" ∷ keys_text 0 0 ∷ finish_turns 0 false
  finish Width = width_text width ∷ keys_text 0 0 ∷ finish_turns 0 false
  finish Keys = keys_text 0 0 ∷ finish_turns 0 false
  finish (Turns round may_end) = finish_turns round may_end
  finish Nothing = []

  turns_finish : (round : ℕ) (may_end : Bool) → IsLong round → rest_of_log (Turns round may_end) (finish_turns round may_end) ≡ true
  unfolding rest_of_log finish_turns taken_line
  turns_finish round true h = rw (outcome_no_step actors Outcome.Rounds, outcome_again Outcome.Rounds) refl
  turns_finish round false h = rw (round_no_step actors round h, bytes_same (round_text round), outcome_no_step actors Outcome.Rounds, outcome_again Outcome.Rounds) refl

  finishes : (expected : Expected) → HasRoundBelow (2 ^ 64) expected → rest_of_log expected (finish expected) ≡ true
  unfolding rest_of_log finish taken_line
  finishes Format h = rw (keys_again 0 0) (turns_finish 0 false (omega arith))
  finishes Width h = rw (bytes_same (width_text width), keys_again 0 0) (turns_finish 0 false (omega arith))
  finishes Keys h = rw (keys_again 0 0) (turns_finish 0 false (omega arith))
  finishes (Turns round may_end) h = turns_finish round may_end h
  finishes Nothing h = refl

  -- ---- reading is Ok exactly for the rest of a log

  abbrev if_nothing : Bool → ℕ → List Turn → Result (List Turn) LogFault
  if_nothing b number turns = cond b (Ok turns) (Err (LogFault.Line number))

  ok_if : (b : Bool) (number : ℕ) (turns : List Turn) → is_ok (if_nothing b number turns) ≡ b
  ok_if = elim [ true ↦ λ number turns. refl | false ↦ λ number turns. refl ]

  same_ok : (lines : List (List ℕ)) (number : ℕ) (expected : Expected) (turns : List Turn) → is_ok (read_on actors width number expected turns lines) ≡ rest_of_log expected lines
  unfolding read_on rest_of_log
  same_ok [] number expected turns = ok_if (is_nothing expected) number turns
  same_ok (line ∷ lines) number expected turns = by (same_ok lines) (taken_line actors width expected line) refl
    where
      by : ((number : ℕ) (expected : Expected) (turns : List Turn) → is_ok (read_on actors width number expected turns lines) ≡ rest_of_log expected lines)
          → (o : Option Taken) → taken_line actors width expected line ≡ o → is_ok (read_on actors width number expected turns (line ∷ lines)) ≡ rest_of_log expected (line ∷ lines)
      by later (Some one) e = rw e (later (suc number) one.next (turns ++ turn_list one.turn))
      by later None e = rw e refl

  -- ---- where reading stops

  record Stops (expected : Expected) (lines : List (List ℕ)) (before : ℕ) : Type 0 where
    few : before ≤ length lines
    more : List (List ℕ)
    begins : rest_of_log expected (take before lines ++ more) ≡ true
    refused : before < length lines → (others : List (List ℕ)) → rest_of_log expected (take (suc before) lines ++ others) ≡ false

  abbrev line_in : Result (List Turn) LogFault → ℕ
  line_in (Err (LogFault.Line number)) = number
  line_in r = 0

  abbrev StopsAt : ℕ → ℕ → Expected → List (List ℕ) → Type 0
  StopsAt n number expected lines = (before : ℕ) × (n ≡ number + before) × Stops expected lines before

  low : (number : ℕ) (expected : Expected) → HasRoundBelow number expected → number ≤ 2 ^ 64 → HasRoundBelow (2 ^ 64) expected
  low number (Turns round may_end) h le = omega arith
  low number _ h le = tt

  from_end : (b : Bool) (number n : ℕ) (turns : List Turn) → if_nothing b number turns ≡ Err (LogFault.Line n) → number ≡ n
  from_end = elim [ true ↦ λ number n turns e. absurd cc | false ↦ λ number n turns e. ap line_in e ]

  rest_step : (expected : Expected) (line : List ℕ) (one : Taken) (lines : List (List ℕ)) → taken_line actors width expected line ≡ Some one → rest_of_log expected (line ∷ lines) ≡ rest_of_log one.next lines
  unfolding rest_of_log
  rest_step expected line one lines q = rw q refl

  rest_none : (expected : Expected) (line : List ℕ) (lines : List (List ℕ)) → taken_line actors width expected line ≡ None → rest_of_log expected (line ∷ lines) ≡ false
  unfolding rest_of_log
  rest_none expected line lines q = rw q refl

  stops : (lines : List (List ℕ)) (number : ℕ) (expected : Expected) (turns : List Turn) (n : ℕ) → HasRoundBelow number expected → number + length lines ≤ 2 ^ 64
      → read_on actors width number expected turns lines ≡ Err (LogFault.Line n) → StopsAt n number expected lines
  unfolding read_on rest_of_log
  stops [] number expected turns n below few e =
      let same = from_end (is_nothing expected) number n turns e in
      let begun = finishes expected (low number expected below (omega arith)) in
      (0, omega (arith, same), record { few = omega arith; more = finish expected; begins = begun; refused = λ l others. absurd (omega arith) })
  stops (line ∷ lines) number expected turns n below few e = by (stops lines) (taken_line actors width expected line) refl
    where
      by : ((number : ℕ) (expected : Expected) (turns : List Turn) (n : ℕ) → HasRoundBelow number expected → number + length lines ≤ 2 ^ 64
          → read_on actors width number expected turns lines ≡ Err (LogFault.Line n) → StopsAt n number expected lines)
          → (o : Option Taken) → taken_line actors width expected line ≡ o → StopsAt n number expected (line ∷ lines)
      by rest (Some one) q =
          let step : read_on actors width number expected turns (line ∷ lines) ≡ read_on actors width (suc number) one.next (turns ++ turn_list one.turn) lines = rw q refl in
          let next : HasRoundBelow (suc number) one.next = subst (λ (o : Option Taken). IsBelow actors width (suc number) o) q (taken_below actors width number expected line below) in
          let later = rest (suc number) one.next (turns ++ turn_list one.turn) n next (omega arith) (sym step ∙ e) in
          let begun : rest_of_log expected (line ∷ (take later.0 lines ++ later.2.more)) ≡ true = rest_step expected line one (take later.0 lines ++ later.2.more) q ∙ later.2.begins in
          let none : later.0 < length lines → (others : List (List ℕ)) → rest_of_log expected (line ∷ (take (suc later.0) lines ++ others)) ≡ false = λ l others. rest_step expected line one (take (suc later.0) lines ++ others) q ∙ later.2.refused l others in
          (suc later.0, omega (arith, later.1), record { few = omega (arith, later.2.few); more = later.2.more; begins = begun; refused = λ l others. none (omega arith) others })
      by rest None q =
          let step : read_on actors width number expected turns (line ∷ lines) ≡ Err (LogFault.Line number) = rw q refl in
          let same : number ≡ n = ap line_in (sym step ∙ e) in
          let begun = finishes expected (low number expected below (omega arith)) in
          let none : (others : List (List ℕ)) → rest_of_log expected (line ∷ others) ≡ false = λ others. rest_none expected line others q in
          (0, omega (arith, same), record { few = omega arith; more = finish expected; begins = begun; refused = λ l others. none others })

  first_refused : (text : List ℕ) (number : ℕ) → IsLong (length (text_lines text)) → reading actors width text ≡ Err (LogFault.Line number)
      → (before : ℕ) × (number ≡ suc before) × IsFirstRefused actors width (text_lines text) before
  unfolding reading
  first_refused text number long e =
      let lines = text_lines text in
      let found = stops lines 1 Format [] number tt (omega arith) e in
      let s = found.2 in
      let begun = same_ok (take found.0 lines ++ s.more) 1 Format [] ∙ s.begins in
      let none : found.0 < length lines → BeginsALog actors width (take (suc found.0) lines) → ⊥ = λ l begins.
      let refused = s.refused l begins.0 in
      let same = same_ok (take (suc found.0) lines ++ begins.0) 1 Format [] in
      let ok = begins.1 in absurd cc in
      (found.0, omega (arith, found.1), record { few = s.few; begins = (s.more, begun); refused = none })

pub refuses_the_first : RefusesTheFirst
refuses_the_first actors width text number long e = first_refused actors width text number long e
