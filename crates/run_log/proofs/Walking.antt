-- Reading line after line, as a loop does.
use Rattle.run_log.proofs.Words.{◌≡◌, ℕ, suc, ◌+◌, ◌<◌, Bool, true, false, eqb, ◌&&◌, List, [], ◌∷◌, length, Some, None, Result, Ok, refl, ap, sym, ◌∙◌, arith}
use Rattle.run_log.proofs.Words.{cond, Option, subst, Err, add-one, codes, eqb-true, bytes_eq, nil_from_length, text_lines, LogFault, Expected, Format, Width}
use Rattle.run_log.proofs.Words.{Keys, Turns, Nothing, Turn, round_text, width_text, Fails, HasRoundBelow, is_nothing, silent, tells, step_or, end_line}
use Rattle.run_log.proofs.Words.{after_line, taken_line, read_on, reading, step_actor, is_keys_line, is_outcome_line}
use Rattle.run_log.specs.declared.form.Taken.{Taken}
use Rattle.run_log.specs.declared.turn.Turn.TheVariants.{Round}

module _ (actors width : ℕ) where
  pub goes_on : (number : ℕ) (expected next : Expected) (turns now : List Turn) (rest line after : List ℕ) (whole : Result (List Turn) LogFault)
      → text_lines rest ≡ line ∷ text_lines after → after_line number turns (taken_line actors width expected line) ≡ Ok (next, now)
      → read_on actors width number expected turns (text_lines rest) ≡ whole → read_on actors width (number + 1) next now (text_lines after) ≡ whole
  unfolding read_on
  goes_on number expected next turns now rest line after whole cut one so_far =
      let step : read_on actors width number expected turns (text_lines rest) ≡ read_on actors width (suc number) next now (text_lines after) = rw (cut, one) refl in
      rw add-one (sym step ∙ so_far)

  -- a line that is refused
  pub stops : (f : LogFault) (number : ℕ) (expected : Expected) (turns : List Turn) (rest line after : List ℕ) (whole : Result (List Turn) LogFault)
      → text_lines rest ≡ line ∷ text_lines after → Fails f (after_line number turns (taken_line actors width expected line))
      → read_on actors width number expected turns (text_lines rest) ≡ whole → Fails f whole
  unfolding read_on
  stops LogFault.Memory number expected turns rest line after whole cut refused so_far = tt
  stops (LogFault.Line n) number expected turns rest line after whole cut refused so_far =
      let step : read_on actors width number expected turns (text_lines rest) ≡ Err (LogFault.Line n) = rw (cut, refused) refl in
      sym so_far ∙ step

  at_last : (number : ℕ) (expected : Expected) (turns : List Turn) (rest : List ℕ) → eqb (length rest) 0 ≡ true
      → read_on actors width number expected turns (text_lines rest) ≡ read_on actors width number expected turns []
  at_last number expected turns rest empty =
      ap (λ (rest : List ℕ). read_on actors width number expected turns (text_lines rest)) (nil_from_length rest (eqb-true _ _ empty))

  pub misses : (number : ℕ) (expected : Expected) (turns : List Turn) (rest : List ℕ) (whole : Result (List Turn) LogFault)
      → eqb (length rest) 0 ≡ true → is_nothing expected ≡ false → read_on actors width number expected turns (text_lines rest) ≡ whole → whole ≡ Err (LogFault.Line number)
  unfolding read_on
  misses number expected turns rest whole empty more so_far =
      let last : read_on actors width number expected turns [] ≡ Err (LogFault.Line number) = rw more refl in
      sym so_far ∙ at_last number expected turns rest empty ∙ last

  pub ends : (number : ℕ) (expected : Expected) (turns : List Turn) (rest : List ℕ) (whole : Result (List Turn) LogFault)
      → eqb (length rest) 0 ≡ true → is_nothing expected ≡ true → read_on actors width number expected turns (text_lines rest) ≡ whole → whole ≡ Ok turns
  unfolding read_on
  ends number expected turns rest whole empty ended so_far =
      let last : read_on actors width number expected turns [] ≡ Ok turns = rw ended refl in
      sym so_far ∙ at_last number expected turns rest empty ∙ last

  -- ---- the number of a round is below that of its line

  abbrev pub IsBelow : ℕ → Option Taken → Type 0
  IsBelow bound (Some line) = HasRoundBelow bound line.next
  IsBelow bound None = Unit {0}

  either : (bound : ℕ) (b : Bool) (x y : Option Taken) → IsBelow bound x → IsBelow bound y → IsBelow bound (cond b x y)
  either bound true x y p q = p
  either bound false x y p q = q

  behind_step : (number round : ℕ) (actor : Option ℕ) (other : Option Taken) → round < number → IsBelow (suc number) other → IsBelow (suc number) (step_or round actor other)
  behind_step number round (Some actor) other l p = omega arith
  behind_step number round None other l p = p

  pub taken_below : (number : ℕ) (expected : Expected) (line : List ℕ) → HasRoundBelow number expected → IsBelow (suc number) (taken_line actors width expected line)
  unfolding taken_line
  taken_below number Format line l =
      let old = either (suc number) (bytes_eq line (codes "mptcp-log 1")) (Some (silent Keys)) None (tt {0}) (tt {0}) in
      either (suc number) (bytes_eq line (codes "mptcp-log 2")) (Some (silent Width)) _ (tt {0}) old
  taken_below number Width line l = either (suc number) (bytes_eq line (width_text width)) (Some (silent Keys)) None (tt {0}) (tt {0})
  taken_below number Keys line l =
      let none_yet : 0 < suc number = omega arith in
      either (suc number) (is_keys_line line) (Some (silent (Turns 0 false))) None none_yet tt
  taken_below number (Turns round may_end) line l =
      let one_more : suc round < suc number = omega arith in
      let ended = either (suc number) (bytes_eq line (round_text round)) (Some (tells Round (Turns (suc round) true))) _ one_more (either (suc number) (may_end && is_outcome_line line) (Some (silent Nothing)) None tt tt) in
      behind_step number round (step_actor actors line) (end_line round may_end line) l ended
  taken_below number Nothing line l = tt

  abbrev first : Result (Expected × List Turn) LogFault → Expected
  first (Ok known) = known.0
  first (Err f) = Nothing

  of_ok : (number : ℕ) (turns now : List Turn) (next : Expected) (o : Option Taken) → IsBelow (suc number) o → after_line number turns o ≡ Ok (next, now) → HasRoundBelow (number + 1) next
  of_ok number turns now next (Some line) p e = rw add-one (subst (λ (x : Expected). HasRoundBelow (suc number) x) (ap first e) p)
  of_ok number turns now next None p e = absurd cc

  pub below_more : (number : ℕ) (expected next : Expected) (turns now : List Turn) (line : List ℕ) → HasRoundBelow number expected
      → after_line number turns (taken_line actors width expected line) ≡ Ok (next, now) → HasRoundBelow (number + 1) next
  below_more number expected next turns now line l e = of_ok number turns now next (taken_line actors width expected line) (taken_below number expected line l) e

  pub begins : (text : List ℕ) (turns : List Turn) → turns ≡ [] → read_on actors width 1 Format turns (text_lines text) ≡ reading actors width text
  unfolding reading
  begins text turns e = ap (λ (turns : List Turn). read_on actors width 1 Format turns (text_lines text)) e
