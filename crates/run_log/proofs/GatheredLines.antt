-- The text of a round, gathered part by part.
use Rattle.std.proofs.Common.{◌≡◌, refl, sym, ◌∙◌, ap, ℕ, suc, List, [], ◌∷◌, ◌++◌, map, arith}
use Rattle.std.specs.Prelude.{All}
use Rattle.std.specs.List.{flat_map, AllByRecursion}
use Rattle.std.proofs.lemmas.Grind.{flat_map-append}
use Rattle.std.proofs.lemmas.List.{append-nil}
use Rattle.std.specs.Borrow.{Bor}
use Rattle.actor_desk.specs.declared.ask.Note.{Note}
use Rattle.actor_desk.proofs.Inserting.{lent}
use Rattle.run_log.specs.Fitting.{NoteFits}
use Rattle.run_log.specs.Lines.{ended, step_text, round_lines, round_text}

same_lines : (steps : List (Bor Note)) → map (λ note. step_text note.now) steps ≡ map step_text (lent steps)
same_lines [] = refl
same_lines (step ∷ steps) = ap (λ xs. step_text step.now ∷ xs) (same_lines steps)

-- the lines of the steps, and that of the round's end
pub gathered : (number : ℕ) (steps : List (Bor Note)) (none lines : List ℕ) → none ≡ [] → lines ≡ none ++ flat_map ended (map (λ note. step_text note.now) steps)
    → lines ++ ended (round_text number) ≡ flat_map ended (round_lines number (lent steps))
gathered number steps none lines is put =
    ap (λ xs. xs ++ ended (round_text number)) (put ∙ ap (λ xs. xs ++ flat_map ended (map (λ note. step_text note.now) steps)) is)
    ∙ ap (λ xs. flat_map ended xs ++ ended (round_text number)) (same_lines steps)
    ∙ ap (λ xs. flat_map ended (map step_text (lent steps)) ++ xs) (sym (append-nil (ended (round_text number))))
    ∙ sym (flat_map-append ended (map step_text (lent steps)) (round_text number ∷ []))

-- numbers fit, one note after the other
pub lent_fit : (steps : List (Bor Note)) → All (λ note. NoteFits note.now) steps → AllByRecursion NoteFits (lent steps)
lent_fit [] h = tt
lent_fit (step ∷ steps) h = (h 0 step (omega arith), lent_fit steps (λ i d within. h (suc i) d (omega (arith, within))))
