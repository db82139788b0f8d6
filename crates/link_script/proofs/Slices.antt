-- A slice of words that is known by its length.
--
-- Several arms by slice length with `?` inside leave exits open: lemmas `two_words`, `three_words`
-- (`link_script/proofs/Slices`) and `err_from_is_err_and`.
use Rattle.std.proofs.Common.{◌≡◌, ℕ, List, [], ◌∷◌, length, get_or, map, refl, arith}
use Rattle.std.specs.Borrow.{Bor}

abbrev pub words_in : List (Bor (List ℕ)) → List (List ℕ)
words_in words = map (λ word. word.now) words

-- what a place past the end is read as
abbrev pub no_word : Bor (List ℕ)
no_word = record { ref_ptr = (0, 0); now = [] }

pub two_words : (words : List (Bor (List ℕ))) → length words ≡ 2 → words_in words ≡ (get_or words 0 no_word).now ∷ (get_or words 1 no_word).now ∷ []
two_words [] h = absurd (omega arith)
two_words (a ∷ []) h = absurd (omega arith)
two_words (a ∷ b ∷ []) h = refl
two_words (a ∷ b ∷ c ∷ words) h = absurd (omega arith)

pub three_words : (words : List (Bor (List ℕ))) → length words ≡ 3
    → words_in words ≡ (get_or words 0 no_word).now ∷ (get_or words 1 no_word).now ∷ (get_or words 2 no_word).now ∷ []
three_words [] h = absurd (omega arith)
three_words (a ∷ []) h = absurd (omega arith)
three_words (a ∷ b ∷ []) h = absurd (omega arith)
three_words (a ∷ b ∷ c ∷ []) h = refl
three_words (a ∷ b ∷ c ∷ e ∷ words) h = absurd (omega arith)
