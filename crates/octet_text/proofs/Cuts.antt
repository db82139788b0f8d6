-- Where a text is cut into lines.
use Rattle.std.proofs.Common.{◌≡◌, ℕ, zero, suc, ◌+◌, ◌<◌, Bool, true, false, cond, ltb, List, [], ◌∷◌, length, get_or, take, drop, Some, None, refl, add-one, arith}
use Rattle.std.specs.Prelude.{position, ◌==◌}
use Rattle.std.specs.List.{position_or_len}
use Rattle.std.proofs.lemmas.Bool.{ltb-false}
use Rattle.std.proofs.lemmas.List.Quantifiers.{position-Some}
use Rattle.std.proofs.lemmas.List.Sums.{fails_before_first}
use Rattle.octet_text.specs.Lines.{text_lines}

-- whether an octet ends a line
abbrev ends_line : ℕ → Bool
ends_line octet = octet == 10

-- no octet up to there ends a line, and the one there does
at_first : (text : List ℕ) (end : ℕ) → end < length text → ends_line (get_or text end 0) ≡ true → ((k : ℕ) → k < end → ends_line (get_or text k 0) ≡ false)
    → text_lines text ≡ take end text ∷ text_lines (drop (suc end) text)
at_first [] end lt h before = absurd (omega arith)
at_first (octet ∷ octets) zero lt h before = rw h refl
at_first (octet ∷ octets) (suc end) lt h before =
    rw (before 0 (omega arith), at_first octets end (omega arith) h (λ k l. before (suc k) (omega arith))) refl

pub cut_at : (text : List ℕ) (end : ℕ) → position ends_line text ≡ Some end → text_lines text ≡ take end text ∷ text_lines (drop (end + 1) text)
cut_at text end p =
    let at = position-Some ends_line text end 0 p in
    rw add-one (at_first text end at.0 at.1 at.2)

-- where no octet ends a line, a text is one line
one_line : (text : List ℕ) → 0 < length text → ((k : ℕ) → k < length text → ends_line (get_or text k 0) ≡ false) → text_lines text ≡ text ∷ []
one_line [] some none = absurd (omega arith)
one_line (octet ∷ []) some none = rw (none 0 (omega arith)) refl
one_line (octet ∷ next ∷ octets) some none =
    rw (none 0 (omega arith), one_line (next ∷ octets) (omega arith) (λ k l. none (suc k) (omega arith))) refl

no_place : (b : Bool) (i : ℕ) → cond b (Some i) None ≡ None → b ≡ false
no_place true i e = absurd cc
no_place false i e = refl

pub cut_nowhere : (text : List ℕ) → 0 < length text → position ends_line text ≡ None → text_lines text ≡ text ∷ []
cut_nowhere text some p =
    let past = ltb-false _ _ (no_place (ltb (position_or_len ends_line text) (length text)) (position_or_len ends_line text) p) in
    one_line text some (λ k l. fails_before_first ends_line text k 0 (omega (arith, past)))
