-- The sum in 16 bits: folding once, adding word after word, and the complement.
use Rattle.std.proofs.Common.{◌≡◌, ◌≢◌, ℕ, zero, suc, ◌+◌, ◌-◌, ◌*◌, ◌/◌, ◌%◌, ◌<◌, List, [], ◌∷◌, ◌++◌, length, fold, inl, inr, refl, ap, ◌∙◌, arith}
use Rattle.std.specs.Int.{w16, to_be_bytes}
use Rattle.std.proofs.lemmas.Bool.{cases_lt, lt-ltb, le-ltb}
use Rattle.std.proofs.lemmas.List.Elements.{All-head, All-tail}
use Rattle.ones_sum.specs.Words.{words, word_sum, folded, complement, end_around_add, AreOctets}
use Rattle.ones_sum.proofs.Sums.{word_sum-cons, word_sum-append}

pub folded-above : (n : ℕ) → 0 < n → folded n ≡ (n - 1) % 65535 + 1
folded-above zero above = absurd (omega arith)
folded-above (suc n) above = ap (λ (k : ℕ). k % 65535 + 1) (omega arith)

-- a number of 16 bits is its own sum in 16 bits
pub folded-word : (n : ℕ) → n < 65536 → folded n ≡ n
folded-word zero small = refl
folded-word (suc n) small = omega arith

pub folded-lt : (n : ℕ) → folded n < 65536
folded-lt zero = omega arith
folded-lt (suc n) = omega arith

-- to put the carries out of the high end in at the low end changes nothing
pub folded-carried : (n : ℕ) → folded (n % 65536 + n / 65536) ≡ folded n
folded-carried zero = refl
folded-carried (suc n) = omega (arith, folded-above (suc n % 65536 + suc n / 65536) (omega arith))

-- one more word
pub folded-add : (n w : ℕ) → w < 65536 → folded (n + w) ≡ end_around_add (folded n) w
folded-add zero w small =
    rw (lt-ltb (0 + w) 65536 (omega arith)) (ap folded (omega arith) ∙ folded-word w small ∙ omega arith)
folded-add (suc n) w small =
    elim (cases_lt (n % 65535 + 1 + w) 65536) [
      | inl fits ↦ rw (lt-ltb (n % 65535 + 1 + w) 65536 fits) (omega (arith, folded-above (suc n + w) (omega arith)))
      | inr over ↦ rw (le-ltb (n % 65535 + 1 + w) 65536 over) (omega (arith, folded-above (suc n + w) (omega arith)))
    ]

-- word after word
pub folded-words : (n : ℕ) (octets : List ℕ) → AreOctets octets → folded (n + word_sum octets) ≡ fold end_around_add (folded n) (words octets)
folded-words n [] small = ap folded (omega arith)
folded-words n (high ∷ []) small = ap folded (omega arith) ∙ folded-add n (256 * high) (omega (arith, All-head (λ x. x < 256) high [] small))
folded-words n (high ∷ low ∷ rest) small =
    let rest_small = All-tail (λ x. x < 256) high (low ∷ rest) small in
    let word : 256 * high + low < 65536 = omega (arith, All-head (λ x. x < 256) high (low ∷ rest) small, All-head (λ x. x < 256) low rest rest_small) in
    let regrouped : n + word_sum (high ∷ low ∷ rest) ≡ (n + (256 * high + low)) + word_sum rest = omega (arith, word_sum-cons high low rest) in
    ap folded regrouped ∙ folded-words (n + (256 * high + low)) rest (All-tail (λ x. x < 256) low rest rest_small)
    ∙ ap (λ (k : ℕ). fold end_around_add k (words rest)) (folded-add n (256 * high + low) word)

pub folded-completed : (n : ℕ) → folded (n + complement (folded n)) ≡ 65535
folded-completed zero = refl
folded-completed (suc n) = omega (arith, folded-above (suc n + complement (folded (suc n))) (omega arith))

-- data of an even length with the complement of its fold behind it
pub folded-completed_data : (octets : List ℕ) → length octets % 2 ≡ 0 → folded (word_sum (octets ++ to_be_bytes w16 (complement (folded (word_sum octets))))) ≡ 65535
folded-completed_data octets even =
    let c = complement (folded (word_sum octets)) in
    let field : word_sum (to_be_bytes w16 c) ≡ c = omega arith in
    ap folded (word_sum-append octets (to_be_bytes w16 c) even ∙ ap (λ (k : ℕ). word_sum octets + k) field) ∙ folded-completed (word_sum octets)

pub folded-differs : (n d : ℕ) → 0 < d → d < 65535 → folded (n + d) ≢ folded n
folded-differs zero d above below = λ e. absurd (omega (arith, folded-word (0 + d) (omega arith)))
folded-differs (suc n) d above below = λ e. absurd (omega (arith, folded-above (suc n + d) (omega arith)))
