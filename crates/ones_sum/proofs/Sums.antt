-- The plain sum of words: by parts, its bound, and after one octet is written.
use Rattle.std.proofs.Common.{◌≡◌, ◌∙◌, ap, ℕ, zero, suc, ◌+◌, ◌*◌, ◌%◌, ◌<◌, ◌≤◌, ◌⊎◌, inl, inr, List, [], ◌∷◌, ◌++◌, length, take, drop, get_or, set, arith}
use Rattle.std.proofs.lemmas.Simd.{chunk-drop, length-chunk}
use Rattle.std.proofs.lemmas.List.Sums.{sum_by-cons}
use Rattle.ones_sum.specs.Words.{words, word_sum}

pub word_sum-cons : (high low : ℕ) (rest : List ℕ) → word_sum (high ∷ low ∷ rest) ≡ 256 * high + low + word_sum rest
word_sum-cons high low rest = sum_by-cons (λ x. x) (256 * high + low) (words rest)

-- data may be cut at any even place
pub word_sum-append : (prefix others : List ℕ) → length prefix % 2 ≡ 0 → word_sum (prefix ++ others) ≡ word_sum prefix + word_sum others
word_sum-append [] others even = omega arith
word_sum-append (high ∷ []) others even = absurd (omega arith)
word_sum-append (high ∷ low ∷ rest) others even =
    omega (arith, word_sum-cons high low (rest ++ others), word_sum-cons high low rest, word_sum-append rest others (omega arith))

-- an even number of octets from a place on, and all after them
pub word_sum-chunk : (at n : ℕ) (octets : List ℕ) → n % 2 ≡ 0 → at + n ≤ length octets
    → word_sum (drop at octets) ≡ word_sum (take n (drop at octets)) + word_sum (drop (at + n) octets)
word_sum-chunk at n octets even within =
    ap word_sum (chunk-drop at n octets)
    ∙ word_sum-append (take n (drop at octets)) (drop (at + n) octets) (rw (length-chunk at n octets within) even)

pub word_sum-bound : (octets : List ℕ) → ((i : ℕ) → get_or octets i 0 < 256) → word_sum octets ≤ 65535 * length octets
word_sum-bound [] small = omega arith
word_sum-bound (high ∷ []) small = omega (arith, small 0)
word_sum-bound (high ∷ low ∷ rest) small =
    omega (arith, word_sum-cons high low rest, small 0, small 1, word_sum-bound rest (λ i. small (suc (suc i))))

-- one octet written, in the high or in the low half of its word
pub word_sum-set : (octets : List ℕ) (i v : ℕ) → i < length octets
    → (word_sum (set octets i v) + 256 * get_or octets i 0 ≡ word_sum octets + 256 * v) ⊎ (word_sum (set octets i v) + get_or octets i 0 ≡ word_sum octets + v)
word_sum-set [] i v in_range = absurd (omega arith)
word_sum-set (high ∷ []) zero v in_range = inl (omega arith)
word_sum-set (high ∷ []) (suc i) v in_range = absurd (omega arith)
word_sum-set (high ∷ low ∷ rest) zero v in_range = inl (omega (arith, word_sum-cons v low rest, word_sum-cons high low rest))
word_sum-set (high ∷ low ∷ rest) (suc zero) v in_range = inr (omega (arith, word_sum-cons high v rest, word_sum-cons high low rest))
word_sum-set (high ∷ low ∷ rest) (suc (suc i)) v in_range =
    elim (word_sum-set rest i v (omega arith)) [
      | inl e ↦ inl (omega (arith, word_sum-cons high low (set rest i v), word_sum-cons high low rest))
      | inr e ↦ inr (omega (arith, word_sum-cons high low (set rest i v), word_sum-cons high low rest))
    ]
