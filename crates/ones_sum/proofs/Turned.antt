-- One bit turned moves a sum by a power of two that is no multiple of 65,535.
--
-- `bit_xor x (2 ^ k)` is x plus or minus 2^k: `xor_block` twice and `shr_split` (`ones_sum/proofs/Turned`).
use Rattle.std.proofs.Common.{◌≡◌, ◌≢◌, ℕ, ◌+◌, ◌*◌, ◌/◌, ◌%◌, ◌^◌, ◌<◌, ◌⊎◌, inl, inr, List, length, get_or, sym, ap, ◌∙◌, arith}
use Rattle.std.specs.Prelude.{bit_xor}
use Rattle.std.proofs.lemmas.Nat.{xor_block, xor_comm, pow_pos, pow_below, shr_split, mod_below}
use Rattle.std.proofs.lemmas.Bool.{cases_eq}
use Rattle.ones_sum.specs.Words.{word_sum, folded, with_bit_turned}
use Rattle.ones_sum.proofs.Sums.{word_sum-set}
use Rattle.ones_sum.proofs.Folding.{folded-differs}

-- the lowest bit turned
xor-one : (q : ℕ) → (bit_xor q 1 ≡ q + 1) ⊎ (q ≡ bit_xor q 1 + 1)
xor-one q =
    let parts : bit_xor q 1 ≡ q / 2 * 2 + bit_xor (q % 2) 1 =
    ap (λ (n : ℕ). bit_xor n 1) (sym (shr_split q 1)) ∙ xor_block 1 (q / 2) 0 (q % 2) 1 (omega arith) (omega arith) ∙ ap (λ (n : ℕ). n * 2 + bit_xor (q % 2) 1) (xor_comm (q / 2) 0) in
    elim (cases_eq (q % 2) 0) [
      | inl even ↦ inl (omega (arith, parts, ap (λ (b : ℕ). bit_xor b 1) even))
      | inr odd ↦ let one : q % 2 ≡ 1 = omega arith in inr (omega (arith, parts, ap (λ (b : ℕ). bit_xor b 1) one))
    ]

above_low : (x k : ℕ) → bit_xor x (2 ^ k) ≡ bit_xor (x / 2 ^ k) 1 * 2 ^ k + x % 2 ^ k
above_low x k =
    let whole : x / 2 ^ k * 2 ^ k + x % 2 ^ k ≡ x = shr_split x k in
    let one : 1 * 2 ^ k + 0 ≡ 2 ^ k = omega arith in
    ap (λ (n : ℕ). bit_xor n (2 ^ k)) (sym whole) ∙ ap (bit_xor (x / 2 ^ k * 2 ^ k + x % 2 ^ k)) (sym one)
    ∙ xor_block k (x / 2 ^ k) 1 (x % 2 ^ k) 0 (mod_below x (2 ^ k) (pow_pos k)) (pow_pos k)
    ∙ ap (λ (n : ℕ). bit_xor (x / 2 ^ k) 1 * 2 ^ k + n) (xor_comm (x % 2 ^ k) 0)

-- bit k turned
xor-pow : (x k : ℕ) → (bit_xor x (2 ^ k) ≡ x + 2 ^ k) ⊎ (x ≡ bit_xor x (2 ^ k) + 2 ^ k)
xor-pow x k =
    let r = x % 2 ^ k in
    let q = x / 2 ^ k in
    let whole : q * 2 ^ k + r ≡ x = shr_split x k in
    let one : 1 * 2 ^ k + 0 ≡ 2 ^ k = omega arith in
    let parts : bit_xor x (2 ^ k) ≡ bit_xor q 1 * 2 ^ k + r = above_low x k in
    elim (xor-one q) [
      | inl up ↦ inl (parts ∙ ap (λ (n : ℕ). n * 2 ^ k + r) up ∙ omega arith)
      | inr down ↦ inr (sym whole ∙ ap (λ (n : ℕ). n * 2 ^ k + r) down ∙ omega arith)
    ]

apart : (a b d : ℕ) → 0 < d → d < 65535 → (a ≡ b + d) ⊎ (b ≡ a + d) → folded a ≢ folded b
apart a b d above below (inl e) = λ same. folded-differs b d above below (ap folded (sym e) ∙ same)
apart a b d above below (inr e) = λ same. folded-differs a d above below (ap folded (sym e) ∙ sym same)

pub folded-turned : (octets : List ℕ) (i k : ℕ) → i < length octets → k < 8 → folded (word_sum (with_bit_turned octets i k)) ≢ folded (word_sum octets)
folded-turned octets i k in_range octet =
    let v = bit_xor (get_or octets i 0) (2 ^ k) in
    let low : 2 ^ k < 256 = pow_below k 8 octet in
    let above = pow_pos k in
    elim (word_sum-set octets i v in_range) [
      | inl high ↦ elim (xor-pow (get_or octets i 0) k) [
        | inl up ↦ apart _ _ (256 * 2 ^ k) (omega arith) (omega arith) (inl (omega arith))
        | inr down ↦ apart _ _ (256 * 2 ^ k) (omega arith) (omega arith) (inr (omega arith))
      ]
      | inr half ↦ elim (xor-pow (get_or octets i 0) k) [
        | inl up ↦ apart _ _ (2 ^ k) above (omega arith) (inl (omega arith))
        | inr down ↦ apart _ _ (2 ^ k) above (omega arith) (inr (omega arith))
      ]
    ]
