-- The sum over a header with its checksum.
use Rattle.std.proofs.Common.{◌≡◌, ◌∙◌, sym, ap, ℕ, ◌+◌, ◌/◌, ◌%◌, ◌*◌, ◌<◌, ◌≤◌, List, [], ◌∷◌, ◌++◌, length, arith}
use Rattle.std.specs.Int.{w16, to_be_bytes}
use Rattle.ones_sum.specs.Words.{word_sum, folded, complement}
use Rattle.ones_sum.proofs.Sums.{word_sum-cons}
use Rattle.ones_sum.proofs.Folding.{folded-completed, folded-lt}
use Rattle.pcap_text.specs.Ipv4.{header_with, header_text}

-- what stands before the checksum
front : ℕ → List ℕ
front len = 0x45 ∷ 0 ∷ (len + 20) / 256 % 256 ∷ (len + 20) % 256 ∷ 0 ∷ 0 ∷ 0x40 ∷ 0 ∷ 64 ∷ 6 ∷ []

-- a checksum adds itself to the sum
pub word_sum-header : (checksum : ℕ) (source destination : List ℕ) (len : ℕ) → checksum < 65536
    → word_sum (header_with checksum source destination len) ≡ word_sum (header_with 0 source destination len) + checksum
unfolding header_with
word_sum-header checksum source destination len small =
    let rest : List ℕ = source ++ destination in
    let with : ℕ → List ℕ = λ (c : ℕ). c / 256 % 256 ∷ c % 256 ∷ rest in
    let steps : (c : ℕ) → word_sum (header_with c source destination len) ≡ 17664 + (256 * ((len + 20) / 256 % 256) + (len + 20) % 256) + 0 + 16384 + 16390 + (256 * (c / 256 % 256) + c % 256) + word_sum rest =
    λ c. omega (arith, word_sum-cons 0x45 0 ((len + 20) / 256 % 256 ∷ (len + 20) % 256 ∷ 0 ∷ 0 ∷ 0x40 ∷ 0 ∷ 64 ∷ 6 ∷ with c), word_sum-cons ((len + 20) / 256 % 256) ((len + 20) % 256) (0 ∷ 0 ∷ 0x40 ∷ 0 ∷ 64 ∷ 6 ∷ with c), word_sum-cons 0 0 (0x40 ∷ 0 ∷ 64 ∷ 6 ∷ with c), word_sum-cons 0x40 0 (64 ∷ 6 ∷ with c), word_sum-cons 64 6 (with c), word_sum-cons (c / 256 % 256) (c % 256) rest) in
    omega (arith, steps checksum, steps 0, small)

pub headers_sum_up : (source destination : List ℕ) (len : ℕ) → folded (word_sum (header_text source destination len)) ≡ 65535
headers_sum_up source destination len =
    let total = word_sum (header_with 0 source destination len) in
    ap folded (word_sum-header (complement (folded total)) source destination len (omega arith)) ∙ folded-completed total
