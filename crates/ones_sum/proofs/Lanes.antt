-- Words read as lanes of 16 bits, the low octet first: the high halves of the words are the low octets of the lanes.
use Rattle.std.proofs.Common.{◌≡◌, refl, ℕ, zero, suc, ◌+◌, ◌*◌, ◌/◌, ◌%◌, ◌<◌, ◌≤◌, List, [], ◌∷◌, length, take, drop, get_or, map, bit_and, Fits, w8, arith}
use Rattle.std.specs.Simd.Lanes.{Each1, zip2, sum_l, number_l, digits_l}
use Rattle.std.proofs.lemmas.Simd.{length-zip2, sum-zip2, length-chunk, chunk-fits, below_from_Fits}
use Rattle.std.proofs.lemmas.Nat.{and_mask}
use Rattle.ones_sum.specs.Words.{word_sum}
use Rattle.ones_sum.proofs.Sums.{word_sum-cons, word_sum-chunk}

-- the high and the low halves of n words, whose octets a number has, the first octet lowest
abbrev pub highs : ℕ → ℕ → List ℕ
highs n number = map (λ lane. bit_and lane 255) (digits_l 65536 n number)

abbrev pub lows : ℕ → ℕ → List ℕ
lows n number = map (λ lane. lane / 256) (digits_l 65536 n number)

-- a number that begins with two octets
first_lane : (high low rest : ℕ) → high < 256 → low < 256 → (high + 256 * (low + 256 * rest)) % 65536 ≡ high + 256 * low
first_lane high low rest h l = omega arith

other_lanes : (high low rest : ℕ) → high < 256 → low < 256 → (high + 256 * (low + 256 * rest)) / 65536 ≡ rest
other_lanes high low rest h l = omega arith

halves_are_words : (n : ℕ) (octets : List ℕ) → length octets ≡ 2 * n → Each1 (λ x. x < 256) octets
    → 256 * sum_l (highs n (number_l 256 octets)) + sum_l (lows n (number_l 256 octets)) ≡ word_sum octets
halves_are_words zero [] long small = omega arith
halves_are_words zero (high ∷ rest) long small = absurd (omega arith)
halves_are_words (suc n) [] long small = absurd (omega arith)
halves_are_words (suc n) (high ∷ []) long small = absurd (omega arith)
halves_are_words (suc n) (high ∷ low ∷ rest) long small =
    rw (other_lanes high low (number_l 256 rest) small.0 small.1.0, first_lane high low (number_l 256 rest) small.0 small.1.0)
    (omega (arith, small.0, small.1.0, and_mask (high + 256 * low) 8, word_sum-cons high low rest, halves_are_words n rest (omega arith) small.1.1))

pub highs_bound : (n number : ℕ) → sum_l (highs n number) ≤ 255 * n
highs_bound zero number = omega arith
highs_bound (suc n) number = omega (arith, and_mask (number % 65536) 8, highs_bound n (number / 65536))

pub lows_bound : (n number : ℕ) → sum_l (lows n number) ≤ 255 * n
lows_bound zero number = omega arith
lows_bound (suc n) number = omega (arith, lows_bound n (number / 65536))

-- Sixteen lanes each have the high and the low halves of the words before a place.
abbrev pub AreSummed : List ℕ → ℕ → List ℕ → List ℕ → Type 0
AreSummed octets at high low = (at ≤ length octets) × (length high ≡ 16) × (length low ≡ 16)
    × (2 * sum_l high ≤ 255 * at) × (2 * sum_l low ≤ 255 * at)
    × (256 * sum_l high + sum_l low + word_sum (drop at octets) ≡ word_sum octets)

-- the 32 octets from a place on, as one number
abbrev pub block : List ℕ → ℕ → ℕ
block octets at = number_l 256 (take 32 (drop at octets))

pub block_summed : (octets : List ℕ) (at : ℕ) (high low : List ℕ) → ((i : ℕ) → Fits w8 (get_or octets i 0)) → at + 32 ≤ length octets
    → AreSummed octets at high low
    → AreSummed octets (at + 32) (zip2 ◌+◌ high (highs 16 (block octets at))) (zip2 ◌+◌ low (lows 16 (block octets at)))
block_summed octets at high low fits within so_far =
    let number = block octets at in
    let higher = sum-zip2 high (highs 16 number) so_far.1 in
    let lower = sum-zip2 low (lows 16 number) so_far.2 in
    let words = halves_are_words 16 (take 32 (drop at octets)) (length-chunk at 32 octets within)
    (below_from_Fits w8 (take 32 (drop at octets)) (chunk-fits w8 at 32 octets fits)) in (
      within,
      rw (length-zip2 ◌+◌ high (highs 16 number) so_far.1) so_far.1,
      rw (length-zip2 ◌+◌ low (lows 16 number) so_far.2) so_far.2,
      omega (arith, higher, highs_bound 16 number, so_far.3),
      omega (arith, lower, lows_bound 16 number, so_far.4),
      omega (arith, higher, lower, words, word_sum-chunk at 32 octets refl within, so_far.5),
    )
