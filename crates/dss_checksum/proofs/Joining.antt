-- The sum of the words goes on over the parts of the data.
use Rattle.std.specs.Prelude.{bit_xor}
use Rattle.std.proofs.lemmas.List.{take_all, set-append_left, set-append_right, get_or_append_left, get_or-append-add}
use Rattle.std.proofs.Common.{◌^◌, subst, take, drop, ◌≡◌, ◌≢◌, ℕ, ◌+◌, ◌-◌, ◌%◌, ◌<◌, ◌≤◌, List, [], ◌∷◌, ◌++◌, length, get_or, set, refl, ap, ◌∙◌, arith, length-append}
use Rattle.ones_sum.specs.Words.{word_sum, folded, with_bit_turned}
use Rattle.ones_sum.proofs.Sums.{word_sum-cons}
use Rattle.ones_sum.proofs.Folding.{folded-lt}
use Rattle.ones_sum.proofs.Turned.{folded-turned}
use Rattle.seq_units.specs.declared.mapping.Mapping.{Mapping}
use Rattle.dss_checksum.specs.Checksum.{checksum_of, summed_octets}
use Rattle.dss_checksum.specs.MappingSum.{MappingSum, sum_of}

-- behind octets that end in the middle of a word
pub word_sum-append_odd : (before : List ℕ) (low : ℕ) (rest : List ℕ) → length before % 2 ≡ 1
    → word_sum (before ++ low ∷ rest) ≡ word_sum before + low + word_sum rest
word_sum-append_odd [] low rest odd = absurd (omega arith)
word_sum-append_odd (high ∷ []) low rest odd = omega (arith, word_sum-cons high low rest)
word_sum-append_odd (high ∷ second ∷ others) low rest odd =
    omega (arith, word_sum-cons high second (others ++ low ∷ rest), word_sum-cons high second others, word_sum-append_odd others low rest (omega arith))

-- the sum of words behind an odd number of octets, of a part of at least one octet
pub word_sum-append_part : (before part : List ℕ) → 1 ≤ length part → length before % 2 ≡ 1
    → word_sum (before ++ part) ≡ word_sum before + get_or part 0 0 + word_sum (take (length part - 1) (drop 1 part))
word_sum-append_part before [] some odd = absurd (omega arith)
word_sum-append_part before (low ∷ rest) some odd =
    let all : take (length (low ∷ rest) - 1) rest ≡ rest = take_all (length (low ∷ rest) - 1) rest (omega arith) in
    rw all (word_sum-append_odd before low rest odd)

-- checksums differ where the sums in 16 bits do
pub checksums_differ : (a b : List ℕ) → folded (word_sum a) ≢ folded (word_sum b) → checksum_of a ≢ checksum_of b
checksums_differ a b differ = λ same. differ (omega (arith, folded-lt (word_sum a), folded-lt (word_sum b), same))

-- one bit turned in the front or behind it
pub turned-front : (front back : List ℕ) (i k : ℕ) → i < length front → k < 8
    → checksum_of (with_bit_turned front i k ++ back) ≢ checksum_of (front ++ back)
turned-front front back i k in_front octet =
    let v = bit_xor (get_or front i 0) (2 ^ k) in
    let within : i < length (front ++ back) = omega (arith, length-append front back) in
    let same : with_bit_turned (front ++ back) i k ≡ with_bit_turned front i k ++ back =
    ap (λ (x : ℕ). set (front ++ back) i (bit_xor x (2 ^ k))) (get_or_append_left front back 0 i in_front)
    ∙ set-append_left front back i v in_front in
    subst (λ (octets : List ℕ). checksum_of octets ≢ checksum_of (front ++ back)) same
    (checksums_differ (with_bit_turned (front ++ back) i k) (front ++ back) (folded-turned (front ++ back) i k within octet))

pub turned-back : (front back : List ℕ) (i k : ℕ) → i < length back → k < 8
    → checksum_of (front ++ with_bit_turned back i k) ≢ checksum_of (front ++ back)
turned-back front back i k in_back octet =
    let j = length front + i in
    let v = bit_xor (get_or back i 0) (2 ^ k) in
    let within : j < length (front ++ back) = omega (arith, length-append front back) in
    let place : j - length front ≡ i = omega arith in
    let octet_is : get_or (front ++ back) j 0 ≡ get_or back i 0 = get_or-append-add front back i 0 in
    let same : with_bit_turned (front ++ back) j k ≡ front ++ with_bit_turned back i k =
    ap (λ (x : ℕ). set (front ++ back) j (bit_xor x (2 ^ k))) octet_is
    ∙ set-append_right front back (length front) j v refl (omega arith) ∙ ap (λ (n : ℕ). front ++ set back n v) place in
    subst (λ (octets : List ℕ). checksum_of octets ≢ checksum_of (front ++ back)) same
    (checksums_differ (with_bit_turned (front ++ back) j k) (front ++ back) (folded-turned (front ++ back) j k within octet))

-- what the sum over a mapping and some of its data comes to with the next part
pub sum_of-append : (sum : MappingSum) (mapping : Mapping) (octets part : List ℕ) (total : ℕ) → sum ≡ sum_of mapping octets
    → ((before : List ℕ) → length before % 2 ≡ sum.count % 2 → sum.total ≡ word_sum before → total ≡ word_sum (before ++ part))
    → record { mapping = sum.mapping; count = sum.count + length part; total = total } ≡ sum_of mapping (octets ++ part)
sum_of-append sum mapping octets part total is goes_on =
    let count_is : sum.count ≡ length octets = ap (λ (s : MappingSum). s.count) is in
    let total_is : total ≡ word_sum (summed_octets mapping (octets ++ part)) =
    goes_on (summed_octets mapping octets) (omega (arith, count_is)) (ap (λ (s : MappingSum). s.total) is) in
    rw (ap (λ (s : MappingSum). s.mapping) is, count_is, total_is, length-append) refl
