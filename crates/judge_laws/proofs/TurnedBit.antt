-- Octets of which one bit was turned don't have the checksum of the mapping, nor 0000 in the place of ffff.
use Rattle.std.proofs.Common.{◌≡◌, ◌≢◌, refl, sym, ap, ◌∙◌, ℕ, zero, suc, ◌+◌, ◌-◌, ◌*◌, ◌%◌, ◌^◌, ◌<◌, ◌≤◌, ◌⊎◌, inl, inr, Bool, true, false, ◌&&◌, ◌||◌, ◌==◌, List, ◌++◌, length, get_or, set, arith, length-append}
use Rattle.std.specs.Int.Bits.{bit_and, bit_xor, xor_add_and}
use Rattle.std.proofs.lemmas.Bool.Decides.{nat_tests}
use Rattle.std.proofs.lemmas.List.{get_or-append-add, set-append_right}
use Rattle.std.proofs.lemmas.Nat.{and_le_l, and_le_r, pow_below}
use Rattle.capture_reader.specs.Captured.{Captured}
use Rattle.ones_sum.specs.Words.{folded, with_bit_turned, word_sum}
use Rattle.ones_sum.proofs.Folding.{folded-word}
use Rattle.ones_sum.proofs.Sums.{word_sum-set}
use Rattle.ones_sum.proofs.Turned.{folded-turned}
use Rattle.dss_checksum.specs.Checksum.{checksum_of, dss_checksum, pseudo_header}
use Rattle.judge_rules.specs.declared.finding.Rule.TheVariants as rule
use Rattle.seq_units.specs.declared.mapping.Mapping.{Mapping}
use Rattle.seen_streams.specs.declared.told.ToldMapping.{ToldMapping}
use Rattle.seen_streams.specs.State.{StreamValue}
use Rattle.seen_streams.specs.Sums.{are_alike, header_of}
use Rattle.rule_book.specs.Facts.{first_of}
use Rattle.judge_laws.specs.GoesOn.{broke}
use Rattle.judge_laws.specs.Summed.{ShowsMapping}
use Rattle.judge_laws.proofs.Summed.{kept_sums}
use Rattle.judge_laws.proofs.Trying.{both, either}
use Rattle.judge_laws.proofs.Standing.{some_same}

alike_mod : (a w : ℕ) → are_alike a w ≡ true → a % 65535 ≡ w % 65535
alike_mod a w e = by (either (a == w) (a % 65535 == 0 && w % 65535 == 0) e)
  where
    by : (a == w ≡ true) ⊎ ((a % 65535 == 0 && w % 65535 == 0) ≡ true) → a % 65535 ≡ w % 65535
    by (inl same) = let is : a ≡ w = grind (arith, nat_tests, same) in ap (λ (n : ℕ). n % 65535) is
    by (inr zeros) =
        let parts = both (a % 65535 == 0) (w % 65535 == 0) zeros in
        let left : (a % 65535 == 0) ≡ true = parts.0 in
        let right : (w % 65535 == 0) ≡ true = parts.1 in
        let one : a % 65535 ≡ 0 = grind (arith, nat_tests, left) in
        let other : w % 65535 ≡ 0 = grind (arith, nat_tests, right) in
        one ∙ sym other

-- sums that fold to others, of which neither is 0, or the other is small
differ : (a b : ℕ) → folded a ≢ folded b → (a ≡ 0 → b < 65535) → (b ≡ 0 → a < 65535) → (65535 - folded a) % 65535 ≢ (65535 - folded b) % 65535
differ zero zero apart small_b small_a = λ same. apart refl
differ zero (suc b) apart small_b small_a = λ same.
    let small : suc b < 65535 = small_b refl in
    let is : folded (suc b) ≡ suc b = folded-word (suc b) (omega (arith, small)) in
    absurd (omega (arith, same, is, small))
differ (suc a) zero apart small_b small_a = λ same.
    let small : suc a < 65535 = small_a refl in
    let is : folded (suc a) ≡ suc a = folded-word (suc a) (omega (arith, small)) in
    absurd (omega (arith, same, is, small))
differ (suc a) (suc b) apart small_b small_a = λ same.
    let equal : a % 65535 + 1 ≡ b % 65535 + 1 = omega (arith, same) in
    apart equal

not_alike : (octets : List ℕ) (i k w : ℕ) → i < length octets → k < 8 → are_alike (checksum_of octets) w ≡ true
    → are_alike (checksum_of (with_bit_turned octets i k)) w ≡ true → ⊥
not_alike octets i k w in_range octet one other =
    let x = get_or octets i 0 in
    let p = 2 ^ k in
    let v = bit_xor x p in
    let a = word_sum octets in
    let b = word_sum (with_bit_turned octets i k) in
    let low : p < 256 = pow_below k 8 octet in
    let sum : v + bit_and x p * 2 ≡ x + p = xor_add_and x p in
    let few : bit_and x p ≤ p = and_le_r x p in
    let some : bit_and x p ≤ x = and_le_l x p in
    let apart : folded b ≢ folded a = folded-turned octets i k in_range octet in
    let moved = word_sum-set octets i v in_range in
    let small_b : a ≡ 0 → b < 65535 = λ none. elim moved [ inl high ↦ omega (arith, none, high, low, sum) | inr half ↦ omega (arith, none, half, low, sum) ] in
    let small_a : b ≡ 0 → a < 65535 = λ none. elim moved [ inl high ↦ omega (arith, none, high, low, sum, few) | inr half ↦ omega (arith, none, half, low, sum, few) ] in
    differ b a apart small_a small_b (alike_mod (checksum_of (with_bit_turned octets i k)) w other ∙ sym (alike_mod (checksum_of octets) w one))

-- behind the pseudo-header
pub turned_sum : (mapping : Mapping) (octets : List ℕ) (i k w : ℕ) → i < length octets → k < 8 → are_alike (dss_checksum mapping octets) w ≡ true
    → are_alike (dss_checksum mapping (with_bit_turned octets i k)) w ≡ true → ⊥
turned_sum mapping octets i k w in_range octet one other =
    let front = pseudo_header mapping in
    let j = length front + i in
    let v = bit_xor (get_or octets i 0) (2 ^ k) in
    let within : j < length (front ++ octets) = omega (arith, length-append front octets) in
    let place : j - length front ≡ i = omega arith in
    let octet_is : get_or (front ++ octets) j 0 ≡ get_or octets i 0 = get_or-append-add front octets i 0 in
    let same : with_bit_turned (front ++ octets) j k ≡ front ++ with_bit_turned octets i k =
    ap (λ (x : ℕ). set (front ++ octets) j (bit_xor x (2 ^ k))) octet_is
    ∙ set-append_right front octets (length front) j v refl (omega arith) ∙ ap (λ (n : ℕ). front ++ set octets n v) place in
    not_alike (front ++ octets) j k w within octet one (ap (λ (os : List ℕ). are_alike (checksum_of os) w) same ∙ other)

-- ---- of two captures

never_both : (packets others : List Captured) (stream other : StreamValue) (first : ℕ) (mapping : ToldMapping) (octets : List ℕ) (i k : ℕ)
    → i < length octets → k < 8 → ShowsMapping packets stream first mapping octets → ShowsMapping others other first mapping (with_bit_turned octets i k)
    → broke rule.DssSum stream ≡ false → broke rule.DssSum other ≡ false → ⊥
never_both packets others stream other first mapping octets i k in_range octet one two kept kept_too =
    let left = kept_sums one.at one.check_sums packets one.connection one.side stream one.has_stream kept mapping octets one.whole in
    let right = kept_sums two.at two.check_sums others two.connection two.side other two.has_stream kept_too mapping (with_bit_turned octets i k) two.whole in
    let keys : left.keys ≡ one.keys = some_same left.keys one.keys (sym left.has_keys ∙ one.has_keys) in
    let keys_too : right.keys ≡ two.keys = some_same right.keys two.keys (sym right.has_keys ∙ two.has_keys) in
    let is : left.first ≡ first = some_same left.first first (sym left.has_first ∙ ap (first_of one.side) keys ∙ one.has_first) in
    let is_too : right.first ≡ first = some_same right.first first (sym right.has_first ∙ ap (first_of two.side) keys_too ∙ two.has_first) in
    let sums : left.sum ≡ right.sum = some_same left.sum right.sum (sym left.has_sum ∙ right.has_sum) in
    turned_sum (header_of first mapping) octets i k right.sum in_range octet
    (ap (λ (f : ℕ). are_alike (dss_checksum (header_of f mapping) octets) right.sum) (sym is)
    ∙ ap (are_alike (dss_checksum (header_of left.first mapping) octets)) (sym sums) ∙ left.right)
    (ap (λ (f : ℕ). are_alike (dss_checksum (header_of f mapping) (with_bit_turned octets i k)) right.sum) (sym is_too) ∙ right.right)

pub one_breaks : (packets others : List Captured) (stream other : StreamValue) (first : ℕ) (mapping : ToldMapping) (octets : List ℕ) (i k : ℕ)
    → i < length octets → k < 8 → ShowsMapping packets stream first mapping octets → ShowsMapping others other first mapping (with_bit_turned octets i k)
    → (broke rule.DssSum stream || broke rule.DssSum other) ≡ true
one_breaks packets others stream other first mapping octets i k in_range octet one two = by (broke rule.DssSum stream) refl (broke rule.DssSum other) refl
  where
    by : (b : Bool) → broke rule.DssSum stream ≡ b → (c : Bool) → broke rule.DssSum other ≡ c → (b || c) ≡ true
    by true e c f = refl
    by false e true f = refl
    by false e false f = absurd (never_both packets others stream other first mapping octets i k in_range octet one two e f)
