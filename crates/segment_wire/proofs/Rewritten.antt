-- What was read is written again.
--
-- The other way round, from what was read to what is written, go by as many variables as octets: a section over `a0 ..
-- a19 rest`, and `cells 20 0 octets` (`segment_wire/proofs/Rewritten`). Join records and lists by an opaque function
-- and `cc`, which knows no eta.
use Rattle.std.proofs.Common.{◌≡◌, ℕ, zero, suc, ◌+◌, ◌-◌, ◌*◌, ◌/◌, ◌<◌, ◌≤◌, inl, inr, Bool, true, false, cond, eqb, List, [], ◌∷◌, ◌++◌, length, get_or, drop, Result, Ok, Err, refl, sym, ap, ◌∙◌, subst, arith}
use Rattle.std.specs.Prelude.{not, nat_lt, ◌==◌, bit_and, bit_or, if◌then◌else◌, All}
use Rattle.std.specs.Int.{w16, w32, to_be_bytes}
use Rattle.std.proofs.lemmas.Bool.{cases_lt, agree_below_at, eqb-true, ltb-false, or_parts, not-false}
use Rattle.std.proofs.lemmas.List.{take-append-drop, drop-drop, drop_more, length-take, length-drop, get_or_past}
use Rattle.std.proofs.lemmas.Nat.{be_bytes_2, be_bytes_4}
use Rattle.segment_wire.specs.declared.head.Addresses.{Addresses}
use Rattle.segment_wire.specs.declared.head.TheConstants.{FIN, SYN, RST, ACK}
use Rattle.segment_wire.specs.declared.reading.SegmentFault.{SegmentFault}
use Rattle.segment_wire.specs.declared.reading.SegmentFault.TheVariants.{Short, DataOffset, OptionLength, Checksum}
use Rattle.segment_wire.specs.Options.{are_whole}
use Rattle.segment_wire.specs.Checksum.{checksum_of, is_checksum_right}
use Rattle.segment_wire.specs.Segment.{Segment, fixed_header, octets_with, segment_text, IsHead, CanWrite}
use Rattle.segment_wire.specs.Reading.{head_in, header_len, options_in, segment_in, is_short, has_wrong_offset, has_broken_option, has_wrong_checksum, segment_meaning}
use Rattle.segment_wire.specs.Laws.{without_ignored, with_checksum, summed_anew}

abbrev IsOctets : List ℕ → Type 0
IsOctets octets = (i : ℕ) → get_or octets i 0 < 256

pub IsOctets-from_All : (octets : List ℕ) → All (λ x. x < 256) octets → IsOctets octets
IsOctets-from_All octets small i =
    elim (cases_lt i (length octets)) [
      | inl inside ↦ small i 0 inside
      | inr past ↦ rw (get_or_past octets i 0 past) (omega arith)
    ]

-- ---- no fault

record HasNoFault (addresses : Addresses) (octets : List ℕ) (segment : Segment) : Type 0 where
  long : is_short octets ≡ false
  offset : has_wrong_offset octets ≡ false
  whole : has_broken_option octets ≡ false
  checksum : has_wrong_checksum addresses octets ≡ false
  segment_is : segment_in octets ≡ segment

unless : {A : Type 0} (b : Bool) (fault : SegmentFault) (r : Result A SegmentFault) (y : A) → cond b (Err fault) r ≡ Ok y → (b ≡ false) × (r ≡ Ok y)
unless true fault r y e = absurd cc
unless false fault r y e = (refl, e)

abbrev ok : {A : Type 0} → A → Result A SegmentFault
ok x = Ok x

ok_is : {A : Type 0} (x y : A) → ok x ≡ ok y → x ≡ y
ok_is x y e = cc

no_fault : (addresses : Addresses) (octets : List ℕ) (segment : Segment) → segment_meaning addresses octets ≡ Ok segment → HasNoFault addresses octets segment
unfolding segment_meaning
no_fault addresses octets segment read =
    let a = unless (is_short octets) Short (if has_wrong_offset octets then Err DataOffset else (if has_broken_option octets then Err OptionLength else (if has_wrong_checksum addresses octets then Err Checksum else Ok (segment_in octets)))) segment read in
    let b = unless (has_wrong_offset octets) DataOffset (if has_broken_option octets then Err OptionLength else (if has_wrong_checksum addresses octets then Err Checksum else Ok (segment_in octets))) segment a.1 in
    let c = unless (has_broken_option octets) OptionLength (if has_wrong_checksum addresses octets then Err Checksum else Ok (segment_in octets)) segment b.1 in
    let d = unless (has_wrong_checksum addresses octets) Checksum (Ok (segment_in octets)) segment c.1 in
    record { long = a.0; offset = b.0; whole = c.0; checksum = d.0; segment_is = ok_is (segment_in octets) segment d.1 }

-- ---- twenty octets by themselves

cells : ℕ → ℕ → List ℕ → List ℕ
cells zero i octets = drop i octets
cells (suc n) i octets = get_or octets i 0 ∷ cells n (i + 1) octets

cells_are : (n i : ℕ) (octets : List ℕ) → i + n ≤ length octets → cells n i octets ≡ drop i octets
unfolding cells
cells_are zero i octets within = refl
cells_are (suc n) i octets within = ap (λ (t : List ℕ). get_or octets i 0 ∷ t) (cells_are n (i + 1) octets (omega arith)) ∙ sym (drop_more octets i 0 (omega arith))

-- ---- the fields

abbrev bits_again : ℕ → Bool
bits_again b = eqb (bit_or (bit_or (bit_or (if not (bit_and b ACK == 0) then ACK else 0) (if not (bit_and b RST == 0) then RST else 0)) (if not (bit_and b SYN == 0) then SYN else 0)) (if not (bit_and b FIN == 0) then FIN else 0)) (bit_and b 23)

bits_are : (b : ℕ) → b < 256 → bits_again b ≡ true
bits_are b fits = agree_below_at bits_again (λ _. true) 256 b refl fits

-- the fixed header from its fields
joined : List ℕ → List ℕ → List ℕ → List ℕ → ℕ → ℕ → List ℕ → ℕ → List ℕ
joined source destination seq ack offset control window checksum = (source ++ (destination ++ (seq ++ ack))) ++ ((offset ∷ control ∷ []) ++ (window ++ (to_be_bytes w16 checksum ++ to_be_bytes w16 0)))

joined-same : (source source' destination destination' seq seq' ack ack' : List ℕ) (offset offset' control control' : ℕ) (window window' : List ℕ) (checksum : ℕ)
    → source ≡ source' → destination ≡ destination' → seq ≡ seq' → ack ≡ ack' → offset ≡ offset' → control ≡ control' → window ≡ window'
    → joined source destination seq ack offset control window checksum ≡ joined source' destination' seq' ack' offset' control' window' checksum
joined-same source source' destination destination' seq seq' ack ack' offset offset' control control' window window' checksum e1 e2 e3 e4 e5 e6 e7 = cc

two_small : (a b : ℕ) → a < 256 → b < 256 → IsOctets (a ∷ b ∷ [])
two_small a b small_a small_b zero = small_a
two_small a b small_a small_b (suc zero) = small_b
two_small a b small_a small_b (suc (suc i)) = omega arith

four_small : (a b c d : ℕ) → a < 256 → b < 256 → c < 256 → d < 256 → IsOctets (a ∷ b ∷ c ∷ d ∷ [])
four_small a b c d small_a small_b small_c small_d zero = small_a
four_small a b c d small_a small_b small_c small_d (suc zero) = small_b
four_small a b c d small_a small_b small_c small_d (suc (suc zero)) = small_c
four_small a b c d small_a small_b small_c small_d (suc (suc (suc zero))) = small_d
four_small a b c d small_a small_b small_c small_d (suc (suc (suc (suc i)))) = omega arith

two_again : (a b : ℕ) → a < 256 → b < 256 → to_be_bytes w16 (a * 256 + b) ≡ a ∷ b ∷ []
two_again a b small_a small_b = be_bytes_2 (a ∷ b ∷ []) (a * 256 + b) refl (two_small a b small_a small_b) refl

four_again : (a b c d : ℕ) → a < 256 → b < 256 → c < 256 → d < 256 → to_be_bytes w32 (a * 16777216 + b * 65536 + c * 256 + d) ≡ a ∷ b ∷ c ∷ d ∷ []
four_again a b c d small_a small_b small_c small_d = be_bytes_4 (a ∷ b ∷ c ∷ d ∷ []) (a * 16777216 + b * 65536 + c * 256 + d) refl (four_small a b c d small_a small_b small_c small_d) refl

offset-again : (a : ℕ) → 20 ≤ 4 * (a / 16) → 16 * (5 + (4 * (a / 16) - 20) / 4) ≡ 16 * (a / 16)
offset-again a low = omega arith

module _ (a0 a1 a2 a3 a4 a5 a6 a7 a8 a9 a10 a11 a12 a13 a14 a15 a16 a17 a18 a19 : ℕ) (rest : List ℕ) (small : IsOctets (a0 ∷ a1 ∷ a2 ∷ a3 ∷ a4 ∷ a5 ∷ a6 ∷ a7 ∷ a8 ∷ a9 ∷ a10 ∷ a11 ∷ a12 ∷ a13 ∷ a14 ∷ a15 ∷ a16 ∷ a17 ∷ a18 ∷ a19 ∷ rest)) where
  header-again : (checksum : ℕ) → 20 ≤ header_len (a0 ∷ a1 ∷ a2 ∷ a3 ∷ a4 ∷ a5 ∷ a6 ∷ a7 ∷ a8 ∷ a9 ∷ a10 ∷ a11 ∷ a12 ∷ a13 ∷ a14 ∷ a15 ∷ a16 ∷ a17 ∷ a18 ∷ a19 ∷ rest)
      → fixed_header checksum (head_in (a0 ∷ a1 ∷ a2 ∷ a3 ∷ a4 ∷ a5 ∷ a6 ∷ a7 ∷ a8 ∷ a9 ∷ a10 ∷ a11 ∷ a12 ∷ a13 ∷ a14 ∷ a15 ∷ a16 ∷ a17 ∷ a18 ∷ a19 ∷ rest)) (header_len (a0 ∷ a1 ∷ a2 ∷ a3 ∷ a4 ∷ a5 ∷ a6 ∷ a7 ∷ a8 ∷ a9 ∷ a10 ∷ a11 ∷ a12 ∷ a13 ∷ a14 ∷ a15 ∷ a16 ∷ a17 ∷ a18 ∷ a19 ∷ rest) - 20) ++ rest ≡ with_checksum checksum (without_ignored (a0 ∷ a1 ∷ a2 ∷ a3 ∷ a4 ∷ a5 ∷ a6 ∷ a7 ∷ a8 ∷ a9 ∷ a10 ∷ a11 ∷ a12 ∷ a13 ∷ a14 ∷ a15 ∷ a16 ∷ a17 ∷ a18 ∷ a19 ∷ rest))
  unfolding fixed_header head_in joined
  header-again checksum offset =
      ap (λ (t : List ℕ). t ++ rest) (joined-same _ (a0 ∷ a1 ∷ []) _ (a2 ∷ a3 ∷ []) _ (a4 ∷ a5 ∷ a6 ∷ a7 ∷ []) _ (a8 ∷ a9 ∷ a10 ∷ a11 ∷ []) _ (16 * (a12 / 16)) _ (bit_and a13 23) _ (a14 ∷ a15 ∷ []) checksum
      (two_again a0 a1 (small 0) (small 1)) (two_again a2 a3 (small 2) (small 3)) (four_again a4 a5 a6 a7 (small 4) (small 5) (small 6) (small 7)) (four_again a8 a9 a10 a11 (small 8) (small 9) (small 10) (small 11))
      (offset-again a12 offset) (eqb-true _ _ (bits_are a13 (small 13))) (two_again a14 a15 (small 14) (small 15)))

  head-fits : IsHead (head_in (a0 ∷ a1 ∷ a2 ∷ a3 ∷ a4 ∷ a5 ∷ a6 ∷ a7 ∷ a8 ∷ a9 ∷ a10 ∷ a11 ∷ a12 ∷ a13 ∷ a14 ∷ a15 ∷ a16 ∷ a17 ∷ a18 ∷ a19 ∷ rest))
  unfolding head_in
  head-fits = record {
    source_port = omega (arith, small 0, small 1);
    destination_port = omega (arith, small 2, small 3);
    seq = omega (arith, small 4, small 5, small 6, small 7);
    ack = omega (arith, small 8, small 9, small 10, small 11);
    window = omega (arith, small 14, small 15);
  }

-- ---- any octets

abbrev HeaderAgain : List ℕ → Type 0
HeaderAgain octets = IsOctets octets → 20 ≤ header_len octets
    → (IsHead (head_in octets)) × ((checksum : ℕ) → fixed_header checksum (head_in octets) (header_len octets - 20) ++ drop 20 octets ≡ with_checksum checksum (without_ignored octets))

any_header : (octets : List ℕ) → 20 ≤ length octets → HeaderAgain octets
unfolding cells
any_header octets long =
    let in_cells : HeaderAgain (cells 20 0 octets) = λ small offset. (head-fits (get_or octets 0 0) (get_or octets 1 0) (get_or octets 2 0) (get_or octets 3 0) (get_or octets 4 0) (get_or octets 5 0) (get_or octets 6 0) (get_or octets 7 0) (get_or octets 8 0) (get_or octets 9 0) (get_or octets 10 0) (get_or octets 11 0) (get_or octets 12 0) (get_or octets 13 0) (get_or octets 14 0) (get_or octets 15 0) (get_or octets 16 0) (get_or octets 17 0) (get_or octets 18 0) (get_or octets 19 0) (drop 20 octets) small, λ checksum. header-again (get_or octets 0 0) (get_or octets 1 0) (get_or octets 2 0) (get_or octets 3 0) (get_or octets 4 0) (get_or octets 5 0) (get_or octets 6 0) (get_or octets 7 0) (get_or octets 8 0) (get_or octets 9 0) (get_or octets 10 0) (get_or octets 11 0) (get_or octets 12 0) (get_or octets 13 0) (get_or octets 14 0) (get_or octets 15 0) (get_or octets 16 0) (get_or octets 17 0) (get_or octets 18 0) (get_or octets 19 0) (drop 20 octets) small checksum offset) in
    subst HeaderAgain (cells_are 20 0 octets long) in_cells

module _ (addresses : Addresses) (octets : List ℕ) (segment : Segment) (small : IsOctets octets) (none : HasNoFault addresses octets segment) where
  long : 20 ≤ length octets
  long = ltb-false (length octets) 20 none.long

  low : 20 ≤ header_len octets
  low = ltb-false (header_len octets) 20 (or_parts (nat_lt (header_len octets) 20) (nat_lt (length octets) (header_len octets)) none.offset).0

  within : header_len octets ≤ length octets
  within = ltb-false (length octets) (header_len octets) (or_parts (nat_lt (header_len octets) 20) (nat_lt (length octets) (header_len octets)) none.offset).1

  length-options_in : length (options_in octets) ≡ header_len octets - 20
  length-options_in = omega (arith, long, low, within, length-take (header_len octets - 20) (drop 20 octets), length-drop 20 octets)

  options-then-payload : options_in octets ++ drop (header_len octets) octets ≡ drop 20 octets
  options-then-payload =
      ap (λ (n : ℕ). options_in octets ++ drop n octets) (omega (arith, low)) ∙ ap (λ (t : List ℕ). options_in octets ++ t) (sym (drop-drop (header_len octets - 20) 20 octets))
      ∙ take-append-drop (header_len octets - 20) (drop 20 octets)

  octets_with-again : (checksum : ℕ) → octets_with checksum (segment_in octets) ≡ with_checksum checksum (without_ignored octets)
  octets_with-again checksum =
      ap (λ (n : ℕ). fixed_header checksum (head_in octets) n ++ (options_in octets ++ drop (header_len octets) octets)) length-options_in
      ∙ ap (λ (t : List ℕ). fixed_header checksum (head_in octets) (header_len octets - 20) ++ t) options-then-payload
      ∙ (any_header octets long small low).1 checksum

  segment_text-again : segment_text addresses (segment_in octets) ≡ summed_anew addresses (without_ignored octets)
  unfolding segment_text
  segment_text-again =
      octets_with-again (checksum_of addresses (octets_with 0 (segment_in octets))) ∙ ap (λ (t : List ℕ). with_checksum (checksum_of addresses t) (without_ignored octets)) (octets_with-again 0)

  can_write : CanWrite (segment_in octets)
  can_write = record {
    head = (any_header octets long small low).0;
    carried = record {
      room = omega (arith, length-options_in, small 12);
      padded = omega (arith, length-options_in);
      whole = not-false (are_whole (options_in octets)) none.whole;
      fits = omega (arith, length-options_in, within, low, length-drop (header_len octets) octets, ltb-false 65535 (length octets) (or_parts (nat_lt 65535 (length octets)) (not (is_checksum_right addresses octets)) none.checksum).0);
    };
  }

pub written_again : (addresses : Addresses) (octets : List ℕ) (segment : Segment) → IsOctets octets → segment_meaning addresses octets ≡ Ok segment
    → CanWrite segment × (segment_text addresses segment ≡ summed_anew addresses (without_ignored octets))
written_again addresses octets segment small read =
    let none = no_fault addresses octets segment read in
    let P : Segment → Type 0 = λ s. CanWrite s × (segment_text addresses s ≡ summed_anew addresses (without_ignored octets)) in
    subst P none.segment_is (can_write addresses octets segment small none, segment_text-again addresses octets segment small none)
