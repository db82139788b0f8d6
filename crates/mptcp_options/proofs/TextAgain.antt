-- How octets that mean an option come to be its text again: kind and length by the first rules, then octet by octet.
use Rattle.std.proofs.Common.{◌≡◌, ℕ, ◌+◌, ◌*◌, ◌<◌, ◌≤◌, List, [], ◌∷◌, length, drop, bit_and, bit_or, refl, sym, ap, ◌∙◌, arith}
use Rattle.std.proofs.Math.Seq.{drop-cons}
use Rattle.std.proofs.lemmas.List.{length-drop, drop_all}
use Rattle.key_material.specs.Octets.{AreOctets}
use Rattle.key_material.proofs.Octets.{each_octet}
use Rattle.octet_text.specs.Octets.{octet, is_set}
use Rattle.mptcp_options.specs.Octets.{flag_if}
use Rattle.mptcp_options.specs.Meaning.{IsFramed, subtype}
use Rattle.mptcp_options.specs.Ignored.{third_mask, fourth_mask, masked, cleared}
use Rattle.mptcp_options.proofs.OctetTests.{whole_octet, subtype_alone, subtype_and_flag, nothing_read}

-- a body with its kind and length
abbrev pub framed_body : List ℕ → List ℕ
framed_body body = 0x1E ∷ (length body + 2) ∷ body

length-masked : (mask : ℕ) (octets : List ℕ) → length (masked mask octets) ≡ length octets
length-masked mask [] = refl
length-masked mask (flags ∷ rest) = refl

module _ (octets : List ℕ) (framed : IsFramed octets) where
  -- what follows kind and length in the cleared octets
  abbrev pub cleared_body : List ℕ
  cleared_body = bit_and (octet octets 2) (third_mask octets) ∷ masked (fourth_mask octets) (drop 3 octets)

  length-cleared_body : length cleared_body + 2 ≡ length octets
  length-cleared_body = omega (arith, length-masked (fourth_mask octets) (drop 3 octets), length-drop 3 octets, framed.long)

  pub text_again : (body : List ℕ) → body ≡ cleared_body → cleared octets ≡ framed_body body
  text_again body e =
      let n : length body + 2 ≡ length octets = ap (λ b. length b + 2) e ∙ length-cleared_body in
      cc (framed.kind, framed.counted, n, e)

  -- an option of three octets
  pub three_again : length octets ≡ 3 → (third : ℕ) → third ≡ bit_and (octet octets 2) (third_mask octets)
      → third ∷ [] ≡ cleared_body
  three_again short third e2 = rw (e2, drop_all 3 octets (omega arith)) refl

  -- an option with a fourth octet
  module _ (long : 4 ≤ length octets) where
    pub four_again : (third fourth : ℕ) (rest : List ℕ) → third ≡ bit_and (octet octets 2) (third_mask octets)
        → fourth ≡ bit_and (octet octets 3) (fourth_mask octets) → rest ≡ drop 4 octets
        → third ∷ fourth ∷ rest ≡ cleared_body
    four_again third fourth rest e2 e3 e4 =
        let tail : drop 3 octets ≡ octet octets 3 ∷ drop 4 octets = drop-cons octets 3 0 (omega arith) in
        rw (e2, e3, e4, tail) refl

  module _ (are : AreOctets octets) where
    third_below : octet octets 2 < 256
    third_below = each_octet octets are 2

    fourth_below : octet octets 3 < 256
    fourth_below = each_octet octets are 3

    -- a third octet of which the subtype alone is read, or the lowest flag too
    pub subtype_again : (k : ℕ) → subtype octets ≡ k → k * 16 ≡ bit_and (octet octets 2) 0xF0
    subtype_again k e = ap (λ n. n * 16) (sym e) ∙ subtype_alone (octet octets 2) third_below

    pub flag_again : (k : ℕ) → subtype octets ≡ k
        → bit_or (k * 16) (flag_if (is_set (octet octets 2) 0x01) 0x01) ≡ bit_and (octet octets 2) 0xF1
    flag_again k e =
        ap (λ n. bit_or (n * 16) (flag_if (is_set (octet octets 2) 0x01) 0x01)) (sym e) ∙ subtype_and_flag (octet octets 2) third_below

    -- a fourth octet that is read whole, or not at all
    pub octet_again : octet octets 3 ≡ bit_and (octet octets 3) 0xFF
    octet_again = whole_octet (octet octets 3) fourth_below

    pub zero_again : 0 ≡ bit_and (octet octets 3) 0
    zero_again = nothing_read (octet octets 3) fourth_below
