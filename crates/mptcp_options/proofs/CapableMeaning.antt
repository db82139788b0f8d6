-- What octets of an MP_CAPABLE mean.
use Rattle.std.proofs.Common.{◌≡◌, ◌≢◌, ℕ, bit_and, Bool, true, false, not, ◌&&◌, ◌||◌, ◌==◌, nat_lt, if◌then◌else◌, Some, None, List, [], ◌∷◌, length, refl, ◌∙◌, arith, ◌<◌, ◌≤◌}
use Rattle.std.proofs.lemmas.Bool.{eq-eqb, ne_eqb}
use Rattle.std.proofs.lemmas.Bool.Decides.{nat_tests}
use Rattle.mptcp_options.specs.declared.capable.CapableKeys.{CapableKeys}
use Rattle.octet_text.specs.Octets.{octet, is_set}
use Rattle.mptcp_options.specs.Octets.{is_among}
use Rattle.mptcp_options.specs.Value.{Capable, Known, Unknown, Malformed}
use Rattle.mptcp_options.specs.Capable.{keys_at, keys_if_long, reads_flag_a, reads_flag_c}
use Rattle.mptcp_options.specs.Meaning.{IsFramed, subtype, version, is_foreign, has_no_flags, is_unusable, has_length_of_table, differs_in_checksum, value_at, option_meaning}
use Rattle.mptcp_options.proofs.MeaningByTable.{known_if, by_two_tests, not_of_another_kind, not_misframed}

-- the length of the table that the use of checksums wants
with_checksum : (n : ℕ) → not (nat_lt 20 n && not (n == 24)) && is_among n (4 ∷ 12 ∷ 20 ∷ 22 ∷ 24 ∷ []) ≡ is_among n (4 ∷ 12 ∷ 20 ∷ 24 ∷ [])
with_checksum n = grind (arith, nat_tests)

without_checksum : (n : ℕ) → not (nat_lt 20 n && n == 24) && is_among n (4 ∷ 12 ∷ 20 ∷ 22 ∷ 24 ∷ []) ≡ is_among n (4 ∷ 12 ∷ 20 ∷ 22 ∷ [])
without_checksum n = grind (arith, nat_tests)

-- the test of `keys_if_long`
abbrev pub length_fits : List ℕ → Bool → Bool
length_fits octets checksum = is_among (length octets) (4 ∷ 12 ∷ 20 ∷ (if checksum then 24 else 22) ∷ [])

known_of : (long a c : Bool) (at keys : CapableKeys) → Some keys ≡ (if long then Some at else None)
    → known_if long (Capable a c at) ≡ Known (Capable a c keys)
known_of true a c at keys e = cc
known_of false a c at keys e = cc

malformed_of : (long a c : Bool) (at : CapableKeys) → None ≡ (if long then Some at else None)
    → known_if long (Capable a c at) ≡ Malformed
malformed_of true a c at e = cc
malformed_of false a c at e = refl

module _ (octets : List ℕ) (framed : IsFramed octets) (is_capable : subtype octets ≡ 0) where
  pub foreign : is_foreign octets ≡ not (version octets == 1)
  unfolding is_foreign
  foreign = rw is_capable refl

  pub flagless : has_no_flags octets ≡ (length octets == 3)
  unfolding has_no_flags
  flagless = rw is_capable refl

  pub unusable : is_unusable octets ≡ (not (is_set (octet octets 3) 0x01) || is_set (octet octets 3) 0x40)
  unfolding is_unusable
  unusable = rw is_capable refl

  fits : (checksum : Bool) → not (differs_in_checksum octets checksum) && has_length_of_table octets
      ≡ length_fits octets checksum
  unfolding differs_in_checksum has_length_of_table
  fits true = rw is_capable (with_checksum (length octets))
  fits false = rw is_capable (without_checksum (length octets))

  pub capable_length : has_length_of_table octets ≡ is_among (length octets) (4 ∷ 12 ∷ 20 ∷ 22 ∷ 24 ∷ [])
  unfolding has_length_of_table
  capable_length = rw is_capable refl

  pub capable_value : value_at octets ≡ Capable (reads_flag_a octets) (reads_flag_c octets) (keys_at octets)
  unfolding value_at
  capable_value = rw is_capable refl

  pub capable_foreign : (checksum : Bool) → version octets ≢ 1 → option_meaning octets checksum ≡ Unknown
  unfolding option_meaning
  capable_foreign checksum other = rw (not_of_another_kind octets framed, not_misframed octets framed, foreign, ne_eqb (version octets) 1 other) refl

  module _ (first : version octets ≡ 1) where
    pub capable_flagless : (checksum : Bool) → length octets < 4 → option_meaning octets checksum ≡ Malformed
    unfolding option_meaning
    capable_flagless checksum short =
        let three : length octets ≡ 3 = omega (arith, framed.long) in
        rw (not_of_another_kind octets framed, not_misframed octets framed, foreign, flagless, eq-eqb (version octets) 1 first, eq-eqb (length octets) 3 three) refl

    module _ (long : 4 ≤ length octets) where
      no_three : length octets ≢ 3
      no_three = omega arith

      pub capable_unusable : (checksum : Bool) → (not (is_set (octet octets 3) 0x01) || is_set (octet octets 3) 0x40) ≡ true
          → option_meaning octets checksum ≡ Unknown
      unfolding option_meaning
      capable_unusable checksum flags =
          rw (not_of_another_kind octets framed, not_misframed octets framed, foreign, flagless, unusable, eq-eqb (version octets) 1 first, ne_eqb (length octets) 3 no_three, flags) refl

      pub capable_usable : (checksum : Bool) → (not (is_set (octet octets 3) 0x01) || is_set (octet octets 3) 0x40) ≡ false
          → option_meaning octets checksum ≡ known_if (length_fits octets checksum)
          (Capable (reads_flag_a octets) (reads_flag_c octets) (keys_at octets))
      unfolding option_meaning
      capable_usable checksum flags =
          rw (not_of_another_kind octets framed, not_misframed octets framed, foreign, flagless, unusable, eq-eqb (version octets) 1 first, ne_eqb (length octets) 3 no_three, flags)
          (by_two_tests (has_length_of_table octets) (differs_in_checksum octets checksum) (value_at octets) ∙ rw (fits checksum, capable_value) refl)

      flags_usable : bit_and (octet octets 3) 0x01 ≢ 0 → bit_and (octet octets 3) 0x40 ≡ 0
          → (not (is_set (octet octets 3) 0x01) || is_set (octet octets 3) 0x40) ≡ false
      flags_usable h b = rw (ne_eqb (bit_and (octet octets 3) 0x01) 0 h, b) refl

      pub capable_known : (checksum : Bool) (keys : CapableKeys)
          → bit_and (octet octets 3) 0x01 ≢ 0 → bit_and (octet octets 3) 0x40 ≡ 0 → Some keys ≡ keys_if_long octets checksum
          → option_meaning octets checksum ≡ Known (Capable (reads_flag_a octets) (reads_flag_c octets) keys)
      capable_known checksum keys h b long =
          capable_usable checksum (flags_usable h b) ∙ known_of (length_fits octets checksum) _ _ (keys_at octets) keys long

      pub capable_malformed : (checksum : Bool)
          → bit_and (octet octets 3) 0x01 ≢ 0 → bit_and (octet octets 3) 0x40 ≡ 0 → None ≡ keys_if_long octets checksum → option_meaning octets checksum ≡ Malformed
      capable_malformed checksum h b short =
          capable_usable checksum (flags_usable h b) ∙ malformed_of (length_fits octets checksum) _ _ (keys_at octets) short

pub ruleset capable_forms = (capable_foreign, capable_flagless, capable_unusable, capable_known, capable_malformed)
