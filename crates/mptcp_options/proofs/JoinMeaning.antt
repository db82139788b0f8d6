-- What octets of an MP_JOIN mean, by their number.
use Rattle.std.proofs.Common.{◌≡◌, ◌≢◌, ℕ, Bool, List, [], ◌∷◌, length, take, drop, refl}
use Rattle.std.proofs.lemmas.Bool.{ne_eqb}
use Rattle.std.specs.Int.{w32, w64}
use Rattle.mptcp_options.specs.declared.join.JoinForm.TheVariants.{Syn, Answer, Third}
use Rattle.octet_text.specs.Octets.{octet, number_at, is_set}
use Rattle.mptcp_options.specs.Octets.{is_among}
use Rattle.mptcp_options.specs.Value.{Join, Known, Malformed}
use Rattle.mptcp_options.specs.Join.{form_at}
use Rattle.mptcp_options.specs.Meaning.{IsFramed, subtype, has_length_of_table, value_at, option_meaning}
use Rattle.mptcp_options.proofs.MeaningByTable.{known_if, by_length}

module _ (octets : List ℕ) (framed : IsFramed octets) where
  pub join_length : subtype octets ≡ 1 → has_length_of_table octets ≡ (is_among (length octets) (12 ∷ 16 ∷ 24 ∷ []))
  unfolding has_length_of_table
  join_length e = rw e refl

  pub join_value : subtype octets ≡ 1 → value_at octets ≡ Join (form_at octets)
  unfolding value_at
  join_value e = rw e refl

  option_meaning_join : subtype octets ≡ 1 → (checksum : Bool)
      → option_meaning octets checksum ≡ known_if (is_among (length octets) (12 ∷ 16 ∷ 24 ∷ [])) (Join (form_at octets))
  option_meaning_join e = by_length octets framed 1 e refl refl refl _ _ (join_length e) (join_value e)

  pub join_syn : subtype octets ≡ 1 → length octets ≡ 12 → (checksum : Bool) → option_meaning octets checksum
      ≡ Known (Join (Syn (is_set (octet octets 2) 0x01) (octet octets 3) (number_at w32 octets 4) (number_at w32 octets 8)))
  join_syn e n checksum = rw (option_meaning_join e checksum, n) refl

  pub join_answer : subtype octets ≡ 1 → length octets ≡ 16 → (checksum : Bool) → option_meaning octets checksum
      ≡ Known (Join (Answer (is_set (octet octets 2) 0x01) (octet octets 3) (number_at w64 octets 4) (number_at w32 octets 12)))
  join_answer e n checksum = rw (option_meaning_join e checksum, n) refl

  pub join_third : subtype octets ≡ 1 → length octets ≡ 24 → (checksum : Bool)
      → option_meaning octets checksum ≡ Known (Join (Third (take 20 (drop 4 octets))))
  join_third e n checksum = rw (option_meaning_join e checksum, n) refl

  pub join_malformed : subtype octets ≡ 1 → length octets ≢ 12 → length octets ≢ 16 → length octets ≢ 24
      → (checksum : Bool) → option_meaning octets checksum ≡ Malformed
  join_malformed e not_syn not_answer not_third checksum =
      rw (option_meaning_join e checksum, ne_eqb (length octets) 12 not_syn, ne_eqb (length octets) 16 not_answer, ne_eqb (length octets) 24 not_third)
      refl

pub ruleset join_forms = (join_syn, join_answer, join_third, join_malformed)
