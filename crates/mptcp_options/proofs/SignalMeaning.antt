-- What octets of the options of one form mean.
use Rattle.std.proofs.Common.{◌≡◌, ℕ, Bool, true, false, ◌||◌, ◌==◌, List, length, refl}
use Rattle.octet_text.specs.Octets.{octet}
use Rattle.mptcp_options.specs.Value.{Prio, Fail, FastClose, Reset}
use Rattle.mptcp_options.specs.Signals.{has_low_flag, number_at_4}
use Rattle.mptcp_options.specs.Meaning.{IsFramed, subtype, has_length_of_table, value_at, option_meaning}
use Rattle.mptcp_options.proofs.MeaningByTable.{known_if, by_length}

or_false : (b : Bool) → b || false ≡ b
or_false true = refl
or_false false = refl

module _ (octets : List ℕ) (framed : IsFramed octets) where
  pub prio_length : subtype octets ≡ 5 → has_length_of_table octets ≡ (length octets == 3)
  unfolding has_length_of_table
  prio_length e = rw e (or_false (length octets == 3))

  pub prio_value : subtype octets ≡ 5 → value_at octets ≡ Prio (has_low_flag octets)
  unfolding value_at
  prio_value e = rw e refl

  pub option_meaning_prio : subtype octets ≡ 5 → (checksum : Bool)
      → option_meaning octets checksum ≡ known_if (length octets == 3) (Prio (has_low_flag octets))
  option_meaning_prio e = by_length octets framed 5 e refl refl refl _ _ (prio_length e) (prio_value e)

  pub fail_length : subtype octets ≡ 6 → has_length_of_table octets ≡ (length octets == 12)
  unfolding has_length_of_table
  fail_length e = rw e (or_false (length octets == 12))

  pub fail_value : subtype octets ≡ 6 → value_at octets ≡ Fail (number_at_4 octets)
  unfolding value_at
  fail_value e = rw e refl

  pub option_meaning_fail : subtype octets ≡ 6 → (checksum : Bool)
      → option_meaning octets checksum ≡ known_if (length octets == 12) (Fail (number_at_4 octets))
  option_meaning_fail e = by_length octets framed 6 e refl refl refl _ _ (fail_length e) (fail_value e)

  pub fast_close_length : subtype octets ≡ 7 → has_length_of_table octets ≡ (length octets == 12)
  unfolding has_length_of_table
  fast_close_length e = rw e (or_false (length octets == 12))

  pub fast_close_value : subtype octets ≡ 7 → value_at octets ≡ FastClose (number_at_4 octets)
  unfolding value_at
  fast_close_value e = rw e refl

  pub option_meaning_fast_close : subtype octets ≡ 7 → (checksum : Bool)
      → option_meaning octets checksum ≡ known_if (length octets == 12) (FastClose (number_at_4 octets))
  option_meaning_fast_close e = by_length octets framed 7 e refl refl refl _ _ (fast_close_length e) (fast_close_value e)

  pub reset_length : subtype octets ≡ 8 → has_length_of_table octets ≡ (length octets == 4)
  unfolding has_length_of_table
  reset_length e = rw e (or_false (length octets == 4))

  pub reset_value : subtype octets ≡ 8 → value_at octets ≡ Reset (has_low_flag octets) (octet octets 3)
  unfolding value_at
  reset_value e = rw e refl

  pub option_meaning_reset : subtype octets ≡ 8 → (checksum : Bool)
      → option_meaning octets checksum ≡ known_if (length octets == 4) (Reset (has_low_flag octets) (octet octets 3))
  option_meaning_reset e = by_length octets framed 8 e refl refl refl _ _ (reset_length e) (reset_value e)
