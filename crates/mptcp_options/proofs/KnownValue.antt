-- What is known of octets that mean an option: each rule but the last one passed them, and the value is theirs.
use Rattle.std.proofs.Common.{◌≡◌, Bool, true, false, not, if◌then◌else◌, List, ℕ, refl}
use Rattle.mptcp_options.specs.Value.{OptionValue, Meaning, Known, Unknown, Malformed}
use Rattle.mptcp_options.specs.Meaning.{is_of_another_kind, is_misframed, is_foreign, has_no_flags, is_unusable, has_length_of_table, differs_in_checksum, value_at, option_meaning}

not_unknown : (test : Bool) (rest : Meaning) (option : OptionValue)
    → (if test then Unknown else rest) ≡ Known option → (test ≡ false) × (rest ≡ Known option)
not_unknown true rest option e = cc
not_unknown false rest option e = (refl, e)

not_malformed : (test : Bool) (rest : Meaning) (option : OptionValue)
    → (if test then Malformed else rest) ≡ Known option → (test ≡ false) × (rest ≡ Known option)
not_malformed true rest option e = cc
not_malformed false rest option e = (refl, e)

same_option : (first second : OptionValue) → Known first ≡ Known second → first ≡ second
same_option first second e = cc

pub record Passes (octets : List ℕ) (checksum : Bool) (option : OptionValue) : Type 0 where
  pub own_kind : is_of_another_kind octets ≡ false
  pub framed : is_misframed octets ≡ false
  pub ours : is_foreign octets ≡ false
  pub has_flags : has_no_flags octets ≡ false
  pub usable : is_unusable octets ≡ false
  pub long : not (has_length_of_table octets) ≡ false
  pub summed : differs_in_checksum octets checksum ≡ false
  pub value : value_at octets ≡ option

pub passes : (octets : List ℕ) (checksum : Bool) (option : OptionValue)
    → option_meaning octets checksum ≡ Known option → Passes octets checksum option
unfolding option_meaning
passes octets checksum option e =
    let first = not_unknown (is_of_another_kind octets) _ option e in
    let second = not_malformed (is_misframed octets) _ option first.1 in
    let third = not_unknown (is_foreign octets) _ option second.1 in
    let fourth = not_malformed (has_no_flags octets) _ option third.1 in
    let fifth = not_unknown (is_unusable octets) _ option fourth.1 in
    let sixth = not_malformed (not (has_length_of_table octets)) _ option fifth.1 in
    let seventh = not_malformed (differs_in_checksum octets checksum) _ option sixth.1 in
    record {
      own_kind = first.0;
      framed = second.0;
      ours = third.0;
      has_flags = fourth.0;
      usable = fifth.0;
      long = sixth.0;
      summed = seventh.0;
      value = same_option (value_at octets) option seventh.1;
    }
