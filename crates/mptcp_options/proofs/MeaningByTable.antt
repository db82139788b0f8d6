-- What the rules come to for octets of kind 30 with their number in the second octet, and of a subtype other than
-- MP_CAPABLE: the table of lengths and the checksum decide.
use Rattle.std.proofs.Common.{◌≡◌, ℕ, Bool, true, false, not, ◌&&◌, ◌==◌, nat_lt, if◌then◌else◌, List, [], ◌∷◌, refl, arith, ◌<◌}
use Rattle.octet_text.specs.Octets.{octet}
use Rattle.mptcp_options.specs.Value.{OptionValue, Meaning, Known, Unknown, Malformed}
use Rattle.std.proofs.lemmas.Bool.{lt-ltb}
use Rattle.mptcp_options.specs.Meaning.{IsFramed, subtype, is_of_another_kind, is_misframed, is_foreign, has_no_flags, is_unusable, has_length_of_table, differs_in_checksum, value_at, option_meaning}

-- known, or out of form
abbrev pub known_if : Bool → OptionValue → Meaning
known_if has_form option = if has_form then Known option else Malformed

-- the last three rules as one test
pub by_two_tests : (long differs : Bool) (option : OptionValue)
    → (if not long then Malformed else (if differs then Malformed else Known option)) ≡ known_if (not differs && long) option
by_two_tests true true option = refl
by_two_tests true false option = refl
by_two_tests false true option = refl
by_two_tests false false option = refl

of_kind_30 : (octets : List ℕ) → octet octets 0 ≡ 0x1E → is_of_another_kind octets ≡ false
unfolding is_of_another_kind
of_kind_30 [] kind = refl
of_kind_30 (k ∷ rest) kind = rw kind refl

module _ (octets : List ℕ) (framed : IsFramed octets) where
  pub not_of_another_kind : is_of_another_kind octets ≡ false
  not_of_another_kind = of_kind_30 octets framed.kind

  pub not_misframed : is_misframed octets ≡ false
  unfolding is_misframed
  not_misframed = grind arith

  module _ (k : ℕ) (is_k : subtype octets ≡ k) (there_is : nat_lt 8 k ≡ false) (not_capable : (k == 0) ≡ false) where
    not_foreign : is_foreign octets ≡ false
    unfolding is_foreign
    not_foreign = rw (is_k, there_is, not_capable) refl

    not_flagless : has_no_flags octets ≡ false
    unfolding has_no_flags
    not_flagless = rw (is_k, not_capable) refl

    not_unusable : is_unusable octets ≡ false
    unfolding is_unusable
    not_unusable = rw (is_k, not_capable) refl

    pub by_table : (checksum : Bool) → option_meaning octets checksum
        ≡ known_if (not (differs_in_checksum octets checksum) && has_length_of_table octets) (value_at octets)
    unfolding option_meaning
    by_table checksum =
        rw (not_of_another_kind, not_misframed, not_foreign, not_flagless, not_unusable)
        (by_two_tests (has_length_of_table octets) (differs_in_checksum octets checksum) (value_at octets))

    -- a subtype without checksums
    module _ (no_dss : (k == 2) ≡ false) where
      no_checksum : (checksum : Bool) → differs_in_checksum octets checksum ≡ false
      unfolding differs_in_checksum
      no_checksum true = rw (is_k, no_dss, not_capable) refl
      no_checksum false = rw (is_k, no_dss, not_capable) refl

      pub by_length : (long : Bool) (option : OptionValue) → has_length_of_table octets ≡ long → value_at octets ≡ option
          → (checksum : Bool) → option_meaning octets checksum ≡ known_if long option
      by_length long option has is checksum = rw (by_table, no_checksum, has, is) refl

  above_8 : 8 < subtype octets → is_foreign octets ≡ true
  unfolding is_foreign
  above_8 h = rw (lt-ltb 8 (subtype octets) h) refl

  pub foreign_subtype : (checksum : Bool) → 8 < subtype octets → option_meaning octets checksum ≡ Unknown
  unfolding option_meaning
  foreign_subtype checksum h = rw (not_of_another_kind, not_misframed, above_8 h) refl
