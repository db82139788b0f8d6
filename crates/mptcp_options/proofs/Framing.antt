-- The first two rules.
use Rattle.std.proofs.Common.{◌≡◌, ℕ, Bool, true, false, not, ◌==◌, nat_lt, List, [], ◌∷◌, length, ◌<◌, ◌≤◌, refl, arith}
use Rattle.std.proofs.lemmas.Bool.{eqb-true, ltb-false, not-false, or_parts}
use Rattle.octet_text.specs.Octets.{octet}
use Rattle.mptcp_options.specs.Value.{Unknown, Malformed}
use Rattle.mptcp_options.specs.Meaning.{IsFramed, is_of_another_kind, is_misframed, option_meaning}

module _ (octets : List ℕ) (checksum : Bool) where
  pub unknown_kind : is_of_another_kind octets ≡ true → option_meaning octets checksum ≡ Unknown
  unfolding option_meaning
  unknown_kind other = rw other refl

  pub malformed_frame : is_of_another_kind octets ≡ false → is_misframed octets ≡ true
      → option_meaning octets checksum ≡ Malformed
  unfolding option_meaning
  malformed_frame own misframed = rw (own, misframed) refl

-- a whole option has a kind
kind_is_30 : (octets : List ℕ) → 0 < length octets → is_of_another_kind octets ≡ false → octet octets 0 ≡ 0x1E
unfolding is_of_another_kind
kind_is_30 [] long own = absurd (omega arith)
kind_is_30 (kind ∷ rest) long own = eqb-true kind 0x1E (not-false _ own)

counted : (octets : List ℕ) → is_misframed octets ≡ false → (octet octets 1 ≡ length octets) × (3 ≤ length octets)
unfolding is_misframed
counted octets framed =
    let parts = or_parts (nat_lt (length octets) 3) (not (octet octets 1 == length octets)) framed in
    (eqb-true (octet octets 1) (length octets) (not-false (octet octets 1 == length octets) parts.1), ltb-false (length octets) 3 parts.0)

pub IsFramed-from_tests : (octets : List ℕ) → is_of_another_kind octets ≡ false → is_misframed octets ≡ false → IsFramed octets
IsFramed-from_tests octets own framed =
    let long = counted octets framed in
    record { kind = kind_is_30 octets (omega arith) own; counted = long.0; long = long.1 }

pub ruleset framing = (unknown_kind, malformed_frame, IsFramed-from_tests)
