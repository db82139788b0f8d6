-- What octets of a DSS mean: flags and the use of checksums give the one length that they may have.
use Rattle.std.proofs.Common.{◌≡◌, ◌≢◌, ℕ, ◌+◌, ◌<◌, ◌≤◌, Bool, true, false, not, ◌&&◌, ◌||◌, ◌==◌, if◌then◌else◌, List, [], ◌∷◌, length, refl, sym, ◌∙◌, arith}
use Rattle.std.proofs.lemmas.Bool.{eq-eqb, eqb-true, ne_eqb}
use Rattle.std.proofs.lemmas.Bool.Decides.{nat_tests}
use Rattle.octet_text.specs.Octets.{octet}
use Rattle.mptcp_options.specs.Octets.{is_among}
use Rattle.mptcp_options.specs.Value.{Dss, Known, Malformed}
use Rattle.mptcp_options.specs.Dss.{has_mapping, dss_end, dss_length, ack_at, mapping_at, fin_at}
use Rattle.mptcp_options.specs.Meaning.{IsFramed, subtype, has_length_of_table, differs_in_checksum, value_at, option_meaning}
use Rattle.mptcp_options.proofs.MeaningByTable.{known_if, by_table}

-- without a mapping there is one length
plain_length : (n end : ℕ) → n == end || false ≡ (n == end + 0)
plain_length n end = grind (arith, nat_tests)

-- with one, of the two lengths the one that the use of checksums wants
mapped_with : (n end : ℕ) → not (not (n == end + 2)) && (n == end || (n == end + 2 || false)) ≡ (n == end + 2)
mapped_with n end = grind (arith, nat_tests)

mapped_without : (n end : ℕ) → not (n == end + 2) && (n == end || (n == end + 2 || false)) ≡ (n == end + 0)
mapped_without n end = grind (arith, nat_tests)

one_length : (mapping checksum : Bool) (n end : ℕ) →
    not (if checksum then mapping && not (n == end + 2) else mapping && n == end + 2)
    && is_among n (if mapping then end ∷ (end + 2) ∷ [] else end ∷ [])
    ≡ (n == end + (if mapping && checksum then 2 else 0))
one_length false true n end = plain_length n end
one_length false false n end = plain_length n end
one_length true true n end = mapped_with n end
one_length true false n end = mapped_without n end

module _ (octets : List ℕ) (framed : IsFramed octets) (is_dss : subtype octets ≡ 2) where
  fits : (checksum : Bool) → not (differs_in_checksum octets checksum) && has_length_of_table octets
      ≡ (length octets == dss_length (octet octets 3) checksum)
  unfolding differs_in_checksum has_length_of_table
  fits true = rw is_dss (one_length (has_mapping (octet octets 3)) true (length octets) (dss_end (octet octets 3)))
  fits false = rw is_dss (one_length (has_mapping (octet octets 3)) false (length octets) (dss_end (octet octets 3)))

  -- the length of octets that the last rules pass
  pub length_is : (checksum : Bool) → differs_in_checksum octets checksum ≡ false → has_length_of_table octets ≡ true
      → length octets ≡ dss_length (octet octets 3) checksum
  length_is checksum summed long =
      let one : not (differs_in_checksum octets checksum) && has_length_of_table octets ≡ true = rw (summed, long) refl in
      eqb-true (length octets) (dss_length (octet octets 3) checksum) (sym (fits checksum) ∙ one)

  pub dss_value : value_at octets ≡ Dss (ack_at octets) (mapping_at octets) (fin_at octets)
  unfolding value_at
  dss_value = rw is_dss refl

  option_meaning_dss : (checksum : Bool) → option_meaning octets checksum
      ≡ known_if (length octets == dss_length (octet octets 3) checksum) (Dss (ack_at octets) (mapping_at octets) (fin_at octets))
  option_meaning_dss checksum = rw (by_table octets framed 2 is_dss refl refl checksum, fits checksum, dss_value) refl

  pub dss_known : (checksum : Bool) → length octets ≡ dss_length (octet octets 3) checksum
      → option_meaning octets checksum ≡ Known (Dss (ack_at octets) (mapping_at octets) (fin_at octets))
  dss_known checksum e = rw (option_meaning_dss checksum, eq-eqb (length octets) (dss_length (octet octets 3) checksum) e) refl

  pub dss_malformed : (checksum : Bool) → length octets ≢ dss_length (octet octets 3) checksum
      → option_meaning octets checksum ≡ Malformed
  dss_malformed checksum n = rw (option_meaning_dss checksum, ne_eqb (length octets) (dss_length (octet octets 3) checksum) n) refl

  pub at_least_4 : (flags : ℕ) (checksum : Bool) → 4 ≤ dss_length flags checksum
  at_least_4 flags checksum = grind arith

  -- the flags are there
  pub dss_short : (checksum : Bool) → length octets < 4 → option_meaning octets checksum ≡ Malformed
  dss_short checksum short =
      let long : 4 ≤ dss_length (octet octets 3) checksum = at_least_4 (octet octets 3) checksum in
      dss_malformed checksum (omega arith)

pub ruleset dss_forms = (dss_known, dss_malformed, dss_short)
