-- What is read as an option may be written: it has a form of its subtype, and fields that fit.
use Rattle.std.proofs.Common.{◌≡◌, ℕ, ◌+◌, ◌≤◌, ◌^◌, Bool, true, false, ◌&&◌, ◌==◌, if◌then◌else◌, Option, Some, None, is_some, IfSome, List, [], ◌∷◌, length, take, drop, refl, sym, ◌∙◌, arith}
use Rattle.std.specs.Int.{w16, w64}
use Rattle.std.proofs.lemmas.List.{length-take, length-drop}
use Rattle.std.proofs.lemmas.Bool.{eq-eqb, ne_eqb, true≢false}
use Rattle.key_material.specs.Octets.{AreOctets}
use Rattle.key_material.proofs.Octets.{each_octet, AreOctets-take, AreOctets-drop}
use Rattle.key_material.specs.declared.address.Address.TheVariants.{V4, V6}
use Rattle.octet_text.specs.Octets.{octet, number_at, is_set}
use Rattle.mptcp_options.specs.Octets.{is_among, IsBelow}
use Rattle.mptcp_options.specs.Capable.{keys_at, KeysHaveForm, KeysFit}
use Rattle.mptcp_options.specs.Join.{form_at, FormFits}
use Rattle.mptcp_options.specs.Dss.{has_ack, has_mapping, data_number_at, dss_length, mapping_place, ack_at, mapping_at, fin_at, DssHasForm, DssFits, DataNumberFits, MappingFits}
use Rattle.mptcp_options.specs.Address.{is_echo, has_port, has_hmac, add_addr_lengths, address_at, port_at, hmac_at, ids_at, hmac_place, port_place, AddAddrHasForm, AddAddrFits, AddressFits, IdsHaveForm}
use Rattle.mptcp_options.specs.Meaning.{subtype, differs_in_checksum}
use Rattle.mptcp_options.proofs.DssText.{end_of, mapping_if}
use Rattle.mptcp_options.proofs.Among.{first_or, no_more}
use Rattle.mptcp_options.proofs.NumbersAgain.{fits_16, fits_32, fits_64}

module _ (octets : List ℕ) (are : AreOctets octets) where
  -- ---- MP_CAPABLE

  module _ (e : subtype octets ≡ 0) where
    differs_at_22 : length octets ≡ 22 → differs_in_checksum octets true ≡ true
    unfolding differs_in_checksum
    differs_at_22 n = rw (e, n) refl

    differs_at_24 : length octets ≡ 24 → differs_in_checksum octets false ≡ true
    unfolding differs_in_checksum
    differs_at_24 n = rw (e, n) refl

    not_summed : (checksum : Bool) → differs_in_checksum octets checksum ≡ false → length octets ≡ 22 → checksum ≡ false
    not_summed true summed n = absurd (true≢false (sym (differs_at_22 n) ∙ summed))
    not_summed false summed n = refl

    is_summed : (checksum : Bool) → differs_in_checksum octets checksum ≡ false → length octets ≡ 24 → checksum ≡ true
    is_summed true summed n = refl
    is_summed false summed n = absurd (true≢false (sym (differs_at_24 n) ∙ summed))

    pub keys_fit : (checksum : Bool) → differs_in_checksum octets checksum ≡ false
        → is_among (length octets) (4 ∷ 12 ∷ 20 ∷ 22 ∷ 24 ∷ []) ≡ true
        → KeysHaveForm checksum (keys_at octets) × KeysFit (keys_at octets)
    keys_fit checksum summed among =
        let n = length octets in
        first_or n 4 (12 ∷ 20 ∷ 22 ∷ 24 ∷ []) among (λ is_4. rw is_4 (tt, tt))
        (λ among. first_or n 12 (20 ∷ 22 ∷ 24 ∷ []) among (λ is_12. rw is_12 (tt, fits_64 octets are 4))
        (λ among. first_or n 20 (22 ∷ 24 ∷ []) among (λ is_20. rw is_20 (tt, (fits_64 octets are 4, fits_64 octets are 12)))
        (λ among. first_or n 22 (24 ∷ []) among
        (λ is_22. rw is_22 (sym (not_summed checksum summed is_22), (fits_64 octets are 4, fits_64 octets are 12, fits_16 octets are 20, tt)))
        (λ among. first_or n 24 [] among
        (λ is_24. rw is_24 (sym (is_summed checksum summed is_24), (fits_64 octets are 4, fits_64 octets are 12, fits_16 octets are 20, fits_16 octets are 22)))
        (no_more n)))))

  -- ---- MP_JOIN

  pub form_fits : is_among (length octets) (12 ∷ 16 ∷ 24 ∷ []) ≡ true → FormFits (form_at octets)
  form_fits among =
      let n = length octets in
      first_or n 12 (16 ∷ 24 ∷ []) among (λ is_12. rw is_12 (each_octet octets are 3, fits_32 octets are 4, fits_32 octets are 8))
      (λ among. first_or n 16 (24 ∷ []) among (λ is_16. rw is_16 (each_octet octets are 3, fits_64 octets are 4, fits_32 octets are 12))
      (λ among. first_or n 24 [] among (λ is_24. rw is_24 (AreOctets-take 20 _ (AreOctets-drop 4 octets are), simp (length-take, length-drop) (omega arith)))
      (no_more n)))

  -- ---- DSS

  number_fits : (wide : Bool) (place : ℕ) → DataNumberFits (data_number_at wide octets place)
  number_fits true place = fits_64 octets are place
  number_fits false place = fits_32 octets are place

  ack_fits : (has wide : Bool) → IfSome (if has then Some (data_number_at wide octets 4) else None) DataNumberFits
  ack_fits true wide = number_fits wide 4
  ack_fits false wide = tt

  -- a checksum stands exactly where checksums are used
  sum_form : (checksum : Bool) (end : ℕ) → length octets ≡ end + (if checksum then 2 else 0)
      → is_some (if◌then◌else◌ {A = Option ℕ} (length octets == end) None (Some (number_at w16 octets end))) ≡ checksum
  sum_form true end long = rw (ne_eqb (length octets) end (omega arith)) refl
  sum_form false end long = rw (eq-eqb (length octets) end (omega arith)) refl

  sum_fits : (none : Bool) (end : ℕ) → IsBelow (2 ^ 16) (if none then None else Some (number_at w16 octets end))
  sum_fits true end = tt
  sum_fits false end = fits_16 octets are end

  mapping_form : (has wide checksum fin : Bool) (place : ℕ)
      → length octets ≡ end_of octets are has wide place + (if has && checksum then 2 else 0)
      → DssHasForm checksum (mapping_if octets are has wide place) (has && fin)
  mapping_form false wide checksum fin place long = (tt, refl)
  mapping_form true wide checksum fin place long = (sum_form checksum (end_of octets are true wide place) long, tt)

  mapping_fits : (has wide : Bool) (place : ℕ) → IfSome (mapping_if octets are has wide place) MappingFits
  mapping_fits false wide place = tt
  mapping_fits true wide place = (
    number_fits wide place,
    fits_32 octets are _,
    fits_16 octets are _,
    sum_fits (length octets == end_of octets are true wide place) (end_of octets are true wide place),
  )

  pub dss_fits : (checksum : Bool) → length octets ≡ dss_length (octet octets 3) checksum
      → DssHasForm checksum (mapping_at octets) (fin_at octets) × DssFits (ack_at octets) (mapping_at octets)
  dss_fits checksum long =
      let flags = octet octets 3 in (
        mapping_form (has_mapping flags) (is_set flags 0x08) checksum (is_set flags 0x10) (mapping_place flags) long,
        (ack_fits (has_ack flags) (is_set flags 0x02), mapping_fits (has_mapping flags) (is_set flags 0x08) (mapping_place flags)),
      )

  -- ---- ADD_ADDR and REMOVE_ADDR

  hmac_fits : (has : Bool) (place : ℕ) → IsBelow (2 ^ 64) (if has then Some (number_at w64 octets place) else None)
  hmac_fits true place = fits_64 octets are place
  hmac_fits false place = tt

  -- an HMAC stands exactly where it is no echo
  hmac_form : (echo : Bool) → is_among (length octets) (add_addr_lengths echo) ≡ true → AddAddrHasForm echo (hmac_at octets)
  hmac_form true among =
      let n = length octets in
      first_or n 8 (10 ∷ 20 ∷ 22 ∷ []) among (λ is_8. rw is_8 refl)
      (λ among. first_or n 10 (20 ∷ 22 ∷ []) among (λ is_10. rw is_10 refl)
      (λ among. first_or n 20 (22 ∷ []) among (λ is_20. rw is_20 refl)
      (λ among. first_or n 22 [] among (λ is_22. rw is_22 refl) (no_more n))))
  hmac_form false among =
      let n = length octets in
      first_or n 16 (18 ∷ 28 ∷ 30 ∷ []) among (λ is_16. rw is_16 refl)
      (λ among. first_or n 18 (28 ∷ 30 ∷ []) among (λ is_18. rw is_18 refl)
      (λ among. first_or n 28 (30 ∷ []) among (λ is_28. rw is_28 refl)
      (λ among. first_or n 30 [] among (λ is_30. rw is_30 refl) (no_more n))))

  port_fits : (has : Bool) (place : ℕ) → IsBelow (2 ^ 16) (if has then Some (number_at w16 octets place) else None)
  port_fits true place = fits_16 octets are place
  port_fits false place = tt

  fits_v4 : 8 ≤ length octets → AddressFits (V4 (take 4 (drop 4 octets)))
  fits_v4 long = (AreOctets-take 4 _ (AreOctets-drop 4 octets are), simp (length-take, length-drop) (omega arith))

  fits_v6 : 20 ≤ length octets → AddressFits (V6 (take 16 (drop 4 octets)))
  fits_v6 long = (AreOctets-take 16 _ (AreOctets-drop 4 octets are), simp (length-take, length-drop) (omega arith))

  address_fits : (echo : Bool) → is_among (length octets) (add_addr_lengths echo) ≡ true → AddressFits (address_at octets)
  address_fits true among =
      let n = length octets in
      first_or n 8 (10 ∷ 20 ∷ 22 ∷ []) among (λ is_8. rw is_8 (fits_v4 (omega arith)))
      (λ among. first_or n 10 (20 ∷ 22 ∷ []) among (λ is_10. rw is_10 (fits_v4 (omega arith)))
      (λ among. first_or n 20 (22 ∷ []) among (λ is_20. rw is_20 (fits_v6 (omega arith)))
      (λ among. first_or n 22 [] among (λ is_22. rw is_22 (fits_v6 (omega arith))) (no_more n))))
  address_fits false among =
      let n = length octets in
      first_or n 16 (18 ∷ 28 ∷ 30 ∷ []) among (λ is_16. rw is_16 (fits_v4 (omega arith)))
      (λ among. first_or n 18 (28 ∷ 30 ∷ []) among (λ is_18. rw is_18 (fits_v4 (omega arith)))
      (λ among. first_or n 28 (30 ∷ []) among (λ is_28. rw is_28 (fits_v6 (omega arith)))
      (λ among. first_or n 30 [] among (λ is_30. rw is_30 (fits_v6 (omega arith))) (no_more n))))

  pub add_addr_fits : is_among (length octets) (add_addr_lengths (is_echo octets)) ≡ true
      → AddAddrHasForm (is_echo octets) (hmac_at octets)
      × AddAddrFits (octet octets 3) (address_at octets) (port_at octets) (hmac_at octets)
  add_addr_fits among = (
    hmac_form (is_echo octets) among,
    (
      each_octet octets are 3,
      address_fits (is_echo octets) among,
      port_fits (has_port octets) (port_place octets),
      hmac_fits (has_hmac octets) (hmac_place octets),
    ),
  )

  pub ids_fit : 4 ≤ length octets → length octets ≤ 40 → IdsHaveForm (ids_at octets) × AreOctets (ids_at octets)
  ids_fit some few = ((simp length-drop (omega arith), simp length-drop (omega arith)), AreOctets-drop 3 octets are)
