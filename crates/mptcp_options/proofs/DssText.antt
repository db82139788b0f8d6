-- DSS, written and read.
use Rattle.std.proofs.Common.{◌≡◌, ℕ, ◌+◌, ◌≤◌, Bool, true, false, ◌&&◌, ◌==◌, if◌then◌else◌, Option, Some, None, is_some, IfSome, List, ◌++◌, length, take, drop, bit_and, bit_or, refl, ap, sym, ◌∙◌, append_assoc, arith}
use Rattle.std.specs.Int.{w16, w32, w64, to_be_bytes, from_be_bytes}
use Rattle.std.proofs.lemmas.List.{drop_all}
use Rattle.std.proofs.lemmas.Bool.{eq-eqb, ne_eqb}
use Rattle.std.proofs.lemmas.Nat.{from_be_bytes-to_be_bytes_2, from_be_bytes-to_be_bytes_4, from_be_bytes-to_be_bytes_8}
use Rattle.key_material.specs.Octets.{AreOctets}
use Rattle.key_material.proofs.Octets.{each_octet}
use Rattle.mptcp_options.specs.declared.dss.DataNumber.{DataNumber}
use Rattle.mptcp_options.specs.declared.dss.DataNumber.TheVariants.{Whole, Low}
use Rattle.mptcp_options.specs.declared.dss.DssMap.{DssMap}
use Rattle.octet_text.specs.Octets.{octet, number_at, is_set}
use Rattle.mptcp_options.specs.Octets.{flag_if, optional}
use Rattle.mptcp_options.specs.Dss.{data_number_text, ack_text, ack_flags, mapping_text, mapping_flags, has_ack, has_mapping, data_number_length, data_number_at, mapping_place, dss_length, ack_at, mapping_at, fin_at, DssHasForm, DssFits, DataNumberFits, MappingFits}
use Rattle.mptcp_options.specs.Value.{Dss, Known}
use Rattle.mptcp_options.specs.Text.{option_text}
use Rattle.mptcp_options.specs.Meaning.{IsFramed, subtype, is_of_another_kind, is_misframed, is_foreign, has_no_flags, is_unusable, has_length_of_table, differs_in_checksum, value_at, option_meaning}
use Rattle.mptcp_options.specs.Ignored.{third_mask, fourth_mask, dss_mask, cleared}
use Rattle.mptcp_options.proofs.OctetTests.{dss_flags}
use Rattle.mptcp_options.proofs.Cells.{again, again-16}
use Rattle.mptcp_options.proofs.NumbersAgain.{written_again_16, written_again_32, written_again_64, last_field, then_rest}
use Rattle.mptcp_options.proofs.TextAgain.{text_again, four_again, subtype_again}
use Rattle.mptcp_options.proofs.DssMeaning.{length_is, at_least_4}

-- ---- what is written is read

-- a mapping of these fields
abbrev pub mapping_of : DataNumber → ℕ → ℕ → Option ℕ → DssMap
mapping_of number relative octets sum = record { number = number; relative = relative; length = octets; checksum = sum }

-- numbers, written and read
abbrev number_again : DataNumber → DataNumber
number_again (Whole n) = Whole (from_be_bytes w64 (to_be_bytes w64 n))
number_again (Low n) = Low (from_be_bytes w32 (to_be_bytes w32 n))

abbrev ack_again : Option DataNumber → Option DataNumber
ack_again None = None
ack_again (Some ack) = Some (number_again ack)

abbrev mapping_again : DssMap → DssMap
mapping_again m = record {
  number = number_again m.number;
  relative = from_be_bytes w32 (to_be_bytes w32 m.relative);
  length = from_be_bytes w16 (to_be_bytes w16 m.length);
  checksum = again w16 m.checksum;
}

same_number : (n : DataNumber) → DataNumberFits n → number_again n ≡ n
same_number (Whole n) n_fits = ap Whole (from_be_bytes-to_be_bytes_8 n n_fits)
same_number (Low n) n_fits = ap Low (from_be_bytes-to_be_bytes_4 n n_fits)

same_ack : (ack : Option DataNumber) → IfSome ack DataNumberFits → ack_again ack ≡ ack
same_ack None ack_fits = refl
same_ack (Some ack) ack_fits = ap Some (same_number ack ack_fits)

same_fields : (n number : DataNumber) (r relative l octets : ℕ) (c sum : Option ℕ)
    → n ≡ number → r ≡ relative → l ≡ octets → c ≡ sum → mapping_of n r l c ≡ mapping_of number relative octets sum
same_fields n number r relative l octets c sum e f g h = rw (e, f, g, h) refl

same_mapping : (m : DssMap) → MappingFits m → mapping_again m ≡ m
same_mapping m m_fits =
    same_fields _ m.number _ m.relative _ m.length _ m.checksum (same_number m.number m_fits.0)
    (from_be_bytes-to_be_bytes_4 m.relative m_fits.1) (from_be_bytes-to_be_bytes_2 m.length m_fits.2) (again-16 m.checksum m_fits.3)

-- each choice of flags, tried
read_unmapped : (ack : Option DataNumber) (checksum : Bool)
    → option_meaning (option_text (Dss ack None false)) checksum ≡ Known (Dss (ack_again ack) None false)
unfolding option_text option_meaning is_of_another_kind is_misframed is_foreign has_no_flags is_unusable has_length_of_table differs_in_checksum value_at
read_unmapped None true = refl
read_unmapped None false = refl
read_unmapped (Some (Whole a)) true = refl
read_unmapped (Some (Whole a)) false = refl
read_unmapped (Some (Low a)) true = refl
read_unmapped (Some (Low a)) false = refl

read_mapped : (ack : Option DataNumber) (number : DataNumber) (relative octets : ℕ) (sum : Option ℕ) (fin : Bool)
    → option_meaning (option_text (Dss ack (Some (mapping_of number relative octets sum)) fin)) (is_some sum)
    ≡ Known (Dss (ack_again ack) (Some (mapping_again (mapping_of number relative octets sum))) fin)
unfolding option_text option_meaning is_of_another_kind is_misframed is_foreign has_no_flags is_unusable has_length_of_table differs_in_checksum value_at
read_mapped None (Whole n) relative octets None true = refl
read_mapped None (Whole n) relative octets None false = refl
read_mapped None (Whole n) relative octets (Some sum) true = refl
read_mapped None (Whole n) relative octets (Some sum) false = refl
read_mapped None (Low n) relative octets None true = refl
read_mapped None (Low n) relative octets None false = refl
read_mapped None (Low n) relative octets (Some sum) true = refl
read_mapped None (Low n) relative octets (Some sum) false = refl
read_mapped (Some (Whole a)) (Whole n) relative octets None true = refl
read_mapped (Some (Whole a)) (Whole n) relative octets None false = refl
read_mapped (Some (Whole a)) (Whole n) relative octets (Some sum) true = refl
read_mapped (Some (Whole a)) (Whole n) relative octets (Some sum) false = refl
read_mapped (Some (Whole a)) (Low n) relative octets None true = refl
read_mapped (Some (Whole a)) (Low n) relative octets None false = refl
read_mapped (Some (Whole a)) (Low n) relative octets (Some sum) true = refl
read_mapped (Some (Whole a)) (Low n) relative octets (Some sum) false = refl
read_mapped (Some (Low a)) (Whole n) relative octets None true = refl
read_mapped (Some (Low a)) (Whole n) relative octets None false = refl
read_mapped (Some (Low a)) (Whole n) relative octets (Some sum) true = refl
read_mapped (Some (Low a)) (Whole n) relative octets (Some sum) false = refl
read_mapped (Some (Low a)) (Low n) relative octets None true = refl
read_mapped (Some (Low a)) (Low n) relative octets None false = refl
read_mapped (Some (Low a)) (Low n) relative octets (Some sum) true = refl
read_mapped (Some (Low a)) (Low n) relative octets (Some sum) false = refl

same_dss : (a ack : Option DataNumber) (m mapping : Option DssMap) (fin : Bool) → a ≡ ack → m ≡ mapping
    → Known (Dss a m fin) ≡ Known (Dss ack mapping fin)
same_dss a ack m mapping fin e f = cc

pub read_again-dss : (ack : Option DataNumber) (mapping : Option DssMap) (fin checksum : Bool) → DssHasForm checksum mapping fin
    → DssFits ack mapping → option_meaning (option_text (Dss ack mapping fin)) checksum ≡ Known (Dss ack mapping fin)
read_again-dss ack None true checksum form dss_fits = absurd cc
read_again-dss ack None false checksum form dss_fits =
    read_unmapped ack checksum ∙ same_dss _ ack None None false (same_ack ack dss_fits.0) refl
read_again-dss ack (Some m) fin checksum form dss_fits =
    rw (← form.0)
    (read_mapped ack m.number m.relative m.length m.checksum fin
    ∙ same_dss _ ack _ (Some m) fin (same_ack ack dss_fits.0) (ap Some (same_mapping m dss_fits.1)))

-- ---- what is read is written

regrouped : (a b c d : List ℕ) → ((a ++ b) ++ c) ++ d ≡ a ++ (b ++ (c ++ d))
regrouped a b c d = simp append_assoc

module _ (octets : List ℕ) (are : AreOctets octets) where
  number_part : (wide : Bool) (place : ℕ) → place + data_number_length wide ≤ length octets
      → data_number_text (data_number_at wide octets place) ≡ take (data_number_length wide) (drop place octets)
  number_part true place inside = written_again_64 octets are place inside
  number_part false place inside = written_again_32 octets are place inside

  -- a Data ACK, if there is one, as the flags tell
  abbrev pub ack_if : Bool → Bool → Option DataNumber
  ack_if has wide = if has then Some (data_number_at wide octets 4) else None

  abbrev pub ack_end : Bool → Bool → ℕ
  ack_end has wide = if has then 4 + data_number_length wide else 4

  ack_part : (has wide : Bool) (rest : List ℕ) → ack_end has wide ≤ length octets → rest ≡ drop (ack_end has wide) octets
      → ack_text (ack_if has wide) ++ rest ≡ drop 4 octets
  ack_part false wide rest inside is_rest = is_rest
  ack_part true wide rest inside is_rest =
      then_rest (data_number_text (data_number_at wide octets 4)) rest octets 4 (data_number_length wide) (4 + data_number_length wide) refl
      (number_part wide 4 inside) is_rest

  ack_flags_again : (has wide : Bool) → ack_flags (ack_if has wide) ≡ (if has then bit_or (flag_if wide 0x02) 0x01 else 0)
  ack_flags_again false wide = refl
  ack_flags_again true true = refl
  ack_flags_again true false = refl

  -- a mapping from a place on, if there is one, as the flags tell
  abbrev pub end_of : Bool → Bool → ℕ → ℕ
  end_of has wide place = if has then place + data_number_length wide + 6 else place

  abbrev pub mapping_if : Bool → Bool → ℕ → Option DssMap
  mapping_if has wide place = if has then Some (mapping_of (data_number_at wide octets place)
      (number_at w32 octets (place + data_number_length wide)) (number_at w16 octets (place + data_number_length wide + 4))
      (if length octets == end_of has wide place then None else Some (number_at w16 octets (end_of has wide place)))) else None

  sum_part : (checksum : Bool) (end : ℕ) → length octets ≡ end + (if checksum then 2 else 0)
      → optional w16 (if length octets == end then None else Some (number_at w16 octets end)) ≡ drop end octets
  sum_part true end long =
      rw (ne_eqb (length octets) end (omega arith)) (written_again_16 octets are end (omega arith) ∙ last_field octets end 2 long)
  sum_part false end long = rw (eq-eqb (length octets) end (omega arith)) (sym (drop_all end octets (omega arith)))

  mapping_part : (has wide checksum : Bool) (place : ℕ)
      → length octets ≡ end_of has wide place + (if has && checksum then 2 else 0)
      → mapping_text (mapping_if has wide place) ≡ drop place octets
  mapping_part false wide checksum place long = sym (drop_all place octets (omega arith))
  mapping_part true wide checksum place long =
      let after = place + data_number_length wide in
      regrouped (data_number_text (data_number_at wide octets place)) (to_be_bytes w32 (number_at w32 octets after))
      (to_be_bytes w16 (number_at w16 octets (after + 4))) _
      ∙ then_rest (data_number_text (data_number_at wide octets place)) _ octets place (data_number_length wide) after refl
      (number_part wide place (omega arith))
      (then_rest (to_be_bytes w32 (number_at w32 octets after)) _ octets after 4 (after + 4) refl (written_again_32 octets are after (omega arith))
      (then_rest (to_be_bytes w16 (number_at w16 octets (after + 4))) _ octets (after + 4) 2 (after + 6) (omega arith)
      (written_again_16 octets are (after + 4) (omega arith)) (sum_part checksum (after + 6) long)))

  mapping_flags_again : (has wide : Bool) (place : ℕ)
      → mapping_flags (mapping_if has wide place) ≡ (if has then bit_or (flag_if wide 0x08) 0x04 else 0)
  mapping_flags_again false wide place = refl
  mapping_flags_again true true place = refl
  mapping_flags_again true false place = refl

  inside : (has wide checksum : Bool) (place : ℕ) → length octets ≡ end_of has wide place + (if has && checksum then 2 else 0) → place ≤ length octets
  inside false wide checksum place long = omega arith
  inside true wide checksum place long = omega arith

same_flags : (f m n a b : ℕ) → m ≡ n → a ≡ b → bit_or (bit_or f m) a ≡ bit_or (bit_or f n) b
same_flags f m n a b e g = cc

module _ (octets : List ℕ) (framed : IsFramed octets) (are : AreOctets octets) (e : subtype octets ≡ 2) where
  dss_third : third_mask octets ≡ 0xF0
  unfolding third_mask
  dss_third = rw e refl

  dss_fourth : fourth_mask octets ≡ dss_mask (octet octets 3)
  unfolding fourth_mask
  dss_fourth = rw e refl

  flags_again : bit_or (bit_or (flag_if (fin_at octets) 0x10) (mapping_flags (mapping_at octets))) (ack_flags (ack_at octets))
      ≡ bit_and (octet octets 3) (dss_mask (octet octets 3))
  flags_again =
      let flags = octet octets 3 in
      same_flags _ _ _ _ _ (mapping_flags_again octets are (has_mapping flags) (is_set flags 0x08) (mapping_place flags))
      (ack_flags_again octets are (has_ack flags) (is_set flags 0x02))
      ∙ dss_flags flags (each_octet octets are 3)

  fields_again : (checksum : Bool) → length octets ≡ dss_length (octet octets 3) checksum
      → ack_text (ack_at octets) ++ mapping_text (mapping_at octets) ≡ drop 4 octets
  fields_again checksum long =
      let flags = octet octets 3 in
      ack_part octets are (has_ack flags) (is_set flags 0x02) _
      (inside octets are (has_mapping flags) (is_set flags 0x08) checksum (mapping_place flags) long)
      (mapping_part octets are (has_mapping flags) (is_set flags 0x08) checksum (mapping_place flags) long)

  pub text_again-dss : (checksum : Bool) → differs_in_checksum octets checksum ≡ false → has_length_of_table octets ≡ true
      → cleared octets ≡ option_text (Dss (ack_at octets) (mapping_at octets) (fin_at octets))
  unfolding option_text
  text_again-dss checksum summed has =
      let long = length_is octets framed e checksum summed has in
      let four : 4 ≤ length octets = rw long (at_least_4 octets framed e (octet octets 3) checksum) in
      text_again octets framed _ (four_again octets framed four _ _ _ (rw dss_third (subtype_again octets framed are 2 e))
      (rw dss_fourth flags_again) (fields_again checksum long))
