-- MP_CAPABLE, written and read.
use Rattle.std.proofs.Common.{◌≡◌, ℕ, ◌≤◌, Bool, true, false, not, ◌||◌, ◌==◌, Some, None, List, [], ◌∷◌, ◌++◌, length, drop, bit_and, bit_or, refl, ap, sym, ◌∙◌, arith}
use Rattle.std.specs.Int.{w16, w64, to_be_bytes, from_be_bytes}
use Rattle.std.proofs.lemmas.List.{drop_all}
use Rattle.std.proofs.lemmas.Bool.{eqb-true, not-false, or_parts}
use Rattle.std.proofs.lemmas.Nat.{from_be_bytes-to_be_bytes_2, from_be_bytes-to_be_bytes_8}
use Rattle.key_material.specs.Octets.{AreOctets}
use Rattle.key_material.proofs.Octets.{each_octet}
use Rattle.mptcp_options.specs.declared.capable.CapableKeys.{CapableKeys}
use Rattle.mptcp_options.specs.declared.capable.CapableKeys.TheVariants.{NoKey, Sender, Both, WithData}
use Rattle.octet_text.specs.Octets.{octet, number_at, is_set}
use Rattle.mptcp_options.specs.Octets.{flag_if}
use Rattle.mptcp_options.specs.Capable.{keys_text, keys_at, reads_flag_a, reads_flag_c, KeysHaveForm, KeysFit}
use Rattle.mptcp_options.specs.Value.{Capable, Known}
use Rattle.mptcp_options.specs.Text.{option_text}
use Rattle.mptcp_options.specs.Meaning.{IsFramed, subtype, version, is_foreign, is_unusable, has_length_of_table, option_meaning}
use Rattle.mptcp_options.specs.Ignored.{third_mask, fourth_mask, cleared}
use Rattle.mptcp_options.proofs.OctetTests.{whole_octet, halves, capable_flags}
use Rattle.mptcp_options.proofs.Among.{first_or, no_more}
use Rattle.mptcp_options.proofs.Cells.{again, again-16}
use Rattle.mptcp_options.proofs.NumbersAgain.{written_again_16, written_again_64, last_field, then_rest}
use Rattle.mptcp_options.proofs.TextAgain.{text_again, four_again}
use Rattle.mptcp_options.proofs.MeaningByTable.{known_if}
use Rattle.mptcp_options.proofs.CapableMeaning.{length_fits, capable_usable, foreign, unusable, capable_length}

-- ---- what is written is read

-- the flags as they are written
abbrev flags_of : Bool → Bool → ℕ
flags_of flag_a flag_c = bit_or (bit_or (flag_if flag_a 0x80) (flag_if flag_c 0x20)) 0x01

usable_flags : (a c : Bool) → (not (is_set (flags_of a c) 0x01) || is_set (flags_of a c) 0x40) ≡ false
usable_flags true true = refl
usable_flags true false = refl
usable_flags false true = refl
usable_flags false false = refl

flag_a_again : (a c : Bool) → is_set (flags_of a c) 0x80 ≡ a
flag_a_again true true = refl
flag_a_again true false = refl
flag_a_again false true = refl
flag_a_again false false = refl

flag_c_again : (a c : Bool) → is_set (flags_of a c) 0x20 ≡ c
flag_c_again true true = refl
flag_c_again true false = refl
flag_c_again false true = refl
flag_c_again false false = refl

-- keys, written and read
abbrev key_again : ℕ → ℕ
key_again key = from_be_bytes w64 (to_be_bytes w64 key)

abbrev keys_again : CapableKeys → CapableKeys
keys_again NoKey = NoKey
keys_again (Sender sender) = Sender (key_again sender)
keys_again (Both sender receiver) = Both (key_again sender) (key_again receiver)
keys_again (WithData sender receiver data_length checksum) =
    WithData (key_again sender) (key_again receiver) (from_be_bytes w16 (to_be_bytes w16 data_length)) (again w16 checksum)

-- the length tells the form
record IsRead (flag_a flag_c : Bool) (keys : CapableKeys) (checksum : Bool) : Type 0 where
  pub long : length_fits (option_text (Capable flag_a flag_c keys)) checksum ≡ true
  pub keys_are : keys_at (option_text (Capable flag_a flag_c keys)) ≡ keys_again keys

read_keys : (flag_a flag_c : Bool) (keys : CapableKeys) (checksum : Bool) → KeysHaveForm checksum keys
    → IsRead flag_a flag_c keys checksum
unfolding option_text
read_keys a c NoKey true form = record { long = refl; keys_are = refl }
read_keys a c NoKey false form = record { long = refl; keys_are = refl }
read_keys a c (Sender sender) true form = record { long = refl; keys_are = refl }
read_keys a c (Sender sender) false form = record { long = refl; keys_are = refl }
read_keys a c (Both sender receiver) true form = record { long = refl; keys_are = refl }
read_keys a c (Both sender receiver) false form = record { long = refl; keys_are = refl }
read_keys a c (WithData sender receiver data_length (Some sum)) true form = record { long = refl; keys_are = refl }
read_keys a c (WithData sender receiver data_length None) false form = record { long = refl; keys_are = refl }
read_keys a c (WithData sender receiver data_length (Some sum)) false form = absurd cc
read_keys a c (WithData sender receiver data_length None) true form = absurd cc

same_keys : (keys : CapableKeys) → KeysFit keys → keys_again keys ≡ keys
same_keys NoKey fits = refl
same_keys (Sender sender) fits = ap Sender (from_be_bytes-to_be_bytes_8 sender fits)
same_keys (Both sender receiver) fits =
    let s = from_be_bytes-to_be_bytes_8 sender fits.0 in
    let r = from_be_bytes-to_be_bytes_8 receiver fits.1 in
    cc
same_keys (WithData sender receiver data_length sum) fits =
    let s = from_be_bytes-to_be_bytes_8 sender fits.0 in
    let r = from_be_bytes-to_be_bytes_8 receiver fits.1 in
    let l = from_be_bytes-to_be_bytes_2 data_length fits.2 in
    let c = again-16 sum fits.3 in
    cc

known_by : (long a c a' c' : Bool) (keys keys' : CapableKeys) → long ≡ true → a ≡ a' → c ≡ c' → keys ≡ keys'
    → known_if long (Capable a c keys) ≡ Known (Capable a' c' keys')
known_by true a c a' c' keys keys' e f g h = cc
known_by false a c a' c' keys keys' e f g h = absurd cc

pub read_again-capable : (flag_a flag_c : Bool) (keys : CapableKeys) (checksum : Bool) → KeysHaveForm checksum keys → KeysFit keys
    → option_meaning (option_text (Capable flag_a flag_c keys)) checksum ≡ Known (Capable flag_a flag_c keys)
unfolding option_text
read_again-capable a c keys checksum form fits =
    let octets = option_text (Capable a c keys) in
    let read = read_keys a c keys checksum form in
    capable_usable octets (record { kind = refl; counted = omega arith; long = omega arith }) refl refl (omega arith) checksum (usable_flags a c)
    ∙ known_by _ _ _ a c _ keys read.long (flag_a_again a c) (flag_c_again a c) (read.keys_are ∙ same_keys keys fits)

-- ---- what is read is written

module _ (octets : List ℕ) (framed : IsFramed octets) (are : AreOctets octets) (e : subtype octets ≡ 0) where
  capable_third : third_mask octets ≡ 0xFF
  unfolding third_mask
  capable_third = rw e refl

  capable_fourth : fourth_mask octets ≡ 0xA1
  unfolding fourth_mask
  capable_fourth = rw e refl

  -- the version is 1
  module _ (ours : is_foreign octets ≡ false) (usable : is_unusable octets ≡ false) (four : 4 ≤ length octets) where
    first_version : octet octets 2 ≡ 0x01
    first_version =
        let v : bit_and (octet octets 2) 0x0F ≡ 1 = eqb-true (version octets) 1 (not-false (version octets == 1) (sym (foreign octets framed e) ∙ ours)) in
        omega (arith, halves (octet octets 2) (each_octet octets are 2), v)

    version_again : 0x01 ≡ bit_and (octet octets 2) 0xFF
    version_again = sym first_version ∙ whole_octet (octet octets 2) (each_octet octets are 2)

    flag_h : is_set (octet octets 3) 0x01 ≡ true
    flag_h = not-false (is_set (octet octets 3) 0x01)
        (or_parts (not (is_set (octet octets 3) 0x01)) (is_set (octet octets 3) 0x40) (sym (unusable octets framed e) ∙ usable)).0

    flags_again : bit_or (bit_or (flag_if (reads_flag_a octets) 0x80) (flag_if (reads_flag_c octets) 0x20)) 0x01 ≡ bit_and (octet octets 3) 0xA1
    flags_again =
        ap (λ h. bit_or (bit_or (flag_if (reads_flag_a octets) 0x80) (flag_if (reads_flag_c octets) 0x20)) (flag_if h 0x01)) (sym flag_h)
        ∙ capable_flags (octet octets 3) (each_octet octets are 3)

    with_keys : keys_text (keys_at octets) ≡ drop 4 octets
        → cleared octets ≡ option_text (Capable (reads_flag_a octets) (reads_flag_c octets) (keys_at octets))
    unfolding option_text
    with_keys keys =
        text_again octets framed _ (four_again octets framed four _ _ _ (rw capable_third version_again) (rw capable_fourth flags_again) keys)

    keys_4 : length octets ≡ 4 → keys_text (keys_at octets) ≡ drop 4 octets
    keys_4 n = rw n (sym (drop_all 4 octets (omega arith)))

    keys_12 : length octets ≡ 12 → keys_text (keys_at octets) ≡ drop 4 octets
    keys_12 n = rw n (written_again_64 octets are 4 (omega arith) ∙ last_field octets 4 8 n)

    keys_20 : length octets ≡ 20 → keys_text (keys_at octets) ≡ drop 4 octets
    keys_20 n = rw n (then_rest (to_be_bytes w64 (number_at w64 octets 4)) (to_be_bytes w64 (number_at w64 octets 12)) octets 4 8 12 refl
        (written_again_64 octets are 4 (omega arith)) (written_again_64 octets are 12 (omega arith) ∙ last_field octets 12 8 n))

    -- both keys, and what follows
    module _ (after : 20 ≤ length octets) (rest : List ℕ) (is_rest : rest ≡ drop 20 octets) where
      both_keys : to_be_bytes w64 (number_at w64 octets 4) ++ (to_be_bytes w64 (number_at w64 octets 12) ++ rest) ≡ drop 4 octets
      both_keys =
          then_rest (to_be_bytes w64 (number_at w64 octets 4)) (to_be_bytes w64 (number_at w64 octets 12) ++ rest) octets 4 8 12 refl
          (written_again_64 octets are 4 (omega arith))
          (then_rest (to_be_bytes w64 (number_at w64 octets 12)) rest octets 12 8 20 refl (written_again_64 octets are 12 (omega arith)) is_rest)

    keys_22 : length octets ≡ 22 → keys_text (keys_at octets) ≡ drop 4 octets
    keys_22 n = rw n (both_keys (omega arith) (to_be_bytes w16 (number_at w16 octets 20))
        (written_again_16 octets are 20 (omega arith) ∙ last_field octets 20 2 n))

    keys_24 : length octets ≡ 24 → keys_text (keys_at octets) ≡ drop 4 octets
    keys_24 n = rw n (both_keys (omega arith) (to_be_bytes w16 (number_at w16 octets 20) ++ to_be_bytes w16 (number_at w16 octets 22))
        (then_rest (to_be_bytes w16 (number_at w16 octets 20)) (to_be_bytes w16 (number_at w16 octets 22)) octets 20 2 22 refl
        (written_again_16 octets are 20 (omega arith)) (written_again_16 octets are 22 (omega arith) ∙ last_field octets 22 2 n)))

    pub text_again-capable : has_length_of_table octets ≡ true
        → cleared octets ≡ option_text (Capable (reads_flag_a octets) (reads_flag_c octets) (keys_at octets))
    text_again-capable long =
        let n = length octets in
        with_keys (first_or n 4 (12 ∷ 20 ∷ 22 ∷ 24 ∷ []) (sym (capable_length octets framed e) ∙ long) keys_4
        (λ among. first_or n 12 (20 ∷ 22 ∷ 24 ∷ []) among keys_12
        (λ among. first_or n 20 (22 ∷ 24 ∷ []) among keys_20
        (λ among. first_or n 22 (24 ∷ []) among keys_22
        (λ among. first_or n 24 [] among keys_24 (no_more n))))))
