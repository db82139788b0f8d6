-- The options of one form, written and read.
use Rattle.std.proofs.Common.{◌≡◌, ℕ, ◌<◌, ◌*◌, ◌^◌, Bool, true, false, List, [], ◌∷◌, length, refl, ap, sym, ◌∙◌, arith}
use Rattle.std.proofs.lemmas.Nat.{from_be_bytes-to_be_bytes_8}
use Rattle.std.proofs.lemmas.Bool.{eqb-true}
use Rattle.key_material.specs.Octets.{AreOctets}
use Rattle.octet_text.specs.Octets.{octet}
use Rattle.mptcp_options.specs.Value.{Prio, Fail, FastClose, Reset, Known}
use Rattle.mptcp_options.specs.Signals.{has_low_flag, number_at_4}
use Rattle.mptcp_options.specs.Text.{option_text}
use Rattle.mptcp_options.specs.Meaning.{IsFramed, subtype, is_of_another_kind, is_misframed, is_foreign, has_no_flags, is_unusable, has_length_of_table, differs_in_checksum, value_at, option_meaning}
use Rattle.mptcp_options.specs.Ignored.{third_mask, fourth_mask, cleared}
use Rattle.std.specs.Int.{w64, to_be_bytes}
use Rattle.std.proofs.lemmas.List.{drop_all}
use Rattle.mptcp_options.proofs.NumbersAgain.{written_again_64, last_field}
use Rattle.mptcp_options.proofs.TextAgain.{framed_body, text_again, three_again, four_again, subtype_again, flag_again, octet_again, zero_again}
use Rattle.mptcp_options.proofs.SignalMeaning.{prio_length, fail_length, fast_close_length, reset_length}

-- ---- what is written is read

pub read_again-prio : (backup checksum : Bool) → option_meaning (option_text (Prio backup)) checksum ≡ Known (Prio backup)
unfolding option_text option_meaning is_of_another_kind is_misframed is_foreign has_no_flags is_unusable has_length_of_table differs_in_checksum value_at
read_again-prio true true = refl
read_again-prio true false = refl
read_again-prio false true = refl
read_again-prio false false = refl

pub read_again-fail : (number : ℕ) (checksum : Bool) → number < 2 ^ 64
    → option_meaning (option_text (Fail number)) checksum ≡ Known (Fail number)
unfolding option_text option_meaning is_of_another_kind is_misframed is_foreign has_no_flags is_unusable has_length_of_table differs_in_checksum value_at
read_again-fail number true fits = ap (λ n. Known (Fail n)) (from_be_bytes-to_be_bytes_8 number fits)
read_again-fail number false fits = ap (λ n. Known (Fail n)) (from_be_bytes-to_be_bytes_8 number fits)

pub read_again-fast_close : (number : ℕ) (checksum : Bool) → number < 2 ^ 64
    → option_meaning (option_text (FastClose number)) checksum ≡ Known (FastClose number)
unfolding option_text option_meaning is_of_another_kind is_misframed is_foreign has_no_flags is_unusable has_length_of_table differs_in_checksum value_at
read_again-fast_close number true fits = ap (λ n. Known (FastClose n)) (from_be_bytes-to_be_bytes_8 number fits)
read_again-fast_close number false fits = ap (λ n. Known (FastClose n)) (from_be_bytes-to_be_bytes_8 number fits)

pub read_again-reset : (transient : Bool) (reason : ℕ) (checksum : Bool)
    → option_meaning (option_text (Reset transient reason)) checksum ≡ Known (Reset transient reason)
unfolding option_text option_meaning is_of_another_kind is_misframed is_foreign has_no_flags is_unusable has_length_of_table differs_in_checksum value_at
read_again-reset true reason true = refl
read_again-reset true reason false = refl
read_again-reset false reason true = refl
read_again-reset false reason false = refl

-- ---- what is read is written

module _ (octets : List ℕ) (framed : IsFramed octets) (are : AreOctets octets) (long : has_length_of_table octets ≡ true) where
  module _ (e : subtype octets ≡ 5) where
    prio_third : third_mask octets ≡ 0xF1
    unfolding third_mask
    prio_third = rw e refl

    pub text_again-prio : cleared octets ≡ option_text (Prio (has_low_flag octets))
    unfolding option_text
    text_again-prio =
        let three : length octets ≡ 3 = eqb-true (length octets) 3 (sym (prio_length octets framed e) ∙ long) in
        text_again octets framed _ (three_again octets framed three _ (rw prio_third (flag_again octets framed are 5 e)))

  -- MP_FAIL and MP_FASTCLOSE: the subtype, and a number from the fifth octet on
  module _ (k : ℕ) (e : subtype octets ≡ k) (twelve : length octets ≡ 12) (third : third_mask octets ≡ 0xF0) (fourth : fourth_mask octets ≡ 0) where
    number_again : cleared octets ≡ framed_body (k * 16 ∷ 0 ∷ to_be_bytes w64 (number_at_4 octets))
    number_again =
        text_again octets framed _ (four_again octets framed (omega arith) _ _ _
        (rw third (subtype_again octets framed are k e)) (rw fourth (zero_again octets framed are))
        (written_again_64 octets are 4 (omega arith) ∙ last_field octets 4 8 twelve))

  module _ (e : subtype octets ≡ 6) where
    fail_third : third_mask octets ≡ 0xF0
    unfolding third_mask
    fail_third = rw e refl

    fail_fourth : fourth_mask octets ≡ 0
    unfolding fourth_mask
    fail_fourth = rw e refl

    pub text_again-fail : cleared octets ≡ option_text (Fail (number_at_4 octets))
    unfolding option_text
    text_again-fail =
        number_again 6 e (eqb-true (length octets) 12 (sym (fail_length octets framed e) ∙ long)) fail_third fail_fourth

  module _ (e : subtype octets ≡ 7) where
    fast_close_third : third_mask octets ≡ 0xF0
    unfolding third_mask
    fast_close_third = rw e refl

    fast_close_fourth : fourth_mask octets ≡ 0
    unfolding fourth_mask
    fast_close_fourth = rw e refl

    pub text_again-fast_close : cleared octets ≡ option_text (FastClose (number_at_4 octets))
    unfolding option_text
    text_again-fast_close =
        number_again 7 e (eqb-true (length octets) 12 (sym (fast_close_length octets framed e) ∙ long)) fast_close_third fast_close_fourth

  module _ (e : subtype octets ≡ 8) where
    reset_third : third_mask octets ≡ 0xF1
    unfolding third_mask
    reset_third = rw e refl

    reset_fourth : fourth_mask octets ≡ 0xFF
    unfolding fourth_mask
    reset_fourth = rw e refl

    pub text_again-reset : cleared octets ≡ option_text (Reset (has_low_flag octets) (octet octets 3))
    unfolding option_text
    text_again-reset =
        let four : length octets ≡ 4 = eqb-true (length octets) 4 (sym (reset_length octets framed e) ∙ long) in
        text_again octets framed _ (four_again octets framed (omega arith) _ _ []
        (rw reset_third (flag_again octets framed are 8 e)) (rw reset_fourth (octet_again octets framed are))
        (sym (drop_all 4 octets (omega arith))))
