-- MP_JOIN, written and read.
use Rattle.std.proofs.Common.{◌≡◌, ℕ, ◌<◌, ◌^◌, Bool, true, false, List, [], ◌∷◌, length, take, drop, refl, ap, sym, ◌∙◌, arith}
use Rattle.std.specs.Int.{w32, w64, to_be_bytes}
use Rattle.std.proofs.lemmas.List.{take_all}
use Rattle.std.proofs.lemmas.Nat.{from_be_bytes-to_be_bytes_4, from_be_bytes-to_be_bytes_8}
use Rattle.key_material.specs.Octets.{AreOctets}
use Rattle.mptcp_options.specs.declared.join.JoinForm.{JoinForm}
use Rattle.mptcp_options.specs.declared.join.JoinForm.TheVariants.{Syn, Answer, Third}
use Rattle.octet_text.specs.Octets.{octet, number_at, is_set}
use Rattle.mptcp_options.specs.Join.{join_body, form_at, FormFits}
use Rattle.mptcp_options.specs.Value.{Join, Known}
use Rattle.mptcp_options.specs.Text.{option_text}
use Rattle.mptcp_options.specs.Meaning.{IsFramed, subtype, is_of_another_kind, is_misframed, is_foreign, has_no_flags, is_unusable, has_length_of_table, differs_in_checksum, value_at, option_meaning}
use Rattle.mptcp_options.specs.Ignored.{third_mask, fourth_mask, cleared}
use Rattle.mptcp_options.proofs.Among.{first_or, no_more}
use Rattle.mptcp_options.proofs.NumbersAgain.{written_again_32, written_again_64, last_field, then_rest}
use Rattle.mptcp_options.proofs.TextAgain.{framed_body, text_again, four_again, subtype_again, flag_again, octet_again, zero_again}
use Rattle.mptcp_options.proofs.JoinMeaning.{join_length, join_third}

-- ---- what is written is read

same_syn : (backup : Bool) (id t token n nonce : ℕ) → t ≡ token → n ≡ nonce
    → Known (Join (Syn backup id t n)) ≡ Known (Join (Syn backup id token nonce))
same_syn backup id t token n nonce e f = cc

same_answer : (backup : Bool) (id h hmac n nonce : ℕ) → h ≡ hmac → n ≡ nonce
    → Known (Join (Answer backup id h n)) ≡ Known (Join (Answer backup id hmac nonce))
same_answer backup id h hmac n nonce e f = cc

read_again-syn : (backup : Bool) (id token nonce : ℕ) (checksum : Bool) → token < 2 ^ 32 → nonce < 2 ^ 32
    → option_meaning (option_text (Join (Syn backup id token nonce))) checksum ≡ Known (Join (Syn backup id token nonce))
unfolding option_text option_meaning is_of_another_kind is_misframed is_foreign has_no_flags is_unusable has_length_of_table differs_in_checksum value_at
read_again-syn true id token nonce true t n =
    same_syn true id _ token _ nonce (from_be_bytes-to_be_bytes_4 token t) (from_be_bytes-to_be_bytes_4 nonce n)
read_again-syn true id token nonce false t n =
    same_syn true id _ token _ nonce (from_be_bytes-to_be_bytes_4 token t) (from_be_bytes-to_be_bytes_4 nonce n)
read_again-syn false id token nonce true t n =
    same_syn false id _ token _ nonce (from_be_bytes-to_be_bytes_4 token t) (from_be_bytes-to_be_bytes_4 nonce n)
read_again-syn false id token nonce false t n =
    same_syn false id _ token _ nonce (from_be_bytes-to_be_bytes_4 token t) (from_be_bytes-to_be_bytes_4 nonce n)

read_again-answer : (backup : Bool) (id hmac nonce : ℕ) (checksum : Bool) → hmac < 2 ^ 64 → nonce < 2 ^ 32
    → option_meaning (option_text (Join (Answer backup id hmac nonce))) checksum ≡ Known (Join (Answer backup id hmac nonce))
unfolding option_text option_meaning is_of_another_kind is_misframed is_foreign has_no_flags is_unusable has_length_of_table differs_in_checksum value_at
read_again-answer true id hmac nonce true h n =
    same_answer true id _ hmac _ nonce (from_be_bytes-to_be_bytes_8 hmac h) (from_be_bytes-to_be_bytes_4 nonce n)
read_again-answer true id hmac nonce false h n =
    same_answer true id _ hmac _ nonce (from_be_bytes-to_be_bytes_8 hmac h) (from_be_bytes-to_be_bytes_4 nonce n)
read_again-answer false id hmac nonce true h n =
    same_answer false id _ hmac _ nonce (from_be_bytes-to_be_bytes_8 hmac h) (from_be_bytes-to_be_bytes_4 nonce n)
read_again-answer false id hmac nonce false h n =
    same_answer false id _ hmac _ nonce (from_be_bytes-to_be_bytes_8 hmac h) (from_be_bytes-to_be_bytes_4 nonce n)

read_again-third : (hmac : List ℕ) (checksum : Bool) → length hmac ≡ 20
    → option_meaning (option_text (Join (Third hmac))) checksum ≡ Known (Join (Third hmac))
unfolding option_text
read_again-third hmac checksum long =
    join_third (option_text (Join (Third hmac))) (record { kind = refl; counted = omega arith; long = omega arith }) refl (omega arith) checksum
    ∙ ap (λ octets. Known (Join (Third octets))) (take_all 20 hmac (omega arith))

pub read_again-join : (form : JoinForm) (checksum : Bool) → FormFits form
    → option_meaning (option_text (Join form)) checksum ≡ Known (Join form)
read_again-join (Syn backup id token nonce) checksum fits = read_again-syn backup id token nonce checksum fits.1 fits.2
read_again-join (Answer backup id hmac nonce) checksum fits = read_again-answer backup id hmac nonce checksum fits.1 fits.2
read_again-join (Third hmac) checksum fits = read_again-third hmac checksum fits.1

-- ---- what is read is written

module _ (octets : List ℕ) (framed : IsFramed octets) (are : AreOctets octets) (e : subtype octets ≡ 1) where
  module _ (twelve : length octets ≡ 12) where
    syn_third : third_mask octets ≡ 0xF1
    unfolding third_mask
    syn_third = rw (e, twelve) refl

    syn_fourth : fourth_mask octets ≡ 0xFF
    unfolding fourth_mask
    syn_fourth = rw (e, twelve) refl

    text_again-syn : cleared octets ≡ framed_body (join_body
        (Syn (is_set (octet octets 2) 0x01) (octet octets 3) (number_at w32 octets 4) (number_at w32 octets 8)))
    text_again-syn =
        text_again octets framed _ (four_again octets framed (omega arith) _ _ _
        (rw syn_third (flag_again octets framed are 1 e)) (rw syn_fourth (octet_again octets framed are))
        (then_rest (to_be_bytes w32 (number_at w32 octets 4)) (to_be_bytes w32 (number_at w32 octets 8)) octets 4 4 8 refl
        (written_again_32 octets are 4 (omega arith)) (written_again_32 octets are 8 (omega arith) ∙ last_field octets 8 4 twelve)))

    is_syn : cleared octets ≡ framed_body (join_body (form_at octets))
    is_syn = rw twelve text_again-syn

  module _ (sixteen : length octets ≡ 16) where
    answer_third : third_mask octets ≡ 0xF1
    unfolding third_mask
    answer_third = rw (e, sixteen) refl

    answer_fourth : fourth_mask octets ≡ 0xFF
    unfolding fourth_mask
    answer_fourth = rw (e, sixteen) refl

    text_again-answer : cleared octets ≡ framed_body (join_body
        (Answer (is_set (octet octets 2) 0x01) (octet octets 3) (number_at w64 octets 4) (number_at w32 octets 12)))
    text_again-answer =
        text_again octets framed _ (four_again octets framed (omega arith) _ _ _
        (rw answer_third (flag_again octets framed are 1 e)) (rw answer_fourth (octet_again octets framed are))
        (then_rest (to_be_bytes w64 (number_at w64 octets 4)) (to_be_bytes w32 (number_at w32 octets 12)) octets 4 8 12 refl
        (written_again_64 octets are 4 (omega arith)) (written_again_32 octets are 12 (omega arith) ∙ last_field octets 12 4 sixteen)))

    is_answer : cleared octets ≡ framed_body (join_body (form_at octets))
    is_answer = rw sixteen text_again-answer

  module _ (twenty_four : length octets ≡ 24) where
    third_third : third_mask octets ≡ 0xF0
    unfolding third_mask
    third_third = rw (e, twenty_four) refl

    third_fourth : fourth_mask octets ≡ 0
    unfolding fourth_mask
    third_fourth = rw (e, twenty_four) refl

    text_again-third : cleared octets ≡ framed_body (join_body (Third (take 20 (drop 4 octets))))
    text_again-third =
        text_again octets framed _ (four_again octets framed (omega arith) _ _ _
        (rw third_third (subtype_again octets framed are 1 e)) (rw third_fourth (zero_again octets framed are))
        (last_field octets 4 20 twenty_four))

    is_third : cleared octets ≡ framed_body (join_body (form_at octets))
    is_third = rw twenty_four text_again-third

  pub text_again-join : has_length_of_table octets ≡ true → cleared octets ≡ option_text (Join (form_at octets))
  unfolding option_text
  text_again-join long =
      let n = length octets in
      first_or n 12 (16 ∷ 24 ∷ []) (sym (join_length octets framed e) ∙ long) is_syn
      (λ among. first_or n 16 (24 ∷ []) among is_answer (λ among. first_or n 24 [] among is_third (no_more n)))
