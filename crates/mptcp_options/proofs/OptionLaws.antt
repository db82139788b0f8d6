-- The laws of options, over all of them.
use Rattle.std.proofs.Common.{◌≡◌, ℕ, zero, suc, ◌≤◌, Bool, true, false, not, ◌&&◌, ◌==◌, nat_lt, List, length, refl, sym, ap, subst, ◌∙◌, arith}
use Rattle.std.proofs.lemmas.Bool.{not-false, or_parts, leb-true, ltb-false, eqb-false}
use Rattle.key_material.specs.Octets.{AreOctets}
use Rattle.key_material.proofs.Octets.{each_octet}
use Rattle.mptcp_options.specs.Value.{OptionValue, Capable, Join, Dss, AddAddr, RemoveAddr, Prio, Fail, FastClose, Reset}
use Rattle.mptcp_options.specs.Text.{option_text, HasForm, Fits}
use Rattle.mptcp_options.specs.Meaning.{IsFramed, subtype, is_capable, version, is_foreign, has_length_of_table, value_at}
use Rattle.mptcp_options.specs.Ignored.{cleared}
use Rattle.mptcp_options.specs.Laws.{WrittenIsRead, OctetsTellTheOption, KnownIsWritten, KnownMayBeWritten}
use Rattle.mptcp_options.proofs.NumbersAgain.{fits_64}
use Rattle.mptcp_options.proofs.KnownFits.{keys_fit, form_fits, dss_fits, add_addr_fits, ids_fit}
use Rattle.mptcp_options.proofs.Framing.{IsFramed-from_tests}
use Rattle.mptcp_options.proofs.KnownValue.{Passes, passes}
use Rattle.mptcp_options.proofs.CapableMeaning.{capable_length, capable_value, flagless}
use Rattle.mptcp_options.proofs.JoinMeaning.{join_length, join_value}
use Rattle.mptcp_options.proofs.DssMeaning.{dss_value, length_is}
use Rattle.mptcp_options.proofs.AddressMeaning.{add_addr_length, add_addr_value, remove_addr_length, remove_addr_value}
use Rattle.mptcp_options.proofs.SignalMeaning.{prio_value, fail_value, fast_close_value, reset_value}
use Rattle.mptcp_options.proofs.CapableText.{read_again-capable, text_again-capable}
use Rattle.mptcp_options.proofs.JoinText.{read_again-join, text_again-join}
use Rattle.mptcp_options.proofs.DssText.{read_again-dss, text_again-dss}
use Rattle.mptcp_options.proofs.AddressText.{read_again-add_addr, read_again-remove_addr, text_again-add_addr, text_again-remove_addr}
use Rattle.mptcp_options.proofs.SignalText.{read_again-prio, read_again-fail, read_again-fast_close, read_again-reset, text_again-prio, text_again-fail, text_again-fast_close, text_again-reset}

-- what is written is read
pub read_again : WrittenIsRead
read_again (Capable flag_a flag_c keys) checksum form fits = read_again-capable flag_a flag_c keys checksum form fits
read_again (Join form_of) checksum form fits = read_again-join form_of checksum fits
read_again (Dss ack mapping fin) checksum form fits = read_again-dss ack mapping fin checksum form fits
read_again (AddAddr echo id address port hmac) checksum form fits = read_again-add_addr echo id address port hmac checksum form fits
read_again (RemoveAddr ids) checksum form fits = read_again-remove_addr ids checksum form
read_again (Prio backup) checksum form fits = read_again-prio backup checksum
read_again (Fail number) checksum form fits = read_again-fail number checksum fits
read_again (FastClose key) checksum form fits = read_again-fast_close key checksum fits
read_again (Reset transient reason) checksum form fits = read_again-reset transient reason checksum

-- octets that mean an option have it as their value, whether checksums are used or not
value_again : (option : OptionValue) (checksum : Bool) → HasForm checksum option → Fits option → value_at (option_text option) ≡ option
value_again option checksum form fits =
    (passes (option_text option) checksum option (read_again option checksum form fits)).value

pub same_text : OctetsTellTheOption
same_text first second c d form form' fits fits' e =
    sym (value_again first c form fits) ∙ ap value_at e ∙ value_again second d form' fits'

module _ (octets : List ℕ) (checksum : Bool) (option : OptionValue) (are : AreOctets octets)
    (pass : Passes octets checksum option) (framed : IsFramed octets) (long : has_length_of_table octets ≡ true) where
  not_three : subtype octets ≡ 0 → 4 ≤ length octets
  not_three e =
      let three = eqb-false (length octets) 3 (sym (flagless octets framed e) ∙ pass.has_flags) in
      omega (arith, framed.long, three)

  by_subtype : (k : ℕ) → k ≤ 8 → subtype octets ≡ k → cleared octets ≡ option_text (value_at octets)
  by_subtype zero below e =
      text_again-capable octets framed are e pass.ours pass.usable (not_three e) long ∙ ap option_text (sym (capable_value octets framed e))
  by_subtype (suc zero) below e = text_again-join octets framed are e long ∙ ap option_text (sym (join_value octets framed e))
  by_subtype (suc (suc zero)) below e =
      text_again-dss octets framed are e checksum pass.summed long ∙ ap option_text (sym (dss_value octets framed e))
  by_subtype (suc (suc (suc zero))) below e =
      text_again-add_addr octets framed are e long ∙ ap option_text (sym (add_addr_value octets framed e))
  by_subtype (suc (suc (suc (suc zero)))) below e =
      text_again-remove_addr octets framed are e long ∙ ap option_text (sym (remove_addr_value octets framed e))
  by_subtype (suc (suc (suc (suc (suc zero))))) below e =
      text_again-prio octets framed are long e ∙ ap option_text (sym (prio_value octets framed e))
  by_subtype (suc (suc (suc (suc (suc (suc zero)))))) below e =
      text_again-fail octets framed are long e ∙ ap option_text (sym (fail_value octets framed e))
  by_subtype (suc (suc (suc (suc (suc (suc (suc zero))))))) below e =
      text_again-fast_close octets framed are long e ∙ ap option_text (sym (fast_close_value octets framed e))
  by_subtype (suc (suc (suc (suc (suc (suc (suc (suc zero)))))))) below e =
      text_again-reset octets framed are long e ∙ ap option_text (sym (reset_value octets framed e))
  by_subtype (suc (suc (suc (suc (suc (suc (suc (suc (suc k))))))))) below e = absurd (omega arith)

  -- an option that may be written
  abbrev MayBeWritten : OptionValue → Type 0
  MayBeWritten o = HasForm checksum o × Fits o

  as_value : (read : OptionValue) → value_at octets ≡ read → MayBeWritten read → MayBeWritten (value_at octets)
  as_value read e may = subst MayBeWritten (sym e) may

  form_by_subtype : (k : ℕ) → k ≤ 8 → subtype octets ≡ k → length octets ≤ 40 → MayBeWritten (value_at octets)
  form_by_subtype zero below e few =
      as_value _ (capable_value octets framed e) (keys_fit octets are e checksum pass.summed (sym (capable_length octets framed e) ∙ long))
  form_by_subtype (suc zero) below e few =
      as_value _ (join_value octets framed e) (tt, form_fits octets are (sym (join_length octets framed e) ∙ long))
  form_by_subtype (suc (suc zero)) below e few =
      as_value _ (dss_value octets framed e) (dss_fits octets are checksum (length_is octets framed e checksum pass.summed long))
  form_by_subtype (suc (suc (suc zero))) below e few =
      as_value _ (add_addr_value octets framed e) (add_addr_fits octets are (sym (add_addr_length octets framed e) ∙ long))
  form_by_subtype (suc (suc (suc (suc zero)))) below e few =
      as_value _ (remove_addr_value octets framed e)
      (ids_fit octets are (leb-true 4 (length octets) (sym (remove_addr_length octets framed e) ∙ long)) few)
  form_by_subtype (suc (suc (suc (suc (suc zero))))) below e few = as_value _ (prio_value octets framed e) (tt, tt)
  form_by_subtype (suc (suc (suc (suc (suc (suc zero)))))) below e few =
      as_value _ (fail_value octets framed e) (tt, fits_64 octets are 4)
  form_by_subtype (suc (suc (suc (suc (suc (suc (suc zero))))))) below e few =
      as_value _ (fast_close_value octets framed e) (tt, fits_64 octets are 4)
  form_by_subtype (suc (suc (suc (suc (suc (suc (suc (suc zero)))))))) below e few =
      as_value _ (reset_value octets framed e) (tt, each_octet octets are 3)
  form_by_subtype (suc (suc (suc (suc (suc (suc (suc (suc (suc k))))))))) below e few = absurd (omega arith)

-- a subtype that there is
subtype_at_most_8 : (octets : List ℕ) → is_foreign octets ≡ false → subtype octets ≤ 8
unfolding is_foreign
subtype_at_most_8 octets ours =
    ltb-false 8 (subtype octets) (or_parts (nat_lt 8 (subtype octets)) (is_capable octets && not (version octets == 1)) ours).0

-- what is known is written
pub text_again : KnownIsWritten
text_again octets checksum option are known =
    let pass = passes octets checksum option known in
    let framed = IsFramed-from_tests octets pass.own_kind pass.framed in
    by_subtype octets checksum option are pass framed (not-false (has_length_of_table octets) pass.long)
    (subtype octets) (subtype_at_most_8 octets pass.ours) refl
    ∙ ap option_text pass.value

-- what is known may be written
pub may_be_written : KnownMayBeWritten
may_be_written octets checksum option are few known =
    let pass = passes octets checksum option known in
    let framed = IsFramed-from_tests octets pass.own_kind pass.framed in
    subst (λ o. HasForm checksum o × Fits o) pass.value
    (form_by_subtype octets checksum option are pass framed (not-false (has_length_of_table octets) pass.long)
    (subtype octets) (subtype_at_most_8 octets pass.ours) refl few)
