-- The token by which octets ask to join is heard of them.
use Rattle.std.proofs.Common.{◌≡◌, refl, sym, ◌∙◌, ap, subst, ℕ, zero, suc, Bool, true, false, cond, not, ◌&&◌, ◌==◌, nat_lt, if◌then◌else◌, Option, Some, None, option_map, option_and_then, List, [], ◌∷◌, length, find, map}
use Rattle.std.proofs.lemmas.Bool.{and_parts, eqb-true}
use Rattle.std.proofs.lemmas.Option.{same_Some}
use Rattle.std.specs.List.{slice_get}
use Rattle.std.specs.Result.{result_ok}
use Rattle.sides.specs.declared.side.Side.{Side}
use Rattle.octet_text.specs.Octets.{octet}
use Rattle.segment_wire.specs.Options.{option_octets}
use Rattle.segment_wire.specs.Reading.{segment_meaning}
use Rattle.segment_wire.specs.Segment.{Segment}
use Rattle.segment_wire.specs.Paths.{addresses_from}
use Rattle.mptcp_options.specs.declared.join.JoinForm.TheVariants.{Syn}
use Rattle.mptcp_options.specs.Meaning.{option_meaning, subtype, ends_with_checksum, differs_in_checksum, is_of_another_kind, is_misframed, is_foreign, has_no_flags, is_unusable, has_length_of_table, value_at}
use Rattle.mptcp_options.specs.Dss.{has_mapping}
use Rattle.mptcp_options.specs.Value as wire
use Rattle.path_segments.specs.declared.expected.Expected.{Expected}
use Rattle.path_segments.specs.declared.spelling.Spelling.{Spelling}
use Rattle.path_segments.specs.Heard.{heard_in, heard_option, heard_segment, known_in, known_or}
use Rattle.stream_lanes.specs.Words.{Every}
use Rattle.connection_table.specs.AskedTokens.{AskedTokensAreHeard}
use Rattle.connection_table.specs.Tokens.{ShowsToken, AllShowToken}
use Rattle.connection_table.specs.Routing.{is_join, first_join, meant_token, option_token, asks_to_open, segment_token, join_token}

-- ---- an MP_JOIN means the same with checksums and without

no_checksum : (o : List ℕ) (b : Bool) → subtype o ≡ 1 → differs_in_checksum o b ≡ false
unfolding differs_in_checksum
no_checksum o true one = ap (λ n. (if n == 2 then has_mapping (octet o 3) else (n == 0) && nat_lt 20 (length o)) && not (ends_with_checksum o)) one
no_checksum o false one = ap (λ n. (if n == 2 then has_mapping (octet o 3) else (n == 0) && nat_lt 20 (length o)) && ends_with_checksum o) one

same_meaning : (o : List ℕ) (a b : Bool) → subtype o ≡ 1 → option_meaning o a ≡ option_meaning o b
unfolding option_meaning
same_meaning o a b one =
    ap (λ differs. if is_of_another_kind o then wire.Unknown
    else (if is_misframed o then wire.Malformed
    else (if is_foreign o then wire.Unknown
    else (if has_no_flags o then wire.Malformed
    else (if is_unusable o then wire.Unknown
    else (if not (has_length_of_table o) then wire.Malformed
    else (if differs then wire.Malformed else wire.Known (value_at o))))))))
    (no_checksum o a one ∙ sym (no_checksum o b one))

-- ---- the first MP_JOIN is among what is heard

-- P holds of the first MP_JOIN of these options, where it is a SYN's with this token, and P of all that are known
module _ (P : wire.OptionValue → Type 0) (checksums : Bool) (token : ℕ) where
  abbrev JoinFound : Type 0
  JoinFound = (backup : Bool) × ((id : ℕ) × ((nonce : ℕ) × P (wire.Join (Syn backup id token nonce))))

  tail_all : (x : wire.OptionValue) (xs : List wire.OptionValue) → Every P (x ∷ xs) → Every P xs
  tail_all x xs all = record { each = λ i y at. all.each (suc i) y at }

  behind : (m : wire.Meaning) (others : List wire.OptionValue) → Every P (known_or m others) → Every P others
  behind (wire.Known x) others all = tail_all x others all
  behind wire.Unknown others all = all
  behind wire.Malformed others all = all

  head_is : (m : wire.Meaning) (others : List wire.OptionValue) → meant_token m ≡ Some token → Every P (known_or m others) → JoinFound
  head_is (wire.Known (wire.Join (Syn backup id shown nonce))) others is all =
      (backup, (id, (nonce, subst (λ t. P (wire.Join (Syn backup id t nonce))) (same_Some shown token is) (all.each 0 (wire.Join (Syn backup id shown nonce)) refl))))
  head_is _ others is all = cc

  join_is_known : (options : List (List ℕ)) → option_and_then option_token (find is_join options) ≡ Some token → Every P (known_in checksums options) → JoinFound
  join_is_known [] is all = cc
  join_is_known (o ∷ options) is all = by (is_join o) refl is (λ later. join_is_known options later (behind (option_meaning o checksums) (known_in checksums options) all))
    where
      by : (b : Bool) → is_join o ≡ b → option_and_then option_token (cond b (Some o) (find is_join options)) ≡ Some token
          → (option_and_then option_token (find is_join options) ≡ Some token → JoinFound) → JoinFound
      by true joins is next =
          let one = eqb-true (subtype o) 1 (and_parts (octet o 0 == 0x1E) (subtype o == 1) joins).1 in
          head_is (option_meaning o checksums) (known_in checksums options) (ap meant_token (same_meaning o checksums false one) ∙ is) all
      by false other is next = next is

-- ---- what is heard of octets whose token is asked for

module _ (spelling : Spelling) (from : Side) (expected : Expected) (key_token : ℕ) where
  -- an option that is heard shows the token
  abbrev HeardShows : wire.OptionValue → Type 0
  HeardShows x = ShowsToken key_token (heard_option spelling from expected x)

  all_known : (xs : List wire.OptionValue) → Every (ShowsToken key_token) (map (heard_option spelling from expected) xs) → Every HeardShows xs
  all_known [] all = record { each = λ i x at. cc }
  all_known (y ∷ ys) all = record { each = by (all_known ys (record { each = λ j z there. all.each (suc j) z there })) }
    where
      by : Every HeardShows ys → (i : ℕ) (x : wire.OptionValue) → slice_get (y ∷ ys) i ≡ Some x → HeardShows x
      by rest zero x at = subst HeardShows (same_Some y x at) (all.each 0 (heard_option spelling from expected y) refl)
      by rest (suc i) x at = rest.each i x at

  segment_token_is : (s : Segment) (token : ℕ) → segment_token s ≡ Some token → AllShowToken key_token (heard_segment spelling from expected s).options → token ≡ key_token
  segment_token_is s token is all = by (asks_to_open s) is
    where
      by : (b : Bool) → (if b then option_and_then option_token (first_join s.options) else None) ≡ Some token → token ≡ key_token
      by false is = cc
      by true is =
          (join_is_known HeardShows spelling.checksums token (option_octets s.options) is
          (all_known (known_in spelling.checksums (option_octets s.options)) all)).1.1.1

  -- where octets ask to join, and all that is heard of them shows the token of a key, they ask by that token
  pub token_heard : (octets : List ℕ) (token : ℕ) → join_token (addresses_from spelling.path from) octets ≡ Some token
      → ((heard : _) → heard_in spelling from expected octets ≡ Some heard → AllShowToken key_token heard.options) → token ≡ key_token
  token_heard octets token is all = by (result_ok (segment_meaning (addresses_from spelling.path from) octets)) refl is
    where
      by : (o : Option Segment) → result_ok (segment_meaning (addresses_from spelling.path from) octets) ≡ o → option_and_then segment_token o ≡ Some token → token ≡ key_token
      by None there is = cc
      by (Some s) there is = segment_token_is s token is (all (heard_segment spelling from expected s) (ap (option_map (heard_segment spelling from expected)) there))

pub asked_tokens_are_heard : AskedTokensAreHeard
asked_tokens_are_heard spelling from expected octets token shown asks all = token_heard spelling from expected shown octets token asks all
