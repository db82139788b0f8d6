-- A SYN that is written to join is found by its token.
use Rattle.std.proofs.Common.{◌≡◌, refl, sym, ◌∙◌, ap, ℕ, Bool, true, false, not, is_some, ◌&&◌, Option, Some, None, option_and_then, List, [], ◌∷◌, ◌++◌, append_assoc, length, map, find, replicate, arith}
use Rattle.std.specs.Prelude.{if◌then◌else◌}
use Rattle.std.specs.Int.{w16, to_be_bytes}
use Rattle.std.specs.Result.{result_ok}
use Rattle.sides.specs.declared.side.Side.{Side}
use Rattle.sides.specs.Side.{peer}
use Rattle.segment_wire.specs.Options.{plain_options, option_octets}
use Rattle.segment_wire.specs.Paths.{addresses_from}
use Rattle.segment_wire.proofs.Again.{segment_meaning-written}
use Rattle.segment_wire.proofs.Fronts.{later, plain_options-padding}
use Rattle.segment_wire.proofs.Appended.{IsOption, option_octets-append}
use Rattle.mptcp_options.specs.declared.join.JoinForm.TheVariants.{Syn}
use Rattle.mptcp_options.specs.Text.{Fits, option_text}
use Rattle.mptcp_options.specs.Value as wire
use Rattle.mptcp_options.proofs.OptionLaws.{read_again}
use Rattle.path_segments.specs.declared.spelling.Spelling.{Spelling}
use Rattle.path_segments.specs.declared.segment.PathOption.TheVariants.{Join}
use Rattle.path_segments.specs.Options.{PlainOption}
use Rattle.path_segments.specs.Spelled.{PlainSegment, CanSay, options_text, padding, padded, spelled, spelled_text, syn_text, unpadded_options}
use Rattle.path_segments.proofs.SegmentsAgain.{four, written}
use Rattle.connection_table.specs.AskedTokens.{WrittenJoinsAreFound}
use Rattle.connection_table.specs.Routing.{first_join, is_join, join_token, meant_token, option_token, segment_token}

-- ---- the options of a SYN before those of Multipath TCP

abbrev mss_option : ℕ → List ℕ
mss_option mss = 2 ∷ 4 ∷ to_be_bytes w16 mss

abbrev scale_option : List ℕ
scale_option = 3 ∷ 3 ∷ 5 ∷ []

mss-is : (mss : ℕ) → IsOption (mss_option mss)
mss-is mss = record { kind = omega arith; len = refl; low = omega arith }

scale-is : IsOption scale_option
scale-is = record { kind = omega arith; len = refl; low = omega arith }

octets-later : (n : ℕ) (options : List (ℕ × List ℕ)) → map (λ (o : ℕ × List ℕ). o.1) (later n options) ≡ map (λ (o : ℕ × List ℕ). o.1) options
octets-later n [] = refl
octets-later n (o ∷ options) = ap (λ (t : List (List ℕ)). o.1 ∷ t) (octets-later n options)

-- one octet of padding is passed over
octets-no_operation : (rest : List ℕ) → option_octets (1 ∷ rest) ≡ option_octets rest
octets-no_operation rest = ap (map (λ (o : ℕ × List ℕ). o.1)) (plain_options-padding (1 ∷ rest) refl) ∙ octets-later 1 (plain_options rest)

abbrev join_text : Bool → ℕ → ℕ → ℕ → List ℕ
join_text backup id token nonce = option_text (wire.Join (Syn backup id token nonce))

join-is : (backup : Bool) (id token nonce : ℕ) → IsOption (join_text backup id token nonce)
unfolding option_text
join-is backup id token nonce = record { kind = omega arith; len = omega arith; low = omega arith }

is-join : (backup : Bool) (id token nonce : ℕ) → is_join (join_text backup id token nonce) ≡ true
unfolding option_text
is-join true id token nonce = refl
is-join false id token nonce = refl

-- the first MP_JOIN is this one
found_first : (backup : Bool) (id token nonce : ℕ) (rest : List ℕ) → find is_join (option_octets (join_text backup id token nonce ++ rest)) ≡ Some (join_text backup id token nonce)
found_first backup id token nonce rest =
    ap (find is_join) (option_octets-append (join_text backup id token nonce) rest (join-is backup id token nonce))
    ∙ ap (λ b. if b then Some (join_text backup id token nonce) else find is_join (option_octets rest)) (is-join backup id token nonce)

found : (mss : Option ℕ) (backup : Bool) (id token nonce : ℕ) (rest : List ℕ)
    → find is_join (option_octets (syn_text mss ++ (join_text backup id token nonce ++ rest))) ≡ Some (join_text backup id token nonce)
found None backup id token nonce rest = found_first backup id token nonce rest
found (Some mss) backup id token nonce rest =
    let join : List ℕ = join_text backup id token nonce in
    ap (find is_join) (option_octets-append (mss_option mss) (scale_option ++ (1 ∷ (join ++ rest))) (mss-is mss))
    ∙ ap (find is_join) (option_octets-append scale_option (1 ∷ (join ++ rest)) scale-is)
    ∙ ap (find is_join) (octets-no_operation (join ++ rest))
    ∙ found_first backup id token nonce rest

-- ---- the segment

module _ (spelling : Spelling) (from : Side) (s : PlainSegment) (backup : Bool) (id token nonce : ℕ) (more : List PlainOption) (can : CanSay spelling from s)
    (syn : s.syn ≡ true) (alone : s.acknowledged ≡ None) (first : s.options ≡ Join (Syn backup id token nonce) ∷ more)
    (fits : Fits (wire.Join (Syn backup id token nonce))) where
  abbrev own : List ℕ
  own = join_text backup id token nonce

  abbrev zeros : List ℕ
  zeros = replicate (padding (length (unpadded_options spelling from s))) 0

  -- its options, with the join in front of the others
  octets_are : padded (unpadded_options spelling from s) ≡ syn_text s.mss ++ (own ++ (options_text spelling from more ++ zeros))
  octets_are =
      append_assoc (syn_text s.mss) (options_text spelling from s.options) zeros
      ∙ ap (λ options. syn_text s.mss ++ (options_text spelling from options ++ zeros)) first
      ∙ ap (λ text. syn_text s.mss ++ text) (append_assoc own (options_text spelling from more) zeros)

  first_is : first_join (padded (unpadded_options spelling from s)) ≡ Some own
  first_is = ap (λ options. find is_join (option_octets options)) octets_are ∙ found s.mss backup id token nonce (options_text spelling from more ++ zeros)

  token_is : option_token own ≡ Some token
  token_is = ap meant_token (read_again (wire.Join (Syn backup id token nonce)) false tt fits)

  segment_is : segment_token (spelled spelling from s) ≡ Some token
  unfolding spelled
  segment_is =
      ap (λ b. if b && not (is_some s.acknowledged) then option_and_then option_token (first_join (padded (unpadded_options spelling from s))) else None) syn
      ∙ ap (λ o. if not (is_some o) then option_and_then option_token (first_join (padded (unpadded_options spelling from s))) else None) alone
      ∙ ap (option_and_then option_token) first_is ∙ token_is

  pub is_found : join_token (addresses_from spelling.path from) (spelled_text spelling from s) ≡ Some token
  is_found =
      ap (λ r. option_and_then segment_token (result_ok r))
      (segment_meaning-written (addresses_from spelling.path from) (spelled spelling from s)
      (four spelling.path from) (four spelling.path (peer from)) (written spelling from s can))
      ∙ segment_is

pub written_joins_are_found : WrittenJoinsAreFound
written_joins_are_found spelling from s backup id token nonce more can syn alone first fits =
    is_found spelling from s backup id token nonce more can syn alone first fits
