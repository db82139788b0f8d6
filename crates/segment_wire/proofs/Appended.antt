-- Options one after the other, for callers that put them together.
use Rattle.std.proofs.Common.{◌≡◌, ℕ, ◌≤◌, List, [], ◌∷◌, ◌++◌, length, get_or, take, drop, map, refl, ap, ◌∙◌, arith, length-append}
use Rattle.std.proofs.lemmas.List.{get_or_append_left, take_at, drop_at}
use Rattle.segment_wire.specs.Options.{are_whole, plain_options, option_octets}
use Rattle.segment_wire.proofs.Fronts.{later, are_whole-option, plain_options-option}

-- an option by itself: a kind that has a length octet, and as many octets as it tells
pub record IsOption (option : List ℕ) : Type 0 where
  pub kind : 2 ≤ get_or option 0 0
  pub len : get_or option 1 0 ≡ length option
  pub low : 2 ≤ length option

octets-later : (n : ℕ) (options : List (ℕ × List ℕ)) → map (λ (o : ℕ × List ℕ). o.1) (later n options) ≡ map (λ (o : ℕ × List ℕ). o.1) options
octets-later n [] = refl
octets-later n (o ∷ options) = ap (λ (t : List (List ℕ)). o.1 ∷ t) (octets-later n options)

module _ (option rest : List ℕ) (is : IsOption option) where
  kind_stays : get_or (option ++ rest) 0 0 ≡ get_or option 0 0
  kind_stays = get_or_append_left option rest 0 0 (omega (arith, is.low))

  len_is : get_or (option ++ rest) 1 0 ≡ length option
  len_is = get_or_append_left option rest 0 1 (omega (arith, is.low)) ∙ is.len

  rest_is : drop (get_or (option ++ rest) 1 0) (option ++ rest) ≡ rest
  rest_is = ap (λ (n : ℕ). drop n (option ++ rest)) len_is ∙ drop_at option rest (length option) refl

  option_is : take (get_or (option ++ rest) 1 0) (option ++ rest) ≡ option
  option_is = ap (λ (n : ℕ). take n (option ++ rest)) len_is ∙ take_at option rest (length option) refl

  pub are_whole-append : are_whole (option ++ rest) ≡ are_whole rest
  are_whole-append =
      are_whole-option (option ++ rest) (omega (arith, kind_stays, is.kind)) (omega (arith, len_is, is.low)) (omega (arith, len_is, length-append option rest))
      ∙ ap are_whole rest_is

  pub option_octets-append : option_octets (option ++ rest) ≡ option ∷ option_octets rest
  option_octets-append =
      ap (map (λ (o : ℕ × List ℕ). o.1)) (plain_options-option (option ++ rest) (omega (arith, kind_stays, is.kind)) (omega (arith, len_is, is.low)) (omega (arith, len_is, length-append option rest)))
      ∙ ap (λ (t : List (List ℕ)). take (get_or (option ++ rest) 1 0) (option ++ rest) ∷ t) (octets-later (get_or (option ++ rest) 1 0) (plain_options (drop (get_or (option ++ rest) 1 0) (option ++ rest))))
      ∙ ap (λ (t : List ℕ). t ∷ option_octets (drop (get_or (option ++ rest) 1 0) (option ++ rest))) option_is
      ∙ ap (λ (t : List ℕ). option ∷ option_octets t) rest_is
