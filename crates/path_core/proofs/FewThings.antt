-- Forty octets of options say 37 things at most: those of one REMOVE_ADDR with 37 ids.
use Rattle.path_core.proofs.Words.{◌≡◌, ◌⊎◌, inl, inr, refl, sym, ap, subst, ◌∙◌, ℕ, zero, suc, ◌+◌, ◌-◌, ◌*◌, ◌<◌, ◌≤◌, ◌&&◌, ◌||◌, nat_le, nat_lt, Bool, true}
use Rattle.path_core.proofs.Words.{false, if◌then◌else◌, Option, Some, None, List, [], ◌∷◌, ◌++◌, length, map, take, drop, length-append, arith, flat_map}
use Rattle.path_core.proofs.Words.{slice_index, leb-true, ltb-false, result_ok, IfSome, filter, length-take, length-drop, Side, peer, A, B, segment_meaning}
use Rattle.path_core.proofs.Words.{segment_in, options_in, header_len, is_short, has_wrong_offset, has_broken_option, has_wrong_checksum, Segment}
use Rattle.path_core.proofs.Words.{addresses_from, JoinForm, Answer, Third, CapableKeys, NoKey, Sender, Both, WithData, option_text, Spelling, Expected}
use Rattle.path_core.proofs.Words.{Capable, Dss, PathMapping, Bytes, End, Infinite, place_heard, heard_mapping, heard_option, heard_options, heard_segment}
use Rattle.path_core.proofs.Words.{known_or, known_in, HeardSegment, heard_value, Heard, HeardOption, mapping_items, ack_items, map_items, first_items}
use Rattle.path_core.proofs.Words.{key_items, join_items, item_removed, address_items, items_in, SaysFew}
use Rattle.std.specs.Prelude.{Result, Ok, Err, option_map}
use Rattle.std.specs.Borrow.{Bor}
use Rattle.key_material.specs.declared.address.Address.{Address}
use Rattle.key_material.specs.Octets.{AreOctets}
use Rattle.key_material.proofs.Octets.{AreOctets-take, AreOctets-drop, each_octet}
use Rattle.segment_wire.specs.declared.head.Addresses.{Addresses}
use Rattle.segment_wire.specs.declared.reading.SegmentFault.{SegmentFault}
use Rattle.segment_wire.specs.declared.reading.SegmentFault.TheVariants.{Short, DataOffset, OptionLength, Checksum}
use Rattle.segment_wire.specs.Options.{options_after, option_octets}
use Rattle.mptcp_options.specs.declared.dss.DssMap.{DssMap}
use Rattle.mptcp_options.specs.declared.join.JoinForm.TheVariants.{Syn}
use Rattle.mptcp_options.specs.Ignored.{cleared, masked, fourth_mask}
use Rattle.mptcp_options.specs.Meaning.{option_meaning, is_of_another_kind, is_misframed}
use Rattle.mptcp_options.specs.Value as wire
use Rattle.mptcp_options.proofs.OptionLaws.{text_again}
use Rattle.path_segments.specs.declared.heard.HeardOptions.{HeardOptions}
use Rattle.path_segments.specs.declared.position.HeardPosition.{HeardPosition}
use Rattle.path_segments.specs.declared.segment.PathSegment.{PathSegment}
use Rattle.path_segments.specs.Heard.{heard_in}
use Rattle.path_core.specs.FewThings.{is_priority, CopiesSayFew, CopiesHaveFewPriorities}

-- ---- octets

-- how many octets some texts have in all
abbrev total : List (List ℕ) → ℕ
total [] = 0
total (octets ∷ others) = length octets + total others

-- the options have no more octets than they stand in
after_total : (place left : ℕ) (octets : List ℕ) → total (map (λ (o : ℕ × List ℕ). o.1) (options_after place left octets)) ≤ length octets - left
after_total place zero [] = omega arith
after_total place (suc left) [] = omega arith
after_total place (suc left) (x ∷ rest) = omega (arith, after_total (place + 1) left rest)
after_total place zero (zero ∷ rest) = omega arith
after_total place zero (suc zero ∷ rest) = omega (arith, after_total (place + 1) zero rest)
after_total place zero (suc (suc kind) ∷ []) = omega arith
after_total place zero (suc (suc kind) ∷ len ∷ rest) =
    by (nat_le 2 len) (nat_le (len - 2) (length rest)) refl (after_total (place + 2) (len - 2) rest)
  where
    by : (long fits : Bool) → nat_le (len - 2) (length rest) ≡ fits
        → total (map (λ (o : ℕ × List ℕ). o.1) (options_after (place + 2) (len - 2) rest)) ≤ length rest - (len - 2)
        → total (map (λ (o : ℕ × List ℕ). o.1) (if long && fits
        then (place, suc (suc kind) ∷ len ∷ take (len - 2) rest) ∷ options_after (place + 2) (len - 2) rest else [])) ≤ length (suc (suc kind) ∷ len ∷ rest) - zero
    by false fits is few = omega arith
    by true false is few = omega arith
    by true true is few = omega (arith, few, length-take (len - 2) rest, leb-true _ _ is)

-- each of them is of octets
abbrev EachOctets : List (List ℕ) → Type 0
EachOctets [] = Unit {0}
EachOctets (octets ∷ others) = AreOctets octets × EachOctets others

after_octets : (place left : ℕ) (octets : List ℕ) → AreOctets octets → EachOctets (map (λ (o : ℕ × List ℕ). o.1) (options_after place left octets))
after_octets place zero [] are = tt
after_octets place (suc left) [] are = tt
after_octets place (suc left) (x ∷ rest) are = after_octets (place + 1) left rest (AreOctets-drop 1 (x ∷ rest) are)
after_octets place zero (zero ∷ rest) are = tt
after_octets place zero (suc zero ∷ rest) are = after_octets (place + 1) zero rest (AreOctets-drop 1 (suc zero ∷ rest) are)
after_octets place zero (suc (suc kind) ∷ []) are = tt
after_octets place zero (suc (suc kind) ∷ len ∷ rest) are =
    by (nat_le 2 len && nat_le (len - 2) (length rest)) (after_octets (place + 2) (len - 2) rest (AreOctets-drop 2 (suc (suc kind) ∷ len ∷ rest) are))
  where
    by : (whole : Bool) → EachOctets (map (λ (o : ℕ × List ℕ). o.1) (options_after (place + 2) (len - 2) rest))
        → EachOctets (map (λ (o : ℕ × List ℕ). o.1) (if whole
        then (place, suc (suc kind) ∷ len ∷ take (len - 2) rest) ∷ options_after (place + 2) (len - 2) rest else []))
    by false others = tt
    by true others = (AreOctets-take (suc (suc (len - 2))) (suc (suc kind) ∷ len ∷ rest) are, others)

-- ---- one option

long_if : (other short count : Bool) (rest : wire.Meaning) (v : wire.OptionValue) (n : ℕ) → nat_lt n 3 ≡ short
    → (if other then wire.Unknown else (if short || count then wire.Malformed else rest)) ≡ wire.Known v → 3 ≤ n
long_if true short count rest v n is known = cc
long_if false true count rest v n is known = cc
long_if false false count rest v n is known = ltb-false _ _ is

known_long : (octets : List ℕ) (checksum : Bool) (v : wire.OptionValue) → option_meaning octets checksum ≡ wire.Known v → 3 ≤ length octets
unfolding option_meaning is_misframed
known_long octets checksum v known = long_if (is_of_another_kind octets) (nat_lt (length octets) 3) _ _ v (length octets) refl known

length-masked : (mask : ℕ) (octets : List ℕ) → length (masked mask octets) ≡ length octets
length-masked mask [] = refl
length-masked mask (x ∷ octets) = refl

-- an option that is known is as long as its text
known_length : (octets : List ℕ) (checksum : Bool) (v : wire.OptionValue) → AreOctets octets → option_meaning octets checksum ≡ wire.Known v
    → length (option_text v) ≡ length octets
known_length octets checksum v are known =
    let same : length (cleared octets) ≡ length (option_text v) = ap length (text_again octets checksum v are known) in
    omega (arith, same, known_long octets checksum v known, length-masked (fourth_mask octets) (drop 3 octets), length-drop 3 octets)

join_long : (form : JoinForm) → 4 ≤ length (option_text (wire.Join form))
unfolding option_text
join_long (Syn backup id token nonce) = omega arith
join_long (Answer backup id hmac nonce) = omega arith
join_long (Third hmac) = omega arith

-- few things come of octets: at most three of four octets, or three less than the octets
abbrev FewOf : ℕ → ℕ → Type 0
FewOf things octets = (4 * things ≤ 3 * octets) ⊎ (things + 3 ≤ octets)

module _ (joined : Bool) (s : Side) (window : ℕ) (spelling : Spelling) (from : Side) (expected : Expected) where
  abbrev things : HeardOption → ℕ
  things option = length (items_in joined s window option)

  one_if : (b : Bool) (item : Heard) → length (if b then item ∷ [] else []) ≤ 1
  one_if = elim [ true ↦ λ item. omega arith | false ↦ λ item. omega arith ]

  acks_few : (next : Option (Option ℕ)) → length (ack_items next window) ≤ 1
  acks_few None = omega arith
  acks_few (Some None) = omega arith
  acks_few (Some (Some next)) = one_if _ _

  map_few : (mapping : Option (PathMapping (Option ℕ))) → length (map_items mapping) ≤ 1
  map_few None = omega arith
  map_few (Some (Bytes None position len fin checksum)) = omega arith
  map_few (Some (Bytes (Some place) None len fin checksum)) = omega arith
  map_few (Some (Bytes (Some place) (Some position) len fin checksum)) = one_if _ _
  map_few (Some (End None checksum)) = omega arith
  map_few (Some (End (Some place) checksum)) = one_if _ _
  map_few (Some (Infinite None position)) = omega arith
  map_few (Some (Infinite (Some place) position)) = one_if _ _

  first_few : (len : ℕ) → length (first_items len) ≤ 1
  first_few len = (elim (nat_lt 0 len) as (λ b. length (mapping_items 0 1 len false) ≤ 1 → length (if b then mapping_items 0 1 len false else []) ≤ 1)
      [ true ↦ λ few. few | false ↦ λ few. omega arith ]) (one_if _ _)

  keys_few : (t : Side) (keys : CapableKeys) → length (key_items t keys) ≤ 2
  keys_few A NoKey = omega arith
  keys_few A (Sender sender) = omega arith
  keys_few A (Both sender receiver) = omega arith
  keys_few A (WithData sender receiver len checksum) = omega arith
  keys_few B NoKey = omega arith
  keys_few B (Sender sender) = omega arith
  keys_few B (Both sender receiver) = omega arith
  keys_few B (WithData sender receiver len checksum) = omega (arith, first_few len)

  capable_few : (joins flag_a flag_c : Bool) (keys : CapableKeys) → length (items_in joins s window (Capable flag_a flag_c keys)) ≤ 3
  capable_few true flag_a flag_c keys = omega arith
  capable_few false flag_a flag_c keys = omega (arith, keys_few s keys)

  join_few : (t : Side) (form : JoinForm) → length (join_items t form) ≤ 1
  join_few A (Syn backup id token nonce) = omega arith
  join_few A (Answer backup id hmac nonce) = omega arith
  join_few A (Third hmac) = omega arith
  join_few B (Syn backup id token nonce) = omega arith
  join_few B (Answer backup id hmac nonce) = omega arith
  join_few B (Third hmac) = omega arith

  dss_few : (next : Option (Option ℕ)) (mapping : Option (PathMapping (Option ℕ))) → things (Dss next mapping) ≤ 3
  dss_few next mapping = omega (arith, length-append (ack_items next window) (map_items mapping), acks_few next, map_few mapping)

  address_few : (echo : Bool) (id : ℕ) (address : Address) (port hmac : Option ℕ) → length (address_items echo id address port hmac) ≤ 1
  address_few true id address port hmac = omega arith
  address_few false id address port (Some hmac) = omega arith
  address_few false id address port None = omega arith

  removed_few : (ids : List ℕ) → length (map item_removed ids) ≡ length ids
  removed_few [] = refl
  removed_few (id ∷ ids) = omega (arith, removed_few ids)

  value_few : (v : wire.OptionValue) → FewOf (things (heard_option spelling from expected v)) (length (option_text v))
  unfolding option_text
  value_few (wire.Capable flag_a flag_c keys) = inl (omega (arith, capable_few joined flag_a flag_c keys))
  value_few (wire.Join form) = inl (omega (arith, join_few s form, join_long form))
  value_few (wire.Dss ack mapping fin) =
      inl (omega (
        arith,
        dss_few (option_map (place_heard spelling (peer from) expected.told) ack)
            (option_map (λ (map : DssMap). heard_mapping spelling from expected map fin) mapping),
      ))
  value_few (wire.AddAddr echo id address port hmac) = inl (omega (arith, address_few echo id address port hmac))
  value_few (wire.RemoveAddr ids) = inr (omega (arith, removed_few ids))
  value_few _ = inl (omega arith)

  -- ---- all of them

  few_more : (here others octets rest : ℕ) → FewOf here octets → FewOf others rest → FewOf (here + others) (octets + rest)
  few_more here others octets rest (inl few) (inl less) = inl (omega (arith, few, less))
  few_more here others octets rest (inl few) (inr less) = inr (omega (arith, few, less))
  few_more here others octets rest (inr few) (inl less) = inr (omega (arith, few, less))
  few_more here others octets rest (inr few) (inr less) = inr (omega (arith, few, less))

  few_behind : (others octets rest : ℕ) → FewOf others rest → FewOf others (octets + rest)
  few_behind others octets rest (inl less) = inl (omega (arith, less))
  few_behind others octets rest (inr less) = inr (omega (arith, less))

  abbrev all_things : List (List ℕ) → ℕ
  all_things options = length (flat_map (items_in joined s window) (heard_options spelling from expected options))

  few_in : (options : List (List ℕ)) → EachOctets options → FewOf (all_things options) (total options)
  few_in [] are = inl (omega arith)
  few_in (octets ∷ others) are = by (option_meaning octets spelling.checksums) refl (few_in others are.1)
    where
      by : (m : wire.Meaning) → option_meaning octets spelling.checksums ≡ m → FewOf (all_things others) (total others)
          → FewOf (length (flat_map (items_in joined s window) (map (heard_option spelling from expected) (known_or m (known_in spelling.checksums others)))))
          (length octets + total others)
      by wire.Unknown is few = few_behind _ (length octets) _ few
      by wire.Malformed is few = few_behind _ (length octets) _ few
      by (wire.Known v) is few =
          subst (λ (n : ℕ). FewOf n (length octets + total others))
          (sym (length-append (items_in joined s window (heard_option spelling from expected v))
          (flat_map (items_in joined s window) (heard_options spelling from expected others))))
          (few_more _ _ (length octets) (total others)
          (subst (FewOf (things (heard_option spelling from expected v))) (known_length octets spelling.checksums v are.0 is) (value_few v)) few)

  few_at_most : (n octets : ℕ) → octets ≤ 40 → FewOf n octets → n ≤ 37
  few_at_most n octets short (inl few) = omega (arith, short, few)
  few_at_most n octets short (inr few) = omega (arith, short, few)

  -- ---- priorities

  value_priorities : (v : wire.OptionValue) (others : List HeardOption)
      → 3 * length (filter is_priority (heard_option spelling from expected v ∷ others)) ≤ length (option_text v) + 3 * length (filter is_priority others)
  unfolding option_text
  value_priorities (wire.Capable flag_a flag_c keys) others = omega arith
  value_priorities _ others = omega arith

  priorities_in : (options : List (List ℕ)) → EachOctets options → 3 * length (filter is_priority (heard_options spelling from expected options)) ≤ total options
  priorities_in [] are = omega arith
  priorities_in (octets ∷ others) are = by (option_meaning octets spelling.checksums) refl (priorities_in others are.1)
    where
      by : (m : wire.Meaning) → option_meaning octets spelling.checksums ≡ m
          → 3 * length (filter is_priority (heard_options spelling from expected others)) ≤ total others
          → 3 * length (filter is_priority (map (heard_option spelling from expected) (known_or m (known_in spelling.checksums others)))) ≤ length octets + total others
      by wire.Unknown is few = omega (arith, few)
      by wire.Malformed is few = omega (arith, few)
      by (wire.Known v) is few =
          omega (arith, few, value_priorities v (heard_options spelling from expected others), known_length octets spelling.checksums v are.0 is)

-- ---- a segment

meant_if : (short offset option checksum : Bool) (x y : Segment)
    → (if short then Err Short else (if offset then Err DataOffset else (if option then Err OptionLength else (if checksum then Err Checksum else Ok x)))) ≡ Ok y → y ≡ x
meant_if true offset option checksum x y is = cc
meant_if false true option checksum x y is = cc
meant_if false false true checksum x y is = cc
meant_if false false false true x y is = cc
meant_if false false false false x y is = cc

meant_so : (addresses : Addresses) (octets : List ℕ) (segment : Segment) → segment_meaning addresses octets ≡ Ok segment → segment ≡ segment_in octets
unfolding segment_meaning
meant_so addresses octets segment is =
    meant_if (is_short octets) (has_wrong_offset octets) (has_broken_option octets) (has_wrong_checksum addresses octets) (segment_in octets) segment is

options_short : (octets : List ℕ) → AreOctets octets → length (options_in octets) ≤ 40
options_short octets are =
    let offset : slice_index octets 12 < 256 = each_octet octets are 12 in
    omega (arith, offset, length-take (header_len octets - 20) (drop 20 octets))

segment_few : (spelling : Spelling) (from : Side) (expected : Expected) (octets : List ℕ) → AreOctets octets
    → SaysFew (heard_options spelling from expected (option_octets (options_in octets)))
segment_few spelling from expected octets are = record {
  few = λ joined s window.
      few_at_most joined s window spelling from expected _ (total (option_octets (options_in octets)))
      (omega (arith, after_total 0 0 (options_in octets), options_short octets are))
      (few_in joined s window spelling from expected (option_octets (options_in octets))
      (after_octets 0 0 (options_in octets) (AreOctets-take (header_len octets - 20) (drop 20 octets) (AreOctets-drop 20 octets are))));
}

segment_priorities : (spelling : Spelling) (from : Side) (expected : Expected) (octets : List ℕ) → AreOctets octets
    → length (filter is_priority (heard_options spelling from expected (option_octets (options_in octets)))) ≤ 13
segment_priorities spelling from expected octets are =
    omega (
      arith,
      after_total 0 0 (options_in octets),
      options_short octets are,
      priorities_in true A 0 spelling from expected (option_octets (options_in octets))
          (after_octets 0 0 (options_in octets) (AreOctets-take (header_len octets - 20) (drop 20 octets) (AreOctets-drop 20 octets are))),
    )

-- what octets say that are a segment
pub heard_few : CopiesSayFew
heard_few spelling from expected octets are heard is = by (segment_meaning (addresses_from spelling.path from) octets) refl is
  where
    by : (m : Result Segment SegmentFault) → segment_meaning (addresses_from spelling.path from) octets ≡ m
        → option_map (heard_segment spelling from expected) (result_ok m) ≡ Some heard → SaysFew heard.options
    by (Ok segment) means so =
        let same : segment ≡ segment_in octets = meant_so (addresses_from spelling.path from) octets segment means in
        let told : heard_segment spelling from expected segment ≡ heard = cc in
        subst (λ (h : HeardSegment). SaysFew h.options) (ap (heard_segment spelling from expected) (sym same) ∙ told)
        (segment_few spelling from expected octets are)
    by (Err fault) means so = cc

pub few_priorities : CopiesHaveFewPriorities
few_priorities spelling from expected octets are heard is = by (segment_meaning (addresses_from spelling.path from) octets) refl is
  where
    by : (m : Result Segment SegmentFault) → segment_meaning (addresses_from spelling.path from) octets ≡ m
        → option_map (heard_segment spelling from expected) (result_ok m) ≡ Some heard → length (filter is_priority heard.options) ≤ 13
    by (Ok segment) means so =
        let same : segment ≡ segment_in octets = meant_so (addresses_from spelling.path from) octets segment means in
        let told : heard_segment spelling from expected segment ≡ heard = cc in
        subst (λ (h : HeardSegment). length (filter is_priority h.options) ≤ 13) (ap (heard_segment spelling from expected) (sym same) ∙ told)
        (segment_priorities spelling from expected octets are)
    by (Err fault) means so = cc

-- after a fallback nothing is heard
pub unheard_few : (identity : Bool) (options : List HeardOption) → SaysFew options → SaysFew (if identity then [] else options)
unheard_few true options few = record { few = λ joined s window. omega arith }
unheard_few false options few = few

-- what is still to be put has room
pub room_left : (says : HeardOption → List Heard) (items : List Heard) (left : List HeardOption) (option : HeardOption) (rest : List HeardOption)
    (all : List Heard) → items ++ flat_map says left ≡ all → left ≡ option ∷ rest → length all ≤ 37 → length items + length (says option) ≤ 37
room_left says items left option rest all so is few =
    let here : items ++ (says option ++ flat_map says rest) ≡ all = ap (λ (options : List HeardOption). items ++ flat_map says options) (sym is) ∙ so in
    omega (arith, few, ap length here, length-append items (says option ++ flat_map says rest), length-append (says option) (flat_map says rest))

-- what is heard of octets, and lent
pub lent_few : (spelling : Spelling) (from : Side) (expected : Expected) (octets : List ℕ) → AreOctets octets
    → (o : Option (PathSegment HeardPosition HeardOptions (Bor (List ℕ)))) → option_map heard_value o ≡ heard_in spelling from expected octets
    → IfSome o (λ heard. SaysFew (heard_value heard).options)
lent_few spelling from expected octets are None same = tt
lent_few spelling from expected octets are (Some heard) same = heard_few spelling from expected octets are (heard_value heard) (sym same)
