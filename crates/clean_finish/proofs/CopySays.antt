-- What a copy that is no SYN says to its end, which mapping it has, and whether it is to be acknowledged.
use Rattle.clean_finish.proofs.Words.{◌≡◌, refl, sym, subst, ap, ◌∙◌, ℕ, ◌+◌, ◌<◌, ◌≤◌, nat_lt, Bool, true, false, ◌||◌, if◌then◌else◌, Option, None, List, []}
use Rattle.clean_finish.proofs.Words.{◌∷◌, ◌++◌, length, map, arith, Some, suc, zero, drop, ◌^◌, replicate, unwrap_or, both_ways, lt-ltb, le-leb, list_any}
use Rattle.clean_finish.proofs.Words.{Side, A, B, peer, KeptMapping, occupied, meant, window_told, wants_ack, Heard, is_nil, Profile, is_mapping, mapping_items}
use Rattle.clean_finish.proofs.Words.{held_of, held_if, key_held, checksum_heard, kept_of, copy_of, items_of, is_joined, mapping_of, checksum_told}
use Rattle.clean_finish.proofs.Words.{bare_mapping, checksum_in, Sent, Keys, Brings, BringsAs, shows_keys, octets_of, CountsAs, said, is_owed, OpensSubflow}
use Rattle.clean_finish.proofs.Words.{ShowsKeys, FirstPiece, Piece, Acknowledges, EndsStream, EndsSubflow, heard_by, kept_in, kept_piece}
use Rattle.subflow_recv.specs.Receiving.{by_place}
use Rattle.mptcp_options.specs.declared.capable.CapableKeys.TheVariants.{WithData}
use Rattle.clean_finish.specs.Segments.{is_opening}

not_b : A ≡ B → ⊥
not_b e = cc

some_nil : (octets : List ℕ) → 1 ≤ length octets → is_nil octets ≡ false
some_nil [] one = absurd (omega (arith, one))
some_nil (x ∷ octets) one = refl

-- the checksum is heard as it was made
checksum_same : (b : Bool) (sum : ℕ) → unwrap_or (if b then Some (if b then sum else 0) else None) 0 ≡ (if b then sum else 0)
checksum_same true sum = refl
checksum_same false sum = refl

-- what stands in a mapping of so many octets from one place and one position on
fits_mapping : (place position count : ℕ) → 1 ≤ position → place + count ≤ 2 ^ 62 → is_mapping place position count ≡ true
fits_mapping place position count one few = rw (lt-ltb 0 position one, le-leb (place + count) (2 ^ 62) few) refl

module _ (c : Profile) (keys : Keys) (x : Sent) where
  abbrev as_says : Side → Brings → List Heard
  as_says q b = items_of false q (meant (said c keys (peer q) (record x { brings = b })))

  -- what it says
  pub says_are : (q : Side) (b : Brings) → is_opening b ≡ false → (shows_keys b ≡ true → q ≡ B) → nat_lt x.telling.next (2 ^ 62) ≡ true
      → 1 ≤ x.control → x.low + length (octets_of b) ≤ 2 ^ 62 → (own : ℕ) → own ≤ 2 ^ 62 → BringsAs own x.low x.edge b
      → (control keys_before : ℕ) → CountsAs control keys_before x.control x.keys b → as_says q b ≡ heard_by keys x.telling.next (window_told false x.window) b
  says_are q OpensSubflow e key small one few own most is control keys_before counts = absurd (both_ways _ e refl)
  says_are A ShowsKeys e key small one few own most is control keys_before counts = absurd (not_b (key refl))
  says_are B ShowsKeys e key small one few own most is control keys_before counts = refl
  says_are A (FirstPiece octets) e key small one few own most is control keys_before counts = absurd (not_b (key refl))
  says_are B (FirstPiece octets) e key small one few own most is control keys_before counts =
      ap (λ (b : Bool). Heard.Keys keys.b keys.a ∷ ((if b then mapping_items 0 1 (length octets) false else []) ++ [])) (lt-ltb 0 (length octets) counts.3)
      ∙ ap (λ (b : Bool). Heard.Keys keys.b keys.a ∷ ((if b then Heard.Mapping false ∷ [] else []) ++ []))
      (fits_mapping 0 1 (length octets) (omega arith) (from_none x.low (length octets) few))
    where
      from_none : (l n : ℕ) → l + n ≤ 2 ^ 62 → 0 + n ≤ 2 ^ 62
      from_none l n less = omega (arith, less)
  says_are q (Piece octets) e key small one few own most is control keys_before counts =
      rw (small, fits_mapping x.low (x.low + x.control) (length octets) (at_one x.low one) few) refl
    where
      at_one : {n : ℕ} (l : ℕ) → 1 ≤ n → 1 ≤ l + n
      at_one l less = omega (arith, less)
  says_are q Acknowledges e key small one few own most is control keys_before counts = rw small refl
  says_are q (EndsStream place) e key small one few own most is control keys_before counts = rw (small, le-leb place (2 ^ 62) (below is)) refl
    where
      below : place ≡ own → place ≤ 2 ^ 62
      below same = omega (arith, same, most)
  says_are q EndsSubflow e key small one few own most is control keys_before counts = rw small refl

  abbrev as_held : Side → Brings → List KeptMapping
  as_held q b = held_of c q (meant (said c keys (peer q) (record x { brings = b })))

  -- the mapping that it has
  one_kept : (q : Side) (place position : ℕ) (octets : List ℕ) → 1 ≤ position → place + length octets ≤ 2 ^ 62
      → held_if c q place position (length octets) false (checksum_told c (mapping_of c (peer q) place position octets).checksum)
      ≡ kept_of c q place position (length octets) false (checksum_in c (bare_mapping c (peer q) place position (length octets)) octets) ∷ []
  one_kept q place position octets one few =
      let m = bare_mapping c (peer q) place position (length octets) in
      ap (λ (b : Bool). if b then kept_of c q place position (length octets) false (checksum_heard (checksum_told c (checksum_in c m octets))) ∷ [] else [])
      (fits_mapping place position (length octets) one few)
      ∙ ap (λ (n : ℕ). kept_of c q place position (length octets) false n ∷ []) (checksum_same c.spelling.checksums _)

  nothing : (b : Bool) → ◌≡◌ {A = List KeptMapping} ((if b then [] else []) ++ []) []
  nothing true = refl
  nothing false = refl

  pub held_are : (q : Side) (b : Brings) → is_opening b ≡ false → (shows_keys b ≡ true → q ≡ B) → is_joined c ≡ false → 1 ≤ x.control
      → x.low + length (octets_of b) ≤ 2 ^ 62 → (own control keys_before : ℕ) → BringsAs own x.low x.edge b
      → CountsAs control keys_before x.control x.keys b → as_held q b ≡ kept_in c q x (octets_of b)
  held_are q OpensSubflow e key path one few own control keys_before is counts = absurd (both_ways _ e refl)
  held_are A ShowsKeys e key path one few own control keys_before is counts = absurd (not_b (key refl))
  held_are B ShowsKeys e key path one few own control keys_before is counts = nothing (is_joined c)
  held_are A (FirstPiece octets) e key path one few own control keys_before is counts = absurd (not_b (key refl))
  held_are B (FirstPiece octets) e key path one few own control keys_before is counts =
      ap (λ (b : Bool). (if b then [] else key_held c B (WithData keys.a keys.b (length octets) (checksum_told c (mapping_of c A x.low (x.low + x.control) octets).checksum))) ++ []) path
      ∙ (ap (λ (b : Bool). (if b then held_if c B 0 1 (length octets) false (checksum_told c (mapping_of c A x.low (x.low + x.control) octets).checksum) else []) ++ []) (lt-ltb 0 (length octets) counts.3)
      ∙ (first x.low x.control is.1 counts.1 (from_none x.low (length octets) few)
      ∙ sym (ap (λ (b : Bool). if b then [] else kept_piece c B x octets ∷ []) (some_nil octets counts.3))))
    where
      from_none : (l n : ℕ) → l + n ≤ 2 ^ 62 → 0 + n ≤ 2 ^ 62
      from_none l n less = omega (arith, less)

      first : (low control : ℕ) → low ≡ 0 → control ≡ 1 → 0 + length octets ≤ 2 ^ 62
          → held_if c B 0 1 (length octets) false (checksum_told c (mapping_of c A low (low + control) octets).checksum) ++ []
          ≡ kept_of c B low (low + control) (length octets) false (checksum_in c (bare_mapping c A low (low + control) (length octets)) octets) ∷ []
      first low control none once short =
          subst (λ (l : ℕ). held_if c B 0 1 (length octets) false (checksum_told c (mapping_of c A l (l + control) octets).checksum) ++ []
          ≡ kept_of c B l (l + control) (length octets) false (checksum_in c (bare_mapping c A l (l + control) (length octets)) octets) ∷ []) (sym none)
          (subst (λ (d : ℕ). held_if c B 0 1 (length octets) false (checksum_told c (mapping_of c A 0 (0 + d) octets).checksum) ++ []
          ≡ kept_of c B 0 (0 + d) (length octets) false (checksum_in c (bare_mapping c A 0 (0 + d) (length octets)) octets) ∷ []) (sym once)
          (ap (λ (ms : List KeptMapping). ms ++ []) (one_kept B 0 1 octets (omega arith) short)))
  held_are q (Piece octets) e key path one few own control keys_before is counts =
      ap (λ (ms : List KeptMapping). ms ++ []) (one_kept q x.low (x.low + x.control) octets (at_one x.low one) few)
      ∙ sym (ap (λ (b : Bool). if b then [] else kept_piece c q x octets ∷ []) (some_nil octets counts.3))
    where
      at_one : {n : ℕ} (l : ℕ) → 1 ≤ n → 1 ≤ l + n
      at_one l less = omega (arith, less)
  held_are q Acknowledges e key path one few own control keys_before is counts = refl
  held_are q (EndsStream place) e key path one few own control keys_before is counts = refl
  held_are q EndsSubflow e key path one few own control keys_before is counts = refl

  -- what wants an acknowledgement, or occupies a position, is to be acknowledged
  pub owed_is : (q : Side) (b : Brings) → is_opening b ≡ false → (next window control keys_before : ℕ) → CountsAs control keys_before x.control x.keys b
      → (list_any wants_ack (heard_by keys next window b) || nat_lt 0 (occupied (copy_of (meant (said c keys (peer q) (record x { brings = b })))))) ≡ is_owed b
  owed_is q OpensSubflow e next window control keys_before counts = absurd (both_ways _ e refl)
  owed_is q ShowsKeys e next window control keys_before counts = refl
  owed_is q (FirstPiece octets) e next window control keys_before counts = refl
  owed_is q (Piece octets) e next window control keys_before counts = lt-ltb 0 (length octets + 0) (more counts.3)
    where
      more : {n : ℕ} → 1 ≤ n → 0 < n + 0
      more one = omega (arith, one)
  owed_is q Acknowledges e next window control keys_before counts = refl
  owed_is q (EndsStream place) e next window control keys_before counts = refl
  owed_is q EndsSubflow e next window control keys_before counts = refl

-- octets by their place, from that place on
pub drop_place : (at : ℕ) (octets : List ℕ) → drop at (by_place at octets) ≡ map Some octets
drop_place at [] = none at
  where
    none : (n : ℕ) → drop {A = Option ℕ} n [] ≡ []
    none zero = refl
    none (suc n) = refl
drop_place at (x ∷ octets) = by at
  where
    by : (n : ℕ) → drop n (replicate n None ++ map Some (x ∷ octets)) ≡ map Some (x ∷ octets)
    by zero = refl
    by (suc n) = by n
