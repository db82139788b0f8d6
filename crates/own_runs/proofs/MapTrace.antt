-- In the capture of a run whose script alters nothing and takes no options away each position has one place, each place the octet of its side's
-- file, and each checksum is right.
use Rattle.std.proofs.Common.{◌≡◌, refl, sym, ap, ◌∙◌, subst, ℕ, zero, suc, ◌⊎◌, ◌+◌, ◌-◌, ◌%◌, ◌^◌, ◌<◌, ◌≤◌, true, false, Option, Some, None, inl, inr, ⊎_elim, List, [], ◌∷◌, ◌++◌, length, map, arith}
use Rattle.std.specs.Prelude.{All, IfSome, get_or}
use Rattle.std.specs.Int.{from_bool}
use Rattle.std.specs.List.{list_any}
use Rattle.std.proofs.lemmas.Bool.{false≢true, or_cases}
use Rattle.std.proofs.lemmas.List.Elements.{All-cons, All-nil}
use Rattle.capture_reader.specs.Seen.{Seen}
use Rattle.dss_checksum.specs.Checksum.{dss_checksum}
use Rattle.judge_rules.specs.Mappings.{offer_of}
use Rattle.judge_rules.specs.Numbers.{first_number}
use Rattle.link_trace.specs.declared.sent.Sent.{Sent}
use Rattle.mptcp_options.specs.Value.{OptionValue}
use Rattle.mptcp_options.specs.declared.capable.CapableKeys.TheVariants.{Both, NoKey, Sender, WithData}
use Rattle.octet_text.specs.Prefix.{IsPrefix}
use Rattle.path_segments.specs.Options.{PlainOption, relative_number, said_option}
use Rattle.path_segments.specs.declared.segment.PathMapping.TheVariants.{Bytes, End, Infinite}
use Rattle.path_segments.specs.declared.segment.PathOption.TheVariants.{Capable, Dss, Fail}
use Rattle.path_segments.specs.declared.spelling.Spelling.{Spelling}
use Rattle.segment_wire.specs.Segment.{Segment}
use Rattle.sides.specs.Side.{peer}
use Rattle.sides.specs.declared.side.Side.TheVariants.{A, B}
use Rattle.sides.specs.declared.side.Side.{Side}
use Rattle.stream_lanes.specs.Duo.{Duo}
use Rattle.stream_lanes.specs.Words.{Every}
use Rattle.world_laws.specs.Openings.{PathPlan, Start, path_begins}
use Rattle.world_laws.specs.Promises.{NumbersFit}
use Rattle.own_runs.proofs.AckPositions.{IsCover, IsCovered}
use Rattle.own_runs.proofs.Bearing.{Carries, maps_octets}
use Rattle.own_runs.proofs.FineMoments.{BearsMapped, IsMapped, Offered, content, file_len, lane_of, place_at}
use Rattle.own_runs.proofs.FinePositions.{TellsNoFail}
use Rattle.own_runs.proofs.MapKept.{IsFine}
use Rattle.own_runs.proofs.MapPositions.{Bears, OffersWell, Sit, contents, header}
use Rattle.own_runs.proofs.Moments.{IsSpoken}
use Rattle.own_runs.proofs.Numbered.{first_low, number_so}
use Rattle.own_runs.proofs.Offering.{AllFine, NoLines, OptionFine}
use Rattle.own_runs.proofs.Own.{IsOwn, own_initial, own_key}
use Rattle.own_runs.proofs.OwnTrace.{from_is, is_own, path_is, payload_same, seen_of, segment, seq_is, values_are}
use Rattle.own_runs.proofs.Placing.{PlacedIn}
use Rattle.own_runs.proofs.Values.{drawn}

-- ---- positions modulo 2^32

-- the place of a position on the lanes of the last moment
abbrev pub where_in : Duo → ℕ → Side → ℕ → ℕ
where_in last path s p = place_at (lane_of last path s) (p % 2 ^ 32)

stands_at : (p from j len : ℕ) → p % 2 ^ 32 ≡ from % 2 ^ 32 → from + len < 2 ^ 31 → j < len → (p + j) % 2 ^ 32 ≡ from + j
stands_at p from j len same few below = omega (arith, same, few, below)

contents_at : (f : ℕ → ℕ) (count p from : ℕ) → p % 2 ^ 32 ≡ from % 2 ^ 32 → from + count < 2 ^ 31 → contents f from count ≡ contents (λ q. f (q % 2 ^ 32)) p count
contents_at f zero p from same few = refl
contents_at f (suc count) p from same few =
    ap (λ (x : ℕ). x ∷ contents f (from + 1) count) (ap f (let at : from ≡ p % 2 ^ 32 = omega (arith, same, few) in at))
    ∙ ap (λ (xs : List ℕ). f (p % 2 ^ 32) ∷ xs) (contents_at f count (p + 1) (from + 1) (omega (arith, same)) (omega (arith, few)))

-- ---- a mapping as it is written, in a segment at its position

module _ (start : Start) (last : Duo) (path : ℕ) (plan : PathPlan) (s : Side) where
  abbrev spelling : Spelling
  spelling = (path_begins start path plan).profile.spelling

  abbrev Well : ℕ → OptionValue → Type 0
  Well p option = OffersWell (first_number (own_key (drawn start) s)) (file_len start s) (content start s) (where_in last path s) p option

  abbrev first : ℕ
  first = first_number (own_key (drawn start) s)

  -- the place and the octet of a position
  abbrev place_of : ℕ → ℕ
  place_of p = place_at (lane_of last path s) p

  abbrev octet_of : ℕ → ℕ
  octet_of p = content start s (place_of p)

  all_of : (len : ℕ) → len ≡ len - from_bool false
  all_of len = omega arith

  module _ (p from place relative len : ℕ) (same : p % 2 ^ 32 ≡ from % 2 ^ 32) (few : from + len < 2 ^ 31) where
    sits_at : Sit place_of from place len → Sit (where_in last path s) p place (len - from_bool false)
    sits_at sit =
        subst (λ (n : ℕ). Sit (where_in last path s) p place n) (all_of len)
        (λ j below. ap place_of (stands_at p from j len same few below) ∙ sit j below)

    sum_at : (checksum : Option ℕ) → IfSome checksum (λ sum. sum ≡ dss_checksum (header first place relative len) (contents octet_of from len))
        → IfSome checksum (λ sum. sum ≡ dss_checksum (header first place relative len) (contents (λ q. content start s (where_in last path s q)) p (len - from_bool false)))
    sum_at None right = tt
    sum_at (Some sum) right =
        right
        ∙ ap (λ (octets : List ℕ). dss_checksum (header first place relative len) octets) (contents_at octet_of len p from same few)
        ∙ ap (λ (n : ℕ). dss_checksum (header first place relative len) (contents (λ q. content start s (where_in last path s q)) p n)) (all_of len)

  -- at a position of the segment's number
  module _ (key at octets p : ℕ) (same : p % 2 ^ 32 ≡ at % 2 ^ 32) (few : (octets ≡ 0) ⊎ (at + octets < 2 ^ 31)) where
    -- where it maps octets, these are those of the segment
    near : (from len : ℕ) → from ≡ at → len ≡ octets → 1 ≤ len → from + len < 2 ^ 31
    near from len is whole some = by few
      where
        by : (octets ≡ 0) ⊎ (at + octets < 2 ^ 31) → from + len < 2 ^ 31
        by (inl none) = absurd (omega (arith, none, whole, some))
        by (inr short) = omega (arith, is, whole, short)

    there : (from : ℕ) → from ≡ at → p % 2 ^ 32 ≡ from % 2 ^ 32
    there from is = same ∙ ap (λ (n : ℕ). n % 2 ^ 32) (sym is)

    pub well_so : (o : PlainOption) → PlacedIn key at octets o → OptionFine (file_len start) (IsMapped start last path) NoLines ⊥ s o → Well p (said_option spelling s o)
    well_so (Dss next None) placed is = tt
    well_so (Dss next (Some (Bytes place from len false checksum))) placed is =
        let alike = there from placed.0 in
        let short = near from len placed.0 placed.1 is.0 in
        record {
          place = place;
          number = number_so start path plan s place;
          some = is.0;
          ends = is.2;
          sits = inr (omega (arith, alike), sits_at p from place (relative_number from) len alike short is.3.0);
          low = omega arith;
          sum = sum_at p from place (relative_number from) len alike short checksum is.3.1;
        }
    well_so (Dss next (Some (Bytes place from len true checksum))) placed is = absurd (false≢true (sym placed.2))
    well_so (Dss next (Some (End place checksum))) placed is = record {
      place = place;
      number = number_so start path plan s place;
      some = omega arith;
      ends = let at_end = is.0 in omega (arith, at_end);
      sits = inl refl;
      low = omega arith;
      sum = is.1;
    }
    well_so (Dss next (Some (Infinite place from))) placed is = absurd is
    well_so (Capable flag_a flag_c (WithData sender receiver len checksum)) placed is =
        let alike = there 1 placed.0 in
        let short = near 1 len placed.0 placed.1 is.0 in
        record {
          place = 0;
          number = first_low start path plan s;
          some = is.0;
          ends = let within = is.1 in omega (arith, within);
          sits = inr (omega (arith, alike), sits_at p 1 0 1 len alike short is.2.0);
          low = omega arith;
          sum = sum_at p 1 0 1 len alike short checksum is.2.1;
        }
    well_so (Capable flag_a flag_c NoKey) placed is = tt
    well_so (Capable flag_a flag_c (Sender sender)) placed is = tt
    well_so (Capable flag_a flag_c (Both sender receiver)) placed is = tt
    well_so (Fail place) placed is = absurd is
    well_so _ placed is = tt

    wells_so : (options : List PlainOption) → Every (PlacedIn key at octets) options → AllFine (file_len start) (IsMapped start last path) NoLines ⊥ s options
        → All (Well p) (map (said_option spelling s) options)
    wells_so [] placed each = All-nil (Well p)
    wells_so (o ∷ options) placed each =
        All-cons (Well p) (said_option spelling s o) (map (said_option spelling s) options) (well_so o (placed.each 0 o refl) (each.each 0 o refl))
        (wells_so options (record { each = λ i y at_y. placed.each (suc i) y at_y }) (record { each = λ i y at_y. each.each (suc i) y at_y }))

    -- its payload
    pub borne_so : (payload : List ℕ) → length payload ≡ octets → Bears octet_of at payload → Bears (λ q. content start s (where_in last path s q)) p payload
    borne_so payload whole bears j below = bears j below ∙ ap octet_of (by few)
      where
        by : (octets ≡ 0) ⊎ (at + octets < 2 ^ 31) → at + j ≡ (p + j) % 2 ^ 32
        by (inl none) = absurd (omega (arith, none, whole, below))
        by (inr short) = omega (arith, same, short, whole, below)

  -- an option that maps octets maps those of its segment
  module _ (key at octets p j : ℕ) (within : j < octets) where
    cover_so : (o : PlainOption) → PlacedIn key at octets o → maps_octets o ≡ true → IsCover p (p + j) (offer_of first (said_option spelling s o))
    cover_so (Dss next (Some (Bytes place from len false checksum))) placed is = let whole = placed.1 in (omega arith, omega (arith, whole, within))
    cover_so (Dss next (Some (Bytes place from len true checksum))) placed is = absurd (false≢true (sym placed.2))
    cover_so (Dss next (Some (End place checksum))) placed is = absurd (false≢true is)
    cover_so (Dss next (Some (Infinite place from))) placed is = absurd (false≢true is)
    cover_so (Dss next None) placed is = absurd (false≢true is)
    cover_so (Capable flag_a flag_c (WithData sender receiver len checksum)) placed is = let whole = placed.1 in (omega arith, omega (arith, whole, within))
    cover_so (Capable flag_a flag_c NoKey) placed is = absurd (false≢true is)
    cover_so (Capable flag_a flag_c (Sender sender)) placed is = absurd (false≢true is)
    cover_so (Capable flag_a flag_c (Both sender receiver)) placed is = absurd (false≢true is)
    cover_so (Fail place) placed is = absurd (false≢true is)
    cover_so _ placed is = absurd (false≢true is)

    covered_so : (options : List PlainOption) → Every (PlacedIn key at octets) options → list_any maps_octets options ≡ true → IsCovered first p (p + j) (map (said_option spelling s) options)
    covered_so [] placed is = absurd (false≢true is)
    covered_so (o ∷ options) placed is =
        ⊎_elim (λ here. inl (cover_so o (placed.each 0 o refl) here)) (λ later. inr (covered_so options (record { each = λ i y at_y. placed.each (suc i) y at_y }) later))
        (or_cases (maps_octets o) (list_any maps_octets options) is)

  calm_so : (o : PlainOption) → OptionFine (file_len start) (IsMapped start last path) NoLines ⊥ s o → TellsNoFail (said_option spelling s o)
  calm_so (Fail place) is = is
  calm_so (Capable flag_a flag_c keys) is = tt
  calm_so (Dss next mapping) is = tt
  calm_so _ is = tt

  calmly : (options : List PlainOption) → AllFine (file_len start) (IsMapped start last path) NoLines ⊥ s options → All TellsNoFail (map (said_option spelling s) options)
  calmly [] each = All-nil TellsNoFail
  calmly (o ∷ options) each =
      All-cons TellsNoFail (said_option spelling s o) (map (said_option spelling s) options) (calm_so o (each.each 0 o refl))
      (calmly options (record { each = λ i y at. each.each (suc i) y at }))

-- ---- the capture

module _ (start : Start) (last : Duo) (fit : NumbersFit start) where
  pub few : (s : Side) → file_len start s < 2 ^ 31
  few A = let short = fit.short_a in omega (arith, short)
  few B = let short = fit.short_b in omega (arith, short)

  abbrev Good : Seen → Type 0
  Good seen = IsFine (drawn start) (file_len start) few (content start) (where_in last) seen

  module _ (x : Sent) (s : IsSpoken (Offered start last) start x) (short : length x.octets ≤ 65515) where
    abbrev position : ℕ
    position = s.segment.position

    abbrev payload : List ℕ
    payload = s.segment.payload

    abbrev own : IsOwn (drawn start) (seen_of (Offered start last) start x s short)
    own = is_own (Offered start last) start x s short

    abbrev written : Segment
    written = segment (Offered start last) start x s short

    -- its payload, if it has one
    pub borne : ((length payload ≡ 0) ⊎ (position + length payload < 2 ^ 31)) × Bears (λ q. content start x.from (place_at (lane_of last x.path x.from) q)) position payload
    borne = by s.also.1
      where
        by : Carries (BearsMapped start last x.path) x.from s.segment
            → ((length payload ≡ 0) ⊎ (position + length payload < 2 ^ 31)) × Bears (λ q. content start x.from (place_at (lane_of last x.path x.from) q)) position payload
        by (inl none) = let empty : length payload ≡ 0 = ap (λ (xs : List ℕ). length xs) none in (inl empty, λ j below. absurd (omega (arith, empty, below)))
        by (inr is) = (inr is.0.0, is.0.1)

    pub good : Good (seen_of (Offered start last) start x s short)
    good = record {
      own = own;
      at = position;
      seq = subst (λ (path : ℕ). Seq path own.from) (sym (path_is (Offered start last) start x s short))
          (subst (Seq x.path) (sym (from_is (Offered start last) start x s short)) (seq_is (Offered start last) start x s short));
      bears = λ p same. subst (λ (path : ℕ). Holds p path own.from) (sym (path_is (Offered start last) start x s short))
          (subst (Holds p x.path) (sym (from_is (Offered start last) start x s short))
          (subst (λ (octets : List ℕ). Bears (λ q. content start x.from (where_in last x.path x.from q)) p octets) (sym (payload_same (Offered start last) start x s short))
          (borne_so start last x.path s.plan x.from key position (length payload) p same borne.0 payload refl borne.1)));
      offers = λ p same. subst (λ (path : ℕ). Wells p path own.from own.values) (sym (path_is (Offered start last) start x s short))
          (subst (λ (t : Side). Wells p x.path t own.values) (sym (from_is (Offered start last) start x s short))
          (subst (Wells p x.path x.from) (sym (values_are (Offered start last) start x s short))
          (wells_so start last x.path s.plan x.from key position (length payload) p same borne.0 s.segment.options s.spoken.placed.options s.also.0)));
      calm = subst (λ (values : List OptionValue). All TellsNoFail values) (sym (values_are (Offered start last) start x s short))
          (calmly start last x.path s.plan x.from s.segment.options s.also.0);
      whole = refl;
      maps = λ p same j within. subst (λ (from : Side). IsCovered (first_number (own_key (drawn start) from)) p (p + j) own.values) (sym (from_is (Offered start last) start x s short))
          (subst (λ (values : List OptionValue). IsCovered (first_number (own_key (drawn start) x.from)) p (p + j) values) (sym (values_are (Offered start last) start x s short))
          (mapped p j (subst (λ (octets : List ℕ). j < length octets) (payload_same (Offered start last) start x s short) within) s.also.1));
    }
      where
        key : ℕ
        key = own_key (drawn start) (peer x.from)

        Seq : ℕ → Side → Type 0
        Seq = λ path from. written.head.seq ≡ (own_initial (drawn start) path from + position) % 2 ^ 32

        Holds : ℕ → ℕ → Side → Type 0
        Holds = λ p path from. Bears (λ q. content start from (where_in last path from q)) p written.payload

        mapped : (p j : ℕ) → j < length payload → Carries (BearsMapped start last x.path) x.from s.segment
            → IsCovered (first_number (own_key (drawn start) x.from)) p (p + j) (map (said_option (path_begins start x.path s.plan).profile.spelling x.from) s.segment.options)
        mapped p j within (inl none) = absurd (let empty : length payload ≡ 0 = ap (λ (xs : List ℕ). length xs) none in omega (arith, empty, within))
        mapped p j within (inr is) = covered_so start last x.path s.plan x.from key position (length payload) p j within s.segment.options s.spoken.placed.options is.1

        Wells : ℕ → ℕ → Side → List OptionValue → Type 0
        Wells = λ p path from values. All (OffersWell (first_number (own_key (drawn start) from)) (file_len start from) (content start from) (where_in last path from) p) values

    -- by its path, its sender, its position and its options
    pub good_path : good.own.path ≡ x.path
    unfolding good
    good_path = path_is (Offered start last) start x s short

    pub good_from : good.own.from ≡ x.from
    unfolding good
    good_from = from_is (Offered start last) start x s short

    pub good_at : good.at ≡ s.segment.position
    unfolding good
    good_at = refl

    pub good_values : good.own.values ≡ map (said_option (path_begins start x.path s.plan).profile.spelling x.from) s.segment.options
    unfolding good
    good_values = values_are (Offered start last) start x s short

-- ---- a run

-- a list whose items stand at the beginning of another one
pub all_same : (xs ys : List ℕ) → ((i : ℕ) → i < length xs → (i < length ys) × (get_or xs i 0 ≡ get_or ys i 0)) → IsPrefix xs ys
all_same [] ys each = record { rest = ys; whole_is = refl }
all_same (x ∷ xs) [] each = absurd (let within = (each 0 (omega arith)).0 in omega (arith, within))
all_same (x ∷ xs) (y ∷ ys) each =
    let more = all_same xs ys (λ i below. let it = each (suc i) (omega (arith, below)) in let within = it.0 in (omega (arith, within), it.1)) in
    let head : x ≡ y = (each 0 (omega arith)).1 in
    record { rest = more.rest; whole_is = ap (λ (t : List ℕ). y ∷ t) more.whole_is ∙ ap (λ (z : ℕ). z ∷ (xs ++ more.rest)) (sym head) }
