-- Behind each segment of a run's capture, whatever its script does, what came to each place is its octet, by an infinite mapping, too.
use Rattle.std.proofs.Common.{◌≡◌, refl, sym, ap, ◌∙◌, subst, ℕ, ℤ, suc, ◌+◌, ◌-◌, ◌%◌, ◌^◌, ◌<◌, ◌≤◌, ◌⊎◌, inl, inr, ⊎_elim, ◌||◌, pos, negsuc, ltb, Bool, true, false, if◌then◌else◌, Option, Some, None, is_some, ◌==◌, List, [], ◌∷◌, length, map, arith}
use mir.Val.{sel}
use Rattle.std.specs.Prelude.{All, IfSome, int_lt, ◌+ℤ◌, ◌-ℤ◌}
use Rattle.std.specs.List.{list_any, slice_get}
use Rattle.std.proofs.lemmas.Bool.{both_ways, eq-eqb, eqb-true, false≢true, ltb-false, ltb-true, or_left, or_right}
use Rattle.std.proofs.lemmas.Int.{ints}
use Rattle.std.proofs.lemmas.List.Elements.{All-cons, All-head, All-nil, All-tail}
use Rattle.capture_reader.specs.Seen.{Seen}
use Rattle.judge_rules.specs.Mappings.{natural, place_on_line, position_near}
use Rattle.judge_rules.specs.Numbers.{first_number}
use Rattle.judge_rules.specs.declared.mappings.Line.{Line}
use Rattle.judge_laws.proofs.Standing.{some_same}
use Rattle.link_trace.specs.declared.sent.Sent.{Sent}
use Rattle.mptcp_options.specs.Value.{OptionValue}
use Rattle.mptcp_options.specs.declared.capable.CapableKeys.TheVariants.{Both, NoKey, Sender, WithData}
use Rattle.path_segments.specs.Options.{PlainOption, relative_number, said_option}
use Rattle.path_segments.specs.Spelled.{PlainSegment}
use Rattle.path_segments.specs.declared.segment.PathMapping.TheVariants.{Bytes, End, Infinite}
use Rattle.path_segments.specs.declared.segment.PathOption.TheVariants.{Capable, Dss}
use Rattle.path_segments.specs.declared.spelling.Spelling.{Spelling}
use Rattle.path_core.specs.Profile.{Profile}
use Rattle.rule_book.specs.Judged.{empty_lanes, grown, judged, nothing_judged, with_wrong_token}
use Rattle.rule_book.specs.State.{BookValue, JudgedValue, LanesValue}
use Rattle.seen_connections.specs.Connections.{SeenFlows, taken}
use Rattle.seen_connections.specs.declared.connections.WrongToken.{WrongToken}
use Rattle.seen_connections.specs.declared.flow.Flow.{Flow}
use Rattle.seen_streams.specs.declared.told.Infinite.{Infinite as InfiniteSeen}
use Rattle.segment_wire.specs.declared.head.Head.{Head}
use Rattle.sides.specs.Side.{peer}
use Rattle.sides.specs.declared.side.Side.TheVariants.{A, B}
use Rattle.sides.specs.declared.side.Side.{Side}
use Rattle.stream_lanes.specs.Duo.{Duo}
use Rattle.stream_lanes.specs.Words.{Every}
use Rattle.world_laws.proofs.Numbers.TellSmall.{IsShort, IsStray, OptionTells as IsSmall}
use Rattle.world_laws.specs.Openings.{PathPlan, Start, path_begins}
use Rattle.world_laws.specs.Promises.{NumbersFit}
use Rattle.own_runs.proofs.AckTrace.{behind_for}
use Rattle.own_runs.proofs.BearsPlain.{is_mapping, says_more}
use Rattle.own_runs.proofs.Bearing.{Carries, maps_octets}
use Rattle.own_runs.proofs.EndMaps.{FinOn, IsMapped, LineAt, content, file_len, lane_of, place_at, upto_of}
use Rattle.own_runs.proofs.InTime.{LinesPath, ResetsPath, SynsPath, has_octets, tells_line}
use Rattle.own_runs.proofs.LastLanes.{AtLast, places_within, upto_short}
use Rattle.own_runs.proofs.LateJoins.{ComesBehind, Says}
use Rattle.own_runs.proofs.Learning.{IsAlone, IsAnswer}
use Rattle.own_runs.proofs.LineLinks.{HasLine, LinesLinked, OfA, grown_so as grown_links, infinite_of, judged_linked, line_on, wrong_so as wrong_links}
use Rattle.own_runs.proofs.Lines.{IsAway, LineIs, LinesAgree, LinkedTo, OptionLined}
use Rattle.own_runs.proofs.LinesKept.{BookLined, FlowKnown, IsLined, LanesLined, OffersNone, keep, later_holds, new_lined}
use Rattle.own_runs.proofs.MapTrace.{few, well_so, where_in}
use Rattle.own_runs.proofs.Moments.{IsSpoken}
use Rattle.own_runs.proofs.Numbered.{number_so}
use Rattle.own_runs.proofs.Offering.{AllFine, OptionFine}
use Rattle.own_runs.proofs.OneConnection.{OneHolds, nothing_one, taken_one}
use Rattle.own_runs.proofs.OpenCounts.{AreCounted, judged_counted, wrong_seen}
use Rattle.own_runs.proofs.OpenFlows.{OpensBy, opens_only}
use Rattle.own_runs.proofs.Own.{IsOwn, end_of, own_key}
use Rattle.own_runs.proofs.OwnFlows.{Each, taken_so}
use Rattle.own_runs.proofs.OwnPackets.{AllHold, AreBound, AreKnown, segment_so}
use Rattle.own_runs.proofs.OwnTrace.{from_is, heads_are, is_own, path_is, payload_same, seen_of}
use Rattle.own_runs.proofs.OwnUntold.{BookUntold, tell}
use Rattle.own_runs.proofs.PlacesKept.{IsTelling}
use Rattle.own_runs.proofs.PlacesTrace.{borne, good, good_at, good_from, good_path, good_values}
use Rattle.own_runs.proofs.Placing.{PlacedIn}
use Rattle.own_runs.proofs.TellsPlaces.{Bearing, Tells}
use Rattle.own_runs.proofs.TokenPackets.{AllHold as TokensHeld, segment_so as tokens_so}
use Rattle.own_runs.proofs.TokenSegments.{Asked, IsBehind, IsCapable, asks_only, behind}
use Rattle.own_runs.proofs.TokenState.{nothing_holds}
use Rattle.own_runs.proofs.Values.{drawn}

-- a relative number near a position
near_is : (at from : ℕ) → IsShort at → IsShort from → position_near at (relative_number from) ≡ pos from
near_is at from here low = by ((relative_number from + (2 ^ 32 - at % 2 ^ 32)) % 2 ^ 32) refl (ltb ((relative_number from + (2 ^ 32 - at % 2 ^ 32)) % 2 ^ 32) (2 ^ 31)) refl
  where
    by : (n : ℕ) → n ≡ (relative_number from + (2 ^ 32 - at % 2 ^ 32)) % 2 ^ 32 → (b : Bool) → ltb n (2 ^ 31) ≡ b → pos at +ℤ sel b (pos n) (negsuc (2 ^ 32 - suc n)) ≡ pos from
    by n is true e = let less = ltb-true n (2 ^ 31) e in omega (arith, ints, is, less, here, low)
    by n is false e = let more = ltb-false n (2 ^ 31) e in omega (arith, ints, is, more, here, low)

minus_is : (p from : ℕ) → from ≤ p → natural (pos p -ℤ pos from) ≡ p - from
minus_is p from low = ap natural (let same : pos p -ℤ pos from ≡ pos (p - from) = omega (arith, ints, low) in same)

-- all that a side tells are on one path, and have one place less position
abbrev pub AgreeOn : (ℕ → Side → ℕ → ℕ → Type 0) → Type 0
AgreeOn Is = (p q : ℕ) (s : Side) (a i b j : ℕ) → Is p s a i → Is q s b j → (p ≡ q) × (a + j ≡ b + i)

-- the line of one that a side tells on a path
abbrev pub LineOf : (ℕ → Side → ℕ → ℕ → Type 0) → ℕ → Side → Line → Type 0
LineOf Is path s line = (from : ℕ) × (line.position ≡ pos from) × Is path s line.place from

module _ (start : Start) (Told : Duo → ℕ → Side → ℕ → ℕ → Type 0) (Fails : Type 0) (last : Duo) (fit : NumbersFit start) (ended : AtLast start last) where
  -- how many positions a lane has, and where its FIN stands
  abbrev pub upto_in : ℕ → Side → ℕ
  upto_in path s = upto_of (lane_of last path s)

  abbrev pub EndIn : ℕ → Side → ℕ → Type 0
  EndIn path s p = FinOn (lane_of last path s) p

  -- the line of an infinite mapping that was told, where a side told some on a path
  abbrev IsLine : (ℕ → Side → Type 0) → ℕ → Side → Line → Type 0
  IsLine G path s line = LineOf (Told last) path s line × G path s

  upto_low : (path : ℕ) (s : Side) → upto_in path s < 2 ^ 31 - 2
  upto_low path A = let most = upto_short start last ended path A in let short = fit.short_a in omega (arith, most, short)
  upto_low path B = let most = upto_short start last ended path B in let short = fit.short_b in omega (arith, short, most)

  -- each of them has a place of the side's file
  inside_so : (path : ℕ) (s : Side) (p : ℕ) → 1 ≤ p → p ≤ upto_in path s → where_in last path s p < file_len start s
  inside_so path s p some below =
      let low = upto_low path s in
      subst (λ (q : ℕ). place_at (lane_of last path s) q < file_len start s) (let same : p ≡ p % 2 ^ 32 = omega (arith, low, below) in same) (places_within start last ended path s p some below)

  -- ---- an option as it is written, in a segment at its position

  module _ (G : ℕ → Side → Type 0) (path : ℕ) (plan : PathPlan) (s : Side) where
    abbrev spelling : Spelling
    spelling = (path_begins start path plan).profile.spelling

    abbrev first : ℕ
    first = first_number (own_key (drawn start) s)

    abbrev pub LinedAt : ℕ → OptionValue → Type 0
    LinedAt at option = OptionLined (file_len start s) (few start last fit s) (content start s) first (where_in last path s) (upto_in path s) (EndIn path s) (IsLine G path s) (IsAway (IsLine G) path s) at option

    -- the line of an infinite mapping from a position on
    module _ (at place from : ℕ) (here : IsShort at) (low : IsShort from) (is : LineAt start Told last path s place from) (now : G path s) where
      line : Line
      line = record { position = position_near at (relative_number from); place = place }

      position_is : position_near at (relative_number from) ≡ pos from
      position_is = near_is at from here low

      on_line : (p : ℕ) (R : ℕ → Type 0) → (from ≤ p → R (place + (p - from))) → IfSome (place_on_line (record { position = pos from; place = place }) p) R
      on_line p R holds = by (int_lt (pos p) (pos from)) refl
        where
          by : (b : Bool) → int_lt (pos p) (pos from) ≡ b → IfSome (if b then None else Some (place + natural (pos p -ℤ pos from))) R
          by true less = tt
          by false more =
              let low : from ≤ p = ltb-false p from more in
              subst R (ap (λ (n : ℕ). place + n) (sym (minus_is p from low))) (holds low)

      pub line_is : LineIs (file_len start s) (few start last fit s) (content start s) first (where_in last path s) (upto_in path s) (EndIn path s) (IsLine G path s) (IsAway (IsLine G) path s) (record { position = position_near at (relative_number from); place = place })
      line_is =
          subst (λ (z : ℤ). LineIs (file_len start s) (few start last fit s) (content start s) first (where_in last path s) (upto_in path s) (EndIn path s) (IsLine G path s) (IsAway (IsLine G) path s) (record { position = z; place = place })) (sym position_is)
          (record {
            places = λ p below. on_line p (λ q. q ≡ where_in last path s p)
                (λ behind. sym (ap (place_at (lane_of last path s)) (let short = upto_low path s in let same : p % 2 ^ 32 ≡ p = omega (arith, below, short) in same) ∙ is.0.1 p behind below));
            end = λ p fin. on_line p (λ q. q ≡ file_len start s) (λ behind. is.0.2 p fin behind);
            is = ((from, refl, is.1), now);
          })

    module _ (key at octets : ℕ) (short : (octets ≡ 0) ⊎ (at + octets < 2 ^ 31)) where
      lined_so : (o : PlainOption) → PlacedIn key at octets o → OptionFine (file_len start) (IsMapped start last path) (LineAt start Told last path) Fails s o → IsSmall (path_begins start path plan).profile s o
          → (is_mapping o ≡ true → IsShort at) → (tells_line o ≡ true → G path s) → (maps_octets o ≡ true → IsAway (IsLine G) path s → ⊥) → LinedAt at (said_option spelling s o)
      lined_so (Dss next None) placed is small here now apart = tt
      lined_so (Dss next (Some (Bytes place from len false checksum))) placed is small here now apart = inl (
        well_so start last path plan s key at octets at refl short (Dss next (Some (Bytes place from len false checksum))) placed is,
        inr (let within = is.3.3 in let same = placed.0 in omega (arith, within, same), apart refl),
      )
      lined_so (Dss next (Some (Bytes place from len true checksum))) placed is small here now apart = absurd (false≢true (sym placed.2))
      lined_so (Dss next (Some (End place checksum))) placed is small here now apart =
          inl (well_so start last path plan s key at octets at refl short (Dss next (Some (End place checksum))) placed is, inl refl)
      lined_so (Dss next (Some (Infinite place from))) placed is small here now apart =
          inr (record { place = place; number = number_so start path plan s place; small = small.short.1.0; none = refl; line = line_is at place from (here refl) small.short.1.1 is (now refl) })
      lined_so (Capable flag_a flag_c (WithData sender receiver len checksum)) placed is small here now apart = inl (
        well_so start last path plan s key at octets at refl short (Capable flag_a flag_c (WithData sender receiver len checksum)) placed is,
        inr (let within = is.2.3 in let same = placed.0 in omega (arith, within, same), apart refl),
      )
      lined_so (Capable flag_a flag_c NoKey) placed is small here now apart = tt
      lined_so (Capable flag_a flag_c (Sender sender)) placed is small here now apart = tt
      lined_so (Capable flag_a flag_c (Both sender receiver)) placed is small here now apart = tt
      lined_so _ placed is small here now apart = tt

      all_lined : (options : List PlainOption) → Every (PlacedIn key at octets) options → AllFine (file_len start) (IsMapped start last path) (LineAt start Told last path) Fails s options
          → All (IsSmall (path_begins start path plan).profile s) options → (list_any is_mapping options ≡ true → IsShort at) → (list_any tells_line options ≡ true → G path s)
          → (list_any maps_octets options ≡ true → IsAway (IsLine G) path s → ⊥) → All (LinedAt at) (map (said_option spelling s) options)
      all_lined [] placed each small here now apart = All-nil (LinedAt at)
      all_lined (o ∷ options) placed each small here now apart =
          All-cons (LinedAt at) (said_option spelling s o) (map (said_option spelling s) options)
          (lined_so o (placed.each 0 o refl) (each.each 0 o refl) (All-head (IsSmall (path_begins start path plan).profile s) o options small) (λ maps. here (or_left (is_mapping o) (list_any is_mapping options) maps))
          (λ tells. now (or_left (tells_line o) (list_any tells_line options) tells))
          (λ maps. apart (or_left (maps_octets o) (list_any maps_octets options) maps)))
          (all_lined options (record { each = λ i y at_y. placed.each (suc i) y at_y }) (record { each = λ i y at_y. each.each (suc i) y at_y })
          (All-tail (IsSmall (path_begins start path plan).profile s) o options small) (λ maps. here (or_right (is_mapping o) (list_any is_mapping options) maps))
          (λ tells. now (or_right (tells_line o) (list_any tells_line options) tells))
          (λ maps. apart (or_right (maps_octets o) (list_any maps_octets options) maps)))

    -- one without a mapping maps nothing
    none_so : (o : PlainOption) → is_mapping o ≡ false → OffersNone (said_option spelling s o)
    none_so (Dss next mapping) none = λ first. absurd (false≢true (sym none))
    none_so (Capable flag_a flag_c (WithData sender receiver len checksum)) none = λ first. absurd (false≢true (sym none))
    none_so (Capable flag_a flag_c NoKey) none = λ first. refl
    none_so (Capable flag_a flag_c (Sender sender)) none = λ first. refl
    none_so (Capable flag_a flag_c (Both sender receiver)) none = λ first. refl
    none_so _ none = λ first. refl

    none_all : (options : List PlainOption) → list_any is_mapping options ≡ false → All OffersNone (map (said_option spelling s) options)
    none_all [] none = All-nil OffersNone
    none_all (o ∷ options) none =
        All-cons OffersNone (said_option spelling s o) (map (said_option spelling s) options) (none_so o (first_of (is_mapping o) (list_any is_mapping options) none))
        (none_all options (rest_of (is_mapping o) (list_any is_mapping options) none))
      where
        first_of : (a b : Bool) → a || b ≡ false → a ≡ false
        first_of true b is = is
        first_of false b is = refl

        rest_of : (a b : Bool) → a || b ≡ false → b ≡ false
        rest_of true b is = absurd (false≢true (sym is))
        rest_of false b is = is

  -- ---- all that is known of a segment

  pub record LineKnown (U T : Type 0) (X G : ℕ → Side → Type 0) (path : ℕ) (s : Side) (sg : PlainSegment) : Type 0 where
    pub tells : Tells start Told Fails last path s sg
    pub comes : ComesBehind U T path s sg
    pub living : sg.rst ≡ false → X path s → ⊥
    pub says : says_more sg ≡ true → sg.rst ≡ false
    -- nothing is mapped where an infinite mapping was told on another path
    pub apart : list_any maps_octets sg.options ≡ true → IsAway (IsLine G) path s → ⊥
    pub fin : sg.fin ≡ true → (sg.rst ≡ false) × EndIn path s (sg.position + length sg.payload)

  module _ (S : ℕ → Type 0) (X G : ℕ → Side → Type 0) where
    abbrev pub LinedSeen : Seen → Type 0
    LinedSeen seen = IsLined (drawn start) (file_len start) (few start last fit) (content start) (where_in last) upto_in EndIn (IsLine G) S (λ n s. X n s → ⊥) seen

    abbrev pub LinedBook : BookValue → Type 0
    LinedBook book = BookLined (drawn start) (file_len start) (few start last fit) (content start) (where_in last) upto_in EndIn (IsLine G) S (λ n s. X n s → ⊥) book

    abbrev pub LinedLanes : ℕ → LanesValue → Type 0
    LinedLanes path lanes = LanesLined (drawn start) (file_len start) (few start last fit) (content start) (where_in last) upto_in EndIn (IsLine G) S (λ n s. X n s → ⊥) path lanes

    abbrev pub AllLined : JudgedValue → Type 0
    AllLined state = AllHold (drawn start) (OpensBy S) LinedSeen LinedBook LinedLanes state

  -- what stands behind the segments so far
  pub record LinesAt (U T : Type 0) (S : ℕ → Type 0) (X G : ℕ → Side → Type 0) (state : JudgedValue) : Type 0 where
    pub tokens : TokensHeld (drawn start) BookUntold U T state
    pub counts : AreCounted state
    pub only : Each (OpensBy S) state.seen.flows
    pub hold : AllLined S X G state
    pub linked : LinesLinked state

  -- ---- what is known of a flow

  all_agree : (G : ℕ → Side → Type 0) → AgreeOn (Told last) → (path : ℕ) (s : Side) → LinesAgree (IsLine G path s) (IsAway (IsLine G) path s)
  all_agree G agree path s = record {
    one = λ l m is also. let same = (agree path path s l.place is.0.0 m.place also.0.0 is.0.2 also.0.2).1 in let at = is.0.1 in let there = also.0.1 in omega (arith, ints, same, at, there);
    never = λ l is away. away.2 (agree away.0 path s away.1.place away.3.0.0 l.place is.0.0 away.3.0.2 is.0.2).0;
  }

  -- of each path one
  abbrev OneEach : List Flow → Type 0
  OneEach flows = (i j : ℕ) (f g : Flow) → slice_get flows i ≡ Some f → slice_get flows j ≡ Some g → f.opener ≡ g.opener → i ≡ j

  module _ (S : ℕ → Type 0) (X G : ℕ → Side → Type 0) where
    -- a line of a side is such
    line_in : (path : ℕ) (s : Side) (lanes : LanesValue) → LinedLanes S X G path lanes → IfSome (line_on s lanes) (IsLine G path s)
    line_in path A lanes h = by lanes.opener.line h.opener.1.1.line
      where
        by : (o : Option Line) → IfSome o (LineIs (file_len start A) (few start last fit A) (content start A) (first_number (own_key (drawn start) A)) (where_in last path A) (upto_in path A) (EndIn path A) (IsLine G path A) (IsAway (IsLine G) path A))
            → IfSome o (IsLine G path A)
        by None is = tt
        by (Some m) is = is.is
    line_in path B lanes h = by lanes.other.line h.other.1.1.line
      where
        by : (o : Option Line) → IfSome o (LineIs (file_len start B) (few start last fit B) (content start B) (first_number (own_key (drawn start) B)) (where_in last path B) (upto_in path B) (EndIn path B) (IsLine G path B) (IsAway (IsLine G) path B))
            → IfSome o (IsLine G path B)
        by None is = tt
        by (Some m) is = is.is

    known_so : (path : ℕ) (told : JudgedValue) → AllLined S X G told → LinesLinked told → OneEach told.seen.flows
        → AreKnown (drawn start) (OpensBy S) (LinedSeen S X G) (LinedBook S X G) (LinedLanes S X G)
        (FlowKnown (drawn start) (file_len start) (few start last fit) (content start) (where_in last) upto_in EndIn (IsLine G)) path told
    known_so path told held linked one index flow there opener c book at_book lanes at_lanes s = by (infinite_of s book) (linked c book at_book s)
      where
        same_lanes : (i : ℕ) → i ≡ index → (has : HasLine told.lanes s i) → is_some (line_on s lanes) ≡ true
        same_lanes i same has =
            subst (λ (l : LanesValue). is_some (line_on s l) ≡ true) (some_same has.lanes lanes (sym has.there ∙ ap (slice_get told.lanes) same ∙ at_lanes)) has.line

        none : (t : Side) → is_some (line_on t empty_lanes) ≡ false
        none A = refl
        none B = refl

        away : (i : ℕ) → (i ≡ index → ⊥) → (has : HasLine told.lanes s i) → IsAway (IsLine G) path s
        away i other has = bound (held.lanes i has.lanes has.there)
          where
            line : (q : ℕ) → (q ≡ path → ⊥) → (o : Option Line) → is_some o ≡ true → IfSome o (IsLine G q s) → IsAway (IsLine G) path s
            line q not_here None some is = absurd (false≢true some)
            line q not_here (Some m) some is = (q, m, not_here, is)

            bound : (has.lanes ≡ empty_lanes) ⊎ AreBound (drawn start) (OpensBy S) (LinedSeen S X G) (LinedBook S X G) (LinedLanes S X G) told.seen.flows i has.lanes → IsAway (IsLine G) path s
            bound (inl empty) = absurd (false≢true (sym (ap (λ (l : LanesValue). is_some (line_on s l)) empty ∙ none s) ∙ has.line))
            bound (inr it) =
                line it.path (λ same. other (one i index it.flow flow it.there there (it.opener ∙ ap (λ (k : ℕ). end_of k A) same ∙ sym opener))) (line_on s has.lanes) has.line (line_in it.path s has.lanes it.holds)

        by : (o : Option InfiniteSeen) → IfSome o (λ i. HasLine told.lanes s i.flow) → LinkedTo (IsAway (IsLine G) path s) index o (line_on s lanes)
        by None has = tt
        by (Some i) has = which (i.flow == index) refl
          where
            which : (b : Bool) → (i.flow == index) ≡ b → ((i.flow ≡ index) × (is_some (line_on s lanes) ≡ true)) ⊎ IsAway (IsLine G) path s
            which true e = let same = eqb-true i.flow index e in inl (same, same_lanes i.flow same has)
            which false e = inr (away i.flow (λ same. false≢true (sym e ∙ eq-eqb i.flow index same)) has)

  module _ (U T : Type 0) (S : ℕ → Type 0) (X G : ℕ → Side → Type 0) (x : Sent) (s : IsSpoken (LineKnown U T X G) start x) (short : length x.octets ≤ 65515) where
    abbrev c : Profile
    c = (path_begins start x.path s.plan).profile

    abbrev sg : PlainSegment
    sg = s.segment

    abbrev pub MoreS : ℕ → Type 0
    MoreS n = S n ⊎ SynsPath x s.segment n

    abbrev pub MoreX : ℕ → Side → Type 0
    MoreX n t = X n t ⊎ (MoreS n × ResetsPath x s.segment n t)

    abbrev pub MoreG : ℕ → Side → Type 0
    MoreG n t = G n t ⊎ LinesPath x s.segment n t

    abbrev pub as_told : IsSpoken (Tells start Told Fails last) start x
    as_told = record { plan = s.plan; there = s.there; segment = s.segment; end = s.end; octets = s.octets; spoken = s.spoken; also = s.also.tells }

    abbrev as_coming : IsSpoken (ComesBehind U T) start x
    as_coming = record { plan = s.plan; there = s.there; segment = s.segment; end = s.end; octets = s.octets; spoken = s.spoken; also = s.also.comes }

    abbrev pub seen : Seen
    seen = seen_of (Tells start Told Fails last) start x as_told short

    abbrev telling : IsTelling false (drawn start) (file_len start) (few start last fit) (content start) (where_in last) seen
    telling = good start false Told Fails (λ calm. absurd (false≢true calm)) last fit x as_told short

    abbrev own : IsOwn (drawn start) seen
    own = telling.own

    path_so : telling.own.path ≡ x.path
    path_so = good_path start false Told Fails (λ calm. absurd (false≢true calm)) last fit x as_told short

    from_so : telling.own.from ≡ x.from
    from_so = good_from start false Told Fails (λ calm. absurd (false≢true calm)) last fit x as_told short

    at_so : telling.at ≡ sg.position
    at_so = good_at start false Told Fails (λ calm. absurd (false≢true calm)) last fit x as_told short

    values_so : telling.own.values ≡ map (said_option c.spelling x.from) sg.options
    values_so = good_values start false Told Fails (λ calm. absurd (false≢true calm)) last fit x as_told short

    syn_so : seen.segment.head.syn ≡ sg.syn
    syn_so = ap (λ (h : Head). h.syn) (heads_are c.spelling x.from sg)

    rst_so : seen.segment.head.rst ≡ sg.rst
    rst_so = ap (λ (h : Head). h.rst) (heads_are c.spelling x.from sg)

    fin_so : seen.segment.head.fin ≡ sg.fin
    fin_so = ap (λ (h : Head). h.fin) (heads_are c.spelling x.from sg)

    len_so : seen.payload_len ≡ length sg.payload
    len_so = ap (λ (xs : List ℕ). length xs) (payload_same (Tells start Told Fails last) start x as_told short)

    ends_short : (length sg.payload ≡ 0) ⊎ (sg.position + length sg.payload < 2 ^ 31)
    ends_short = (borne start false Told Fails (λ calm. absurd (false≢true calm)) last fit x as_told short).0

    -- at its position
    place_short : sg.rst ≡ false → IsShort sg.position
    place_short living = ⊎_elim (λ stray. absurd (both_ways sg.rst living stray.reset)) (λ low. low) s.spoken.tells.position

    low_so : (MoreX telling.own.path telling.own.from → ⊥) → MoreS telling.own.path → telling.at + seen.payload_len < 2 ^ 31
    low_so straight begun = by s.spoken.tells.position ends_short
      where
        by : IsStray sg.rst sg.acknowledged sg.position ⊎ IsShort sg.position → (length sg.payload ≡ 0) ⊎ (sg.position + length sg.payload < 2 ^ 31) → telling.at + seen.payload_len < 2 ^ 31
        by (inl stray) bears = absurd (straight (inr (begun, (sym path_so, sym from_so, stray.reset))))
        by (inr low) (inl none) = let at = at_so in let len = len_so in omega (arith, at, len, low, none)
        by (inr low) (inr low_end) = let at = at_so in let len = len_so in omega (arith, at, len, low_end)

    maps_short : list_any is_mapping sg.options ≡ true → IsShort sg.position
    maps_short maps = place_short (s.also.says (or_right (has_octets sg.payload) (list_any is_mapping sg.options) maps))

    -- what this one tells is on its own path
    apart_so : list_any maps_octets sg.options ≡ true → IsAway (IsLine MoreG) x.path x.from → ⊥
    apart_so maps away =
        ⊎_elim (λ was. s.also.apart maps (away.0, away.1, away.2, (away.3.0, was))) (λ now. away.2 (sym now.0)) away.3.1

    lines_so : All (LinedAt MoreG x.path s.plan x.from telling.at) telling.own.values
    lines_so =
        subst (λ (q : ℕ). All (LinedAt MoreG x.path s.plan x.from q) telling.own.values) (sym at_so)
        (subst (All (LinedAt MoreG x.path s.plan x.from sg.position)) (sym values_so)
        (all_lined MoreG x.path s.plan x.from (own_key (drawn start) (peer x.from)) sg.position (length sg.payload) ends_short sg.options s.spoken.placed.options s.also.tells.0 s.spoken.tells.options maps_short
        (λ tells. inr (refl, refl, tells)) apart_so))

    within_so : (seen.payload_len ≡ 0) ⊎ (telling.at + seen.payload_len ≤ suc (upto_in x.path x.from))
    within_so = by s.also.tells.1
      where
        by : Carries (Bearing start last x.path) x.from sg → (seen.payload_len ≡ 0) ⊎ (telling.at + seen.payload_len ≤ suc (upto_in x.path x.from))
        by (inl none) = inl (len_so ∙ ap (λ (xs : List ℕ). length xs) none)
        by (inr is) = let at = at_so in let len = len_so in let within = is.1 in inr (omega (arith, at, len, within))

    lined_seen : LinedSeen MoreS MoreX MoreG seen
    lined_seen = record {
      telling = telling;
      low = low_so;
      lines = subst (λ (n : ℕ). All (OptionLined (file_len start telling.own.from) (few start last fit telling.own.from) (content start telling.own.from) (first_number (own_key (drawn start) telling.own.from))
          (where_in last n telling.own.from) (upto_in n telling.own.from) (EndIn n telling.own.from) (IsLine MoreG n telling.own.from) (IsAway (IsLine MoreG) n telling.own.from) telling.at) telling.own.values) (sym path_so)
          (subst (λ (t : Side). All (OptionLined (file_len start t) (few start last fit t) (content start t) (first_number (own_key (drawn start) t))
          (where_in last x.path t) (upto_in x.path t) (EndIn x.path t) (IsLine MoreG x.path t) (IsAway (IsLine MoreG) x.path t) telling.at) telling.own.values) (sym from_so) lines_so);
      within = subst (λ (n : ℕ). (seen.payload_len ≡ 0) ⊎ (telling.at + seen.payload_len ≤ suc (upto_in n telling.own.from))) (sym path_so)
          (subst (λ (t : Side). (seen.payload_len ≡ 0) ⊎ (telling.at + seen.payload_len ≤ suc (upto_in x.path t))) (sym from_so) within_so);
      end = λ fin. subst (λ (n : ℕ). EndIn n telling.own.from (telling.at + seen.payload_len)) (sym path_so)
          (subst (λ (t : Side). EndIn x.path t (telling.at + seen.payload_len)) (sym from_so)
          (subst (λ (q : ℕ). EndIn x.path x.from q) (let at = at_so in let len = len_so in let same : sg.position + length sg.payload ≡ telling.at + seen.payload_len = omega (arith, at, len) in same)
          (s.also.fin (sym fin_so ∙ fin)).1));
      inside = inside_so telling.own.path telling.own.from;
      whole = refl;
      plain = plain_by sg.rst refl;
    }
      where
        no_fin : (b : Bool) → sg.fin ≡ b → sg.rst ≡ true → b ≡ false
        no_fin false e reset = refl
        no_fin true e reset = absurd (both_ways sg.rst (s.also.fin e).0 reset)

        no_maps : (b : Bool) → list_any is_mapping sg.options ≡ b → sg.rst ≡ true → b ≡ false
        no_maps false e reset = refl
        no_maps true e reset = absurd (both_ways sg.rst (s.also.says (or_right (has_octets sg.payload) (list_any is_mapping sg.options) e)) reset)

        plain_by : (b : Bool) → sg.rst ≡ b
            → (MoreX telling.own.path telling.own.from → ⊥) ⊎ ((seen.segment.head.rst ≡ true) × (seen.segment.head.fin ≡ false) × All OffersNone telling.own.values)
        plain_by false living =
            inl (λ fell. ⊎_elim (λ was. s.also.living living (subst (λ (t : Side). X x.path t) from_so (subst (λ (n : ℕ). X n telling.own.from) path_so was)))
            (λ now. both_ways sg.rst living now.1.2) fell)
        plain_by true reset = inr (
          rst_so ∙ reset,
          fin_so ∙ no_fin sg.fin refl reset,
          subst (All OffersNone) (sym values_so) (none_all MoreG x.path s.plan x.from sg.options (no_maps (list_any is_mapping sg.options) refl reset)),
        )

    -- ---- what it leaves

    module _ (agree : AgreeOn (Told last)) (at : Option Side) (n : ℕ) (state : JudgedValue) (h : LinesAt U T S X G state) where
      abbrev V : Type 0
      V = Says start A IsAlone x s.segment

      abbrev W : Type 0
      W = Says start B IsAnswer x s.segment

      abbrev next : JudgedValue
      next = judged at true state n seen

      is_behind : IsBehind U T V W (drawn start) seen telling.own
      is_behind =
          behind_for U T V W (drawn start) seen (is_own (ComesBehind U T) start x as_coming short) telling.own
          (path_so ∙ sym (path_is (ComesBehind U T) start x as_coming short)) (from_so ∙ sym (from_is (ComesBehind U T) start x as_coming short)) (behind U T start x as_coming short)

      some_map : {Y : Type 0} (P R : Y → Type 0) (o : Option Y) → ((y : Y) → P y → R y) → IfSome o P → IfSome o R
      some_map P R None f h = tt
      some_map P R (Some y) f h = f y h

      only : seen.segment.head.syn ≡ true → IfSome (Asked seen) (λ o. IsCapable o → telling.own.path ≡ 0)
      only syn =
          some_map (λ o. IsCapable o → (is_own (ComesBehind U T) start x as_coming short).path ≡ 0) (λ o. IsCapable o → telling.own.path ≡ 0) (Asked seen)
          (λ o f capable. path_so ∙ sym (path_is (ComesBehind U T) start x as_coming short) ∙ f capable) (asks_only U T start x as_coming short syn)

      ready : AllLined MoreS MoreX MoreG state
      ready =
          later_holds (drawn start) (file_len start) (few start last fit) (content start) (where_in last) upto_in EndIn (IsLine G) (IsLine MoreG)
          (λ path t line is. (is.0, inl is.1)) S MoreS (λ n t. X n t → ⊥) (λ n t. MoreX n t → ⊥) (λ path t still was. still (inl was)) state h.hold

      only_now : Each (OpensBy MoreS) (taken state.seen n seen true).now.flows
      only_now =
          opens_only (drawn start) U T V W state.seen n seen telling.own is_behind h.tokens.seen h.tokens.one S MoreS (λ n was. inl was)
          (λ of_b syn. inr (sym path_so, sym from_so ∙ of_b, sym syn_so ∙ syn)) h.only

      counted : AreCounted next × (next.seen.flows ≡ (taken state.seen n seen true).now.flows)
      counted = judged_counted (drawn start) U T V W state n seen telling.own is_behind h.tokens.seen at h.counts

      now_one : OneHolds (drawn start) (taken state.seen n seen true).now
      now_one = taken_one (drawn start) U T V W state.seen n seen telling.own is_behind h.tokens.seen h.tokens.one only

      of_a : OfA (taken state.seen n seen (seen.has_good_sum || false)).now.flows
      of_a =
          subst (λ (b : Bool). OfA (taken state.seen n seen b).now.flows) (sym (ap (λ (b : Bool). b || false) telling.own.good))
          (λ i flow there. ((taken_so (drawn start) state.seen n seen telling.own h.tokens.seen.own).flows i flow there).1.belongs)

      knows : (wrong : Option WrongToken) → AllLined MoreS MoreX MoreG (with_wrong_token wrong (grown (taken state.seen n seen true).now state))
          → (path : ℕ) → AreKnown (drawn start) (OpensBy MoreS) (LinedSeen MoreS MoreX MoreG) (LinedBook MoreS MoreX MoreG) (LinedLanes MoreS MoreX MoreG)
          (FlowKnown (drawn start) (file_len start) (few start last fit) (content start) (where_in last) upto_in EndIn (IsLine MoreG)) path
          (with_wrong_token wrong (grown (taken state.seen n seen true).now state))
      knows wrong held path =
          let told = with_wrong_token wrong (grown (taken state.seen n seen true).now state) in
          known_so MoreS MoreX MoreG path told held (wrong_links at n seen wrong (grown (taken state.seen n seen true).now state) (grown_links at n seen (taken state.seen n seen true).now state h.linked))
          (subst (λ (f : SeenFlows). OneEach f.flows) (sym (wrong_seen wrong (grown (taken state.seen n seen true).now state))) now_one.alone)

      pub lines_next : LinesAt (U ⊎ V) (T ⊎ W) MoreS MoreX MoreG next
      lines_next = record {
        tokens = tokens_so (drawn start) BookUntold (tell (drawn start)) at n seen telling.own U T V W is_behind only state h.tokens;
        counts = counted.0;
        only = subst (Each (OpensBy MoreS)) (sym counted.1) only_now;
        hold = segment_so (drawn start) (OpensBy MoreS) (LinedSeen MoreS MoreX MoreG) (LinedBook MoreS MoreX MoreG) (LinedLanes MoreS MoreX MoreG)
            (keep (drawn start) (file_len start) (few start last fit) (content start) (where_in last) upto_in EndIn (IsLine MoreG) MoreS (λ n t. MoreX n t → ⊥) (all_agree MoreG agree)) at n seen lined_seen state
            (λ more. new_lined (drawn start) (file_len start) (few start last fit) (content start) (where_in last) upto_in EndIn (IsLine MoreG) MoreS (λ n t. MoreX n t → ⊥)) only_now ready knows;
        linked = judged_linked at n seen state of_a h.linked;
      }

  pub begins : LinesAt ⊥ ⊥ (λ n. ⊥) (λ n t. ⊥) (λ n t. ⊥) nothing_judged
  begins = record {
    tokens = record { seen = nothing_holds (drawn start); one = nothing_one (drawn start); books = λ i book at. absurd (none i at) };
    counts = record { sizes = record { known = λ no. absurd no; belongs = λ i f at. absurd (none i at) }; books = refl; lanes = refl };
    only = λ i f at. absurd (none i at);
    hold = record { seen = (nothing_holds (drawn start)).own; books = λ i book at. absurd (none i at); lanes = λ i lanes at. absurd (none i at) };
    linked = λ i book at s. absurd (none i at);
  }
    where
      none : {Y : Type 0} {y : Y} → (i : ℕ) → slice_get [] i ≡ Some y → ⊥
      none i e = cc
