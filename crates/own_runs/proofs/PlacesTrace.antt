-- In the capture of a run, whatever its script does, each position of a subflow has one place, and each checksum is right.
use Rattle.std.proofs.Common.{◌≡◌, refl, sym, ap, ◌∙◌, subst, ℕ, suc, ◌+◌, ◌%◌, ◌^◌, ◌<◌, ◌≤◌, ◌⊎◌, inl, inr, Bool, true, false, Some, None, Option, Ok, Result, List, [], ◌∷◌, length, map, arith}
use Rattle.std.specs.Prelude.{All, IfSome}
use Rattle.std.proofs.lemmas.Bool.{false≢true}
use Rattle.std.proofs.lemmas.List.Elements.{All-cons, All-head, All-nil, All-tail}
use Rattle.capture_reader.specs.Captured.{Captured}
use Rattle.capture_reader.specs.Seen.{Seen}
use Rattle.capture_reader.specs.Steps.{◌>>=◌}
use Rattle.capture_verdict.specs.Judging.{judged_capture, judged_packets}
use Rattle.judge_laws.specs.GoesOn.{broke, stream_in}
use Rattle.judge_rules.specs.Numbers.{first_number}
use Rattle.judge_rules.specs.declared.finding.Rule.{Rule}
use Rattle.link_trace.specs.declared.sent.Sent.{Sent}
use Rattle.mptcp_options.specs.Value.{OptionValue}
use Rattle.mptcp_options.specs.declared.capable.CapableKeys.TheVariants.{Both, NoKey, Sender, WithData}
use Rattle.path_segments.specs.Options.{PlainOption, said_option}
use Rattle.path_segments.specs.declared.segment.PathMapping.TheVariants.{Bytes, End, Infinite}
use Rattle.path_segments.specs.declared.segment.PathOption.TheVariants.{Capable, Dss, Fail}
use Rattle.path_segments.specs.declared.spelling.Spelling.{Spelling}
use Rattle.rule_book.specs.Judged.{nothing_judged}
use Rattle.rule_book.specs.State.{JudgedValue}
use Rattle.run_trace.specs.Trace.{trace_of}
use Rattle.seen_streams.specs.State.{StreamValue}
use Rattle.sides.specs.Side.{peer}
use Rattle.sides.specs.declared.side.Side.{Side}
use Rattle.stream_lanes.specs.Duo.{Duo}
use Rattle.stream_lanes.specs.Words.{Every}
use Rattle.world_laws.proofs.Numbers.TellSmall.{OptionTells as IsSmall}
use Rattle.world_laws.specs.Openings.{PathPlan, Start, opened_world, path_begins}
use Rattle.world_laws.specs.Promises.{HasRoom, NumbersFit}
use Rattle.world_laws.specs.Worlds.{Turn}
use Rattle.own_runs.specs.Fitting.{RunFits}
use Rattle.own_runs.specs.Runs.{NoPlainRunBreaks, NoRunBreaks, capture_of}
use Rattle.own_runs.specs.Traces.{FitsCapture, packet_for}
use Rattle.own_runs.proofs.Bearing.{Carries}
use Rattle.own_runs.proofs.EndMaps.{LineAt}
use Rattle.own_runs.proofs.FineMoments.{IsMapped, content, file_len, lane_of, place_at}
use Rattle.own_runs.proofs.FinePositions.{TellsNoFail}
use Rattle.own_runs.proofs.Fitting.{traces_fit}
use Rattle.own_runs.proofs.Kept.{all_on, same_judged}
use Rattle.own_runs.proofs.LanePlaces.{OptionTells, is_place}
use Rattle.own_runs.proofs.MapPositions.{Bears}
use Rattle.own_runs.proofs.MapTrace.{borne_so, few, well_so, where_in}
use Rattle.own_runs.proofs.Moments.{IsSpoken, trace_spoken}
use Rattle.own_runs.proofs.Numbered.{number_so}
use Rattle.own_runs.proofs.Offering.{AllFine, OptionFine}
use Rattle.own_runs.proofs.Own.{IsOwn, own_initial, own_key}
use Rattle.own_runs.proofs.OwnTrace.{found, from_is, is_own, path_is, payload_same, seen_of, seq_is, values_are}
use Rattle.own_runs.proofs.Placing.{PlacedIn}
use Rattle.own_runs.proofs.PlacesKept.{IsTelling, TellingPacket, stream_placed}
use Rattle.own_runs.proofs.TellsPlaces.{AnyLine, Bearing, RunTells, Tells, plain_tells, run_tells}
use Rattle.own_runs.proofs.Traces.{traces_are}
use Rattle.own_runs.proofs.Values.{drawn}

-- ---- an option as it is written, in a segment at its position

module _ (start : Start) (Told : Duo → ℕ → Side → ℕ → ℕ → Type 0) (Fails : Type 0) (last : Duo) (path : ℕ) (plan : PathPlan) (s : Side) where
  abbrev spelling : Spelling
  spelling = (path_begins start path plan).profile.spelling

  abbrev Well : ℕ → OptionValue → Type 0
  Well p option = OptionTells (first_number (own_key (drawn start) s)) (file_len start s) (content start s) (where_in last path s) p option

  module _ (key at octets p : ℕ) (same : p % 2 ^ 32 ≡ at % 2 ^ 32) (short : (octets ≡ 0) ⊎ (at + octets < 2 ^ 31)) where
    tells_so : (o : PlainOption) → PlacedIn key at octets o → OptionFine (file_len start) (IsMapped start last path) (LineAt start Told last path) Fails s o → IsSmall (path_begins start path plan).profile s o
        → Well p (said_option spelling s o)
    tells_so (Dss next None) placed is small = tt
    tells_so (Dss next (Some (Bytes place from len fin checksum))) placed is small =
        inl (well_so start last path plan s key at octets p same short (Dss next (Some (Bytes place from len fin checksum))) placed is)
    tells_so (Dss next (Some (End place checksum))) placed is small = inl (well_so start last path plan s key at octets p same short (Dss next (Some (End place checksum))) placed is)
    tells_so (Dss next (Some (Infinite place from))) placed is small =
        inr (record { place = place; number = number_so start path plan s place; small = small.short.1.0; none = refl })
    tells_so (Capable flag_a flag_c (WithData sender receiver len checksum)) placed is small =
        inl (well_so start last path plan s key at octets p same short (Capable flag_a flag_c (WithData sender receiver len checksum)) placed is)
    tells_so (Capable flag_a flag_c NoKey) placed is small = tt
    tells_so (Capable flag_a flag_c (Sender sender)) placed is small = tt
    tells_so (Capable flag_a flag_c (Both sender receiver)) placed is small = tt
    tells_so _ placed is small = tt

    all_tell : (options : List PlainOption) → Every (PlacedIn key at octets) options → AllFine (file_len start) (IsMapped start last path) (LineAt start Told last path) Fails s options
        → All (IsSmall (path_begins start path plan).profile s) options → All (Well p) (map (said_option spelling s) options)
    all_tell [] placed each small = All-nil (Well p)
    all_tell (o ∷ options) placed each small =
        All-cons (Well p) (said_option spelling s o) (map (said_option spelling s) options)
        (tells_so o (placed.each 0 o refl) (each.each 0 o refl) (All-head (IsSmall (path_begins start path plan).profile s) o options small))
        (all_tell options (record { each = λ i y at_y. placed.each (suc i) y at_y }) (record { each = λ i y at_y. each.each (suc i) y at_y })
        (All-tail (IsSmall (path_begins start path plan).profile s) o options small))

  -- where MP_FAIL may not be told
  module _ (never : Fails → ⊥) where
    calm_so : (o : PlainOption) → OptionFine (file_len start) (IsMapped start last path) (LineAt start Told last path) Fails s o → TellsNoFail (said_option spelling s o)
    calm_so (Fail place) is = never is
    calm_so (Capable flag_a flag_c keys) is = tt
    calm_so (Dss next mapping) is = tt
    calm_so _ is = tt

    calmly : (options : List PlainOption) → AllFine (file_len start) (IsMapped start last path) (LineAt start Told last path) Fails s options → All TellsNoFail (map (said_option spelling s) options)
    calmly [] each = All-nil TellsNoFail
    calmly (o ∷ options) each =
        All-cons TellsNoFail (said_option spelling s o) (map (said_option spelling s) options) (calm_so o (each.each 0 o refl))
        (calmly options (record { each = λ i y at. each.each (suc i) y at }))

-- ---- the capture

module _ (start : Start) (calm : Bool) (Told : Duo → ℕ → Side → ℕ → ℕ → Type 0) (Fails : Type 0) (never : calm ≡ true → Fails → ⊥) (last : Duo) (fit : NumbersFit start) where
  abbrev Good : Seen → Type 0
  Good seen = IsTelling calm (drawn start) (file_len start) (few start last fit) (content start) (where_in last) seen

  abbrev Fit : Captured → Type 0
  Fit packet = TellingPacket calm (drawn start) (file_len start) (few start last fit) (content start) (where_in last) packet

  module _ (x : Sent) (s : IsSpoken (Tells start Told Fails last) start x) (short : length x.octets ≤ 65515) where
    abbrev position : ℕ
    position = s.segment.position

    abbrev payload : List ℕ
    payload = s.segment.payload

    -- its payload, if it has one
    pub borne : ((length payload ≡ 0) ⊎ (position + length payload < 2 ^ 31)) × Bears (λ q. content start x.from (place_at (lane_of last x.path x.from) q)) position payload
    borne = by s.also.1
      where
        by : Carries (Bearing start last x.path) x.from s.segment
            → ((length payload ≡ 0) ⊎ (position + length payload < 2 ^ 31)) × Bears (λ q. content start x.from (place_at (lane_of last x.path x.from) q)) position payload
        by (inl none) = let empty : length payload ≡ 0 = ap (λ (xs : List ℕ). length xs) none in (inl empty, λ j below. absurd (omega (arith, empty, below)))
        by (inr is) = (inr is.0.0, is.0.1)

    abbrev pub own : IsOwn (drawn start) (seen_of (Tells start Told Fails last) start x s short)
    own = is_own (Tells start Told Fails last) start x s short

    pub good : Good (seen_of (Tells start Told Fails last) start x s short)
    good = record {
      own = own;
      at = position;
      seq = subst (λ (path : ℕ). Seq path own.from) (sym (path_is (Tells start Told Fails last) start x s short))
          (subst (Seq x.path) (sym (from_is (Tells start Told Fails last) start x s short)) (seq_is (Tells start Told Fails last) start x s short));
      none = λ is. subst (λ (values : List OptionValue). All TellsNoFail values) (sym (values_are (Tells start Told Fails last) start x s short))
          (calmly start Told Fails last x.path s.plan x.from (never is) s.segment.options s.also.0);
      bears = λ p same. subst (λ (path : ℕ). Holds p path own.from) (sym (path_is (Tells start Told Fails last) start x s short))
          (subst (Holds p x.path) (sym (from_is (Tells start Told Fails last) start x s short))
          (subst (λ (octets : List ℕ). Bears (λ q. content start x.from (where_in last x.path x.from q)) p octets) (sym (payload_same (Tells start Told Fails last) start x s short))
          (borne_so start last x.path s.plan x.from (own_key (drawn start) (peer x.from)) position (length payload) p same borne.0 payload refl borne.1)));
      offers = λ p same. subst (λ (path : ℕ). Wells p path own.from own.values) (sym (path_is (Tells start Told Fails last) start x s short))
          (subst (λ (t : Side). Wells p x.path t own.values) (sym (from_is (Tells start Told Fails last) start x s short))
          (subst (Wells p x.path x.from) (sym (values_are (Tells start Told Fails last) start x s short))
          (all_tell start Told Fails last x.path s.plan x.from (own_key (drawn start) (peer x.from)) position (length payload) p same borne.0 s.segment.options s.spoken.placed.options s.also.0 s.spoken.tells.options)));
    }
      where
        Seq : ℕ → Side → Type 0
        Seq = λ path from. (seen_of (Tells start Told Fails last) start x s short).segment.head.seq ≡ (own_initial (drawn start) path from + position) % 2 ^ 32

        Holds : ℕ → ℕ → Side → Type 0
        Holds = λ p path from. Bears (λ q. content start from (where_in last path from q)) p (seen_of (Tells start Told Fails last) start x s short).segment.payload

        Wells : ℕ → ℕ → Side → List OptionValue → Type 0
        Wells = λ p path from values. All (OptionTells (first_number (own_key (drawn start) from)) (file_len start from) (content start from) (where_in last path from) p) values

    -- by its path, its sender, its position and its options
    pub good_path : good.own.path ≡ x.path
    unfolding good
    good_path = path_is (Tells start Told Fails last) start x s short

    pub good_from : good.own.from ≡ x.from
    unfolding good
    good_from = from_is (Tells start Told Fails last) start x s short

    pub good_at : good.at ≡ s.segment.position
    unfolding good
    good_at = refl

    pub good_values : good.own.values ≡ map (said_option (path_begins start x.path s.plan).profile.spelling x.from) s.segment.options
    unfolding good
    good_values = values_are (Tells start Told Fails last) start x s short

    packet_good : Fit (packet_for x)
    packet_good = subst (λ (o : Option Seen). IfSome o Good) (sym (found (Tells start Told Fails last) start x s short)) good

  all_good : (trace : List Sent) → Every (IsSpoken (Tells start Told Fails last) start) trace → All FitsCapture trace → All Fit (map packet_for trace)
  all_good [] each room = All-nil Fit
  all_good (x ∷ trace) each room =
      All-cons Fit (packet_for x) (map packet_for trace) (packet_good x (each.each 0 x refl) (All-head FitsCapture x trace room).octets)
      (all_good trace (record { each = λ i y at. each.each (suc i) y at }) (All-tail FitsCapture x trace room))

-- ---- a run

module _ (start : Start) (turns : List Turn) (calm : Bool) (Told : Duo → ℕ → Side → ℕ → ℕ → Type 0) (Fails : Type 0) (never : calm ≡ true → Fails → ⊥) (size : HasRoom start) (fit : NumbersFit start) (run : RunFits start turns)
    (told : RunTells start Told Fails turns) where
  abbrev trace : List Sent
  trace = trace_of turns (opened_world start)

  breaks_none : (r : Rule) → is_place calm r ≡ true → (side : Side) (at : Option Side) (judged : JudgedValue) → judged_capture at true (capture_of start turns side) ≡ Ok judged
      → (connection : ℕ) (s : Side) (stream : StreamValue) → stream_in judged connection s ≡ Some stream → broke r stream ≡ false
  breaks_none r is side at judged read connection s stream there =
      let room = traces_fit start turns size fit run in
      let spoken = trace_spoken (Tells start Told Fails told.0) start turns size fit told.1 in
      let packets = map packet_for trace in
      let few_paths = fit.paths in
      let all = traces_are side (length start.paths) trace (omega (arith, few_paths)) (all_on (Tells start Told Fails told.0) start trace spoken) room in
      let same : judged_packets at true nothing_judged 1 packets ≡ judged =
      same_judged (judged_packets at true nothing_judged 1 packets) judged
      (sym (ap (λ (m : Result (List Captured) ℕ). m >>= λ packets. Ok (judged_packets at true nothing_judged 1 packets)) all) ∙ read) in
      (stream_placed calm (drawn start) (file_len start) (few start told.0 fit) (content start) (where_in told.0) at packets (all_good start calm Told Fails never told.0 fit trace spoken room) connection s stream
      (ap (λ (j : JudgedValue). stream_in j connection s) same ∙ there)).untold r is

-- whatever its script does
pub no_run_breaks : (r : Rule) → is_place false r ≡ true → NoRunBreaks r
no_run_breaks r is start turns size fit run = breaks_none start turns false AnyLine (Unit {0}) (λ calm. absurd (false≢true calm)) size fit run (run_tells start turns size fit) r is

-- where it alters no payload
pub no_plain_run_breaks : (r : Rule) → is_place true r ≡ true → NoPlainRunBreaks r
no_plain_run_breaks r is start turns plain fit run = breaks_none start turns true AnyLine ⊥ (λ calm never. never) plain.size fit run (plain_tells start turns plain fit) r is
