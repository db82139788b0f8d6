-- Behind each segment of a whole run's capture: the flows of paths whose SYN was answered are open, what was shown was seen, and no Data ACK was of more.
use Rattle.std.proofs.Common.{◌≡◌, refl, sym, ap, ◌∙◌, subst, ℕ, zero, suc, ◌+◌, ◌-◌, ◌%◌, ◌^◌, ◌<◌, ◌≤◌, ◌⊎◌, inl, inr, ⊎_elim, ◌||◌, not, nat_lt, Bool, true, false, if◌then◌else◌, Option, Some, None, is_some, List, [], ◌∷◌, length, map, arith}
use Rattle.std.specs.Prelude.{All, IfSome}
use Rattle.std.specs.List.{list_any, slice_get}
use Rattle.std.specs.Option.{option_map, option_or, unwrap_or}
use Rattle.std.proofs.lemmas.Option.{slice_get_within}
use Rattle.key_material.specs.JoinHmac.{join_b64_of}
use Rattle.key_material.specs.KeyDigest.{token_of}
use Rattle.path_segments.specs.Spelling.{subflow_number}
use Rattle.std.proofs.lemmas.Bool.{cases_lt, eqb-true, false≢true, lt-ltb, ltb-true, or_cases, or_left, or_right}
use Rattle.std.proofs.lemmas.List.Elements.{All-cons, All-head, All-nil}
use Rattle.capture_reader.specs.Seen.{Seen}
use Rattle.judge_laws.proofs.Flows.{KeysGo, keys_same, put_go, taken_keys}
use Rattle.judge_laws.proofs.Steps.{books_go}
use Rattle.judge_laws.proofs.Standing.{some_same}
use Rattle.judge_laws.specs.GoesOn.{stream_in}
use Rattle.judge_rules.specs.Numbers.{first_number}
use Rattle.link_trace.specs.declared.sent.Sent.{Sent}
use Rattle.mptcp_options.proofs.OptionLaws.{read_again}
use Rattle.mptcp_options.specs.Text.{Fits}
use Rattle.mptcp_options.specs.Value as wire
use Rattle.mptcp_options.specs.Value.{OptionValue}
use Rattle.mptcp_options.specs.declared.capable.CapableKeys.TheVariants.{Both, NoKey, Sender, WithData}
use Rattle.mptcp_options.specs.declared.join.JoinForm.TheVariants as form
use Rattle.path_core.specs.End.{PathEnd}
use Rattle.path_core.specs.MpJoin.{is_joined, join_options, peer_key_of}
use Rattle.path_core.specs.OptionsOut.{capable_options}
use Rattle.path_core.specs.Profile.{Profile}
use Rattle.path_segments.specs.Options.{PlainOption, said_option}
use Rattle.path_segments.specs.Spelled.{PlainSegment}
use Rattle.path_segments.specs.declared.segment.PathMapping.TheVariants.{Bytes, End, Infinite}
use Rattle.path_segments.specs.declared.segment.PathOption.TheVariants.{Capable, Dss, Fail, Join}
use Rattle.rule_book.specs.Judged.{grown, judged, judged_belonging, judged_flow, judged_in_flow, judged_known, judged_place, with_wrong_token}
use Rattle.rule_book.specs.State.{BookValue, JudgedValue, LanesValue, stream_at}
use Rattle.seen_connections.specs.Asked.{answered_by, asked_by, first_answer, first_asked}
use Rattle.seen_connections.specs.Connections.{SeenFlows, taken}
use Rattle.seen_connections.specs.declared.connections.Keys.{Keys}
use Rattle.seen_connections.specs.declared.connections.Place.{Place}
use Rattle.seen_connections.specs.declared.flow.Belongs.{Belongs}
use Rattle.seen_connections.specs.declared.flow.Flow.{Flow}
use Rattle.seen_connections.specs.declared.flow.Opening.TheVariants as opening
use Rattle.seen_connections.specs.declared.flow.Opening.{Opening}
use Rattle.seen_streams.specs.State.{StreamValue}
use Rattle.segment_wire.specs.Options.{option_octets}
use Rattle.segment_wire.specs.declared.head.Head.{Head}
use Rattle.sides.specs.Side.{peer}
use Rattle.sides.specs.declared.side.Side.TheVariants.{A, B}
use Rattle.sides.specs.declared.side.Side.{Side}
use Rattle.stream_lanes.specs.Duo.{Duo}
use Rattle.stream_lanes.specs.Words.{Every}
use Rattle.world_laws.specs.Openings.{Start, path_begins}
use Rattle.world_laws.specs.Promises.{NumbersFit}
use Rattle.path_segments.specs.Spelling.{data_number}
use Rattle.world_laws.proofs.Numbers.TellSmall.{IsShort, IsStray}
use Rattle.own_runs.specs.KeysShown.{maps_key, shows_keys}
use Rattle.own_runs.proofs.AckPositions.{EndsIn}
use Rattle.own_runs.proofs.FinePositions.{NumberIs}
use Rattle.own_runs.proofs.EndRuns.{TellsEnd}
use Rattle.own_runs.proofs.FineMoments.{IsMapped, Offered, content, file_len}
use Rattle.own_runs.proofs.InTime.{AnswersPath, InTime, OpensPath, ResetsPath, SynsPath, TellsKey, has_octets, is_bearing, tells_end}
use Rattle.own_runs.proofs.JudgedHere.{IsJudged, fin_here, is_judged, item_of, key_here, key_of_a, seen_here}
use Rattle.own_runs.proofs.KeptCovers.{maps_first, shows_both}
use Rattle.own_runs.proofs.LateJoins.{ComesBehind, Says}
use Rattle.own_runs.proofs.Learning.{IsAlone, IsAnswer}
use Rattle.own_runs.proofs.MapKept.{AckSays, BookGood, IsFine, IsGood, LanesFine, keep, later_holds, new_good}
use Rattle.own_runs.proofs.MapTrace.{borne, few, good, good_at, good_from, good_path, good_values, where_in}
use Rattle.own_runs.proofs.Moments.{IsSpoken}
use Rattle.own_runs.proofs.Numbered.{number_so}
use Rattle.own_runs.proofs.Offering.{AllFine, NoLines, OptionFine}
use Rattle.own_runs.proofs.OneConnection.{OneHolds, taken_one}
use Rattle.own_runs.proofs.OpenCounts.{AreCounted, judged_counted, wrong_seen}
use Rattle.own_runs.proofs.OpenFlows.{HasFlow, IsOpenOn, OpenBelongs, OpensBy, answers_flow, opens_belong, opens_flow, opens_only, stays, stays_open, which_some}
use Rattle.own_runs.proofs.Own.{Drawn, IsOwn, own_initial, own_key}
use Rattle.own_runs.proofs.OwnFlows.{Each}
use Rattle.own_runs.proofs.OwnPackets.{AllHold, NewBook, segment_so}
use Rattle.own_runs.proofs.OwnTrace.{answer_are, asked_are, fits, heads_are, is_own, from_is, number, path_is, payload_same, seen_of, texts}
use Rattle.own_runs.proofs.OwnUntold.{BookUntold, tell}
use Rattle.own_runs.proofs.ShownAcks.{IsShown}
use Rattle.own_runs.proofs.ShownSeen.{ShowsAt, ends_here, ends_seen, shows_seen, value_ends}
use Rattle.own_runs.proofs.TokenPackets.{AllHold as TokensHeld, segment_so as tokens_so}
use Rattle.own_runs.proofs.TokenSegments.{Asked, IsBehind, IsCapable, asks_only, behind}
use Rattle.own_runs.proofs.Values.{drawn}

-- ---- facts of one segment, by another way to say whose it is

pub behind_for : (U T V W : Type 0) (d : Drawn) (seen : Seen) (own other : IsOwn d seen) → other.path ≡ own.path → other.from ≡ own.from → IsBehind U T V W d seen own → IsBehind U T V W d seen other
behind_for U T V W d seen own other path from h = record {
  acks = λ of_b syn. h.acks (sym from ∙ of_b) syn;
  late = h.late;
  first = λ at syn. h.first (sym path ∙ at) syn;
  opens = λ v. let o = h.opens v in record { path = path ∙ o.path; from = from ∙ o.from; syn = o.syn; ack = o.ack; rst = o.rst; asks = o.asks };
  shows = λ w. let o = h.shows w in (record { path = path ∙ o.0.path; from = from ∙ o.0.from; syn = o.0.syn; ack = o.0.ack; number = o.0.number; answers = o.0.answers }, o.1);
}

-- the keys that are known behind a segment
module _ (at : Option Side) (packet : ℕ) (seen : Seen) where
  known_keys : (index : ℕ) (flow : Flow) (belongs : Belongs) (keys : Option Keys) (book : Option BookValue) (lanes : Option LanesValue) (state : JudgedValue)
      → slice_get state.seen.connections belongs.connection ≡ keys → KeysGo state.seen.connections (judged_known at packet seen index flow belongs keys book lanes state).seen.connections
  known_keys index flow belongs (Some keys) (Some book) (Some lanes) state there =
      put_go belongs.connection keys (judged_flow at packet seen index flow belongs keys (record { book = book; lanes = lanes })).keys.a state.seen there
  known_keys index flow belongs (Some keys) (Some book) None state there = keys_same state.seen.connections
  known_keys index flow belongs (Some keys) None lanes state there = keys_same state.seen.connections
  known_keys index flow belongs None book lanes state there = keys_same state.seen.connections

  belonging_keys : (index : ℕ) (flow : Flow) (belongs : Option Belongs) (state : JudgedValue)
      → KeysGo state.seen.connections (judged_belonging at packet seen index flow belongs state).seen.connections
  belonging_keys index flow None state = keys_same state.seen.connections
  belonging_keys index flow (Some belongs) state =
      known_keys index flow belongs (slice_get state.seen.connections belongs.connection) (slice_get state.books belongs.connection) (slice_get state.lanes index) state refl

  in_flow_keys : (index : ℕ) (flow : Option Flow) (state : JudgedValue) → KeysGo state.seen.connections (judged_in_flow at packet seen index flow state).seen.connections
  in_flow_keys index None state = keys_same state.seen.connections
  in_flow_keys index (Some flow) state = belonging_keys index flow flow.belongs state

  place_keys : (place : Option Place) (state : JudgedValue) → KeysGo state.seen.connections (judged_place at packet seen place state).seen.connections
  place_keys None state = keys_same state.seen.connections
  place_keys (Some place) state =
      let told = with_wrong_token place.wrong_token state in
      subst (λ (x : SeenFlows). KeysGo x.connections (judged_place at packet seen (Some place) state).seen.connections) (wrong_seen place.wrong_token state)
      (in_flow_keys place.flow (slice_get told.seen.flows place.flow) told)

  judged_keys : (state : JudgedValue) → KeysGo state.seen.connections (judged at true state packet seen).seen.connections
  judged_keys state c keys there =
      let it = taken state.seen packet seen (seen.has_good_sum || not true) in
      let one = taken_keys state.seen packet seen (seen.has_good_sum || not true) c keys there in
      let other = place_keys it.place (grown it.now state) c one.0 one.1 in
      (other.0, other.1, λ side key is. other.2 side key (one.2 side key is))

module _ (start : Start) (last : Duo) (fit : NumbersFit start) where
  abbrev d : Drawn
  d = drawn start

  abbrev first : Side → ℕ
  first s = first_number (own_key (drawn start) s)

  module _ (most : ℕ → Side → ℕ) (S : ℕ → Type 0) (X : ℕ → Side → Type 0) (Shown : Side → ℕ → Type 0) (Ended : Side → Type 0) where
    abbrev pub GoodSeen : Seen → Type 0
    GoodSeen seen = IsGood (drawn start) (file_len start) (few start last fit) (content start) (where_in last) most S (λ n s. X n s → ⊥) Shown Ended seen

    abbrev pub GoodBook : BookValue → Type 0
    GoodBook book = BookGood (drawn start) (file_len start) (few start last fit) (content start) (where_in last) most S (λ n s. X n s → ⊥) Shown Ended book

    abbrev pub GoodLanes : ℕ → LanesValue → Type 0
    GoodLanes path lanes = LanesFine (drawn start) (file_len start) (few start last fit) (content start) (where_in last) most S (λ n s. X n s → ⊥) Shown Ended path lanes

    abbrev pub AllGood : JudgedValue → Type 0
    AllGood state = AllHold (drawn start) (OpensBy S) GoodSeen GoodBook GoodLanes state

  -- what stands behind the segments so far
  pub record StandsAt (U T S : ℕ → Type 0) (K : Type 0) (X : ℕ → Side → Type 0) (most : ℕ → Side → ℕ) (Shown : Side → ℕ → Type 0) (Ended : Side → Type 0) (state : JudgedValue) : Type 0 where
    pub tokens : TokensHeld (drawn start) BookUntold (U 0) (T 0) state
    pub counts : AreCounted state
    pub each : Each OpenBelongs state.seen.flows
    pub flows : (n : ℕ) → U n → HasFlow n state.seen.flows
    pub opens : (n : ℕ) → T n → IsOpenOn n state.seen.flows
    pub only : Each (OpensBy S) state.seen.flows
    pub key : K → (keys : Keys) × (slice_get state.seen.connections 0 ≡ Some keys) × (is_some keys.a ≡ true)
    pub shown : (s : Side) (q : ℕ) → Shown s q → is_some (slice_get state.books 0) ≡ true
    pub ended : (s : Side) → Ended s → is_some (slice_get state.books 0) ≡ true
    pub hold : AllGood most S X Shown Ended state

  -- by what holds of the books
  shown_in : (most : ℕ → Side → ℕ) (S : ℕ → Type 0) (X : ℕ → Side → Type 0) (Shown : Side → ℕ → Type 0) (Ended : Side → Type 0) (state : JudgedValue) → AllGood most S X Shown Ended state
      → (t : Side) (stream : StreamValue) → stream_in state 0 t ≡ Some stream → ((q : ℕ) → Shown t q → stream.seen q ≡ true) × (Ended t → is_some stream.fin ≡ true)
  shown_in most S X Shown Ended state hold t stream there = by (slice_get state.books 0) refl there
    where
      by : (o : Option BookValue) → slice_get state.books 0 ≡ o → option_map (stream_at t) o ≡ Some stream → ((q : ℕ) → Shown t q → stream.seen q ≡ true) × (Ended t → is_some stream.fin ≡ true)
      by None e there = cc
      by (Some book) e there =
          let it = hold.books 0 book e t in
          let same = some_same (stream_at t book) stream there in
          (λ q shown. subst (λ (z : StreamValue). z.seen q ≡ true) same (it.seen q shown), λ ended. subst (λ (z : StreamValue). is_some z.fin ≡ true) same (it.fin ended))

  -- of the books there is at most one
  one_book : (state : JudgedValue) → AreCounted state → OneHolds (drawn start) state.seen → (i : ℕ) (book : BookValue) → slice_get state.books i ≡ Some book → i ≡ 0
  one_book state counts one i book there =
      let within = slice_get_within state.books i book there in
      let same = counts.books in
      let keys = item_of state.seen.connections i (omega (arith, within, same)) in
      one.few i keys.0 keys.1

  -- where more is wanted
  pub raised : (U T S : ℕ → Type 0) (K : Type 0) (X : ℕ → Side → Type 0) (most more : ℕ → Side → ℕ) (Shown : Side → ℕ → Type 0) (Ended : Side → Type 0) (state : JudgedValue)
      → ((path : ℕ) (t : Side) → most path t ≤ more path t) → StandsAt U T S K X most Shown Ended state → StandsAt U T S K X more Shown Ended state
  raised U T S K X most more Shown Ended state up h = record {
    tokens = h.tokens;
    counts = h.counts;
    each = h.each;
    flows = h.flows;
    opens = h.opens;
    only = h.only;
    key = h.key;
    shown = h.shown;
    ended = h.ended;
    hold = later_holds (drawn start) (file_len start) (few start last fit) (content start) (where_in last) most more S S (λ n t. X n t → ⊥) (λ n t. X n t → ⊥) Shown Shown Ended Ended
        up (λ path t still. still) state (shown_in most S X Shown Ended state h.hold) (one_book state h.counts h.tokens.one) h.hold;
  }

  -- where less is said
  pub narrowed : (U T S : ℕ → Type 0) (K : Type 0) (X : ℕ → Side → Type 0) (most : ℕ → Side → ℕ) (Shown Later : Side → ℕ → Type 0) (Ended Over : Side → Type 0) (state : JudgedValue)
      → ((t : Side) (q : ℕ) → Later t q → Shown t q) → ((t : Side) → Over t → Ended t) → StandsAt U T S K X most Shown Ended state → StandsAt U T S K X most Later Over state
  narrowed U T S K X most Shown Later Ended Over state shows ends h = record {
    tokens = h.tokens;
    counts = h.counts;
    each = h.each;
    flows = h.flows;
    opens = h.opens;
    only = h.only;
    key = h.key;
    shown = λ t q later. h.shown t q (shows t q later);
    ended = λ t over. h.ended t (ends t over);
    hold = later_holds (drawn start) (file_len start) (few start last fit) (content start) (where_in last) most most S S (λ n t. X n t → ⊥) (λ n t. X n t → ⊥) Shown Later Ended Over
        (λ path t. omega arith) (λ path t still. still) state
        (λ t stream there. let was = shown_in most S X Shown Ended state h.hold t stream there in (λ q later. was.0 q (shows t q later), λ over. was.1 (ends t over)))
        (one_book state h.counts h.tokens.one) h.hold;
  }

  -- a Data ACK of a segment, and what is said of it
  abbrev pub AckSaid : (ℕ → Side → ℕ) → (Side → ℕ → Type 0) → (Side → Type 0) → ℕ → Side → PlainOption → Type 0
  AckSaid most Shown Ended path s (Dss (Some next) mapping) =
      (next ≡ most path s) × ((q : ℕ) → q < next → Shown (peer s) q ⊎ ((q ≡ file_len start (peer s)) × Ended (peer s)))
  AckSaid most Shown Ended path s _ = Unit {0}

  -- all that is known of one
  pub record IsKnown (U T : ℕ → Type 0) (K : Type 0) (X : ℕ → Side → Type 0) (most : ℕ → Side → ℕ) (Shown : Side → ℕ → Type 0) (Ended : Side → Type 0) (path : ℕ) (s : Side) (sg : PlainSegment)
      : Type 0 where
    pub offered : Offered start last path s sg
    pub acks : Every (AckSaid most Shown Ended path s) sg.options
    pub comes : ComesBehind (U 0) (T 0) path s sg
    pub time : InTime U T K X path s sg

  low_len : (t : Side) → file_len start t < 2 ^ 31 - 2
  low_len A = fit.short_a
  low_len B = fit.short_b

  module _ (U T S : ℕ → Type 0) (K : Type 0) (X : ℕ → Side → Type 0) (most : ℕ → Side → ℕ) (Shown : Side → ℕ → Type 0) (Ended : Side → Type 0)
      (inside : (t : Side) (q : ℕ) → Shown t q → q < file_len start t) (x : Sent) (s : IsSpoken (IsKnown U T K X most Shown Ended) start x) (short : length x.octets ≤ 65515) where
    abbrev c : Profile
    c = (path_begins start x.path s.plan).profile

    abbrev sg : PlainSegment
    sg = s.segment

    -- what it adds
    abbrev pub SynOf : ℕ → Type 0
    SynOf = OpensPath x s.segment

    abbrev pub AnswerOf : ℕ → Type 0
    AnswerOf = AnswersPath x s.segment

    abbrev pub KeyOf : Type 0
    KeyOf = TellsKey x s.segment

    abbrev pub MoreS : ℕ → Type 0
    MoreS n = S n ⊎ SynsPath x s.segment n

    abbrev pub MoreX : ℕ → Side → Type 0
    MoreX n t = X n t ⊎ (MoreS n × ResetsPath x s.segment n t)

    abbrev pub as_offered : IsSpoken (Offered start last) start x
    as_offered = record { plan = s.plan; there = s.there; segment = s.segment; end = s.end; octets = s.octets; spoken = s.spoken; also = s.also.offered }

    abbrev as_coming : IsSpoken (ComesBehind (U 0) (T 0)) start x
    as_coming = record { plan = s.plan; there = s.there; segment = s.segment; end = s.end; octets = s.octets; spoken = s.spoken; also = s.also.comes }

    abbrev pub seen : Seen
    seen = seen_of (Offered start last) start x as_offered short

    abbrev pub fine : IsFine (drawn start) (file_len start) (few start last fit) (content start) (where_in last) seen
    fine = good start last fit x as_offered short

    abbrev own : IsOwn (drawn start) seen
    own = (good start last fit x as_offered short).own

    path_so : (good start last fit x as_offered short).own.path ≡ x.path
    path_so = good_path start last fit x as_offered short

    from_so : (good start last fit x as_offered short).own.from ≡ x.from
    from_so = good_from start last fit x as_offered short

    syn_so : seen.segment.head.syn ≡ sg.syn
    syn_so = ap (λ (h : Head). h.syn) (heads_are c.spelling x.from sg)

    rst_so : seen.segment.head.rst ≡ sg.rst
    rst_so = ap (λ (h : Head). h.rst) (heads_are c.spelling x.from sg)

    ack_so : seen.segment.head.ack_set ≡ is_some sg.acknowledged
    ack_so = ap (λ (h : Head). h.ack_set) (heads_are c.spelling x.from sg)

    -- ---- its Data ACKs

    abbrev Acks : ℕ → Side → OptionValue → Type 0
    Acks path t option = AckSays (drawn start) (file_len start) (few start last fit) (content start) (where_in last) most MoreS (λ n t. MoreX n t → ⊥) Shown Ended path t option

    one_says : (o : PlainOption) → AckSaid most Shown Ended x.path x.from o → Acks x.path x.from (said_option c.spelling x.from o)
    one_says (Dss (Some next) mapping) is =
        let upto = most_is (cases_lt (file_len start (peer x.from) + 1) (most x.path x.from)) in
        let len = low_len (peer x.from) in let same = is.0 in (
          subst (λ (n : ℕ). NumberIs (first (peer x.from)) (data_number c.spelling (peer x.from) next) n) is.0 (number_so start x.path s.plan (peer x.from) next),
          upto,
          λ q below under. ⊎_elim (λ shown. shown) (λ e. let end = e.0 in absurd (omega (arith, end, under))) (is.1 q (omega (arith, same, below))),
          λ behind. ⊎_elim (λ shown. let under = inside (peer x.from) (file_len start (peer x.from)) shown in absurd (omega (arith, under))) (λ e. e.1)
              (is.1 (file_len start (peer x.from)) (omega (arith, same, behind))),
          omega (arith, upto, len),
        )
      where
        most_is : (file_len start (peer x.from) + 1 < most x.path x.from) ⊎ (most x.path x.from ≤ file_len start (peer x.from) + 1) → most x.path x.from ≤ file_len start (peer x.from) + 1
        most_is (inr low) = low
        most_is (inl high) =
            let same = is.0 in
            ⊎_elim (λ shown. let under = inside (peer x.from) (file_len start (peer x.from) + 1) shown in absurd (omega (arith, under))) (λ e. let end = e.0 in absurd (omega (arith, end)))
            (is.1 (file_len start (peer x.from) + 1) (omega (arith, same, high)))
    one_says (Dss None mapping) is = tt
    one_says (Capable flag_a flag_c keys) is = tt
    one_says (Join form) is = tt
    one_says _ is = tt

    all_say : (options : List PlainOption) → Every (AckSaid most Shown Ended x.path x.from) options → All (Acks x.path x.from) (map (said_option c.spelling x.from) options)
    all_say [] each = All-nil (Acks x.path x.from)
    all_say (o ∷ options) each =
        All-cons (Acks x.path x.from) (said_option c.spelling x.from o) (map (said_option c.spelling x.from) options) (one_says o (each.each 0 o refl))
        (all_say options (record { each = λ i y at. each.each (suc i) y at }))

    -- ---- its position

    low_so : (MoreX (good start last fit x as_offered short).own.path (good start last fit x as_offered short).own.from → ⊥)
        → MoreS (good start last fit x as_offered short).own.path → (good start last fit x as_offered short).at + seen.payload_len < 2 ^ 31
    low_so straight begun = by s.spoken.tells.position (borne start last fit x as_offered short).0
      where
        at_is : (good start last fit x as_offered short).at ≡ s.segment.position
        at_is = good_at start last fit x as_offered short

        octets_are : seen.payload_len ≡ length s.segment.payload
        octets_are = ap (λ (xs : List ℕ). length xs) (payload_same (Offered start last) start x as_offered short)

        by : IsStray sg.rst sg.acknowledged sg.position ⊎ IsShort sg.position → (length sg.payload ≡ 0) ⊎ (sg.position + length sg.payload < 2 ^ 31)
            → (good start last fit x as_offered short).at + seen.payload_len < 2 ^ 31
        by (inl stray) bears = absurd (straight (inr (begun, (sym path_so, sym from_so, stray.reset))))
        by (inr low) (inl none) = omega (arith, at_is, octets_are, low, none)
        by (inr low) (inr ends) = omega (arith, at_is, octets_are, ends)

    abbrev good_seen : GoodSeen most MoreS MoreX Shown Ended seen
    good_seen = record {
      fine = good start last fit x as_offered short;
      acks = subst (λ (n : ℕ). All (Acks n (good start last fit x as_offered short).own.from) (good start last fit x as_offered short).own.values) (sym path_so)
          (subst (λ (t : Side). All (Acks x.path t) (good start last fit x as_offered short).own.values) (sym from_so)
          (subst (All (Acks x.path x.from)) (sym (good_values start last fit x as_offered short)) (all_say sg.options s.also.acks)));
      low = low_so;
    }

    -- ---- its options, where it is a SYN

    asks_some : (side : Side) (e : PathEnd) (options : List PlainOption) (joined : Bool) → side ≡ A
        → options ≡ (if joined then join_options c side e.modes else capable_options c side e) → All (λ o. Fits (said_option c.spelling side o)) options
        → is_some (first_asked (texts c.spelling side options)) ≡ true
    asks_some A e options true of_a are fit =
        let o : PlainOption = Join (form.Syn c.backup c.spelling.path (token_of (peer_key_of e.modes)) e.modes.own_nonce) in
        let fit_o = All-head (λ o. Fits (said_option c.spelling A o)) o [] (subst (All (λ o. Fits (said_option c.spelling A o))) are fit) in
        ap (λ (xs : List PlainOption). is_some (first_asked (texts c.spelling A xs))) are
        ∙ ap (λ (m : wire.Meaning). is_some (option_or (asked_by m) None)) (read_again (said_option c.spelling A o) false tt fit_o)
    asks_some A e options false of_a are fit =
        let o : PlainOption = Capable c.spelling.checksums false NoKey in
        let fit_o = All-head (λ o. Fits (said_option c.spelling A o)) o [] (subst (All (λ o. Fits (said_option c.spelling A o))) are fit) in
        ap (λ (xs : List PlainOption). is_some (first_asked (texts c.spelling A xs))) are
        ∙ ap (λ (m : wire.Meaning). is_some (option_or (asked_by m) None)) (read_again (said_option c.spelling A o) false tt fit_o)
    asks_some B e options joined of_a are fit = cc

    join_answers : (side : Side) (e : PathEnd) (options : List PlainOption) (token nonce : ℕ) → side ≡ B → options ≡ join_options c side e.modes
        → All (λ o. Fits (said_option c.spelling side o)) options → is_some (first_answer (opening.Join token nonce) (texts c.spelling side options)) ≡ true
    join_answers B e options token nonce of_b are fit =
        let o : PlainOption = Join (form.Answer c.backup c.spelling.path (join_b64_of (peer_key_of e.modes) e.modes.own_key e.modes.peer_nonce e.modes.own_nonce) e.modes.own_nonce) in
        let fit_o = All-head (λ o. Fits (said_option c.spelling B o)) o [] (subst (All (λ o. Fits (said_option c.spelling B o))) are fit) in
        ap (λ (xs : List PlainOption). is_some (first_answer (opening.Join token nonce) (texts c.spelling B xs))) are
        ∙ ap (λ (m : wire.Meaning). is_some (option_or (answered_by (opening.Join token nonce) m) None)) (read_again (said_option c.spelling B o) false tt fit_o)
    join_answers A e options token nonce of_b are fit = cc

    fits_one : All (λ o. Fits (said_option c.spelling x.from o)) sg.options
    fits_one = fits (Offered start last) start x as_offered short

    syn_options_are : sg.syn ≡ true → sg.options ≡ (if is_joined c then join_options c x.from s.end.modes else capable_options c x.from s.end)
    syn_options_are syn = s.spoken.syn syn

    asks_so : x.from ≡ A → sg.syn ≡ true → is_some (Asked seen) ≡ true
    asks_so of_a syn =
        ap is_some (asked_are c.spelling x.from sg s.spoken.tells.sayable fits_one) ∙ asks_some x.from s.end sg.options (is_joined c) of_a (syn_options_are syn) fits_one

    -- ---- what it leaves

    module _ (at : Option Side) (n : ℕ) (state : JudgedValue) (h : StandsAt U T S K X most Shown Ended state) where
      abbrev V : Type 0
      V = Says start A IsAlone x s.segment

      abbrev W : Type 0
      W = Says start B IsAnswer x s.segment

      abbrev next : JudgedValue
      next = judged at true state n seen

      is_behind : IsBehind (U 0) (T 0) V W (drawn start) seen (good start last fit x as_offered short).own
      is_behind =
          behind_for (U 0) (T 0) V W (drawn start) seen (is_own (ComesBehind (U 0) (T 0)) start x as_coming short) (good start last fit x as_offered short).own
          (path_so ∙ sym (path_is (ComesBehind (U 0) (T 0)) start x as_coming short)) (from_so ∙ sym (from_is (ComesBehind (U 0) (T 0)) start x as_coming short))
          (behind (U 0) (T 0) start x as_coming short)

      some_map : {Y : Type 0} (P R : Y → Type 0) (o : Option Y) → ((y : Y) → P y → R y) → IfSome o P → IfSome o R
      some_map P R None f h = tt
      some_map P R (Some y) f h = f y h

      only : seen.segment.head.syn ≡ true → IfSome (Asked seen) (λ o. IsCapable o → (good start last fit x as_offered short).own.path ≡ 0)
      only syn =
          some_map (λ o. IsCapable o → (is_own (ComesBehind (U 0) (T 0)) start x as_coming short).path ≡ 0) (λ o. IsCapable o → (good start last fit x as_offered short).own.path ≡ 0) (Asked seen)
          (λ o f capable. path_so ∙ sym (path_is (ComesBehind (U 0) (T 0)) start x as_coming short) ∙ f capable) (asks_only (U 0) (T 0) start x as_coming short syn)

      ready : AllGood most MoreS MoreX Shown Ended state
      ready =
          later_holds (drawn start) (file_len start) (few start last fit) (content start) (where_in last) most most S MoreS (λ n t. X n t → ⊥) (λ n t. MoreX n t → ⊥) Shown Shown Ended Ended
          (λ path t. omega arith) (λ path t still was. still (inl was)) state (shown_in most S X Shown Ended state h.hold) (one_book state h.counts h.tokens.one) h.hold

      now_one : OneHolds (drawn start) (taken state.seen n seen true).now
      now_one = taken_one (drawn start) (U 0) (T 0) V W state.seen n seen (good start last fit x as_offered short).own is_behind h.tokens.seen h.tokens.one only

      new_book : NewBook (drawn start) (OpensBy MoreS) (GoodSeen most MoreS MoreX Shown Ended) (GoodBook most MoreS MoreX Shown Ended) (GoodLanes most MoreS MoreX Shown Ended) state n seen
      new_book more =
          new_good (drawn start) (file_len start) (few start last fit) (content start) (where_in last) most MoreS (λ n t. MoreX n t → ⊥) Shown Ended
          (λ t q shown. none (h.shown t q shown)) (λ t ended. none (h.ended t ended))
        where
          few_now : (1 < length (taken state.seen n seen true).now.connections) ⊎ (length (taken state.seen n seen true).now.connections ≤ 1)
              → length (taken state.seen n seen true).now.connections ≤ 1
          few_now (inr low) = low
          few_now (inl high) = let second = item_of (taken state.seen n seen true).now.connections 1 high in let none = now_one.few 1 second.0 second.1 in absurd (omega (arith, none))

          none : is_some (slice_get state.books 0) ≡ true → ⊥
          none some =
              let book = which_some (slice_get state.books 0) some in
              let within = slice_get_within state.books 0 book.0 book.1 in
              let less = ltb-true (length state.books) (length (taken state.seen n seen true).now.connections) more in
              let most_one = few_now (cases_lt 1 (length (taken state.seen n seen true).now.connections)) in
              omega (arith, within, less, most_one)

      only_now : Each (OpensBy MoreS) (taken state.seen n seen true).now.flows
      only_now =
          opens_only (drawn start) (U 0) (T 0) V W state.seen n seen (good start last fit x as_offered short).own is_behind h.tokens.seen h.tokens.one S MoreS (λ n was. inl was)
          (λ of_b syn. inr (sym path_so, sym from_so ∙ of_b, sym syn_so ∙ syn)) h.only

      hold_next : AllGood most MoreS MoreX Shown Ended next
      hold_next =
          segment_so (drawn start) (OpensBy MoreS) (GoodSeen most MoreS MoreX Shown Ended) (GoodBook most MoreS MoreX Shown Ended) (GoodLanes most MoreS MoreX Shown Ended)
          (keep (drawn start) (file_len start) (few start last fit) (content start) (where_in last) most MoreS (λ n t. MoreX n t → ⊥) Shown Ended) at n seen good_seen state new_book only_now ready
          (λ wrong held path index flow there opener c book at_book lanes at_lanes. tt)

      tokens_next : TokensHeld (drawn start) BookUntold (U 0 ⊎ V) (T 0 ⊎ W) next
      tokens_next =
          tokens_so (drawn start) BookUntold (tell (drawn start)) at n seen (good start last fit x as_offered short).own (U 0) (T 0) V W is_behind only state h.tokens

      counted : AreCounted next × (next.seen.flows ≡ (taken state.seen n seen true).now.flows)
      counted = judged_counted (drawn start) (U 0) (T 0) V W state n seen (good start last fit x as_offered short).own is_behind h.tokens.seen at h.counts

      each_next : Each OpenBelongs next.seen.flows
      each_next =
          subst (Each OpenBelongs) (sym counted.1)
          (opens_belong (drawn start) (U 0) (T 0) V W state.seen n seen (good start last fit x as_offered short).own is_behind h.tokens.seen h.tokens.one h.each)

      flows_next : (m : ℕ) → U m ⊎ SynOf m → HasFlow m next.seen.flows
      flows_next m (inl was) =
          subst (HasFlow m) (sym counted.1) (stays (drawn start) (U 0) (T 0) V W state.seen n seen (good start last fit x as_offered short).own is_behind h.tokens.seen h.tokens.one m (h.flows m was))
      flows_next m (inr it) =
          subst (HasFlow m) (sym counted.1)
          (opens_flow (drawn start) (U 0) (T 0) V W state.seen n seen (good start last fit x as_offered short).own is_behind h.tokens.seen h.tokens.one m (path_so ∙ it.0) (from_so ∙ it.1)
          (syn_so ∙ it.2.syn) (ack_so ∙ ap is_some it.2.none) (rst_so ∙ it.2.rst) (asks_so it.1 it.2.syn))

      opens_next : (m : ℕ) → T m ⊎ AnswerOf m → IsOpenOn m next.seen.flows
      opens_next m (inl was) =
          subst (IsOpenOn m) (sym counted.1)
          (stays_open (drawn start) (U 0) (T 0) V W state.seen n seen (good start last fit x as_offered short).own is_behind h.tokens.seen h.tokens.one m h.each (h.opens m was))
      opens_next m (inr it) =
          subst (IsOpenOn m) (sym counted.1)
          (answers_flow (drawn start) (U 0) (T 0) V W state.seen n seen (good start last fit x as_offered short).own is_behind h.tokens.seen h.tokens.one m (path_so ∙ it.0) (from_so ∙ it.1)
          (syn_so ∙ it.2.syn) (ack_so ∙ ap is_some it.2.acknowledged) number_so answers (h.flows m (subst U it.0 (s.also.time.answers it.1 it.2))))
        where
          number_so : seen.segment.head.ack ≡ (own_initial (drawn start) m A + 1) % 2 ^ 32
          number_so = by x.from it.1 (ap (λ (h : Head). h.ack) (heads_are c.spelling x.from sg))
            where
              by : (side : Side) → side ≡ B → seen.segment.head.ack ≡ unwrap_or (option_map (subflow_number c.spelling (peer side)) sg.acknowledged) 0
                  → seen.segment.head.ack ≡ (own_initial (drawn start) m A + 1) % 2 ^ 32
              by A of_b is = cc
              by B of_b is =
                  is ∙ ap (λ (o : Option ℕ). unwrap_or (option_map (subflow_number c.spelling A) o) 0) it.2.acknowledged
                  ∙ ap (λ (k : ℕ). (k + 1) % 2 ^ 32) (number (Offered start last) start x as_offered short A ∙ ap (λ (k : ℕ). own_initial (drawn start) k A) it.0)

          answers : (o : Opening) → (m ≡ 0 → IsCapable o) → (IsCapable o → m ≡ 0) → is_some (first_answer o (option_octets seen.segment.options)) ≡ true
          answers (opening.Capable used) capable only_zero =
              (is_behind.shows (it.0 ∙ only_zero tt, it.1, record { syn = it.2.syn; acknowledged = it.2.acknowledged; key = s.also.time.shows it.1 (it.0 ∙ only_zero tt) it.2.syn })).0.answers used
          answers (opening.Join token nonce) capable only_zero =
              ap is_some (answer_are c.spelling x.from sg s.spoken.tells.sayable fits_one (opening.Join token nonce))
              ∙ join_answers x.from s.end sg.options token nonce it.1 (syn_options_are it.2.syn ∙ ap (λ (b : Bool). if b then join_options c x.from s.end.modes else capable_options c x.from s.end) joined) fits_one
            where
              joined : is_joined c ≡ true
              joined = by m refl
                where
                  by : (k : ℕ) → m ≡ k → is_joined c ≡ true
                  by zero e = absurd (capable e)
                  by (suc k) e = ap (nat_lt 0) (it.0 ∙ e) ∙ lt-ltb 0 (suc k) (omega arith)

      -- ---- A's key

      both_said : (options : List PlainOption) → list_any shows_both (map (said_option c.spelling x.from) options) ≡ list_any shows_keys options
      both_said [] = refl
      both_said (o ∷ options) = ap (λ (b : Bool). b || list_any shows_both (map (said_option c.spelling x.from) options)) (by o) ∙ ap (λ (b : Bool). shows_keys o || b) (both_said options)
        where
          by : (o : PlainOption) → shows_both (said_option c.spelling x.from o) ≡ shows_keys o
          by (Capable flag_a flag_c (Both sender receiver)) = refl
          by (Capable flag_a flag_c (WithData sender receiver len checksum)) = refl
          by (Capable flag_a flag_c (Sender sender)) = refl
          by (Capable flag_a flag_c NoKey) = refl
          by (Dss ack mapping) = refl
          by _ = refl

      shows_so : list_any shows_keys sg.options ≡ true → list_any shows_both (good start last fit x as_offered short).own.values ≡ true
      shows_so shows = ap (list_any shows_both) (good_values start last fit x as_offered short) ∙ both_said sg.options ∙ shows

      -- in an open flow
      module _ (no_syn : sg.syn ≡ false) (opened : T x.path) where
        open_one : IsOpenOn (good start last fit x as_offered short).own.path state.seen.flows
        open_one = subst (λ (k : ℕ). IsOpenOn k state.seen.flows) (sym path_so) (h.opens x.path opened)

        begun : MoreS (good start last fit x as_offered short).own.path
        begun = let open_is = h.opens x.path opened in inl (subst S (sym path_so) (h.only open_is.place open_is.flow open_is.there x.path open_is.opener open_is.opened))

        j : IsJudged (drawn start) (U 0) (T 0) V W state n seen (good start last fit x as_offered short).own is_behind h.tokens.seen h.tokens.one at h.counts h.each
        j =
            is_judged (drawn start) (U 0) (T 0) V W state n seen (good start last fit x as_offered short).own is_behind h.tokens.seen h.tokens.one at h.counts h.each (syn_so ∙ no_syn) open_one

        knows : (x.from ≡ A → K ⊎ ((x.path ≡ 0) × (list_any shows_keys sg.options ≡ true))) → (good start last fit x as_offered short).own.from ≡ A
            → (is_some j.keys.a ≡ true) ⊎ (((good start last fit x as_offered short).own.path ≡ 0) × (list_any shows_both (good start last fit x as_offered short).own.values ≡ true))
        knows key of_a =
            ⊎_elim
            (λ k. let was = h.key k in inl (subst (λ (keys : Keys). is_some keys.a ≡ true) (some_same was.0 j.keys (sym was.1 ∙ j.has_keys)) was.2))
            (λ it. inr (path_so ∙ it.0, shows_so it.1)) (key (sym from_so ∙ of_a))

      key_next : K ⊎ KeyOf → (keys : Keys) × (slice_get next.seen.connections 0 ≡ Some keys) × (is_some keys.a ≡ true)
      key_next (inl k) =
          let was = h.key k in
          let later = judged_keys at n seen state 0 was.0 was.1 in
          let key = which_some was.0.a was.2 in
          (later.0, later.1, ap is_some (later.2 A key.0 key.1))
      key_next (inr it) =
          let time = s.also.time.keys it.2 in
          key_here (drawn start) (file_len start) (few start last fit) (content start) (where_in last) most MoreS (λ n t. MoreX n t → ⊥) Shown Ended (U 0) (T 0) V W state n seen good_seen
          is_behind h.tokens.seen h.tokens.one at h.counts h.each ready (j time.0 time.1) (syn_so ∙ time.0) (begun time.0 time.1)
          (key_of_a (drawn start) (file_len start) (few start last fit) (content start) (where_in last) most MoreS (λ n t. MoreX n t → ⊥) Shown Ended (U 0) (T 0) V W state n seen good_seen
          is_behind h.tokens.seen h.tokens.one at h.counts h.each ready (j time.0 time.1) (syn_so ∙ time.0) (begun time.0 time.1) (knows time.0 time.1 (λ of_a. inr (it.0, it.2))) (from_so ∙ it.1))

      -- ---- what its payload shows, and the end that it tells

      first_same : (o : PlainOption) → maps_first (said_option c.spelling x.from o) ≡ maps_key o
      first_same (Capable flag_a flag_c (Both sender receiver)) = refl
      first_same (Capable flag_a flag_c (WithData sender receiver len checksum)) = refl
      first_same (Capable flag_a flag_c (Sender sender)) = refl
      first_same (Capable flag_a flag_c NoKey) = refl
      first_same (Dss ack mapping) = refl
      first_same _ = refl

      first_each : (F : Type 0) (options : List PlainOption) → (list_any maps_key options ≡ true → F) → All (λ (v : OptionValue). maps_first v ≡ true → F) (map (said_option c.spelling x.from) options)
      first_each F [] f = All-nil (λ (v : OptionValue). maps_first v ≡ true → F)
      first_each F (o ∷ options) f =
          All-cons (λ (v : OptionValue). maps_first v ≡ true → F) (said_option c.spelling x.from o) (map (said_option c.spelling x.from) options)
          (λ maps. f (or_left (maps_key o) (list_any maps_key options) (sym (first_same o) ∙ maps))) (first_each F options (λ later. f (or_right (maps_key o) (list_any maps_key options) later)))

      firsts : All (λ (v : OptionValue). maps_first v ≡ true → ((good start last fit x as_offered short).own.path ≡ 0) × ((good start last fit x as_offered short).own.from ≡ A))
          (good start last fit x as_offered short).own.values
      firsts =
          subst (All (λ (v : OptionValue). maps_first v ≡ true → ((good start last fit x as_offered short).own.path ≡ 0) × ((good start last fit x as_offered short).own.from ≡ A)))
          (sym (good_values start last fit x as_offered short))
          (first_each (((good start last fit x as_offered short).own.path ≡ 0) × ((good start last fit x as_offered short).own.from ≡ A)) sg.options
          (λ maps. let it = s.also.time.first maps in (path_so ∙ it.0, from_so ∙ it.1)))

      has_some : (octets : List ℕ) (offset : ℕ) → offset < length octets → has_octets octets ≡ true
      has_some [] offset within = absurd (omega (arith, within))
      has_some (octet ∷ octets) offset within = refl

      one_tells : (o : PlainOption) → OptionFine (file_len start) (IsMapped start last x.path) NoLines ⊥ x.from o → value_ends (said_option c.spelling x.from o) ≡ true → tells_end o ≡ true
      one_tells (Dss ack (Some (Bytes place position len true checksum))) fine is = refl
      one_tells (Dss ack (Some (Bytes place position len false checksum))) fine is = absurd (let some = fine.0 in let none = eqb-true len 0 is in omega (arith, some, none))
      one_tells (Dss ack (Some (End place checksum))) fine is = refl
      one_tells (Dss ack (Some (Infinite place position))) fine is = absurd fine
      one_tells (Dss ack None) fine is = absurd (false≢true is)
      one_tells (Capable flag_a flag_c keys) fine is = absurd (false≢true is)
      one_tells (Fail place) fine is = absurd fine
      one_tells _ fine is = absurd (false≢true is)

      any_tells : (options : List PlainOption) → AllFine (file_len start) (IsMapped start last x.path) NoLines ⊥ x.from options → list_any value_ends (map (said_option c.spelling x.from) options) ≡ true
          → list_any tells_end options ≡ true
      any_tells [] is_fine is = absurd (false≢true is)
      any_tells (o ∷ options) is_fine is =
          ⊎_elim (λ here. or_left (tells_end o) (list_any tells_end options) (one_tells o (is_fine.each 0 o refl) here))
          (λ later. or_right (tells_end o) (list_any tells_end options) (any_tells options (record { each = λ i y at. is_fine.each (suc i) y at }) later))
          (or_cases (value_ends (said_option c.spelling x.from o)) (list_any value_ends (map (said_option c.spelling x.from) options)) is)

      -- where it bears one of these
      module _ (bearing : is_bearing sg ≡ true) where
        straight : MoreX (good start last fit x as_offered short).own.path (good start last fit x as_offered short).own.from → ⊥
        straight (inl was) =
            (s.also.time.bears bearing).3 (subst (λ (t : Side). X x.path t) from_so (subst (λ (n : ℕ). X n (good start last fit x as_offered short).own.from) path_so was))
        straight (inr it) = false≢true (sym ((s.also.time.bears bearing).1) ∙ it.1.2)

        no_syn : sg.syn ≡ false
        no_syn = (s.also.time.bears bearing).0

        opened : T x.path
        opened = (s.also.time.bears bearing).2

        bearing_knows : (good start last fit x as_offered short).own.from ≡ A
            → (is_some (j no_syn opened).keys.a ≡ true) ⊎ (((good start last fit x as_offered short).own.path ≡ 0) × (list_any shows_both (good start last fit x as_offered short).own.values ≡ true))
        bearing_knows = knows no_syn opened (s.also.time.key bearing)

        len_is : (if seen.segment.head.rst then 0 else seen.payload_len) ≡ length seen.segment.payload
        len_is = ap (λ (b : Bool). if b then 0 else seen.payload_len) (rst_so ∙ (s.also.time.bears bearing).1)

        -- a place that it shows is seen behind it
        place_seen : (t : Side) (q : ℕ) → ShowsAt start last fit t q seen (good start last fit x as_offered short) → (stream : StreamValue) → stream_in next 0 t ≡ Some stream → stream.seen q ≡ true
        place_seen t q shows stream there =
            subst (λ (p : ℕ). stream.seen p ≡ true) (ap (λ (u : Side). where_in last (good start last fit x as_offered short).own.path u ((good start last fit x as_offered short).at + shows.offset)) shows.from ∙ shows.sits)
            (seen_here (drawn start) (file_len start) (few start last fit) (content start) (where_in last) most MoreS (λ n t. MoreX n t → ⊥) Shown Ended (U 0) (T 0) V W state n seen good_seen
            is_behind h.tokens.seen h.tokens.one at h.counts h.each ready (j no_syn opened) (syn_so ∙ no_syn) (begun no_syn opened) bearing_knows firsts straight ((good start last fit x as_offered short).at + shows.offset)
            ((good start last fit x as_offered short).maps (good start last fit x as_offered short).at refl shows.offset shows.within) shows.some (omega arith)
            (let within = shows.within in let len = len_is in omega (arith, within, len)) stream
            (subst (λ (u : Side). stream_in next 0 u ≡ Some stream) (sym shows.from) there))

        -- an end that it tells stands
        end_stands : (t : Side) → ((good start last fit x as_offered short).own.from ≡ t) × EndsIn (first_number (own_key (drawn start) t)) (good start last fit x as_offered short).own.values
            → (stream : StreamValue) → stream_in next 0 t ≡ Some stream → is_some stream.fin ≡ true
        end_stands t ends stream there =
            fin_here (drawn start) (file_len start) (few start last fit) (content start) (where_in last) most MoreS (λ n t. MoreX n t → ⊥) Shown Ended (U 0) (T 0) V W state n seen good_seen
            is_behind h.tokens.seen h.tokens.one at h.counts h.each ready (j no_syn opened) (syn_so ∙ no_syn) (begun no_syn opened) bearing_knows firsts straight
            (subst (λ (u : Side). EndsIn (first_number (own_key (drawn start) u)) (good start last fit x as_offered short).own.values) (sym ends.0) ends.1) stream
            (subst (λ (u : Side). stream_in next 0 u ≡ Some stream) (sym ends.0) there)

      bears_place : (t : Side) (q : ℕ) → IsShown start last t q x → is_bearing sg ≡ true
      bears_place t q shown =
          let shows = shows_seen start last fit x as_offered short (good start last fit x as_offered short) t q shown in
          or_left (has_octets sg.payload) (list_any tells_end sg.options)
          (has_some sg.payload shows.offset (subst (λ (octets : List ℕ). shows.offset < length octets) (payload_same (Offered start last) start x as_offered short) shows.within))

      bears_end : (t : Side) → TellsEnd start t x → is_bearing sg ≡ true
      bears_end t ends =
          or_right (has_octets sg.payload) (list_any tells_end sg.options) (any_tells sg.options s.also.offered.0 (ends_here start last x as_offered short t ends))

      -- ---- all of it behind it

      abbrev pub MoreShown : Side → ℕ → Type 0
      MoreShown t q = Shown t q ⊎ IsShown start last t q x

      abbrev pub MoreEnded : Side → Type 0
      MoreEnded t = Ended t ⊎ TellsEnd start t x

      book_stays : is_some (slice_get state.books 0) ≡ true → is_some (slice_get next.books 0) ≡ true
      book_stays some =
          let book = which_some (slice_get state.books 0) some in
          let later = books_go at true state n seen 0 book.0 book.1 in
          ap is_some later.1

      book_bears : is_bearing sg ≡ true → is_some (slice_get state.books 0) ≡ true
      book_bears bearing = let time = s.also.time.bears bearing in ap is_some (j time.0 time.2).has_book

      streams_next : (t : Side) (stream : StreamValue) → stream_in next 0 t ≡ Some stream → ((q : ℕ) → MoreShown t q → stream.seen q ≡ true) × (MoreEnded t → is_some stream.fin ≡ true)
      streams_next t stream there =
          let was = shown_in most MoreS MoreX Shown Ended next hold_next t stream there in (
            λ q. ⊎_elim (was.0 q) (λ shown. place_seen (bears_place t q shown) t q (shows_seen start last fit x as_offered short (good start last fit x as_offered short) t q shown) stream there),
            ⊎_elim was.1 (λ ends. end_stands (bears_end t ends) t (ends_seen start last fit x as_offered short (good start last fit x as_offered short) t ends) stream there),
          )

      pub stands_next : StandsAt (λ m. U m ⊎ SynOf m) (λ m. T m ⊎ AnswerOf m) MoreS (K ⊎ KeyOf) MoreX most MoreShown MoreEnded next
      stands_next = record {
        tokens = record {
          seen = record {
            own = tokens_next.seen.own;
            named = tokens_next.seen.named;
            known = tokens_next.seen.known;
            going = tokens_next.seen.going;
            first = tokens_next.seen.first;
            began = λ it. tokens_next.seen.began it;
            any = λ it. tokens_next.seen.any
                (⊎_elim (λ was. inl was) (λ answer. inr (answer.0, answer.1, record { syn = answer.2.syn; acknowledged = answer.2.acknowledged; key = s.also.time.shows answer.1 answer.0 answer.2.syn })) it);
          };
          one = tokens_next.one;
          books = tokens_next.books;
        };
        counts = counted.0;
        each = each_next;
        flows = flows_next;
        opens = opens_next;
        only = subst (Each (OpensBy MoreS)) (sym counted.1) only_now;
        key = key_next;
        shown = λ t q. ⊎_elim (λ was. book_stays (h.shown t q was)) (λ shown. book_stays (book_bears (bears_place t q shown)));
        ended = λ t. ⊎_elim (λ was. book_stays (h.ended t was)) (λ ends. book_stays (book_bears (bears_end t ends)));
        hold = later_holds (drawn start) (file_len start) (few start last fit) (content start) (where_in last) most most MoreS MoreS (λ n t. MoreX n t → ⊥) (λ n t. MoreX n t → ⊥) Shown MoreShown Ended MoreEnded
            (λ path t. omega arith) (λ path t still. still) next streams_next (one_book next counted.0 tokens_next.one) hold_next;
      }
