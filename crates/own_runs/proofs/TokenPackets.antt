-- What each segment of a connection of ours keeps holds of each book, over the packets of a trace in which each join comes behind B's key: no wrong
-- token is told.
use Rattle.std.proofs.Common.{◌≡◌, refl, sym, ap, subst, ℕ, ◌+◌, ◌||◌, nat_lt, ◌⊎◌, Bool, true, false, not, if◌then◌else◌, Option, Some, None, List, [], ◌∷◌, ◌++◌, length, map}
use Rattle.std.specs.Prelude.{All, IfSome}
use Rattle.std.specs.List.{slice_get}
use Rattle.std.specs.Option.{option_map}
use Rattle.std.proofs.lemmas.List.Elements.{All-head, All-tail}
use Rattle.capture_reader.specs.Seen.{Seen, segment_in_packet}
use Rattle.capture_verdict.specs.Judging.{judged_if_seen, judged_packets}
use Rattle.judge_laws.specs.GoesOn.{stream_in}
use Rattle.judge_laws.proofs.Standing.{some_same}
use Rattle.link_trace.specs.declared.sent.Sent.{Sent}
use Rattle.rule_book.specs.Judged.{Told, empty_book, grown, grown_to, judged, judged_belonging, judged_flow, judged_in_flow, judged_known, judged_place, judged_taken, nothing_judged, with_wrong_token}
use Rattle.rule_book.specs.State.{BookValue, JudgedValue, LanesValue, stream_at}
use Rattle.rule_book.specs.Stream.{Left}
use Rattle.seen_connections.specs.Connections.{SeenFlows, taken}
use Rattle.seen_connections.specs.declared.connections.Keys.{Keys}
use Rattle.seen_connections.specs.declared.connections.Place.{Place}
use Rattle.seen_connections.specs.declared.connections.WrongToken.{WrongToken}
use Rattle.seen_connections.specs.declared.flow.Belongs.{Belongs}
use Rattle.seen_connections.specs.declared.flow.Flow.{Flow}
use Rattle.seen_streams.specs.State.{StreamValue}
use Rattle.sides.specs.declared.side.Side.TheVariants.{A, B as OfB}
use Rattle.sides.specs.declared.side.Side.{Side}
use Rattle.world_laws.specs.Openings.{Start}
use Rattle.own_runs.specs.Traces.{FitsCapture, packet_for}
use Rattle.own_runs.proofs.LateJoins.{AllBehind, ComesBehind, Says}
use Rattle.own_runs.proofs.Learning.{IsAlone, IsAnswer}
use Rattle.own_runs.proofs.Moments.{IsSpoken}
use Rattle.own_runs.proofs.Own.{Drawn, IsOwn}
use Rattle.own_runs.proofs.OwnFlows.{Each, FlowOn, KeysOwn, each_end, each_set, place_so}
use Rattle.own_runs.proofs.OwnTrace.{found, is_own, seen_of}
use Rattle.own_runs.proofs.OneConnection.{OneHolds, key_one, nothing_one, taken_one}
use Rattle.own_runs.proofs.TokenSegments.{Asked, IsBehind, IsCapable, asks_only, behind}
use Rattle.own_runs.proofs.TokenState.{TokensHold, key_hold, nothing_holds, right_so, taken_hold}
use Rattle.own_runs.proofs.Values.{drawn}

grown_each : {X : Type 0} → (P : X → Type 0) (count : ℕ) (one : X) (xs : List X) → Each P xs → P one → Each P (grown_to count one xs)
grown_each {X} P count one xs each p = by (nat_lt (length xs) count)
  where
    by : (b : Bool) → Each P (if b then xs ++ one ∷ [] else xs)
    by true = each_end P xs one each p
    by false = each

module _ (d : Drawn) (B : BookValue → Type 0) where
  -- what a segment leaves
  pub record Leaves (told : Told) : Type 0 where
    pub keys : KeysOwn d told.keys
    pub book : B told.left.book

  -- each segment of the connection, in its flow
  pub record SegmentsTell : Type 0 where
    pub new_book : B empty_book
    pub flow : (at : Option Side) (packet : ℕ) (seen : Seen) (own : IsOwn d seen) (index : ℕ) (flow : Flow) → FlowOn d own.path flow → (belongs : Belongs) → belongs.opener ≡ A
        → (keys : Keys) (left : Left) → KeysOwn d keys → B left.book → Leaves (judged_flow at packet seen index flow belongs keys left)

  pub record AllHold (U T : Type 0) (state : JudgedValue) : Type 0 where
    pub seen : TokensHold d U T state.seen
    pub one : OneHolds d state.seen
    pub books : Each B state.books

  module _ (tell : SegmentsTell) (at : Option Side) (packet : ℕ) (seen : Seen) (own : IsOwn d seen) (U T : Type 0) where
    known_so : (index : ℕ) (flow : Flow) → FlowOn d own.path flow → (belongs : Belongs) → belongs.opener ≡ A → belongs.connection ≡ 0 → (keys : Option Keys) (book : Option BookValue) (lanes : Option LanesValue)
        (state : JudgedValue) → slice_get state.seen.connections belongs.connection ≡ keys → slice_get state.books belongs.connection ≡ book → AllHold U T state
        → AllHold U T (judged_known at packet seen index flow belongs keys book lanes state)
    known_so index flow f belongs is first (Some keys) (Some book) (Some lanes) state has_keys has_book all =
        let left : Left = record { book = book; lanes = lanes } in
        let told = judged_flow at packet seen index flow belongs keys left in
        let it = tell.flow at packet seen own index flow f belongs is keys left (all.seen.own.connections belongs.connection keys has_keys) (all.books belongs.connection book has_book) in
        record {
          seen = key_hold d U T belongs.connection keys.a told.keys.a state.seen it.keys.a all.seen;
          one = key_one d belongs.connection keys.a told.keys.a state.seen first all.one;
          books = each_set B state.books belongs.connection told.left.book all.books it.book;
        }
    known_so index flow f belongs is first (Some keys) (Some book) None state has_keys has_book all = all
    known_so index flow f belongs is first (Some keys) None lanes state has_keys has_book all = all
    known_so index flow f belongs is first None book lanes state has_keys has_book all = all

    belonging_so : (index : ℕ) (flow : Flow) → FlowOn d own.path flow → (belongs : Option Belongs) → IfSome belongs (λ b. b.opener ≡ A) → IfSome belongs (λ b. b.connection ≡ 0) → (state : JudgedValue) → AllHold U T state
        → AllHold U T (judged_belonging at packet seen index flow belongs state)
    belonging_so index flow f None is first state all = all
    belonging_so index flow f (Some belongs) is first state all =
        known_so index flow f belongs is first (slice_get state.seen.connections belongs.connection) (slice_get state.books belongs.connection) (slice_get state.lanes index) state refl refl all

    in_flow_so : (index : ℕ) (flow : Option Flow) → IfSome flow (FlowOn d own.path) → IfSome flow (λ f. IfSome f.belongs (λ b. b.connection ≡ 0)) → (state : JudgedValue) → AllHold U T state → AllHold U T (judged_in_flow at packet seen index flow state)
    in_flow_so index None f first state all = all
    in_flow_so index (Some flow) f first state all = belonging_so index flow f flow.belongs f.belongs first state all

    place_at : (place : Option Place) (state : JudgedValue) → IfSome place (λ p. p.wrong_token ≡ None)
        → IfSome place (λ p. (flow : Flow) → slice_get state.seen.flows p.flow ≡ Some flow → FlowOn d own.path flow) → AllHold U T state → AllHold U T (judged_place at packet seen place state)
    place_at None state right on all = all
    place_at (Some place) state right on all =
        subst (λ (w : Option WrongToken). let told = with_wrong_token w state in AllHold U T (judged_in_flow at packet seen place.flow (slice_get told.seen.flows place.flow) told)) (sym right)
        (in_flow_so place.flow (slice_get state.seen.flows place.flow) (there (slice_get state.seen.flows place.flow) refl) (belongs (slice_get state.seen.flows place.flow) refl) state all)
      where
        there : (o : Option Flow) → slice_get state.seen.flows place.flow ≡ o → IfSome o (FlowOn d own.path)
        there None at = tt
        there (Some flow) at = on flow at

        belongs : (o : Option Flow) → slice_get state.seen.flows place.flow ≡ o → IfSome o (λ f. IfSome f.belongs (λ b. b.connection ≡ 0))
        belongs None at = tt
        belongs (Some flow) at = all.one.belongs place.flow flow at

  pub segment_so : (tell : SegmentsTell) (at : Option Side) (packet : ℕ) (seen : Seen) (own : IsOwn d seen) (U T V W : Type 0) → IsBehind U T V W d seen own → (seen.segment.head.syn ≡ true → IfSome (Asked seen) (λ o. IsCapable o → own.path ≡ 0)) → (state : JudgedValue) → AllHold U T state
      → AllHold (U ⊎ V) (T ⊎ W) (judged at true state packet seen)
  segment_so tell at packet seen own U T V W is only state all =
      subst (λ (b : Bool). AllHold (U ⊎ V) (T ⊎ W) (judged_taken at packet seen (taken state.seen packet seen b) state)) (sym good)
      (place_at tell at packet seen own (U ⊎ V) (T ⊎ W) (taken state.seen packet seen true).place (grown now state) (right_so d U T V W state.seen packet seen own is all.seen)
      (place_so d state.seen packet seen own all.seen.own)
      (record {
        seen = taken_hold d U T V W state.seen packet seen own is all.seen;
        one = taken_one d U T V W state.seen packet seen own is all.seen all.one only;
        books = grown_each B (length now.connections) empty_book state.books all.books tell.new_book;
      }))
    where
      now : SeenFlows
      now = (taken state.seen packet seen true).now

      good : (seen.has_good_sum || not true) ≡ true
      good = ap (λ (b : Bool). b || false) own.good

module _ (start : Start) (B : BookValue → Type 0) (tell : SegmentsTell (drawn start) B) (at : Option Side) where
  packets_so : (trace : List Sent) (U T : Type 0) (state : JudgedValue) (n : ℕ) → AllBehind start U T trace → All FitsCapture trace → AllHold (drawn start) B U T state
      → Each B (judged_packets at true state n (map packet_for trace)).books × OneHolds (drawn start) (judged_packets at true state n (map packet_for trace)).seen
  packets_so [] U T state n come fit all = (all.books, all.one)
  packets_so (x ∷ trace) U T state n come fit all =
      let s : IsSpoken (ComesBehind U T) start x = come.0 in
      let short = (All-head FitsCapture x trace fit).octets in
      let seen = seen_of (ComesBehind U T) start x s short in
      let next = segment_so (drawn start) B tell at n seen (is_own (ComesBehind U T) start x s short) U T (Says start A IsAlone x s.segment) (Says start OfB IsAnswer x s.segment) (behind U T start x s short) (asks_only U T start x s short) state all in
      packets_so trace (U ⊎ Says start A IsAlone x s.segment) (T ⊎ Says start OfB IsAnswer x s.segment) (judged_if_seen at true state n (segment_in_packet (packet_for x))) (n + 1) come.1 (All-tail FitsCapture x trace fit)
      (subst (λ (o : Option Seen). AllHold (drawn start) B (U ⊎ Says start A IsAlone x s.segment) (T ⊎ Says start OfB IsAnswer x s.segment) (judged_if_seen at true state n o)) (sym (found (ComesBehind U T) start x s short)) next)

  -- of each book
  pub book_tells : (trace : List Sent) → AllBehind start ⊥ ⊥ trace → All FitsCapture trace → (connection : ℕ) (s : Side) (stream : StreamValue)
      → stream_in (judged_packets at true nothing_judged 1 (map packet_for trace)) connection s ≡ Some stream → (book : BookValue) × B book × (stream_at s book ≡ stream)
  book_tells trace come fit connection s stream there = by (slice_get judged_all.books connection) refl there
    where
      judged_all : JudgedValue
      judged_all = judged_packets at true nothing_judged 1 (map packet_for trace)

      none : {X : Type 0} → (i : ℕ) (x : X) → slice_get [] i ≡ Some x → ⊥
      none i x e = cc

      each : Each B judged_all.books
      each = (packets_so trace ⊥ ⊥ nothing_judged 1 come fit (record { seen = nothing_holds (drawn start); one = nothing_one (drawn start); books = λ i book at. absurd (none i book at) })).0

      by : (book : Option BookValue) → slice_get judged_all.books connection ≡ book → option_map (stream_at s) book ≡ Some stream → (book : BookValue) × B book × (stream_at s book ≡ stream)
      by None e h = cc
      by (Some book) e h = (book, each connection book e, some_same (stream_at s book) stream h)

  -- all belongs to one connection
  pub one_connection : (trace : List Sent) → AllBehind start ⊥ ⊥ trace → All FitsCapture trace → OneHolds (drawn start) (judged_packets at true nothing_judged 1 (map packet_for trace)).seen
  one_connection trace come fit =
      (packets_so trace ⊥ ⊥ nothing_judged 1 come fit (record { seen = nothing_holds (drawn start); one = nothing_one (drawn start); books = λ i book there. absurd (none i there) })).1
    where
      none : {X : Type 0} {x : X} → (i : ℕ) → slice_get [] i ≡ Some x → ⊥
      none i e = cc
