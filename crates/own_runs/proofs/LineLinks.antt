-- Where the judge learnt an infinite mapping of a side (RFC 8684, section 3.7), what that side sent on the mapping's flow has a line.
use Rattle.std.proofs.Common.{◌≡◌, refl, sym, ap, ◌∙◌, subst, ℕ, ℤ, ◌+◌, ◌-◌, zero, suc, ◌⊎◌, inl, inr, ◌==◌, ◌||◌, Bool, true, false, if◌then◌else◌, Option, Some, None, is_some, List, [], ◌∷◌, ◌++◌, length}
use Rattle.std.proofs.Math.ListN.{set}
use Rattle.std.specs.Prelude.{IfSome, IsSomeAnd}
use Rattle.std.specs.List.{slice_get}
use Rattle.capture_reader.specs.Seen.{Seen}
use Rattle.judge_laws.proofs.Books.{grown_stays, set_either, set_there}
use Rattle.judge_laws.proofs.Folds.{AcksKeep, StepsKeep, TellingKeeps, acks_so, formless_so, options_so, tried_so, within_so}
use Rattle.judge_laws.proofs.Positions.{at_so}
use Rattle.judge_laws.proofs.Standing.{set_item, some_same}
use Rattle.judge_rules.specs.Mappings.{mapped_place, offer_of, position_near}
use Rattle.judge_rules.specs.Numbers.{place_near}
use Rattle.judge_rules.specs.declared.finding.Finding.{Finding}
use Rattle.judge_rules.specs.declared.finding.Finding.TheVariants.{Number32}
use Rattle.judge_rules.specs.declared.finding.Rule.TheVariants as rule
use Rattle.judge_rules.specs.declared.mappings.Line.{Line}
use Rattle.judge_rules.specs.declared.mappings.Offer.{Offer}
use Rattle.mptcp_options.specs.Value.{OptionValue}
use Rattle.rule_book.specs.Facts.{Facts, first_of, own_base, own_lane, payload_at}
use Rattle.rule_book.specs.Judged.{empty_book, empty_lanes, grown, judged, judged_belonging, judged_flow, judged_formed, judged_in_flow, judged_known, judged_place, opened_facts, side_of, token_in, token_told, with_wrong_token}
use Rattle.rule_book.specs.Signals.{KeyedValue, judged_options, told_formless}
use Rattle.rule_book.specs.State.{BookValue, JudgedValue, LanesValue, stream_at, with_stream}
use Rattle.rule_book.specs.Stream.{Left, behind_payload, fin_taken, gap_counted, judged_at, judged_from, judged_positions, mapped_each, mapped_one, mapped_with, summed, told_in, with_plain, within_each}
use Rattle.seen_connections.specs.Connections.{SeenFlows, taken}
use Rattle.seen_connections.specs.SameEnds.{same_end}
use Rattle.seen_connections.specs.SeenOptions.{SeenValue, seen_options}
use Rattle.seen_connections.specs.declared.connections.Keys.{Keys}
use Rattle.seen_connections.specs.declared.connections.Place.{Place}
use Rattle.seen_connections.specs.declared.connections.WrongToken.{WrongToken}
use Rattle.seen_connections.specs.declared.flow.Belongs.{Belongs}
use Rattle.seen_connections.specs.declared.flow.Flow.{Flow}
use Rattle.seen_connections.specs.declared.flow.Opened.{Opened}
use Rattle.seen_streams.specs.Acks.{Acked, ended_by_fin}
use Rattle.seen_streams.specs.Content.{at_place, comes, shown_from, with_payload}
use Rattle.seen_streams.specs.Mapped.{Mapped, finite, finite_at, finite_by, finite_fault, infinite_after, infinite_at, infinite_by, line_fault, lowest_line, mapped_at, one_more, told_mapping}
use Rattle.seen_streams.specs.Positions.{position_of}
use Rattle.seen_streams.specs.Same.{same_mapping}
use Rattle.seen_streams.specs.State.{Found, LaneValue, StreamValue, place_of, tell}
use Rattle.seen_streams.specs.Sums.{with_sum, with_sums}
use Rattle.seen_streams.specs.declared.told.Broke.{Broke}
use Rattle.seen_streams.specs.declared.told.Infinite.{Infinite}
use Rattle.seen_streams.specs.declared.told.Teller.{Teller}
use Rattle.seen_streams.specs.declared.told.ToldMapping.{ToldMapping}
use Rattle.sides.specs.Side.{peer}
use Rattle.sides.specs.declared.side.Side.TheVariants.{A, B}
use Rattle.sides.specs.declared.side.Side.{Side}
use Rattle.own_runs.proofs.Own.{is_a}
use Rattle.own_runs.proofs.OwnFlows.{Each}
use Rattle.own_runs.proofs.OwnPackets.{grown_item}

-- ---- a stream and a lane, behind a segment

module _ (index : ℕ) (was : Option Infinite) where
  -- an infinite mapping was learnt on this flow before
  abbrev Old : Infinite → Type 0
  Old i = IsSomeAnd was (λ o. o.flow ≡ i.flow)

  -- or on that of the segment
  abbrev Ours : StreamValue → Type 0
  Ours s = IfSome s.infinite (λ i. Old i ⊎ (i.flow ≡ index))

  telling : TellingKeeps Ours
  telling = record { tells = λ r packet fault s h. h; counts = λ s keys joins mappings sums data_acks h. h }

  acks : AcksKeep (λ (s : StreamValue) (l : LaneValue). Ours s)
  acks = record { telling = λ l. telling; acks = λ place s l h. h }

  finite_by_so : (fault : Option Broke) (packet : ℕ) (m : ToldMapping) (x : Mapped) → Ours x.stream → Ours (finite_by fault packet m x).stream
  finite_by_so (Some broke) packet m x h = h
  finite_by_so None packet m x h = h

  finite_at_so : (place : Option ℕ) (teller : Teller) (offer : Offer) (position : ℤ) (x : Mapped) → Ours x.stream → Ours (finite_at place teller offer position x).stream
  finite_at_so None teller offer position x h = h
  finite_at_so (Some place) teller offer position x h =
      finite_by_so (finite_fault teller x.stream x.lane offer position place) teller.packet (told_mapping offer position place) x h

  after_so : (old : Option Infinite) → IfSome old (λ i. Old i ⊎ (i.flow ≡ index)) → (teller : Teller) → teller.flow ≡ index → (place : ℕ)
      → Old (infinite_after old teller place) ⊎ ((infinite_after old teller place).flow ≡ index)
  after_so None h teller is place = inr is
  after_so (Some i) h teller is place = h

  infinite_by_so : (fault : Option Finding) (teller : Teller) → teller.flow ≡ index → (position : ℤ) (place : ℕ) (x : Mapped) → Ours x.stream
      → Ours (infinite_by fault teller position place x).stream
  infinite_by_so (Some finding) teller is position place x h = h
  infinite_by_so None teller is position place x h = after_so x.stream.infinite h teller is (lowest_line x.lane.line position place).place

  infinite_at_so : (place : Option ℕ) (teller : Teller) → teller.flow ≡ index → (offer : Offer) (position : ℤ) (x : Mapped) → Ours x.stream
      → Ours (infinite_at place teller offer position x).stream
  infinite_at_so None teller is offer position x h = h
  infinite_at_so (Some place) teller is offer position x h =
      infinite_by_so (line_fault x.stream.infinite teller.flow x.lane.line position place) teller is position place x h

  mapped_at_so : (teller : Teller) → teller.flow ≡ index → (offer : Offer) (position : ℤ) (x : Mapped) → Ours x.stream → Ours (mapped_at teller offer position x).stream
  mapped_at_so teller is offer position x h = by (offer.length == 0)
    where
      by : (b : Bool) → Ours (if b then infinite_at (place_near teller.first x.stream.top offer.number) teller offer position x else finite teller offer position x).stream
      by true = infinite_at_so (place_near teller.first x.stream.top offer.number) teller is offer position x h
      by false = finite_at_so (mapped_place teller.first x.stream.top offer) teller offer position (one_more x) h

  mapped_one_so : (teller : Teller) → teller.flow ≡ index → (position : ℕ) (offer : Option Offer) (x : Mapped) → Ours x.stream → Ours (mapped_one teller position offer x).stream
  mapped_one_so teller is position None x h = h
  mapped_one_so teller is position (Some offer) x h = mapped_at_so teller is offer (position_near position offer.relative) x h

  mapped_each_so : (teller : Teller) → teller.flow ≡ index → (position : ℕ) (options : List OptionValue) (x : Mapped) → Ours x.stream → Ours (mapped_each teller position options x).stream
  mapped_each_so teller is position [] x h = h
  mapped_each_so teller is position (option ∷ options) x h =
      mapped_each_so teller is position options (mapped_one teller position (offer_of teller.first option) x) (mapped_one_so teller is position (offer_of teller.first option) x h)

  mapped_so : (facts : Facts) → facts.index ≡ index → (known : Option ℕ) (position : ℕ) (options : List OptionValue) (x : Mapped) → Ours x.stream
      → Ours (mapped_with facts known position options x).stream
  mapped_so facts is None position options x h = h
  mapped_so facts is (Some known) position options x h = mapped_each_so (told_in facts known) is position options x h

  place_so : (acknowledged packet : ℕ) (come : Option (Option ℕ)) (place : Option ℕ) (s : StreamValue) → Ours s → Ours (at_place acknowledged packet come place s)
  place_so acknowledged packet None place s h = h
  place_so acknowledged packet (Some octet) None s h = h
  place_so acknowledged packet (Some octet) (Some place) s h = h

  shown_so : (place : ℕ → Option ℕ) (come : ℕ → Option (Option ℕ)) (acknowledged packet p n : ℕ) (s : StreamValue) → Ours s → Ours (shown_from place come acknowledged packet p n s)
  shown_so place come acknowledged packet p zero s h = h
  shown_so place come acknowledged packet p (suc n) s h =
      shown_so place come acknowledged packet (p + 1) n (at_place acknowledged packet (come p) (place p) s) (place_so acknowledged packet (come p) (place p) s h)

  summed_so : (facts : Facts) (known : Option ℕ) (learnt : List ToldMapping) (acked : Acked) → Ours acked.stream → Ours (summed facts known learnt acked).stream
  summed_so facts None learnt acked h = h
  summed_so facts (Some known) learnt acked h =
      let behind = with_sums facts.packet learnt acked.lane in tried_so telling facts.packet known behind.octet behind.waiting acked.stream h

  judged_ours : (facts : Facts) → facts.index ≡ index → (position : ℕ) (options : List OptionValue) (keys : Keys) (peers s : StreamValue) (l : LaneValue) → Ours s
      → Ours (judged_at facts position options keys peers s l).stream
  judged_ours facts is position options keys peers s l h =
      let before : Mapped = record { stream = s; lane = fin_taken facts position l; learnt = []; has_line = false } in
      let told = mapped_with facts (first_of facts.side keys) position options before in
      let paid = behind_payload facts position peers.acknowledged told in
      let lane = with_payload (payload_at facts position) facts.packet told.lane in
      let within = within_each facts position told.learnt told.stream in
      acks_so acks facts (first_of (peer facts.side) keys) peers options (summed facts (first_of facts.side keys) told.learnt paid)
      (summed_so facts (first_of facts.side keys) told.learnt paid
      (shown_so (place_of lane) (comes (payload_at facts position) told lane) peers.acknowledged facts.packet 1 (lane.top - 1) (ended_by_fin told.lane facts.packet within)
      (within_so telling facts position told.learnt told.stream (mapped_so facts is (first_of facts.side keys) position options before h))))

  -- with a line
  abbrev Lined : LaneValue → StreamValue → LaneValue → Type 0
  Lined before s l = (is_some before.line ≡ true → is_some l.line ≡ true) × IfSome s.infinite (λ i. Old i ⊎ (is_some l.line ≡ true))

  sum_lined : (packet : ℕ) (m : ToldMapping) (before : LaneValue) (s : StreamValue) (l : LaneValue) → Lined before s l → Lined before s (with_sum packet m l)
  sum_lined packet m before s l h = elim (l.summed m) as (λ b. Lined before s (if b then l else record l {
    summed = λ other. l.summed other || same_mapping other m;
    waiting = l.waiting ++ record { mapping = m; packet = packet } ∷ [];
  })) [ true ↦ h | false ↦ h ]

  line_telling : (l : LaneValue) → TellingKeeps (λ (s : StreamValue). IfSome s.infinite (λ i. Old i ⊎ (is_some l.line ≡ true)))
  line_telling l = record { tells = λ r packet fault s h. h; counts = λ s keys joins mappings sums data_acks h. h }

  steps : (first : Option ℕ) (before : LaneValue) → StepsKeep first (Lined before)
  steps first before = record {
    acks = record { telling = λ l. record { tells = λ r packet fault s h. h; counts = λ s keys joins mappings sums data_acks h. h }; acks = λ place s l h. h };
    ends = λ position s l h. h;
    maps = λ teller offer position place s l none h. h;
    lines = λ teller place line s l h. (λ is. refl, inr refl);
    fins = λ packet s l h. h;
    pays = λ payload packet s l h. h;
    shows = λ acknowledged packet p place octet s l e h. h;
    sums = λ packet known m s l is some h. sum_lined packet m before s l h;
    tries = λ packet known s l is h. (h.0, tried_so (line_telling l) packet known l.octet l.waiting s h.1);
  }

  -- an infinite mapping that wasn't learnt before is of the segment's flow, and the lane has a line
  pub record IsLinked (before : LaneValue) (s : StreamValue) (l : LaneValue) : Type 0 where
    pub stays : is_some before.line ≡ true → is_some l.line ≡ true
    pub learnt : IfSome s.infinite (λ i. Old i ⊎ ((i.flow ≡ index) × (is_some l.line ≡ true)))

  both_so : (infinite : Option Infinite) (l : LaneValue) → IfSome infinite (λ i. Old i ⊎ (i.flow ≡ index)) → IfSome infinite (λ i. Old i ⊎ (is_some l.line ≡ true))
      → IfSome infinite (λ i. Old i ⊎ ((i.flow ≡ index) × (is_some l.line ≡ true)))
  both_so None l one other = tt
  both_so (Some i) l (inl old) other = inl old
  both_so (Some i) l (inr here) (inl old) = inl old
  both_so (Some i) l (inr here) (inr line) = inr (here, line)

pub old_so : (index : ℕ) (s : StreamValue) (was : Option Infinite) → s.infinite ≡ was → Ours index was s
old_so index s was is = subst (λ (o : Option Infinite). IfSome o (λ i. Old index was i ⊎ (i.flow ≡ index))) (sym is) (itself was)
  where
    itself : (o : Option Infinite) → IfSome o (λ i. IsSomeAnd o (λ old. old.flow ≡ i.flow) ⊎ (i.flow ≡ index))
    itself None = tt
    itself (Some i) = inl refl

pub linked_so : (index : ℕ) (facts : Facts) → facts.index ≡ index → (position : ℕ) (options : List OptionValue) (keys : Keys) (peers s : StreamValue) (l : LaneValue)
    → IsLinked index s.infinite l (judged_at facts position options keys peers s l).stream (judged_at facts position options keys peers s l).lane
linked_so index facts is position options keys peers s l =
    let behind = judged_at facts position options keys peers s l in
    let ours = judged_ours index s.infinite facts is position options keys peers s l (old_so index s s.infinite refl) in
    let lined = at_so facts position options keys peers s l (steps index s.infinite (first_of facts.side keys) l) ((λ some. some), itself s.infinite) in
    record { stays = lined.0; learnt = both_so index s.infinite behind.stream.infinite behind.lane ours lined.1 }
  where
    itself : (o : Option Infinite) → IfSome o (λ i. IsSomeAnd o (λ old. old.flow ≡ i.flow) ⊎ (is_some l.line ≡ true))
    itself None = tt
    itself (Some i) = inl refl

-- ---- a book and lanes, where A opened the flow

abbrev pub line_on : Side → LanesValue → Option Line
line_on A lanes = lanes.opener.line
line_on B lanes = lanes.other.line

abbrev pub infinite_of : Side → BookValue → Option Infinite
infinite_of s book = (stream_at s book).infinite

-- what is left by a segment of this flow
pub record LeftLinked (index : ℕ) (old new : Left) : Type 0 where
  pub stays : (s : Side) → is_some (line_on s old.lanes) ≡ true → is_some (line_on s new.lanes) ≡ true
  pub learnt : (s : Side) → IfSome (infinite_of s new.book) (λ i. IsSomeAnd (infinite_of s old.book) (λ o. o.flow ≡ i.flow) ⊎ ((i.flow ≡ index) × (is_some (line_on s new.lanes) ≡ true)))

sides : (P : Side → Type 0) → P A → P B → (s : Side) → P s
sides P a b A = a
sides P a b B = b

module _ (index : ℕ) where
  -- nothing new was learnt
  abbrev Learnt : Side → Option Infinite → LanesValue → Infinite → Type 0
  Learnt s was lanes i = IsSomeAnd was (λ o. o.flow ≡ i.flow) ⊎ ((i.flow ≡ index) × (is_some (line_on s lanes) ≡ true))

  same_learnt : (s : Side) (lanes : LanesValue) (o new : Option Infinite) → new ≡ o → IfSome new (Learnt s o lanes)
  same_learnt s lanes None None is = tt
  same_learnt s lanes (Some i) (Some j) is = inl (ap (λ (x : Option Infinite). flow_in x) (sym is))
    where
      flow_in : Option Infinite → ℕ
      flow_in None = 0
      flow_in (Some x) = x.flow
  same_learnt s lanes None (Some j) is = cc
  same_learnt s lanes (Some i) None is = cc

  same_left : (book : BookValue) (lanes : LanesValue) (old : BookValue) → ((s : Side) → infinite_of s book ≡ infinite_of s old)
      → LeftLinked index (record { book = old; lanes = lanes }) (record { book = book; lanes = lanes })
  same_left book lanes old same = record { stays = λ s some. some; learnt = λ s. same_learnt s lanes (infinite_of s old) (infinite_of s book) (same s) }

  restreamed : (t : Side) (stream : StreamValue) (book : BookValue) → stream.infinite ≡ infinite_of t book → (s : Side) → infinite_of s (with_stream t stream book) ≡ infinite_of s book
  restreamed A stream book same A = same
  restreamed A stream book same B = refl
  restreamed B stream book same A = refl
  restreamed B stream book same B = same

  then_linked : (a b c : Left) → LeftLinked index a b → LeftLinked index b c → LeftLinked index a c
  then_linked a b c one two = record {
    stays = λ s some. two.stays s (one.stays s some);
    learnt = λ s. by s (infinite_of s a.book) (infinite_of s b.book) (infinite_of s c.book) (one.learnt s) (two.learnt s);
  }
    where
      by : (s : Side) (was mid new : Option Infinite) → IfSome mid (Learnt s was b.lanes) → IfSome new (Learnt s mid c.lanes) → IfSome new (Learnt s was c.lanes)
      by s was mid None first next = tt
      by s was None (Some i) first (inl never) = absurd never
      by s was (Some m) (Some i) (inl old) (inl same) = inl (on was old)
        where
          on : (o : Option Infinite) → IsSomeAnd o (λ x. x.flow ≡ m.flow) → IsSomeAnd o (λ x. x.flow ≡ i.flow)
          on None never = never
          on (Some x) is = is ∙ same
      by s was (Some m) (Some i) (inr here) (inl same) = inr (sym same ∙ here.0, two.stays s here.1)
      by s was mid (Some i) first (inr here) = inr here

  -- a segment at its position
  judged_left : (facts : Facts) → facts.index ≡ index → facts.is_opener ≡ is_a facts.side → (position : Option ℕ) (options : List OptionValue) (keys : Keys) (left : Left)
      → LeftLinked index left (judged_from facts position options keys left)
  judged_left facts is opens None options keys left = record { stays = λ s some. some; learnt = λ s. same_learnt s left.lanes (infinite_of s left.book) (infinite_of s left.book) refl }
  judged_left facts is opens (Some position) options keys left = by facts.side facts.is_opener opens refl refl
    where
      behind : Acked
      behind = judged_at (with_plain options left facts) position options keys (stream_at (peer facts.side) left.book) (stream_at facts.side left.book) (own_lane facts left.lanes)

      linked : IsLinked index (infinite_of facts.side left.book) (own_lane facts left.lanes) behind.stream behind.lane
      linked = linked_so index (with_plain options left facts) is position options keys (stream_at (peer facts.side) left.book) (stream_at facts.side left.book) (own_lane facts left.lanes)

      own : (was : Option Infinite) (lane : LaneValue) → infinite_of facts.side left.book ≡ was → own_lane facts left.lanes ≡ lane
          → IsLinked index (infinite_of facts.side left.book) (own_lane facts left.lanes) behind.stream behind.lane → IsLinked index was lane behind.stream behind.lane
      own was lane same_was same_lane it =
          subst (λ (l : LaneValue). IsLinked index was l behind.stream behind.lane) same_lane (subst (λ (o : Option Infinite). IsLinked index o (own_lane facts left.lanes) behind.stream behind.lane) same_was it)

      by : (side : Side) (b : Bool) → b ≡ is_a side → facts.side ≡ side → facts.is_opener ≡ b
          → LeftLinked index left (record { book = with_stream side behind.stream (gap_counted facts left).book; lanes = if b then record left.lanes { opener = behind.lane } else record left.lanes { other = behind.lane } })
      by A true e is_side is_b =
          let it = own left.book.a.infinite left.lanes.opener (ap (λ (t : Side). infinite_of t left.book) is_side) (ap (λ (x : Bool). if x then left.lanes.opener else left.lanes.other) is_b) linked in record {
            stays = sides (λ s. is_some (line_on s left.lanes) ≡ true → is_some (line_on s (record left.lanes { opener = behind.lane })) ≡ true) it.stays (λ some. some);
            learnt = sides (λ s. IfSome (infinite_of s (with_stream A behind.stream (gap_counted facts left).book)) (Learnt s (infinite_of s left.book) (record left.lanes { opener = behind.lane })))
                it.learnt (same_learnt B (record left.lanes { opener = behind.lane }) left.book.b.infinite left.book.b.infinite refl);
          }
      by B false e is_side is_b =
          let it = own left.book.b.infinite left.lanes.other (ap (λ (t : Side). infinite_of t left.book) is_side) (ap (λ (x : Bool). if x then left.lanes.opener else left.lanes.other) is_b) linked in record {
            stays = sides (λ s. is_some (line_on s left.lanes) ≡ true → is_some (line_on s (record left.lanes { other = behind.lane })) ≡ true) (λ some. some) it.stays;
            learnt = sides (λ s. IfSome (infinite_of s (with_stream B behind.stream (gap_counted facts left).book)) (Learnt s (infinite_of s left.book) (record left.lanes { other = behind.lane })))
                (same_learnt A (record left.lanes { other = behind.lane }) left.book.a.infinite left.book.a.infinite refl) it.learnt;
          }
      by A false e is_side is_b = cc
      by B true e is_side is_b = cc

  -- ---- a segment in its flow

  positions_left : (facts : Facts) → facts.index ≡ index → facts.is_opener ≡ is_a facts.side → (options : List OptionValue) (keys : Keys) (left : Left)
      → LeftLinked index left (judged_positions facts options keys left)
  positions_left facts is opens options keys left = by facts.seen.segment.head.syn (position_of (own_base facts) (own_lane facts left.lanes) facts.seen.segment.head.seq facts.seen.payload_len)
    where
      by : (b : Bool) (position : Option ℕ) → LeftLinked index left (if b then left else judged_from facts position options keys left)
      by true position = record { stays = λ s some. some; learnt = λ s. same_learnt s left.lanes (infinite_of s left.book) (infinite_of s left.book) refl }
      by false position = judged_left facts is opens position options keys left

  pub flow_linked : (at : Option Side) (packet : ℕ) (seen : Seen) (flow : Flow) (b : Belongs) → b.opener ≡ A → (keys : Keys) (left : Left)
      → LeftLinked index left (judged_flow at packet seen index flow b keys left).left
  flow_linked at packet seen flow b of_a keys left = formed flow.opened
    where
      side : Side
      side = side_of flow b seen

      options : List SeenValue
      options = seen_options keys.checksums seen.segment.options

      next : Left
      next = record left { book = with_stream side (told_formless packet options (stream_at side left.book)) left.book }

      -- what is told of options leaves the infinite mapping
      tells : (o : Option Infinite) → TellingKeeps (λ (s : StreamValue). s.infinite ≡ o)
      tells o = record { tells = λ r packet fault s h. h; counts = λ s keys joins mappings sums data_acks h. h }

      first : LeftLinked index left next
      first = same_left next.book left.lanes left.book
          (restreamed side (told_formless packet options (stream_at side left.book)) left.book (formless_so (tells (infinite_of side left.book)) packet options (stream_at side left.book) refl))

      opens : same_end seen.source flow.opener ≡ is_a side
      opens = by (same_end seen.source flow.opener)
        where
          by : (x : Bool) → x ≡ is_a (if x then b.opener else peer b.opener)
          by true = ap is_a (sym of_a)
          by false = ap (λ (t : Side). is_a (peer t)) (sym of_a)

      formed : (opened : Option Opened) → LeftLinked index left (judged_formed at packet seen index flow opened side options keys next).left
      formed None = first
      formed (Some opened) =
          let facts = opened_facts at packet seen index flow opened side in
          let start : KeyedValue = record { options = []; keys = keys; stream = stream_at side next.book } in
          let made = judged_options facts options start in
          let mid : Left = record next { book = with_stream side made.stream next.book } in
          then_linked left mid (judged_positions facts made.options made.keys mid)
          (then_linked left next mid first
          (same_left mid.book next.lanes next.book (restreamed side made.stream next.book (options_so (tells (infinite_of side next.book)) facts options start refl))))
          (positions_left facts refl opens made.options made.keys mid)

-- ---- all books and lanes

-- what a side sent on a flow has a line
pub record HasLine (all : List LanesValue) (s : Side) (flow : ℕ) : Type 0 where
  pub lanes : LanesValue
  pub there : slice_get all flow ≡ Some lanes
  pub line : is_some (line_on s lanes) ≡ true

abbrev pub LinesLinked : JudgedValue → Type 0
LinesLinked state = (c : ℕ) (book : BookValue) → slice_get state.books c ≡ Some book → (s : Side) → IfSome (infinite_of s book) (λ i. HasLine state.lanes s i.flow)

some_lines : (all new : List LanesValue) (s : Side) → ((flow : ℕ) → HasLine all s flow → HasLine new s flow) → (o : Option Infinite) → IfSome o (λ i. HasLine all s i.flow) → IfSome o (λ i. HasLine new s i.flow)
some_lines all new s stays None h = tt
some_lines all new s stays (Some i) h = stays i.flow h

module _ (index : ℕ) (state : JudgedValue) (c : ℕ) (book : BookValue) (lanes : LanesValue) (left : Left) (at_book : slice_get state.books c ≡ Some book) (at_lanes : slice_get state.lanes index ≡ Some lanes)
    (linked : LeftLinked index (record { book = book; lanes = lanes }) left) (h : LinesLinked state) where
  abbrev new : List LanesValue
  new = set state.lanes index left.lanes

  persists : (s : Side) (flow : ℕ) → HasLine state.lanes s flow → HasLine new s flow
  persists s flow has = by (set_either state.lanes index flow left.lanes has.lanes has.there)
    where
      by : ((index ≡ flow) × (slice_get new flow ≡ Some left.lanes)) ⊎ (slice_get new flow ≡ Some has.lanes) → HasLine new s flow
      by (inl both) =
          let same : lanes ≡ has.lanes = some_same lanes has.lanes (sym at_lanes ∙ ap (slice_get state.lanes) both.0 ∙ has.there) in
          record { lanes = left.lanes; there = both.1; line = linked.stays s (subst (λ (l : LanesValue). is_some (line_on s l) ≡ true) (sym same) has.line) }
      by (inr other) = record { lanes = has.lanes; there = other; line = has.line }

  put_so : (d : ℕ) (other : BookValue) → slice_get (set state.books c left.book) d ≡ Some other → (s : Side) → IfSome (infinite_of s other) (λ i. HasLine new s i.flow)
  put_so d other at s = by (set_item state.books c d left.book other at)
    where
      learnt : (was now : Option Infinite) → IfSome was (λ i. HasLine state.lanes s i.flow)
          → IfSome now (λ i. IsSomeAnd was (λ o. o.flow ≡ i.flow) ⊎ ((i.flow ≡ index) × (is_some (line_on s left.lanes) ≡ true))) → IfSome now (λ i. HasLine new s i.flow)
      learnt was None link it = tt
      learnt None (Some i) link (inl never) = absurd never
      learnt (Some o) (Some i) link (inl same) = persists s i.flow (subst (HasLine state.lanes s) same link)
      learnt was (Some i) link (inr here) =
          subst (HasLine new s) (sym here.0) (record { lanes = left.lanes; there = set_there state.lanes index left.lanes lanes at_lanes; line = here.1 })

      by : ((c ≡ d) × (left.book ≡ other)) ⊎ (slice_get state.books d ≡ Some other) → IfSome (infinite_of s other) (λ i. HasLine new s i.flow)
      by (inl both) =
          subst (λ (b : BookValue). IfSome (infinite_of s b) (λ i. HasLine new s i.flow)) both.1 (learnt (infinite_of s book) (infinite_of s left.book) (h c book at_book s) (linked.learnt s))
      by (inr old) = some_lines state.lanes new s (persists s) (infinite_of s other) (h d other old s)

-- each flow was opened by A
abbrev pub OfA : List Flow → Type 0
OfA flows = Each (λ (f : Flow). IfSome f.belongs (λ b. b.opener ≡ A)) flows

module _ (at : Option Side) (packet : ℕ) (seen : Seen) where
  known_so : (index : ℕ) (flow : Flow) (b : Belongs) → b.opener ≡ A → (keys : Option Keys) (book : Option BookValue) (lanes : Option LanesValue) (state : JudgedValue)
      → slice_get state.books b.connection ≡ book → slice_get state.lanes index ≡ lanes → LinesLinked state → LinesLinked (judged_known at packet seen index flow b keys book lanes state)
  known_so index flow b of_a (Some keys) (Some book) (Some lanes) state at_book at_lanes h =
      let old : Left = record { book = book; lanes = lanes } in
      put_so index state b.connection book lanes (judged_flow at packet seen index flow b keys old).left at_book at_lanes (flow_linked index at packet seen flow b of_a keys old) h
  known_so index flow b of_a (Some keys) (Some book) None state at_book at_lanes h = h
  known_so index flow b of_a (Some keys) None lanes state at_book at_lanes h = h
  known_so index flow b of_a None book lanes state at_book at_lanes h = h

  belonging_so : (index : ℕ) (flow : Flow) (b : Option Belongs) → IfSome b (λ b. b.opener ≡ A) → (state : JudgedValue) → LinesLinked state → LinesLinked (judged_belonging at packet seen index flow b state)
  belonging_so index flow None of_a state h = h
  belonging_so index flow (Some b) of_a state h =
      known_so index flow b of_a (slice_get state.seen.connections b.connection) (slice_get state.books b.connection) (slice_get state.lanes index) state refl refl h

  in_flow_so : (index : ℕ) (flow : Option Flow) → IfSome flow (λ f. IfSome f.belongs (λ b. b.opener ≡ A)) → (state : JudgedValue) → LinesLinked state
      → LinesLinked (judged_in_flow at packet seen index flow state)
  in_flow_so index None of_a state h = h
  in_flow_so index (Some flow) of_a state h = belonging_so index flow flow.belongs of_a state h

  pub wrong_so : (wrong : Option WrongToken) (state : JudgedValue) → LinesLinked state → LinesLinked (with_wrong_token wrong state)
  wrong_so None state h = h
  wrong_so (Some wrong) state h = by (slice_get state.books wrong.belongs.connection) refl
    where
      by : (o : Option BookValue) → slice_get state.books wrong.belongs.connection ≡ o → LinesLinked (record state { books = token_in o wrong state.books })
      by None e d other at_other s = h d other at_other s
      by (Some book) e d other at_other s = item (set_item state.books wrong.belongs.connection d (token_told wrong book) other at_other)
        where
          item : ((wrong.belongs.connection ≡ d) × (token_told wrong book ≡ other)) ⊎ (slice_get state.books d ≡ Some other) → IfSome (infinite_of s other) (λ i. HasLine state.lanes s i.flow)
          item (inl both) =
              subst (λ (b : BookValue). IfSome (infinite_of s b) (λ i. HasLine state.lanes s i.flow)) both.1
              (subst (λ (o : Option Infinite). IfSome o (λ i. HasLine state.lanes s i.flow))
              (sym (restreamed 0 wrong.belongs.opener (tell rule.Token wrong.packet (Found (Number32 wrong.expected wrong.was)) (stream_at wrong.belongs.opener book)) book refl s)) (h wrong.belongs.connection book e s))
          item (inr old) = h d other old s

  pub grown_so : (now : SeenFlows) (state : JudgedValue) → LinesLinked state → LinesLinked (grown now state)
  grown_so now state h d book at_book s = by (grown_item (length now.connections) empty_book state.books d book at_book)
    where
      stays : (flow : ℕ) → HasLine state.lanes s flow → HasLine (grown now state).lanes s flow
      stays flow has = record { lanes = has.lanes; there = grown_stays (length now.flows) empty_lanes state.lanes flow has.lanes has.there; line = has.line }

      none : (s : Side) → infinite_of s empty_book ≡ None
      none A = refl
      none B = refl

      by : (book ≡ empty_book) ⊎ (slice_get state.books d ≡ Some book) → IfSome (infinite_of s book) (λ i. HasLine (grown now state).lanes s i.flow)
      by (inl empty) =
          subst (λ (o : Option Infinite). IfSome o (λ i. HasLine (grown now state).lanes s i.flow)) (sym (ap (infinite_of s) empty ∙ none s)) tt
      by (inr old) = some_lines state.lanes (grown now state).lanes s stays (infinite_of s book) (h d book old s)

  placed_so : (place : Option Place) (state : JudgedValue) → OfA state.seen.flows → LinesLinked state → LinesLinked (judged_place at packet seen place state)
  placed_so None state of_a h = h
  placed_so (Some place) state of_a h =
      in_flow_so place.flow (slice_get told.seen.flows place.flow) (by (slice_get told.seen.flows place.flow) (ap (λ (x : SeenFlows). slice_get x.flows place.flow) (same place.wrong_token)))
      told (wrong_so place.wrong_token state h)
    where
      told : JudgedValue
      told = with_wrong_token place.wrong_token state

      same : (wrong : Option WrongToken) → (with_wrong_token wrong state).seen ≡ state.seen
      same None = refl
      same (Some wrong) = refl

      by : (o : Option Flow) → o ≡ slice_get state.seen.flows place.flow → IfSome o (λ f. IfSome f.belongs (λ b. b.opener ≡ A))
      by None e = tt
      by (Some flow) e = of_a place.flow flow (sym e)

  -- behind each segment of a capture
  pub judged_linked : (state : JudgedValue) → OfA (taken state.seen packet seen (seen.has_good_sum || false)).now.flows → LinesLinked state → LinesLinked (judged at true state packet seen)
  judged_linked state of_a h =
      let it = taken state.seen packet seen (seen.has_good_sum || false) in placed_so it.place (grown it.now state) of_a (grown_so it.now state h)
