-- The packets of a connection of ours break no rule on tokens and options, and have their payload within its mappings.
use Rattle.std.proofs.Common.{◌≡◌, refl, sym, ap, ◌∙◌, subst, ℕ, ◌+◌, ◌-◌, ◌/◌, ◌%◌, ◌^◌, ◌≤◌, nat_le, nat_lt, inl, inr, arith, Bool, true, false, if◌then◌else◌, Option, Some, None, List, [], map}
use Rattle.std.specs.Prelude.{All, IfSome}
use Rattle.std.proofs.lemmas.List.Elements.{All-nil, All-weaker}
use Rattle.std.specs.Prelude.{option_and_then}
use Rattle.std.proofs.lemmas.Bool.{ltb-false}
use Rattle.sides.specs.declared.side.Side.{Side}
use Rattle.sides.specs.declared.side.Side.TheVariants.{A, B}
use Rattle.sides.specs.Side.{peer}
use Rattle.mptcp_options.specs.Value.{OptionValue}
use Rattle.capture_reader.specs.Seen.{Seen}
use Rattle.judge_rules.specs.declared.finding.Rule.{Rule}
use Rattle.seen_connections.specs.declared.connections.Keys.{Keys}
use Rattle.seen_connections.specs.declared.flow.Belongs.{Belongs}
use Rattle.seen_connections.specs.declared.flow.Flow.{Flow}
use Rattle.seen_connections.specs.declared.flow.Opened.{Opened}
use Rattle.seen_connections.specs.SeenOptions.{Readable, SeenValue, seen_options}
use Rattle.seen_streams.specs.Positions.{position_of}
use Rattle.seen_streams.specs.State.{StreamValue}
use Rattle.rule_book.specs.Facts.{Facts, own_base, own_lane}
use Rattle.rule_book.specs.Judged.{Told, empty_book, judged_flow, judged_formed, judged_opened, judged_side, nothing_judged, opened_facts}
use Rattle.rule_book.specs.Signals.{KeyedValue, judged_options, told_formless}
use Rattle.rule_book.specs.State.{BookValue, stream_at, with_stream}
use Rattle.rule_book.specs.Stream.{Left, gap_counted, judged_at, judged_from, judged_positions, with_plain}
use Rattle.capture_verdict.specs.Judging.{judged_packets}
use Rattle.judge_laws.specs.GoesOn.{broke, stream_in}
use Rattle.judge_rules.specs.Mappings.{offer_of}
use Rattle.judge_rules.specs.declared.mappings.Offer.{Offer}
use Rattle.seen_streams.specs.State.{LaneValue}
use Rattle.seq_units.specs.Number.{position_near}
use Rattle.link_trace.specs.declared.sent.Sent.{Sent}
use Rattle.world_laws.specs.Openings.{Start}
use Rattle.own_runs.specs.Traces.{FitsCapture, packet_for}
use Rattle.own_runs.proofs.KeptOptions.{kept_so}
use Rattle.own_runs.proofs.LateJoins.{AllBehind}
use Rattle.own_runs.proofs.Own.{Drawn, IsOwn, MapsIn, OfferIn, ValueIs, first_seq, is_a, own_initial}
use Rattle.own_runs.proofs.OwnFlows.{BasesAre, FlowOn, KeysOwn, NonceIs}
use Rattle.own_runs.proofs.OwnOptions.{IsOf, options_so, readable_so}
use Rattle.own_runs.proofs.OwnPackets.{opens_so, sender_so}
use Rattle.own_runs.proofs.OwnPositions.{OfferFits, OptionFits, at_so, is_option}
use Rattle.own_runs.proofs.Telling.{Untold, others_keep}
use Rattle.own_runs.proofs.TokenPackets.{Leaves, SegmentsTell, book_tells}
use Rattle.own_runs.proofs.Values.{drawn}

-- of both sides
abbrev pub BookUntold : BookValue → Type 0
BookUntold book = (s : Side) → Untold is_option (stream_at s book).broken

none_told : Untold is_option []
none_told r is = refl

new_untold : BookUntold empty_book
new_untold A = none_told
new_untold B = none_told

with_untold : (s : Side) (stream : StreamValue) (book : BookValue) → Untold is_option stream.broken → BookUntold book → BookUntold (with_stream s stream book)
with_untold A stream book new h A = new
with_untold A stream book new h B = h B
with_untold B stream book new h A = h A
with_untold B stream book new h B = new

gaps_untold : (gaps : ℕ) (book : BookValue) → BookUntold book → BookUntold (record book { gaps = gaps })
gaps_untold gaps book h A = h A
gaps_untold gaps book h B = h B

-- ---- a position that is near has its number

ahead_so : (base top seq n p : ℕ) → n ≡ (seq + (2 ^ 32 - (base + top) % 2 ^ 32)) % 2 ^ 32 → top + n ≡ p → (base + p) % 2 ^ 32 ≡ seq % 2 ^ 32
ahead_so base top seq n p is at = omega (arith, is, at)

back_so : (base top seq n p : ℕ) → n ≡ (seq + (2 ^ 32 - (base + top) % 2 ^ 32)) % 2 ^ 32 → 2 ^ 32 ≤ top + n → top + n - 2 ^ 32 ≡ p → (base + p) % 2 ^ 32 ≡ seq % 2 ^ 32
back_so base top seq n p is above at = omega (arith, is, above, at)

some_is : {x y : ℕ} → (let one : Option ℕ = Some x in one) ≡ Some y → x ≡ y
some_is e = cc

near_so : (base top seq p : ℕ) → position_near (2 ^ 32) base top seq ≡ Some p → (base + p) % 2 ^ 32 ≡ seq % 2 ^ 32
unfolding position_near
near_so base top seq p is =
    by ((seq + (2 ^ 32 - (base + top) % 2 ^ 32)) % 2 ^ 32) refl (nat_lt ((seq + (2 ^ 32 - (base + top) % 2 ^ 32)) % 2 ^ 32) (2 ^ 32 / 2))
    (nat_lt (top + (seq + (2 ^ 32 - (base + top) % 2 ^ 32)) % 2 ^ 32) (2 ^ 32)) refl is
  where
    by : (n : ℕ) → n ≡ (seq + (2 ^ 32 - (base + top) % 2 ^ 32)) % 2 ^ 32 → (low under : Bool) → nat_lt (top + n) (2 ^ 32) ≡ under
        → (if low then Some (top + n) else (if under then None else Some (top + n - 2 ^ 32))) ≡ Some p → (base + p) % 2 ^ 32 ≡ seq % 2 ^ 32
    by n ahead true under e is = ahead_so base top seq n p ahead (some_is is)
    by n ahead false true e is = cc
    by n ahead false false e is = back_so base top seq n p ahead (ltb-false (top + n) (2 ^ 32) e) (some_is is)

-- a segment's position has its number
pub numbered : (base : ℕ) (lane : LaneValue) (seq len p : ℕ) → position_of base lane seq len ≡ Some p → (base + p) % 2 ^ 32 ≡ seq % 2 ^ 32
numbered base lane seq len p is = by (position_near (2 ^ 32) base lane.top seq) refl is
  where
    by : (o : Option ℕ) → position_near (2 ^ 32) base lane.top seq ≡ o → option_and_then (λ position. if nat_le (position + len) (2 ^ 61) then Some position else None) o ≡ Some p
        → (base + p) % 2 ^ 32 ≡ seq % 2 ^ 32
    by None e is = cc
    by (Some q) e is = near_so base lane.top seq p (e ∙ few (nat_le (q + len) (2 ^ 61)) is)
      where
        few : (b : Bool) → (if b then Some q else None) ≡ Some p → Some q ≡ Some p
        few true is = is
        few false is = cc

-- so a mapping that stands at the number stands at the position
fits_so : (facts : Facts) (initial position : ℕ) (option : OptionValue) → (initial + position) % 2 ^ 32 ≡ facts.seen.segment.head.seq % 2 ^ 32
    → MapsIn initial facts.seen.segment.head.seq facts.seen.payload_len option → OptionFits facts position option
fits_so facts initial position option at is first = by (offer_of first option) (is first)
  where
    by : (o : Option Offer) → IfSome o (OfferIn initial facts.seen.segment.head.seq facts.seen.payload_len) → IfSome o (OfferFits facts position)
    by None is = tt
    by (Some offer) (inl none) = inl none
    by (Some offer) (inr is) = inr (let number = is.0 in omega (arith, at, number), is.1)

fit_so : (facts : Facts) (initial position : ℕ) (options : List OptionValue) → (initial + position) % 2 ^ 32 ≡ facts.seen.segment.head.seq % 2 ^ 32
    → All (MapsIn initial facts.seen.segment.head.seq facts.seen.payload_len) options → All (OptionFits facts position) options
fit_so facts initial position options at each =
    All-weaker (MapsIn initial facts.seen.segment.head.seq facts.seen.payload_len) (OptionFits facts position) (λ option is. fits_so facts initial position option at is) options each

-- the number of position 0 of a segment's sender
pub base_so : (d : Drawn) (seen : Seen) (own : IsOwn d seen) (flow : Flow) → FlowOn d own.path flow → (at : Option Side) (packet index : ℕ) (opened : Opened)
    → flow.opened ≡ Some opened → own_base (opened_facts at packet seen index flow opened own.from) ≡ first_seq d own.path own.from
base_so d seen own flow f at packet index opened e =
    ap (λ (b : Bool). if b then opened.opener_base else opened.other_base) (opens_so d seen own flow f)
    ∙ by own.from (subst (λ (o : Option Opened). IfSome o (BasesAre d own.path)) e f.bases)
  where
    by : (s : Side) → BasesAre d own.path opened → (if is_a s then opened.opener_base else opened.other_base) ≡ first_seq d own.path s
    by A bases = bases.0
    by B bases = bases.1

module _ (d : Drawn) where
  abbrev LeavesSo : Told → Type 0
  LeavesSo told = Leaves d BookUntold told

  module _ (at : Option Side) (packet : ℕ) (seen : Seen) (own : IsOwn d seen) where
    positions_so : (facts : Facts) (options : List OptionValue) (keys : Keys) (left : Left) → (initial : ℕ) → own_base facts ≡ (initial + 0) % 2 ^ 32
        → All (MapsIn initial facts.seen.segment.head.seq facts.seen.payload_len) options → BookUntold left.book → BookUntold (judged_positions facts options keys left).book
    positions_so facts options keys left initial base maps h =
        by facts.seen.segment.head.syn (position_of (own_base facts) (own_lane facts left.lanes) facts.seen.segment.head.seq facts.seen.payload_len) refl
      where
        at_number : (position : ℕ) → (own_base facts + position) % 2 ^ 32 ≡ facts.seen.segment.head.seq % 2 ^ 32
            → (initial + position) % 2 ^ 32 ≡ facts.seen.segment.head.seq % 2 ^ 32
        at_number position at = omega (arith, at, base)

        from : (position : Option ℕ) → position_of (own_base facts) (own_lane facts left.lanes) facts.seen.segment.head.seq facts.seen.payload_len ≡ position → BookUntold (judged_from facts position options keys left).book
        from None e = h
        from (Some position) e =
            let own_stream = stream_at facts.side left.book in
            let lane = own_lane facts left.lanes in
            let gone = (gap_counted facts left).book in
            with_untold facts.side (judged_at (with_plain options left facts) position options keys (stream_at (peer facts.side) left.book) own_stream lane).stream gone
            (at_so (others_keep is_option) (with_plain options left facts) position options keys (stream_at (peer facts.side) left.book) own_stream lane
            (fit_so facts initial position options (at_number position (numbered (own_base facts) (own_lane facts left.lanes) facts.seen.segment.head.seq facts.seen.payload_len position e)) maps)
            (h facts.side))
            (gaps_untold gone.gaps left.book h)

        by : (b : Bool) (position : Option ℕ) → position_of (own_base facts) (own_lane facts left.lanes) facts.seen.segment.head.seq facts.seen.payload_len ≡ position
            → BookUntold (if b then left else judged_from facts position options keys left).book
        by true position e = h
        by false position e = from position e

    module _ (index : ℕ) (flow : Flow) (f : FlowOn d own.path flow) (keys : Keys) (k : KeysOwn d keys) (left : Left) (h : BookUntold left.book) where
      opened_so : (opened : Opened) → flow.opened ≡ Some opened
          → LeavesSo (judged_opened (opened_facts at packet seen index flow opened own.from) (map Readable own.values) keys left)
      opened_so opened e =
          let facts = opened_facts at packet seen index flow opened own.from in
          let it : IsOf d is_option own.path facts = record {
            opening = f.opening;
            nonce = subst (λ (o : Option Opened). IfSome o (NonceIs d own.path flow.opening)) e f.nonce;
            opener = opens_so d seen own flow f;
          } in
          let first : KeyedValue = record { options = []; keys = keys; stream = stream_at own.from left.book } in
          let made = options_so d is_option own.path facts it own.values first own.each (record { keys = k; untold = h own.from; each = All-nil (ValueIs d own.path own.from) }) in
          let all = judged_options facts (map Readable own.values) first in
          record {
            keys = made.keys;
            book = positions_so facts all.options all.keys (record left { book = with_stream own.from all.stream left.book }) (own_initial d own.path own.from) (base_so d seen own flow f at packet index opened e)
                (kept_so (MapsIn (own_initial d own.path own.from) seen.segment.head.seq seen.payload_len) facts own.values first own.maps
                (All-nil (MapsIn (own_initial d own.path own.from) seen.segment.head.seq seen.payload_len)))
                (with_untold own.from all.stream left.book made.untold h);
          }

      formed_so : (opened : Option Opened) → flow.opened ≡ opened
          → LeavesSo (judged_formed at packet seen index flow opened own.from (map Readable own.values) keys left)
      formed_so None e = record { keys = k; book = h }
      formed_so (Some opened) e = opened_so opened e

    flow_so : (index : ℕ) (flow : Flow) (f : FlowOn d own.path flow) (belongs : Belongs) → belongs.opener ≡ A → (keys : Keys) (left : Left) → KeysOwn d keys
        → BookUntold left.book → LeavesSo (judged_flow at packet seen index flow belongs keys left)
    flow_so index flow f belongs is keys left k h =
        subst (λ (s : Side). LeavesSo (judged_side at packet seen index flow s keys left)) (sym (sender_so d seen own flow f belongs is))
        (subst (λ (options : List SeenValue). LeavesSo (judged_formed at packet seen index flow flow.opened own.from options keys
        (record left { book = with_stream own.from (told_formless packet options (stream_at own.from left.book)) left.book }))) (sym options_are)
        (formed_so index flow f keys k (record left { book = with_stream own.from (told_formless packet (map Readable own.values) (stream_at own.from left.book)) left.book })
        (with_untold own.from (told_formless packet (map Readable own.values) (stream_at own.from left.book)) left.book
        (subst (λ (s : StreamValue). Untold is_option s.broken) (sym (readable_so packet own.values (stream_at own.from left.book))) (h own.from)) h)
        flow.opened refl))
      where
        options_are : seen_options keys.checksums seen.segment.options ≡ map Readable own.values
        options_are = ap (λ (c : Bool). seen_options c seen.segment.options) k.checksums ∙ own.options

  pub tell : SegmentsTell d BookUntold
  tell = record {
    new_book = new_untold;
    flow = λ at packet seen own index flow f belongs is keys left k h.
        let it = flow_so at packet seen own index flow f belongs is keys left k h in record { keys = it.keys; book = it.book };
  }

pub none_broke : (start : Start) (at : Option Side) (trace : List Sent) → AllBehind start ⊥ ⊥ trace → All FitsCapture trace → (connection : ℕ) (s : Side) (stream : StreamValue)
    → stream_in (judged_packets at true nothing_judged 1 (map packet_for trace)) connection s ≡ Some stream → (r : Rule) → is_option r ≡ true → broke r stream ≡ false
none_broke start at trace come fit connection s stream there r is =
    let found = book_tells start BookUntold (tell (drawn start)) at trace come fit connection s stream there in
    subst (λ (x : StreamValue). broke r x ≡ false) found.2 (found.1 s r is)
