-- What is sent on a lane is whole pieces, which lie in order: so each copy under way, and each mapping that is known, has all of a record of data or
-- none of it.
use Rattle.std.proofs.Common.{replicate, ◌≡◌, refl, sym, subst, ap, ◌∙◌, ◌⊎◌, ⊎_elim, inl, inr, ℕ, zero, suc, ◌+◌, ◌<◌, ◌≤◌, ◌==◌, ◌&&◌, ◌||◌, nat_lt, nat_le, arith, Bool, true, false, if◌then◌else◌, Option, Some, None, IfSome, List, [], ◌∷◌, ◌++◌, length}
use Rattle.std.specs.List.{slice_get}
use Rattle.std.proofs.lemmas.Bool.{cases_lt}
use Rattle.std.proofs.lemmas.Option.{same_Some, slice_get_within}
use Rattle.path_segments.specs.Spelled.{PlainSegment}
use Rattle.sides.specs.declared.side.Side.{Side}
use Rattle.sides.specs.declared.side.Side.TheVariants.{A, B}
use Rattle.sides.specs.Side.{peer}
use Rattle.send_book.specs.declared.call.SendReply.{SendReply}
use Rattle.send_book.specs.declared.call.SendReply.TheVariants as send_replies
use Rattle.reassembly_book.specs.declared.call.ReassemblyReply.{ReassemblyReply}
use Rattle.reassembly_book.specs.declared.call.ReassemblyReply.TheVariants as reassembly_replies
use Rattle.dss_mapping.specs.Mappings.{octets_of}
use Rattle.dss_mapping.specs.declared.kept.KeptMapping.{KeptMapping}
use Rattle.link_model.specs.declared.flight.Flight.{Flight}
use Rattle.stream_lanes.specs.Duo.{Duo, Event, after_event, after_events, flags_ab, flags_ba, opening_over}
use Rattle.stream_lanes.specs.Duo.Event.{ToB, ToA}
use Rattle.stream_lanes.specs.Holding.{BytesHold, Holds, LaneHolds}
use Rattle.stream_lanes.specs.Lane.{AckCopy, DataCopy, Lane, Mapping, Pair, lane_over}
use Rattle.stream_lanes.specs.Moves.{Flags, Move, altered_piece_of, clashes, ends_pair, hears, hears_data_fin, hears_fin, hears_sub, in_order, keeps, learns, learns_mapping, lies_in, may_finish, moved, part_of, passes, piece_of, places, places_pair, sends_altered, sends_fin_pair, sends_pair, sends_piece, takes_ack, takes_ack_out, takes_fin, takes_grant, takes_pair, takes_placed, is_whole}
use Rattle.stream_lanes.specs.Moves.{Move as move}
use Rattle.stream_lanes.specs.Streams.{Direction}
use Rattle.stream_lanes.specs.View.{View}
use Rattle.stream_lanes.specs.Words.{Every, Has}
use Rattle.stream_lanes.proofs.Checking.{length-turned}
use Rattle.stream_lanes.proofs.Duos.{any_held}
use Rattle.stream_lanes.proofs.Lists.{Every-nil, in_append, in_one, in_replicate}
use Rattle.subflow_send.specs.Records.{Record, end_of, occupied}
use Rattle.subflow_send.specs.declared.record.RecordKind.TheVariants.{Data}
use Rattle.path_store.specs.declared.granted_piece.GrantedPiece.{GrantedPiece}
use Rattle.actor_desk.specs.Books.{books_in}
use Rattle.path_core.specs.End.{PathEnd}
use Rattle.path_core.specs.Profile.{Profile}
use Rattle.path_core.specs.State.{PathState, end_at}
use Rattle.path_core.specs.Values.{Carried, values}
use Rattle.world_laws.specs.Actors.{ActorCrew}
use Rattle.world_laws.specs.Members.{HoldsOfKind}
use Rattle.world_laws.specs.Openings.{Start, opened_world}
use Rattle.world_laws.specs.Promises.{HasRoom}
use Rattle.world_laws.specs.Worlds.{Turn, WorldState, world_run}
use Rattle.world_laws.proofs.Lanes.Beginning.{each_run_shows}
use Rattle.world_laws.proofs.Lanes.OfAWorld.{Links, WorldShows, anyhow, anyhow_free, duo_of, first_duo, free_run}
use Rattle.world_laws.proofs.Lanes.SentRecords.{SentShows}
use Rattle.world_laws.proofs.Lanes.Showing.{FlightShows, HasData, HasFin, KeptShows, KindShows, PathShows, ReceiverShows, RecordShows, SegmentShows}
use Rattle.world_laws.proofs.Worlds.CastLifting.{each_actor}
use Rattle.whole_paths.specs.Copies.{IsUnderWay}
use Rattle.whole_paths.specs.Mending.{IsRecordOf}
use Rattle.whole_paths.specs.News.{one_if}
use Rattle.whole_paths.proofs.Boundaries.{part_size}
use Rattle.whole_paths.proofs.EachLane.{Steps, after_goes}
use Rattle.whole_paths.proofs.Exchanges.{under_way}

-- ---- a lane

-- the piece has these positions
abbrev IsPieceAt : ℕ → ℕ → Mapping → Type 0
IsPieceAt pos len m = (m.pos ≡ pos) × (m.len ≡ len)

-- pieces lie in order, and each copy of data ever sent is a whole piece
record IsGranted (p : Lane) : Type 0 where
  order : (i j : ℕ) (m n : Mapping) → slice_get p.pieces i ≡ Some m → slice_get p.pieces j ≡ Some n → i < j → m.pos + m.len ≤ n.pos
  whole : Every (λ (d : DataCopy). Has (IsPieceAt d.pos (length d.bytes)) p.pieces) p.datas

-- a step that grants and sends none
abbrev Same : Lane → Lane → Type 0
Same p q = (q.pieces ≡ p.pieces) × (q.datas ≡ p.datas)

same_granted : (p q : Lane) → Same p q → IsGranted p → IsGranted q
same_granted p q same h = record {
  order = λ i j m n at there less. h.order i j m n (sym (ap (λ (ms : List Mapping). slice_get ms i) same.0) ∙ at) (sym (ap (λ (ms : List Mapping). slice_get ms j) same.0) ∙ there) less;
  whole = subst (λ (ds : List DataCopy). Every (λ (d : DataCopy). Has (IsPieceAt d.pos (length d.bytes)) q.pieces) ds) (sym same.1)
      (subst (λ (ms : List Mapping). Every (λ (d : DataCopy). Has (IsPieceAt d.pos (length d.bytes)) ms) p.datas) (sym same.0) h.whole);
}

either : (c : Bool) (p q r : Lane) → Same p q → Same p r → Same p (if c then q else r)
either true p q r x y = x
either false p q r x y = y

-- a copy more, of a whole piece
sent_granted : (p : Lane) (d : DataCopy) → Has (IsPieceAt d.pos (length d.bytes)) p.pieces → IsGranted p → IsGranted (record p { datas = p.datas ++ d ∷ [] })
sent_granted p d piece h = record {
  order = h.order;
  whole = record {
    each = λ i x there. ⊎_elim
        (λ old. h.whole.each i x old)
        (λ last. subst (λ (y : DataCopy). Has (IsPieceAt y.pos (length y.bytes)) p.pieces) (in_one d x _ last.1).1 piece)
        (in_append p.datas (d ∷ []) i x there);
  };
}

below : (ms : List Mapping) (i : ℕ) (m : Mapping) → slice_get ms i ≡ Some m → i < length ms
below ms i m there = slice_get_within ms i m there

module _ (p : Lane) (b : BytesHold p.alters p.sent p.pieces p.datas p.edge p.kept p.maps p.acks) (h : IsGranted p) where
  piece_goes : (mapped : Bool) (i : ℕ) (o : Option Mapping) → slice_get p.pieces i ≡ o → IsGranted (sends_piece mapped o p)
  piece_goes mapped i None there = h
  piece_goes mapped i (Some m) there = sent_granted p (piece_of mapped p m) (record { at = i; item = m; there = there; holds = (refl, sym (part_size p m (b.granted.each i m there))) }) h

  altered_goes : (mapped : Bool) (i : ℕ) (o : Option Mapping) → slice_get p.pieces i ≡ o → IsGranted (sends_altered mapped o p)
  altered_goes mapped i None there = h
  altered_goes mapped i (Some m) there = by p.alters
    where
      by : (c : Bool) → IsGranted (if c then record p { datas = p.datas ++ altered_piece_of mapped p m ∷ [] } else p)
      by true = sent_granted p (altered_piece_of mapped p m)
          (record { at = i; item = m; there = there; holds = (refl, sym (length-turned (part_of p.sent m) ∙ part_size p m (b.granted.each i m there))) }) h
      by false = h

  -- a new piece begins behind all others
  grant_goes : (r : SendReply) → IsGranted (takes_grant r p)
  grant_goes (send_replies.Granted span piece) = record { order = order; whole = record { each = λ i d there. more (h.whole.each i d there) } }
    where
      last_one : Mapping
      last_one = record { pos = length p.sent; place = span.from; len = length piece }

      more : {pos len : ℕ} → Has (IsPieceAt pos len) p.pieces → Has (IsPieceAt pos len) (p.pieces ++ last_one ∷ [])
      more {pos} {len} has = record { at = has.at; item = has.item; there = still p.pieces has.at has.item has.there; holds = has.holds }
        where
          still : (ms : List Mapping) (i : ℕ) (m : Mapping) → slice_get ms i ≡ Some m → slice_get (ms ++ last_one ∷ []) i ≡ Some m
          still [] i m there = cc
          still (x ∷ ms) zero m there = there
          still (x ∷ ms) (suc i) m there = still ms i m there

      order : (i j : ℕ) (m n : Mapping) → slice_get (p.pieces ++ last_one ∷ []) i ≡ Some m → slice_get (p.pieces ++ last_one ∷ []) j ≡ Some n → i < j → m.pos + m.len ≤ n.pos
      order i j m n at there less = ⊎_elim
          (λ second. ⊎_elim
          (λ first. h.order i j m n first second less)
          (λ first. absurd (let low = first.0 in let high = below p.pieces j n second in omega (arith, low, high, less)))
          (in_append p.pieces (last_one ∷ []) i m at))
          (λ second. ⊎_elim
          (λ first. (let is : last_one ≡ n = (in_one last_one n _ second.1).1 in let start : length p.sent ≡ n.pos = ap (λ (k : Mapping). k.pos) is in let within = (b.granted.each i m first).within in omega (arith, start, within)))
          (λ first. absurd (let one = (in_one last_one m _ first.1).0 in let two = (in_one last_one n _ second.1).0 in let low = first.0 in let high = second.0 in omega (arith, one, two, low, high, less)))
          (in_append p.pieces (last_one ∷ []) i m at))
          (in_append p.pieces (last_one ∷ []) j n there)
  grant_goes (send_replies.NoGrant why end) = same_granted p _ (refl, refl) h
  grant_goes _ = same_granted p _ (refl, refl) h

  -- ---- steps that grant and send none

  hears_same : (o : Option AckCopy) → Same p (hears o p)
  hears_same None = (refl, refl)
  hears_same (Some a) = (refl, refl)

  sub_same : (upto : ℕ) (o : Option AckCopy) (m : Option Pair) → Same p (hears_sub upto o m p)
  sub_same upto (Some a) (Some m) = either p.alters p _ p (refl, refl) (refl, refl)
  sub_same upto (Some a) None = (refl, refl)
  sub_same upto None (Some m) = (refl, refl)
  sub_same upto None None = (refl, refl)

  kept_same : (count : ℕ) (o : Option DataCopy) → Same p (keeps count o p)
  kept_same count None = (refl, refl)
  kept_same count (Some d) = (refl, refl)

  mapping_same : (o : Option Mapping) → Same p (learns_mapping o p)
  mapping_same None = (refl, refl)
  mapping_same (Some m) = either (clashes m p.maps) p p _ (refl, refl) (refl, refl)

  learned_same : (o : Option DataCopy) → Same p (learns o p)
  learned_same None = (refl, refl)
  learned_same (Some d) = mapping_same d.mapping

  end_same : (o : Option ℕ) → Same p (hears_data_fin o p)
  end_same None = (refl, refl)
  end_same (Some at) = (refl, refl)

  fin_same : (o : Option ℕ) → Same p (hears_fin o p)
  fin_same None = (refl, refl)
  fin_same (Some pos) = either (pos == p.edge) p _ p (refl, refl) (refl, refl)

  places_same : (count : ℕ) (o : Option Mapping) → Same p (places count o p)
  places_same count None = (refl, refl)
  places_same count (Some m) = either (lies_in m (in_order count p) p && passes m (in_order count p) p) p _ p (refl, refl) (refl, refl)

  pair_same : (shift : ℕ) (o : Option Pair) → Same p (sends_pair shift o p)
  pair_same shift None = (refl, refl)
  pair_same shift (Some m) = either (nat_le (m.pos + shift) (length p.sent)) p _ p (refl, refl) (refl, refl)

  fin_pair_same : (o : Option Pair) → Same p (sends_fin_pair o p)
  fin_pair_same None = (refl, refl)
  fin_pair_same (Some m) = either (p.opened && is_whole p.known_end p) p _ p (refl, refl) (refl, refl)

  taken_same : (o : Option Pair) → Same p (takes_pair o p)
  taken_same None = (refl, refl)
  taken_same (Some m) = (refl, refl)

  placed_same : (count : ℕ) (o : Option Pair) → Same p (places_pair count o p)
  placed_same count None = (refl, refl)
  placed_same count (Some m) = either (p.receiver_loose && nat_le m.pos p.edge) p _ p (refl, refl) (refl, refl)

  ended_same : (o : Option Pair) → Same p (ends_pair o p)
  ended_same None = (refl, refl)
  ended_same (Some m) = either (p.receiver_loose && (p.fin_in && nat_le m.pos p.edge)) p _ p (refl, refl) (refl, refl)

  unmoved : {q : Lane} → Same p q → IsGranted q
  unmoved {q} same = same_granted p q same h

  moved_goes : (f : Flags) (path : ℕ) (m : Move) → IsGranted (moved f path m p)
  moved_goes f path move.Open = unmoved (either (f.answered || path == 0) p _ p (refl, refl) (refl, refl))
  moved_goes f path move.LookAtSender = unmoved (refl, refl)
  moved_goes f path move.LookAtReceiver = unmoved (refl, refl)
  moved_goes f path (move.WantGrant max standby) = unmoved (either (p.opened && nat_lt 0 max) p _ p (refl, refl) (refl, refl))
  moved_goes f path (move.HearAck copy) = unmoved (hears_same (slice_get p.acks copy))
  moved_goes f path (move.HearSubAck copy upto) = unmoved (sub_same upto (slice_get p.acks copy) p.pair)
  moved_goes f path (move.SendPiece piece mapped) = piece_goes mapped piece (slice_get p.pieces piece) refl
  moved_goes f path (move.SendAltered piece mapped) = altered_goes mapped piece (slice_get p.pieces piece) refl
  moved_goes f path move.SendDataFin = unmoved (refl, refl)
  moved_goes f path move.SendFin = unmoved (either (may_finish p) p _ p (refl, refl) (refl, refl))
  moved_goes f path (move.SendPair shift) = unmoved (pair_same shift p.pair)
  moved_goes f path (move.SendPlainPair pos) = unmoved (either (p.sender_plain && (p.opened && nat_le pos (length p.sent))) p _ p (refl, refl) (refl, refl))
  moved_goes f path move.SendFinPair = unmoved (fin_pair_same p.pair)
  moved_goes f path (move.Hear copy count) = unmoved (kept_same count (slice_get p.datas copy))
  moved_goes f path (move.Learn copy) = unmoved (learned_same (slice_get p.datas copy))
  moved_goes f path (move.HearDataFin copy) = unmoved (end_same (slice_get p.data_fins copy))
  moved_goes f path (move.HearFin copy) = unmoved (fin_same (slice_get p.fins copy))
  moved_goes f path (move.Forget from) = unmoved (refl, refl)
  moved_goes f path (move.WantPlace mapping count) = unmoved (places_same count (slice_get p.maps mapping))
  moved_goes f path (move.WantPlacePlain count) = unmoved (either p.receiver_plain p _ p (refl, refl) (refl, refl))
  moved_goes f path move.WantFin = unmoved (either (p.receiver_plain && p.fin_in) p _ p (refl, refl) (refl, refl))
  moved_goes f path (move.TakePair copy) = unmoved (taken_same (slice_get p.pairs copy))
  moved_goes f path (move.WantPlacePair count) = unmoved (placed_same count p.taken)
  moved_goes f path move.WantFinPair = unmoved (ended_same p.taken)
  moved_goes f path move.WantAckOut = unmoved (refl, refl)
  moved_goes f path (move.SendAck next window sub) = unmoved (either p.due p p _ (refl, refl) (refl, refl))

  ack_goes : (next : ℕ) (r : SendReply) → IsGranted (takes_ack next r p)
  ack_goes next (send_replies.Acked bytes fin) = unmoved (refl, refl)
  ack_goes next _ = unmoved (refl, refl)

  arrived_goes : (count : ℕ) (r : ReassemblyReply) → IsGranted (takes_placed count r p)
  arrived_goes count (reassembly_replies.Placed new) = unmoved (refl, refl)
  arrived_goes count _ = unmoved (refl, refl)

  set_goes : (r : ReassemblyReply) → IsGranted (takes_fin r p)
  set_goes reassembly_replies.FinSet = unmoved (refl, refl)
  set_goes _ = unmoved (refl, refl)

  told_goes : (next window : ℕ) → IsGranted (takes_ack_out (reassembly_replies.Ack next window) p)
  told_goes next window = unmoved (refl, refl)

-- two pieces that have a position in common are the same
one_piece : (p : Lane) → IsGranted p → (i j : ℕ) (m n : Mapping) → slice_get p.pieces i ≡ Some m → slice_get p.pieces j ≡ Some n → (m.pos + m.len ≤ n.pos → ⊥) → (n.pos + n.len ≤ m.pos → ⊥) → m ≡ n
one_piece p h i j m n at there before behind = ⊎_elim
    (λ less. absurd (before (h.order i j m n at there less)))
    (λ rest. ⊎_elim
    (λ more. absurd (behind (h.order j i n m there at more)))
    (λ most. (let is : i ≡ j = omega (arith, rest, most) in same_Some m n (sym at ∙ ap (slice_get p.pieces) is ∙ there)))
    (cases_lt j i))
    (cases_lt i j)

-- ---- a direction

abbrev AreGranted : Direction → Type 0
AreGranted d = Every IsGranted d.lanes

granted_steps : (f : Flags) → Steps IsGranted f
granted_steps f = record {
  moves = λ path m p b c. moved_goes p b c f path m;
  pairs = λ x p c. same_granted p (record p { pair = Some x }) (refl, refl) c;
  grants = λ r p b c. grant_goes p b c r;
  acks = λ next r p b c. ack_goes p b c next r;
  places = λ at bytes r p b c is. arrived_goes p b c (length bytes) r;
  ends = λ r p b c. set_goes p b c r;
  tells = λ next window p b c. told_goes p b c next window;
}

-- ---- both directions

record BothGranted (w : Duo) : Type 0 where
  ab : AreGranted w.ab
  ba : AreGranted w.ba

event_goes : (e : Event) (w : Duo) → Holds w → BothGranted w → BothGranted (after_event e w)
event_goes (ToB e) w held h = record { ab = after_goes IsGranted (flags_ab w.modes) w.ab held.ab (granted_steps (flags_ab w.modes)) h.ab e; ba = h.ba }
event_goes (ToA e) w held h = record { ab = h.ab; ba = after_goes IsGranted (flags_ba w.modes) w.ba held.ba (granted_steps (flags_ba w.modes)) h.ba e }
event_goes _ w held h = record { ab = h.ab; ba = h.ba }

events_go : (events : List Event) (w : Duo) → ((more : List Event) → Holds (after_events more w)) → BothGranted w → BothGranted (after_events events w)
events_go [] w ever h = h
events_go (e ∷ events) w ever h = events_go events (after_event e w) (λ more. ever (e ∷ more)) (event_goes e w (ever []) h)

both_granted : (alters checked : Bool) (paths buffer capacity : ℕ) (events : List Event) → BothGranted (after_events events (opening_over alters checked paths buffer capacity))
both_granted alters checked paths buffer capacity events =
    events_go events (opening_over alters checked paths buffer capacity) (any_held alters checked paths buffer capacity) (record { ab = opened; ba = opened })
  where
    first : (p : Lane) → lane_over alters checked ≡ p → IsGranted p
    first p is = subst IsGranted is (record { order = λ i j m n at there less. cc; whole = Every-nil _ })

    opened : Every IsGranted (replicate paths (lane_over alters checked))
    opened = record { each = λ i p there. first p (in_replicate paths (lane_over alters checked) i p there) }

-- ---- a path

-- a segment of so many octets from a position on has none of these positions, or all
pub data Meets (first last pos len : ℕ) (fin : Bool) : Type 0 where
  is_empty : len ≡ 0 → fin ≡ false → Meets first last pos len fin
  lies_before : pos + len + one_if fin ≤ first → Meets first last pos len fin
  lies_behind : last ≤ pos → Meets first last pos len fin
  has_all : pos ≤ first → last ≤ pos + len → fin ≡ false → Meets first last pos len fin

-- of a record of data that isn't acknowledged whole: each copy to the peer has all of it or none, each mapping that the peer knows ends where it does, and
-- its FIN stands behind it
pub record IsWholeTo (s : Side) (r : Record) (last : ℕ) (p : PathState Carried) : Type 0 where
  pub some : r.pos < last
  pub sent : last + one_if (end_at s p).tcp.send.finished ≤ (end_at s p).tcp.send.nxt
  pub copies : (f : Flight Carried) → IsUnderWay f p → f.to ≡ peer s → let x : PlainSegment = f.carried.segment in
      Meets r.pos last x.position (length x.payload) x.fin
  pub mapped : (i : ℕ) (m : KeptMapping) → slice_get (end_at (peer s) p).receiving.mappings.live i ≡ Some m → m.pos ≤ r.pos → r.pos < m.pos + octets_of m → m.pos + octets_of m ≡ last
  pub fin : (pos : ℕ) → (end_at (peer s) p).tcp.fin_at ≡ Some pos → last ≤ pos

abbrev pub IsWholeOf : Side → Record → PathState Carried → Type 0
IsWholeOf s r p = IsWholeTo s r (end_of r) p

pub record RecordsAreWhole (p : PathState Carried) : Type 0 where
  pub each : (s : Side) (r : Record) → IsRecordOf (end_at s p) r → r.kind ≡ Data → IsWholeOf s r p
  -- no mapping that the peer knows reaches past what was sent
  pub known : (s : Side) (i : ℕ) (m : KeptMapping) → slice_get (end_at (peer s) p).receiving.mappings.live i ≡ Some m → m.pos + octets_of m ≤ (end_at s p).tcp.send.nxt
  -- and a copy that is a SYN is no FIN
  pub syns : (f : Flight Carried) → IsUnderWay f p → f.carried.segment.syn ≡ true → f.carried.segment.fin ≡ false

module _ (path : ℕ) (v : View) (p : Lane) (holds : LaneHolds v path p) (h : IsGranted p) where
  piece_of_data : (position : ℕ) (octets : List ℕ) → HasData p.datas position octets → Has (λ (m : Mapping). (suc m.pos ≡ position) × (m.len ≡ length octets)) p.pieces
  piece_of_data position octets has =
      let piece = h.whole.each has.at has.item has.there in record {
        at = piece.at;
        item = piece.item;
        there = piece.there;
        holds = (ap suc piece.holds.0 ∙ has.holds.position_is, piece.holds.1 ∙ ap (λ (os : List ℕ). length os) has.holds.octets_are);
      }

  piece_of_mapping : (live : List KeptMapping) → Every (KeptShows p.maps) live → (i : ℕ) (m : KeptMapping) → slice_get live i ≡ Some m → Has (λ (n : Mapping). (suc n.pos ≡ m.pos) × (n.len ≡ octets_of m)) p.pieces
  piece_of_mapping live known i m at =
      let kept = known.each i m at in
      let learned = holds.bytes.learned.each kept.at kept.item kept.there in record {
        at = learned.at;
        item = learned.item;
        there = learned.there;
        holds = (ap (λ (n : Mapping). suc n.pos) learned.holds ∙ kept.holds.position_is, ap (λ (n : Mapping). n.len) learned.holds ∙ kept.holds.len_is);
      }

  -- SND.NXT is past all bytes, and past the FIN
  module _ (finished : Bool) (nxt heard : ℕ) (granted : List GrantedPiece) (sent : SentShows finished nxt heard granted p.sent p.fins p.pair) where
    bytes_end : suc (length p.sent) + one_if finished ≤ nxt
    bytes_end = by finished sent
      where
        by : (b : Bool) → SentShows b nxt heard granted p.sent p.fins p.pair → suc (length p.sent) + one_if b ≤ nxt
        by false shows = let next = shows.next refl in omega (arith, next)
        by true shows = let fin = shows.fin refl in let is = fin.holds in let last = (holds.fins.each fin.at fin.item fin.there).last in omega (arith, is, last)

    piece_end : (pos len : ℕ) → Has (λ (m : Mapping). (suc m.pos ≡ pos) × (m.len ≡ len)) p.pieces → pos + len + one_if finished ≤ nxt
    piece_end pos len has = let within = (holds.bytes.granted.each has.at has.item has.there).within in let at = has.holds.0 in let size = has.holds.1 in let low = bytes_end in omega (arith, within, at, size, low)

  -- a piece from this position on
  module _ (first : ℕ) (piece : List ℕ) (is : HasData p.datas first piece) where
    own : Has (λ (m : Mapping). (suc m.pos ≡ first) × (m.len ≡ length piece)) p.pieces
    own = piece_of_data first piece is

    some : first < first + length piece
    some = let one = (holds.bytes.granted.each own.at own.item own.there).some in let len = own.holds.1 in omega (arith, one, len)

    -- and another one
    meets : (pos len : ℕ) → Has (λ (m : Mapping). (suc m.pos ≡ pos) × (m.len ≡ len)) p.pieces → (pos + len ≤ first) ⊎ ((first + length piece ≤ pos) ⊎ ((pos ≡ first) × (pos + len ≡ first + length piece)))
    meets pos len other = ⊎_elim
        (λ over. ⊎_elim (λ under. inr (inr (same_as over under))) (λ low. inr (inl low)) (cases_lt pos (first + length piece)))
        (λ low. inl low)
        (cases_lt first (pos + len))
      where
        same_as : first < pos + len → pos < first + length piece → (pos ≡ first) × (pos + len ≡ first + length piece)
        same_as over under =
            let a = own.holds.0 in let b = other.holds.0 in let c = own.holds.1 in let d = other.holds.1 in
            let one : other.item ≡ own.item = one_piece p h other.at own.at other.item own.item other.there own.there (λ low. omega (arith, low, a, b, d, over)) (λ low. omega (arith, low, a, b, c, under)) in
            let same = ap (λ (m : Mapping). m.pos) one in let long = ap (λ (m : Mapping). m.len) one in
            (omega (arith, same, a, b), omega (arith, same, long, a, b, c, d))

    fin_behind : (pos : ℕ) → Has (λ (n : ℕ). suc n ≡ pos) p.fins → first + length piece ≤ pos
    fin_behind pos has =
        let last = (holds.fins.each has.at has.item has.there).last in let is_at = has.holds in
        let within = (holds.bytes.granted.each own.at own.item own.there).within in let at = own.holds.0 in let len = own.holds.1 in omega (arith, last, is_at, within, at, len)

    segment_meets : (c : Profile) (s : Side) (acks : List AckCopy) (x : PlainSegment) → SegmentShows c s acks p x → Meets first (first + length piece) x.position (length x.payload) x.fin
    segment_meets c s acks x shows = by x.fin refl
      where
        data_meets : x.fin ≡ false → HasData p.datas x.position x.payload → Meets first (first + length piece) x.position (length x.payload) x.fin
        data_meets none has = ⊎_elim
            (λ low. Meets.lies_before (let zeroth = ap one_if none in omega (arith, low, zeroth)))
            (λ rest. ⊎_elim (λ low. Meets.lies_behind low) (λ same. Meets.has_all (let at = same.0 in omega (arith, at)) (let end = same.1 in omega (arith, end)) none) rest)
            (meets x.position (length x.payload) (piece_of_data x.position x.payload has))

        by : (b : Bool) → x.fin ≡ b → Meets first (first + length piece) x.position (length x.payload) x.fin
        by true is = Meets.lies_behind (fin_behind x.position (shows.fin is).1)
        by false is = ⊎_elim (λ none. Meets.is_empty (ap (λ (os : List ℕ). length os) none) is) (λ has. data_meets is has) shows.payload

    mapping_ends : (live : List KeptMapping) → Every (KeptShows p.maps) live → (i : ℕ) (m : KeptMapping) → slice_get live i ≡ Some m → m.pos ≤ first → first < m.pos + octets_of m → m.pos + octets_of m ≡ first + length piece
    mapping_ends live known i m at low high = ⊎_elim
        (λ before. absurd (omega (arith, before, high)))
        (λ rest. ⊎_elim (λ behind. absurd (let one = some in omega (arith, behind, low, one))) (λ same. same.1) rest)
        (meets m.pos (octets_of m) (piece_of_mapping live known i m at))

    fin_ends : (fin_at : Option ℕ) → IfSome fin_at (HasFin p.fins) → (pos : ℕ) → fin_at ≡ Some pos → first + length piece ≤ pos
    fin_ends None known pos is = cc
    fin_ends (Some at) known pos is = let same = same_Some at pos is in let low = fin_behind at known in omega (arith, same, low)

module _ (path : ℕ) (v : View) (c : Profile) (p : PathState Carried) (s : Side) (out : Lane) (acks : List AckCopy) (holds : LaneHolds v path out) (granted : IsGranted out)
    (records : Every (RecordShows c s out.alters out.sent out.datas out.fins) (end_at s p).tcp.send.records)
    (sent : SentShows (end_at s p).tcp.send.finished (end_at s p).tcp.send.nxt (end_at s p).sending.heard (end_at s p).sending.granted out.sent out.fins out.pair) (plain : Bool)
    (receiver : ReceiverShows (end_at (peer s) p).tcp.recv (end_at (peer s) p).tcp.fin_at (end_at (peer s) p).receiving.mappings.live plain out)
    (copies : (f : Flight Carried) → IsUnderWay f p → f.to ≡ peer s → SegmentShows c s acks out f.carried.segment) where
  record_whole : (r : Record) → IsRecordOf (end_at s p) r → r.kind ≡ Data → IsWholeOf s r p
  record_whole r one kind =
      let end : end_of r ≡ r.pos + length r.piece = ap (λ k. r.pos + occupied k r.piece) kind in
      let known = subst (λ k. KindShows c s out.alters out.sent out.datas out.fins k r) kind (records.each one.at r (one.there ∙ ap Some one.holds)) in
      let e : PathEnd = end_at s p in
      subst (λ n. IsWholeTo s r n p) (sym end) (record {
        some = some path v out holds granted r.pos r.piece known.octets;
        sent = piece_end path v out holds granted e.tcp.send.finished e.tcp.send.nxt e.sending.heard e.sending.granted sent r.pos (length r.piece) (piece_of_data path v out holds granted r.pos r.piece known.octets);
        copies = λ f here to. segment_meets path v out holds granted r.pos r.piece known.octets c s acks f.carried.segment (copies f here to);
        mapped = mapping_ends path v out holds granted r.pos r.piece known.octets (end_at (peer s) p).receiving.mappings.live receiver.mapped;
        fin = fin_ends path v out holds granted r.pos r.piece known.octets (end_at (peer s) p).tcp.fin_at receiver.fin;
      })

  mapping_low : (i : ℕ) (m : KeptMapping) → slice_get (end_at (peer s) p).receiving.mappings.live i ≡ Some m → m.pos + octets_of m ≤ (end_at s p).tcp.send.nxt
  mapping_low i m at =
      let e : PathEnd = end_at s p in
      let low = piece_end path v out holds granted e.tcp.send.finished e.tcp.send.nxt e.sending.heard e.sending.granted sent m.pos (octets_of m)
      (piece_of_mapping path v out holds granted (end_at (peer s) p).receiving.mappings.live receiver.mapped i m at) in omega (arith, low)

path_whole : (path : ℕ) (v u : View) (c : Profile) (p : PathState Carried) (ab ba : Lane) → PathShows c p ab ba → LaneHolds v path ab → LaneHolds u path ba → IsGranted ab → IsGranted ba → RecordsAreWhole p
path_whole path v u c p ab ba shows ab_holds ba_holds ab_granted ba_granted = record { each = each; known = known; syns = λ f here. syn f.to f.carried.segment (flight f here) }
  where
    flight : (f : Flight Carried) → IsUnderWay f p → FlightShows c ab ba f.to f.carried.segment
    flight f here = under_way (λ (g : Flight Carried). FlightShows c ab ba g.to g.carried.segment) f p here shows.copies

    to_side : (side : Side) (f : Flight Carried) → IsUnderWay f p → f.to ≡ side → FlightShows c ab ba side f.carried.segment
    to_side side f here to = subst (λ y. FlightShows c ab ba y f.carried.segment) to (flight f here)

    syn : (to : Side) (x : PlainSegment) → FlightShows c ab ba to x → x.syn ≡ true → x.fin ≡ false
    syn A x h = h.plain
    syn B x h = h.plain

    each : (s : Side) (r : Record) → IsRecordOf (end_at s p) r → r.kind ≡ Data → IsWholeOf s r p
    each A = record_whole path v c p A ab ba.acks ab_holds ab_granted shows.a.sender.pieces shows.a.sender.sent _ shows.b.receiver (to_side B)
    each B = record_whole path u c p B ba ab.acks ba_holds ba_granted shows.b.sender.pieces shows.b.sender.sent _ shows.a.receiver (to_side A)

    known : (s : Side) (i : ℕ) (m : KeptMapping) → slice_get (end_at (peer s) p).receiving.mappings.live i ≡ Some m → m.pos + octets_of m ≤ (end_at s p).tcp.send.nxt
    known A = mapping_low path v c p A ab ba.acks ab_holds ab_granted shows.a.sender.pieces shows.a.sender.sent _ shows.b.receiver (to_side B)
    known B = mapping_low path u c p B ba ab.acks ba_holds ba_granted shows.b.sender.pieces shows.b.sender.sent _ shows.a.receiver (to_side A)

-- ---- the world

-- on each path
pub record AllAreWhole (w : WorldState Carried) : Type 0 where
  pub each : (actor : ℕ) (c : ActorCrew Carried) → slice_get w.crew actor ≡ Some c → HoldsOfKind (λ app. Unit {0}) RecordsAreWhole c.member

shows_whole : (links : Links) (start : Start) (d : Duo) (w : WorldState Carried) → Holds d → BothGranted d → WorldShows links start d w → AllAreWhole w
shows_whole links start d w held granted h = subst AllAreWhole (sym h.is) (record {
  each = each_actor (λ actor c. HoldsOfKind (λ app. Unit {0}) RecordsAreWhole c.member) h.cast tt tt (λ number x there.
      (let path = h.paths.each number number x (omega arith) there in
      path_whole number _ _ _ x.path path.ab path.ba path.shows (holds.ab.lanes.each number number path.ab (omega arith) path.ab_there) (holds.ba.lanes.each number number path.ba (omega arith) path.ba_there)
      (all.ab.each number path.ab path.ab_there) (all.ba.each number path.ba path.ba_there)));
})
  where
    duo : Duo
    duo = duo_of links (books_in h.cast.books) h.lanes_ab h.lanes_ba h.reader_a h.reader_b

    holds : Holds duo
    holds = subst Holds h.duo_is held

    all : BothGranted duo
    all = subst BothGranted h.duo_is granted

pub all_are_whole : (start : Start) (turns : List Turn) → HasRoom start → AllAreWhole (world_run values turns (opened_world start))
all_are_whole start turns size =
    let can = anyhow start size in
    let r = each_run_shows start can turns (free_run can.links (anyhow_free start size) turns (opened_world start)) in
    shows_whole can.links start (after_events r.events (first_duo can.links start)) (world_run values turns (opened_world start))
    (any_held can.links.alters can.links.checked (length start.paths) start.buffer start.buffer r.events)
    (both_granted can.links.alters can.links.checked (length start.paths) start.buffer start.buffer r.events) r.shows
