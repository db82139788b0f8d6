-- As long as no join was answered, all bytes in a reassembly book lie before the edge of the first lane: each was placed from there on, and the
-- edge moved behind it. The other lanes have none.
use Rattle.std.proofs.Common.{◌≡◌, refl, sym, subst, ◌∙◌, ⊎_elim, ap, ℕ, ◌+◌, ◌≤◌, ◌&&◌, ◌==◌, not, min, arith, Bool, true, false, true≢false, if◌then◌else◌, is_some, Option, Some, None, List, [], ◌∷◌, drop, length, length-drop, set}
use Rattle.std.specs.List.{slice_get}
use Rattle.reassembly_book.specs.Steps.{by_place}
use Rattle.send_book.specs.declared.call.SendCall.TheVariants as send_calls
use Rattle.send_book.specs.declared.call.SendReply.{SendReply}
use Rattle.send_book.specs.declared.call.SendReply.TheVariants as send_replies
use Rattle.send_book.specs.State.{acked_len}
use Rattle.send_book.specs.Steps.{after_call}
use Rattle.reassembly_book.specs.declared.call.ReassemblyCall.TheVariants as reassembly_calls
use Rattle.reassembly_book.specs.declared.call.ReassemblyReply.{ReassemblyReply}
use Rattle.reassembly_book.specs.declared.call.ReassemblyReply.TheVariants as reassembly_replies
use Rattle.reassembly_book.specs.State.{Arriving, filled, top}
use Rattle.reassembly_book.specs.Steps as arriving
use Rattle.reassembly_book.proofs.Bounds.{length-merged}
use Rattle.reassembly_book.proofs.Merging.{by_place-le, filled-le}
use Rattle.stream_lanes.specs.Duo.{Duo, Event, Modes, after_event, after_events, begins_join, falls_a, falls_b, flags_ab, flags_ba, hears_join, opening_over, sends_join}
use Rattle.stream_lanes.specs.Duo.Event.{ToB, ToA, FallA, FallB, LoosenA, LoosenB, BeginJoin, SendJoin, HearJoin}
use Rattle.stream_lanes.specs.Holding.{AskHolds, DirectionHolds, Holds, LaneHolds, PlaceHolds}
use Rattle.stream_lanes.specs.Lane.{AckCopy, Ask, DataCopy, Lane, Mapping, Pair}
use Rattle.stream_lanes.specs.Lane.Ask.{Nothing, AskGrant, AskAckIn, AskPlace, AskFin, AskAckOut}
use Rattle.stream_lanes.specs.Moves.{Flags, Move, clashes, ends_pair, hears, hears_data_fin, hears_fin, hears_sub, in_order, keeps, learns, learns_mapping, lies_in, may_finish, moved, passes, places, places_pair, sends_altered, sends_fin_pair, sends_pair, sends_piece, takes_ack, takes_ack_out, takes_fin, takes_grant, takes_pair, takes_placed}
use Rattle.stream_lanes.specs.Moves.{Move as move}
use Rattle.stream_lanes.specs.Streams.{Direction, StreamEvent, after, asks, asks_at, goes_infinite, is_done, may_go, moves, reads}
use Rattle.stream_lanes.specs.Streams.{StreamEvent as event}
use Rattle.stream_lanes.specs.View.{View, view_of}
use Rattle.stream_lanes.proofs.Lists.{in_set}

-- ---- a lane

-- its edge stays
abbrev pub EdgeStays : Lane → Lane → Type 0
EdgeStays p q = q.edge ≡ p.edge

either : (c : Bool) (p q r : Lane) → EdgeStays p q → EdgeStays p r → EdgeStays p (if c then q else r)
either true p q r x y = x
either false p q r x y = y

module _ (p : Lane) where
  hears_stays : (o : Option AckCopy) → EdgeStays p (hears o p)
  hears_stays None = refl
  hears_stays (Some a) = refl

  sub_stays : (upto : ℕ) (o : Option AckCopy) (m : Option Pair) → EdgeStays p (hears_sub upto o m p)
  sub_stays upto (Some a) (Some m) = either p.alters p _ p refl refl
  sub_stays upto (Some a) None = refl
  sub_stays upto None m = refl

  piece_stays : (mapped : Bool) (o : Option Mapping) → EdgeStays p (sends_piece mapped o p)
  piece_stays mapped None = refl
  piece_stays mapped (Some m) = refl

  altered_stays : (mapped : Bool) (o : Option Mapping) → EdgeStays p (sends_altered mapped o p)
  altered_stays mapped None = refl
  altered_stays mapped (Some m) = either p.alters p _ p refl refl

  kept_stays : (count : ℕ) (o : Option DataCopy) → EdgeStays p (keeps count o p)
  kept_stays count None = refl
  kept_stays count (Some d) = refl

  mapping_stays : (o : Option Mapping) → EdgeStays p (learns_mapping o p)
  mapping_stays None = refl
  mapping_stays (Some m) = either (clashes m p.maps) p p _ refl refl

  learned_stays : (o : Option DataCopy) → EdgeStays p (learns o p)
  learned_stays None = refl
  learned_stays (Some d) = mapping_stays d.mapping

  end_stays : (o : Option ℕ) → EdgeStays p (hears_data_fin o p)
  end_stays None = refl
  end_stays (Some at) = refl

  fin_stays : (o : Option ℕ) → EdgeStays p (hears_fin o p)
  fin_stays None = refl
  fin_stays (Some pos) = either (pos == p.edge) p _ p refl refl

  places_stays : (count : ℕ) (o : Option Mapping) → EdgeStays p (places count o p)
  places_stays count None = refl
  places_stays count (Some m) = either (lies_in m (in_order count p) p && passes m (in_order count p) p) p _ p refl refl

  pair_stays : (shift : ℕ) (o : Option Pair) → EdgeStays p (sends_pair shift o p)
  pair_stays shift None = refl
  pair_stays shift (Some m) = either _ p _ p refl refl

  fin_pair_stays : (o : Option Pair) → EdgeStays p (sends_fin_pair o p)
  fin_pair_stays None = refl
  fin_pair_stays (Some m) = either _ p _ p refl refl

  taken_stays : (o : Option Pair) → EdgeStays p (takes_pair o p)
  taken_stays None = refl
  taken_stays (Some m) = refl

  placed_stays : (count : ℕ) (o : Option Pair) → EdgeStays p (places_pair count o p)
  placed_stays count None = refl
  placed_stays count (Some m) = either _ p _ p refl refl

  ended_stays : (o : Option Pair) → EdgeStays p (ends_pair o p)
  ended_stays None = refl
  ended_stays (Some m) = either _ p _ p refl refl

  moved_stays : (f : Flags) (path : ℕ) (m : Move) → EdgeStays p (moved f path m p)
  moved_stays f path move.Open = either _ p _ p refl refl
  moved_stays f path (move.WantGrant most standby) = either _ p _ p refl refl
  moved_stays f path (move.HearAck copy) = hears_stays (slice_get p.acks copy)
  moved_stays f path (move.HearSubAck copy upto) = sub_stays upto (slice_get p.acks copy) p.pair
  moved_stays f path (move.SendPiece piece mapped) = piece_stays mapped (slice_get p.pieces piece)
  moved_stays f path (move.SendAltered piece mapped) = altered_stays mapped (slice_get p.pieces piece)
  moved_stays f path move.SendFin = either (may_finish p) p _ p refl refl
  moved_stays f path (move.SendPair shift) = pair_stays shift p.pair
  moved_stays f path (move.SendPlainPair pos) = either _ p _ p refl refl
  moved_stays f path move.SendFinPair = fin_pair_stays p.pair
  moved_stays f path (move.Hear copy count) = kept_stays count (slice_get p.datas copy)
  moved_stays f path (move.Learn copy) = learned_stays (slice_get p.datas copy)
  moved_stays f path (move.HearDataFin copy) = end_stays (slice_get p.data_fins copy)
  moved_stays f path (move.HearFin copy) = fin_stays (slice_get p.fins copy)
  moved_stays f path (move.WantPlace mapping count) = places_stays count (slice_get p.maps mapping)
  moved_stays f path (move.WantPlacePlain count) = either _ p _ p refl refl
  moved_stays f path move.WantFin = either _ p _ p refl refl
  moved_stays f path (move.TakePair copy) = taken_stays (slice_get p.pairs copy)
  moved_stays f path (move.WantPlacePair count) = placed_stays count p.taken
  moved_stays f path move.WantFinPair = ended_stays p.taken
  moved_stays f path (move.SendAck next window sub) = either p.due p p _ refl refl
  moved_stays f path _ = refl

  grant_stays : (r : SendReply) → EdgeStays p (takes_grant r p)
  grant_stays (send_replies.Granted span piece) = refl
  grant_stays (send_replies.NoGrant why end) = refl
  grant_stays _ = refl

  ack_stays : (next : ℕ) (r : SendReply) → EdgeStays p (takes_ack next r p)
  ack_stays next (send_replies.Acked bytes fin) = refl
  ack_stays next _ = refl

  set_stays : (r : ReassemblyReply) → EdgeStays p (takes_fin r p)
  set_stays reassembly_replies.FinSet = refl
  set_stays _ = refl

  told_stays : (r : ReassemblyReply) → EdgeStays p (takes_ack_out r p)
  told_stays (reassembly_replies.Ack next window) = refl
  told_stays _ = refl

-- ---- a book

-- what is read was there, and an end adds no byte
read_top : (count : ℕ) (b : Arriving) → top (arriving.after_reading count b) ≤ top b
read_top count b = let within = filled-le b.places in omega (arith, within, length-drop (min count (length (filled b.places))) b.places)

fin_top : (at : ℕ) (b : Arriving) → top (arriving.after_fin at b) ≤ top b
fin_top at b = elim (is_some (arriving.fin_clash b.known_end at b)) as (λ c. top (if c then b else record b { known_end = Some at }) ≤ top b) [ true ↦ omega arith | false ↦ omega arith ]

-- where bytes are placed from this edge on, the lane's edge is behind them, and behind all that was there before
abbrev PlacesBefore : ℕ → ℕ → List ℕ → Arriving → Lane → Type 0
PlacesBefore edge at bytes b p = top (arriving.after_place at bytes b) ≤ (takes_placed (length bytes) (arriving.place_reply at bytes b) p).edge

module _ (at : ℕ) (bytes : List ℕ) (b : Arriving) (p : Lane) (low : top b ≤ p.edge) (from : 1 ≤ length bytes → at ≡ p.edge) where
  merged_top : b.read + length (arriving.places_after at bytes b) ≤ p.edge + length bytes
  merged_top = by bytes from
    where
      by : (xs : List ℕ) → (1 ≤ length xs → at ≡ p.edge) → b.read + length (arriving.places_after at xs b) ≤ p.edge + length xs
      by [] from = omega (arith, low, length-merged b.places (drop b.read []), length-drop b.read (by_place at []))
      by (x ∷ xs) from = let is = from (omega arith) in
          omega (arith, low, is, length-merged b.places (drop b.read (by_place at (x ∷ xs))), length-drop b.read (by_place at (x ∷ xs)), by_place-le at (x ∷ xs))

  placed_before : PlacesBefore p.edge at bytes b p
  placed_before = by (arriving.reaches_past (arriving.edge b) at bytes) (arriving.clash b.known_end at bytes)
    where
      by : (past : Bool) (clash : Option ℕ) → top (if (if past then false else (if is_some clash then false else true)) then record b { places = arriving.places_after at bytes b } else b)
          ≤ (takes_placed (length bytes) (if past then reassembly_replies.Beyond (arriving.edge b) else arriving.placed_reply clash at bytes b) p).edge
      by true clash = low
      by false None = merged_top
      by false (Some e) = low

-- ---- a direction

-- all that its reassembly book has lies before the edge of the first lane
abbrev pub StandsBefore : Direction → Type 0
StandsBefore d = (p : Lane) → slice_get d.lanes 0 ≡ Some p → top d.arrived ≤ p.edge

same_lane : (p q : Lane) → Some p ≡ Some q → p ≡ q
same_lane p q is = cc

module _ (f : Flags) (d : Direction) (held : DirectionHolds f d) (alone : f.answered ≡ false) (h : StandsBefore d) where
  -- a lane goes on, and the book; the first lane's edge stays behind it
  lane_goes : (path : ℕ) (p q : Lane) (b : Arriving) → slice_get d.lanes path ≡ Some p → (path ≡ 0 → top b ≤ q.edge) → ((path ≡ 0 → ⊥) → top b ≤ top d.arrived)
      → (l : Lane) → slice_get (set d.lanes path q) 0 ≡ Some l → top b ≤ l.edge
  lane_goes path p q b there own other l at = ⊎_elim
      (λ same. subst (λ (x : Lane). top b ≤ x.edge) same.1 (own (sym same.0)))
      (λ away. (let low = other (λ is. away.0 (sym is)) in let was = h l away.1 in omega (arith, low, was)))
      (in_set d.lanes path q 0 l at)

  -- neither edge nor book moves
  still : (path : ℕ) (p q : Lane) (b : Arriving) → slice_get d.lanes path ≡ Some p → EdgeStays p q → top b ≤ top d.arrived → (l : Lane) → slice_get (set d.lanes path q) 0 ≡ Some l → top b ≤ l.edge
  still path p q b there same low = lane_goes path p q b there
      (λ first. (let was = h p (subst (λ n. slice_get d.lanes n ≡ Some p) first there) in omega (arith, low, was, same))) (λ away. low)

  place_goes : (path at : ℕ) (bytes : List ℕ) (p : Lane) → slice_get d.lanes path ≡ Some p → p.asking ≡ AskPlace at bytes → StandsBefore (asks path (AskPlace at bytes) p d)
  place_goes path at bytes p there is l found = ⊎_elim
      (λ same. subst (λ (x : Lane). top (arriving.after_place at bytes d.arrived) ≤ x.edge) same.1
      (placed_before at bytes d.arrived p (h p (subst (λ n. slice_get d.lanes n ≡ Some p) (sym same.0) there)) (λ some. asked.identity none some)))
      (λ away. subst (λ (xs : List ℕ). top (arriving.after_place at xs d.arrived) ≤ l.edge) (sym (nothing (λ first. away.0 (sym first)))) (empty l (h l away.1)))
      (in_set d.lanes path (takes_placed (length bytes) (arriving.place_reply at bytes d.arrived) p) 0 l found)
    where
      v : View
      v = view_of f d.send d.arrived

      lane : LaneHolds v path p
      lane = held.lanes.each path path p (omega arith) there

      none : v.alone ≡ true
      none = ap not alone

      asked : PlaceHolds v p.sent p.edge at bytes
      asked = subst (AskHolds v p.sent p.opened p.edge) is lane.ask

      nothing : (path ≡ 0 → ⊥) → bytes ≡ []
      nothing away = by bytes (let within = asked.within in let unsent = ap (λ (xs : List _). length xs) ((lane.alone none).others away) in omega (arith, within, unsent))
        where
          by : (xs : List ℕ) → length xs ≤ 0 → xs ≡ []
          by [] few = refl
          by (x ∷ xs) few = absurd (omega (arith, few))

      empty : (l : Lane) → top d.arrived ≤ l.edge → top (arriving.after_place at [] d.arrived) ≤ l.edge
      empty l low = elim (arriving.is_taken at [] d.arrived) as (λ c. top (if c then record d.arrived { places = arriving.places_after at [] d.arrived } else d.arrived) ≤ l.edge)
          [ true ↦ omega (arith, low, length-merged d.arrived.places (drop d.arrived.read []), length-drop d.arrived.read (by_place at [])) | false ↦ low ]

  asks_goes : (path : ℕ) (p : Lane) → slice_get d.lanes path ≡ Some p → (x : Ask) → p.asking ≡ x → StandsBefore (asks path x p d)
  asks_goes path p there Nothing is = h
  asks_goes path p there (AskGrant most standby) is = still path p _ d.arrived there (grant_stays p _) (omega arith)
  asks_goes path p there (AskAckIn next window) is = still path p _ d.arrived there (ack_stays p next _) (omega arith)
  asks_goes path p there (AskPlace at bytes) is = place_goes path at bytes p there is
  asks_goes path p there (AskFin at) is = still path p _ (arriving.after_fin at d.arrived) there (set_stays p _) (fin_top at d.arrived)
  asks_goes path p there AskAckOut is = still path p (takes_ack_out (arriving.reply_to d.arrived reassembly_calls.AckOut) p) d.arrived there (told_stays p (arriving.reply_to d.arrived reassembly_calls.AckOut)) (omega arith)

  asked_goes : (path : ℕ) (o : Option Lane) → slice_get d.lanes path ≡ o → StandsBefore (asks_at path o d)
  asked_goes path None there = h
  asked_goes path (Some p) there = asks_goes path p there p.asking refl

  moves_goes : (path : ℕ) (m : Move) (o : Option Lane) → slice_get d.lanes path ≡ o → StandsBefore (moves f path m o d)
  moves_goes path m None there = h
  moves_goes path m (Some p) there = still path p _ d.arrived there (moved_stays p f path m) (omega arith)

  infinite_goes : (path pos : ℕ) (o : Option Lane) → slice_get d.lanes path ≡ o → StandsBefore (goes_infinite path pos o d)
  infinite_goes path pos None there = h
  infinite_goes path pos (Some p) there = by (may_go path pos d.send p)
    where
      by : (c : Bool) → StandsBefore (if c then record d { send = after_call d.send (send_calls.GoInfinite path); lanes = set d.lanes path (record p { pair = Some (record { pos = pos; place = acked_len d.send.marks }) }) } else d)
      by true = still path p _ d.arrived there refl (omega arith)
      by false = h

  identity_goes : (c : Bool) → StandsBefore (if c then record d { send = after_call d.send send_calls.GoIdentity } else d)
  identity_goes true = h
  identity_goes false = h

  read_goes : (most : ℕ) (c : Bool) → StandsBefore (if c then d else reads most d)
  read_goes most true = h
  read_goes most false = λ p there. (let was = h p there in let low = by (is_some d.arrived.aborted) in omega (arith, was, low))
    where
      by : (c : Bool) → top (if c then d.arrived else arriving.after_reading most d.arrived) ≤ top d.arrived
      by true = omega arith
      by false = read_top most d.arrived

  after_goes : (e : StreamEvent) → StandsBefore (after f e d)
  after_goes (event.Write bytes) = h
  after_goes event.Close = h
  after_goes (event.Return path) = h
  after_goes event.GoIdentity = identity_goes f.sender
  after_goes (event.GoInfinite path pos) = infinite_goes path pos (slice_get d.lanes path) refl
  after_goes event.AbortSend = h
  after_goes (event.Read most) = read_goes most (is_done d.reader)
  after_goes (event.AbortRead by_peer) = h
  after_goes (event.Moves path m) = moves_goes path m (slice_get d.lanes path) refl
  after_goes (event.Asks path) = asked_goes path (slice_get d.lanes path) refl

-- ---- both directions

-- as long as no join was answered
pub record BothStand (w : Duo) : Type 0 where
  pub ab : w.modes.answered ≡ false → StandsBefore w.ab
  pub ba : w.modes.answered ≡ false → StandsBefore w.ba

modes_stand : (m : Modes) (w : Duo) → (m.answered ≡ false → w.modes.answered ≡ false) → BothStand w → BothStand (record w { modes = m })
modes_stand m w back h = record { ab = λ none. h.ab (back none); ba = λ none. h.ba (back none) }

same_answer : (c : Bool) (m n : Modes) → n.answered ≡ m.answered → (if c then m else n).answered ≡ false → m.answered ≡ false
same_answer true m n same is = is
same_answer false m n same is = sym same ∙ is

hears_back : (c : Bool) (m : Modes) → (if c then record m { answered = true } else m).answered ≡ false → m.answered ≡ false
hears_back true m is = absurd (true≢false is)
hears_back false m is = is

event_stands : (e : Event) (w : Duo) → Holds w → BothStand w → BothStand (after_event e w)
event_stands (ToB e) w held h = record { ab = λ none. after_goes (flags_ab w.modes) w.ab held.ab none (h.ab none) e; ba = h.ba }
event_stands (ToA e) w held h = record { ab = h.ab; ba = λ none. after_goes (flags_ba w.modes) w.ba held.ba none (h.ba none) e }
event_stands FallA w held h = modes_stand (falls_a w.modes) w (same_answer w.modes.begun w.modes _ refl) h
event_stands FallB w held h = modes_stand (falls_b w.modes) w (same_answer w.modes.answered w.modes _ refl) h
event_stands LoosenA w held h = modes_stand _ w (λ is. is) h
event_stands LoosenB w held h = modes_stand _ w (λ is. is) h
event_stands BeginJoin w held h = modes_stand (begins_join w.modes) w (same_answer w.modes.plain_a w.modes _ refl) h
event_stands SendJoin w held h = modes_stand (sends_join w.modes) w (sends_back w.modes.begun) h
  where
    sends_back : (c : Bool) → (if c then record w.modes { join_sent = true } else w.modes).answered ≡ false → w.modes.answered ≡ false
    sends_back true is = is
    sends_back false is = is
event_stands HearJoin w held h = modes_stand (hears_join w.modes) w (hears_back _ w.modes) h

events_stand : (events : List Event) (w : Duo) → ((more : List Event) → Holds (after_events more w)) → BothStand w → BothStand (after_events events w)
events_stand [] w ever h = h
events_stand (e ∷ events) w ever h = events_stand events (after_event e w) (λ more. ever (e ∷ more)) (event_stands e w (ever []) h)

-- of both streams after all events
pub both_stand : (alters checked : Bool) (paths buffer capacity : ℕ) (events : List Event) → ((more : List Event) → Holds (after_events more (opening_over alters checked paths buffer capacity)))
    → BothStand (after_events events (opening_over alters checked paths buffer capacity))
both_stand alters checked paths buffer capacity events ever = events_stand events (opening_over alters checked paths buffer capacity) ever (record {
  ab = λ none p there. omega arith;
  ba = λ none p there. omega arith;
})
