-- No book and no list of mappings refuses what a lane asks or learns.
use Rattle.stream_lanes.proofs.Words.{◌≡◌, refl, sym, ◌∙◌, ap, ℕ, suc, ◌+◌, ◌-◌, ◌<◌, ◌≤◌, min, max, Bool, true, false, not, nat_lt, ◌==◌, List, [], ◌∷◌}
use Rattle.stream_lanes.proofs.Words.{length, Option, Some, None, if◌then◌else◌, arith, ◌&&◌, ltb-true, eq-eqb, le-ltb, or_from, slice_get, IfSome, same_Some}
use Rattle.stream_lanes.proofs.Words.{Arriving, received, edge, reaches_past, clash, placed_reply, fin_reply_by, Beyond, Sending, acked_len, is_future}
use Rattle.stream_lanes.proofs.Words.{fin_after, AckFuture, AckedBytes, DataCopy, Mapping, Ask, Lane, Cell, Nothing, AskGrant, AskAckIn, AskPlace, AskFin}
use Rattle.stream_lanes.proofs.Words.{AskAckOut, Flags, Move, clashes, places_of, disagree, Direction, StreamEvent, Moves, Asks, From, view_of, View, IsSent}
use Rattle.stream_lanes.proofs.Words.{IsAck, AskHolds, LaneHolds, IsRight, DirectionHolds, IsGranted, is_ack_future, is_beyond_or_clash, ask_refused}
use Rattle.stream_lanes.proofs.Words.{mapping_clashes, copy_clashes, move_refused, lane_refused, is_refused, is_clash, ask_disagrees, disagrees, Learn}
use Rattle.stream_lanes.proofs.Lists.{From-map}
use Rattle.stream_lanes.proofs.Views.{AllIn, all_in_is, received_written}
use Rattle.stream_lanes.proofs.Views.AllIn.{missing, complete}
use Rattle.stream_lanes.proofs.Arrivals.{not_beyond, not_clash, not_fin_clash}

-- two right mappings give a position the same place
agree : (sent : List Cell) (m n : Mapping) → IsRight sent m → IsRight sent n → disagree m n ≡ false
agree sent m n m_right n_right = at (nat_lt (max m.pos n.pos) (min (m.pos + m.len) (n.pos + n.len))) refl
  where
    at : (c : Bool) → nat_lt (max m.pos n.pos) (min (m.pos + m.len) (n.pos + n.len)) ≡ c → (c && not (m.place + n.pos == n.place + m.pos)) ≡ false
    at false is = refl
    at true is =
        let meet : max m.pos n.pos < min (m.pos + m.len) (n.pos + n.len) = ltb-true _ _ is in
        let p : ℕ = max m.pos n.pos in
        let one = m_right.places (p - m.pos) (omega (arith, meet)) in
        let other = n_right.places (p - n.pos) (omega (arith, meet)) in
        let same : m.pos + (p - m.pos) ≡ n.pos + (p - n.pos) = omega arith in
        let place : m.place + (p - m.pos) ≡ n.place + (p - n.pos) = same_Some _ _ (sym one ∙ ap (slice_get (places_of sent)) same ∙ other) in
        ap not (eq-eqb (m.place + n.pos) (n.place + m.pos) (omega (arith, place)))

no_clash : (sent : List Cell) (m : Mapping) (maps : List Mapping) → IsRight sent m → ((i : ℕ) (n : Mapping) → slice_get maps i ≡ Some n → IsRight sent n) → clashes m maps ≡ false
no_clash sent m [] right all = refl
no_clash sent m (n ∷ maps) right all =
    or_from (disagree m n) (clashes m maps) (agree sent m n right (all 0 n refl)) (no_clash sent m maps right (λ i x e. all (suc i) x e))

copy_agrees : (v : View) (path : ℕ) (p : Lane) → LaneHolds v path p → (copy : ℕ) (o : Option DataCopy) → slice_get p.datas copy ≡ o → copy_clashes o p ≡ false
copy_agrees v path p h copy None is = refl
copy_agrees v path p h copy (Some d) is = (elim d.mapping as (λ o. IfSome o (IsRight p.sent) → mapping_clashes o p ≡ false)
    [ None ↦ λ right. refl | Some m ↦ λ right. no_clash p.sent m p.maps right (λ i n e. h.bytes.right.each i n e) ]) (h.bytes.honest.each copy d is).mapping

move_taken : (v : View) (path : ℕ) (p : Lane) → LaneHolds v path p → (move : Move) → move_refused move p ≡ false
move_taken v path p h (Learn copy) = copy_agrees v path p h copy (slice_get p.datas copy) refl
move_taken v path p h _ = refl

-- nothing is acknowledged that was not written
not_future : (f : Flags) (s : Sending) (b : Arriving) (next window : ℕ) → received b ≤ length s.written → IsAck (view_of f s b) next window → is_future next s ≡ false
not_future f s b next window within ack = le-ltb (length s.written + (if s.closed then 1 else 0)) next (at (all_in_is s.closed s.written (received b)))
  where
    at : AllIn s.closed s.written (received b) → next ≤ length s.written + (if s.closed then 1 else 0)
    at (missing is) = omega (arith, is, ack.covers, within)
    at (complete closed whole is) = omega (arith, is, ack.covers, whole, ap {B = ℕ} (λ (c : Bool). if c then 1 else 0) closed)

module _ (f : Flags) (d : Direction) (h : DirectionHolds f d) where
  ask_taken : f.alters ≡ false → (path : ℕ) (p : Lane) → slice_get d.lanes path ≡ Some p → (a : Ask) → AskHolds (view_of f d.send d.arrived) p.sent p.opened p.edge a → ask_refused a d ≡ false
  ask_taken none path p there Nothing ask = refl
  ask_taken none path p there (AskGrant max standby) ask = refl
  ask_taken none path p there (AskAckIn next window) ask =
      ap (λ (c : Bool). is_ack_future (if c then AckFuture (length d.send.written) else AckedBytes (min next (length d.send.written) - acked_len d.send.marks) (fin_after next d.send)))
      (not_future f d.send d.arrived next window (received_written (view_of f d.send d.arrived) d.arrived h.arrived) ask)
  ask_taken none path p there (AskPlace at bytes) ask =
      let row : From (IsSent (IsGranted d.lanes) (view_of f d.send d.arrived)) at bytes = From-map (λ place byte sent. record {
        within = sent.within;
        written = sent.written;
        room = sent.room;
        recorded = record { at = path; item = p; there = there; holds = sent.recorded };
      }) ask.each in
      ap (λ (c : Bool). is_beyond_or_clash (if c then Beyond (edge d.arrived) else placed_reply (clash d.arrived.known_end at bytes) at bytes d.arrived))
      (not_beyond (IsGranted d.lanes) f d.send d.arrived h.send h.arrived none at bytes row)
      ∙ ap (λ o. is_beyond_or_clash (placed_reply o at bytes d.arrived)) (not_clash (IsGranted d.lanes) f d.send d.arrived h.send h.arrived at bytes row d.arrived.known_end h.arrived.end)
  ask_taken none path p there (AskFin at) ask =
      ap (λ o. is_beyond_or_clash (fin_reply_by o at)) (not_fin_clash (IsGranted d.lanes) f d.send d.arrived h.send h.arrived at ask d.arrived.known_end h.arrived.end)
  ask_taken none path p there AskAckOut ask = refl

  asks_taken : f.alters ≡ false → (path : ℕ) (o : Option Lane) → slice_get d.lanes path ≡ o → lane_refused (λ p. ask_refused p.asking d) o ≡ false
  asks_taken none path None there = refl
  asks_taken none path (Some p) there = ask_taken none path p there p.asking (h.lanes.each path path p (omega arith) there).ask

  moves_taken : (path : ℕ) (move : Move) (o : Option Lane) → slice_get d.lanes path ≡ o → lane_refused (move_refused move) o ≡ false
  moves_taken path move None there = refl
  moves_taken path move (Some p) there = move_taken (view_of f d.send d.arrived) path p (h.lanes.each path path p (omega arith) there) move

  pub never_refused : f.alters ≡ false → (event : StreamEvent) → is_refused event d ≡ false
  never_refused none (Moves path move) = moves_taken path move (slice_get d.lanes path) refl
  never_refused none (Asks path) = asks_taken none path (slice_get d.lanes path) refl
  never_refused none _ = refl

  -- whatever is altered, nothing disagrees
  ask_agrees : (path : ℕ) (p : Lane) → slice_get d.lanes path ≡ Some p → (a : Ask) → AskHolds (view_of f d.send d.arrived) p.sent p.opened p.edge a → ask_disagrees a d ≡ false
  ask_agrees path p there Nothing ask = refl
  ask_agrees path p there (AskGrant max standby) ask = refl
  ask_agrees path p there (AskAckIn next window) ask =
      ap (λ (c : Bool). is_ack_future (if c then AckFuture (length d.send.written) else AckedBytes (min next (length d.send.written) - acked_len d.send.marks) (fin_after next d.send)))
      (not_future f d.send d.arrived next window (received_written (view_of f d.send d.arrived) d.arrived h.arrived) ask)
  ask_agrees path p there (AskPlace at bytes) ask = by_beyond (reaches_past (edge d.arrived) at bytes)
    where
      row : From (IsSent (IsGranted d.lanes) (view_of f d.send d.arrived)) at bytes
      row = From-map (λ place byte sent. record {
        within = sent.within;
        written = sent.written;
        room = sent.room;
        recorded = record { at = path; item = p; there = there; holds = sent.recorded };
      }) ask.each

      by_beyond : (c : Bool) → is_clash (if c then Beyond (edge d.arrived) else placed_reply (clash d.arrived.known_end at bytes) at bytes d.arrived) ≡ false
      by_beyond true = refl
      by_beyond false = ap (λ o. is_clash (placed_reply o at bytes d.arrived)) (not_clash (IsGranted d.lanes) f d.send d.arrived h.send h.arrived at bytes row d.arrived.known_end h.arrived.end)
  ask_agrees path p there (AskFin at) ask =
      ap (λ o. is_clash (fin_reply_by o at)) (not_fin_clash (IsGranted d.lanes) f d.send d.arrived h.send h.arrived at ask d.arrived.known_end h.arrived.end)
  ask_agrees path p there AskAckOut ask = refl

  asks_agree : (path : ℕ) (o : Option Lane) → slice_get d.lanes path ≡ o → lane_refused (λ p. ask_disagrees p.asking d) o ≡ false
  asks_agree path None there = refl
  asks_agree path (Some p) there = ask_agrees path p there p.asking (h.lanes.each path path p (omega arith) there).ask

  pub never_disagrees : (event : StreamEvent) → disagrees event d ≡ false
  never_disagrees (Moves path move) = moves_taken path move (slice_get d.lanes path) refl
  never_disagrees (Asks path) = asks_agree path (slice_get d.lanes path) refl
  never_disagrees _ = refl
