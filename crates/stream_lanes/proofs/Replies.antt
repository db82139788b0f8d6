-- What a lane makes of the replies to its acknowledgement, to its bytes, to an end and to AckOut.
use Rattle.stream_lanes.proofs.Words.{◌≡◌, refl, sym, ◌∙◌, ap, subst, ℕ, zero, suc, ◌+◌, ◌-◌, ◌<◌, ◌≤◌, min, max, Bool, true, false, ◌==◌, ⊎_elim, List, []}
use Rattle.stream_lanes.proofs.Words.{◌∷◌, ◌++◌, length, drop, map, replicate, Option, Some, None, if◌then◌else◌, arith, is_some, count_by, or_cases, eqb-true}
use Rattle.stream_lanes.proofs.Words.{cases_lt, ltb-false, true≢false, slice_get, IfSome, Place, Fin, AckOut, Arriving, filled, received, after_arrival}
use Rattle.stream_lanes.proofs.Words.{arrival_reply, by_place, merged, edge, reaches_past, clash, placed_reply, places_after, fin_clash, fin_reply_by, Placed}
use Rattle.stream_lanes.proofs.Words.{Beyond, AckIn, Sending, acked_len, after_send, is_future, fin_after, send_reply, slice_get-drop, AckFuture, AckedBytes}
use Rattle.stream_lanes.proofs.Words.{Acked, Lane, Nothing, Flags, takes_ack, takes_placed, takes_fin, takes_ack_out, Reader, From, view_of, all_in, end_of}
use Rattle.stream_lanes.proofs.Words.{IsEnd, IsIn, IsPlaced, was_read, stands, IsSent, ArrivedHolds, PlaceHolds, LaneHolds, IsPassed, SendHolds, AreNew}
use Rattle.reassembly_book.specs.Steps.{is_end}
use Rattle.stream_lanes.proofs.Lists.{Cells-drop, item_at}
use Rattle.stream_lanes.proofs.Bytes.{filled_upto, filled_item, merged_left}
use Rattle.stream_lanes.proofs.MarkLists.{AreAcked-count, AreAcked-acked, AreAcked-within}
use Rattle.stream_lanes.proofs.Later.{Anyone, lane_later}
use Rattle.stream_lanes.proofs.Local.{with_ask}
use Rattle.stream_lanes.proofs.Views.{all_in_one, is_end as is_end_of}
use Rattle.stream_lanes.proofs.Sends.{SendStep}
use Rattle.stream_lanes.proofs.Arrivals.{ReceiveStep, not_clash}
use Rattle.stream_lanes.proofs.LaneParts.{parts_of, whole, new_passed, new_bytes, new_heard, new_receiver, new_ask}

-- what was acknowledged counts as confirmed
module _ (f : Flags) (s : Sending) (b : Arriving) (send : SendHolds s (view_of f s b)) (next window : ℕ) (path : ℕ) (p : Lane) where
  confirmed_next : is_future next s ≡ false → next ≤ (view_of f (record s {
    marks = replicate (min next (length s.marks)) Acked ++ drop next s.marks;
    edge = max s.edge (next + window);
    fin = fin_after next s;
  }) b).confirmed
  confirmed_next past = by_close s.closed refl (ltb-false _ _ past)
    where
      c : ℕ
      c = min next (length s.marks)

      count : acked_len (replicate (min next (length s.marks)) Acked ++ drop next s.marks) ≡ max (acked_len s.marks) c
      count = AreAcked-count _ _ (AreAcked-acked (acked_len s.marks) next c (max (acked_len s.marks) c) s.marks refl refl send.first)

      by_close : (d : Bool) → s.closed ≡ d → next ≤ length s.written + (if d then 1 else 0)
          → next ≤ acked_len (replicate (min next (length s.marks)) Acked ++ drop next s.marks)
          + all_in s.closed s.written (acked_len (replicate (min next (length s.marks)) Acked ++ drop next s.marks))
      by_close false is less = omega (arith, count, less, send.whole)
      by_close true is less = ⊎_elim
          (λ past. omega (arith, count, past, send.whole))
          (λ over. let one = all_in_one s.closed s.written (acked_len (replicate (min next (length s.marks)) Acked ++ drop next s.marks)) is
          (omega (arith, count, over, send.whole, AreAcked-within (acked_len s.marks) s.marks send.first)) in
          omega (arith, one, count, over, less, send.whole))
          (cases_lt next (suc (length s.written)))

  pub ack_held : SendStep Anyone f s (after_send s (AckIn next window)) b
      → ((n : ℕ) → AreNew n s.marks → received b ≤ n) → LaneHolds (view_of f s b) path p
      → LaneHolds (view_of f (after_send s (AckIn next window)) b) path (takes_ack next (send_reply s (AckIn next window)) p)
  ack_held step far h = by_future (is_future next s) refl step
    where
      t : Sending
      t = record s { marks = replicate (min next (length s.marks)) Acked ++ drop next s.marks; edge = max s.edge (next + window); fin = fin_after next s }

      by_future : (c : Bool) → is_future next s ≡ c → SendStep Anyone f s (if c then s else t) b
          → LaneHolds (view_of f (if c then s else t) b) path
          (takes_ack next (if c then AckFuture (length s.written) else AckedBytes (min next (length s.written) - acked_len s.marks) (fin_after next s)) p)
      by_future true is step = with_ask (view_of f s b) path p Nothing tt h
      by_future false is step =
          let now = lane_later step.later path p tt far h in
          whole (new_heard (record {
            below = omega (arith, now.heard.below, confirmed_next is);
            fin = λ acked. ⊎_elim (λ old. now.heard.fin old) (λ new. step.holds.fin new) (or_cases p.fin_acked (fin_after next s) acked);
          })
          (new_ask tt (parts_of now)))

-- what a merge adds
merged_right : (xs ys : List (Option ℕ)) (i x : ℕ) → slice_get ys i ≡ Some (Some x) → (y : ℕ) × (slice_get (merged xs ys) i ≡ Some (Some y))
merged_right [] ys i x e = (x, e)
merged_right (y ∷ xs) [] i x e = cc
merged_right (Some y ∷ xs) (z ∷ ys) zero x e = (y, refl)
merged_right (None ∷ xs) (z ∷ ys) zero x e = (x, e)
merged_right (Some y ∷ xs) (z ∷ ys) (suc i) x e = merged_right xs ys i x e
merged_right (None ∷ xs) (z ∷ ys) (suc i) x e = merged_right xs ys i x e

map_item : (bytes : List ℕ) (i x : ℕ) → slice_get bytes i ≡ Some x → slice_get (map Some bytes) i ≡ Some (Some x)
map_item [] i x e = cc
map_item (y ∷ bytes) zero x e = ap Some e
map_item (y ∷ bytes) (suc i) x e = map_item bytes i x e

past_none : (at : ℕ) (rest : List (Option ℕ)) (i k : ℕ) → k ≡ at + i → slice_get (replicate at None ++ rest) k ≡ slice_get rest i
past_none zero rest i k e = ap (slice_get rest) (omega (arith, e))
past_none (suc at) rest i zero e = absurd (omega (arith, e))
past_none (suc at) rest i (suc k) e = past_none at rest i k (omega (arith, e))

by_place_item : (at : ℕ) (bytes : List ℕ) (i k x : ℕ) → k ≡ at + i → slice_get bytes i ≡ Some x → slice_get (by_place at bytes) k ≡ Some (Some x)
by_place_item at [] i k x e is = cc
by_place_item at (y ∷ bytes) i k x e is = past_none at (map Some (y ∷ bytes)) i k e ∙ map_item (y ∷ bytes) i x is

-- bytes that join those that came without a gap are received
placed_reach : (b : Arriving) (at : ℕ) (bytes : List ℕ) → at ≤ received b → at + length bytes ≤ b.read + length (filled (merged b.places (drop b.read (by_place at bytes))))
placed_reach b at bytes joins = ⊎_elim (λ less. omega (arith, less)) (λ more. reaches more) (cases_lt (at + length bytes) b.read)
  where
    reaches : b.read ≤ at + length bytes → at + length bytes ≤ b.read + length (filled (merged b.places (drop b.read (by_place at bytes))))
    reaches more =
        let n : ℕ = at + length bytes - b.read in
        let all = filled_upto (merged b.places (drop b.read (by_place at bytes))) n full in
        omega (arith, all, more)
      where
        full : (i : ℕ) → i < at + length bytes - b.read → (x : ℕ) × (slice_get (merged b.places (drop b.read (by_place at bytes))) i ≡ Some (Some x))
        full i below = ⊎_elim
            (λ old. let there = filled_item b.places i old in (there.0, merged_left b.places (drop b.read (by_place at bytes)) i there.0 there.1))
            (λ new.
            let there = item_at bytes (b.read + i - at) (omega (arith, new, below, joins)) in
            let placed : slice_get (by_place at bytes) (b.read + i) ≡ Some (Some there.0) =
            by_place_item at bytes (b.read + i - at) (b.read + i) there.0 (omega (arith, new, joins)) there.1 in
            merged_right b.places (drop b.read (by_place at bytes)) i there.0 (slice_get-drop b.read (by_place at bytes) i (b.read + i) refl ∙ placed))
            (cases_lt i (length (filled b.places)))

-- bytes that are placed stand in the book, or were read before
placed_in : (b : Arriving) (at : ℕ) (bytes : List ℕ) (i : ℕ) → i < length bytes → IsPlaced b.read (merged b.places (drop b.read (by_place at bytes))) (at + i)
placed_in b at bytes i below = ⊎_elim (λ old. was_read old) new (cases_lt (at + i) b.read)
  where
    new : b.read ≤ at + i → IsPlaced b.read (merged b.places (drop b.read (by_place at bytes))) (at + i)
    new from =
        let there = item_at bytes i below in
        let placed : slice_get (by_place at bytes) (at + i) ≡ Some (Some there.0) = by_place_item at bytes i (at + i) there.0 refl there.1 in
        let stays = merged_right b.places (drop b.read (by_place at bytes)) (at + i - b.read) there.0 (slice_get-drop b.read (by_place at bytes) (at + i - b.read) (at + i) (omega (arith, from)) ∙ placed) in
        stands (at + i - b.read) stays.0 (omega (arith, from)) stays.1

module _ (granted : ℕ → Type 0) (f : Flags) (s : Sending) (b : Arriving) (send : SendHolds s (view_of f s b)) (arrived : ArrivedHolds granted (view_of f s b) b)
    (path : ℕ) (p : Lane) (far : (n : ℕ) → AreNew n s.marks → received b ≤ n) (h : LaneHolds (view_of f s b) path p) where
  -- the bytes are taken, where they don't lie past what may be
  placed_answer : (at : ℕ) (bytes : List ℕ) → reaches_past (edge b) at bytes ≡ false → From (IsSent granted (view_of f s b)) at bytes
      → (new : ℕ) × (arrival_reply b (Place at bytes) ≡ Placed new) × (after_arrival b (Place at bytes) ≡ record b { places = places_after at bytes b })
  placed_answer at bytes beyond row =
      let clash_is : clash b.known_end at bytes ≡ None = not_clash granted f s b send arrived at bytes row b.known_end arrived.end in (
        count_by is_some (places_after at bytes b) - count_by is_some b.places,
        ap (λ (c : Bool). if c then Beyond (edge b) else placed_reply (clash b.known_end at bytes) at bytes b) beyond ∙ ap (λ o. placed_reply o at bytes b) clash_is,
        ap (λ (c : Bool). if (if c then false else (if is_some (clash b.known_end at bytes) then false else true)) then record b { places = places_after at bytes b } else b) beyond
            ∙ ap (λ o. if (if is_some o then false else true) then record b { places = places_after at bytes b } else b) clash_is,
      )

  pub place_held : (at : ℕ) (bytes : List ℕ) (r : Reader) → From (IsSent granted (view_of f s b)) at bytes → PlaceHolds (view_of f s b) p.sent p.edge at bytes
      → ReceiveStep granted f s b (after_arrival b (Place at bytes)) r
      → LaneHolds (view_of f s (after_arrival b (Place at bytes))) path (takes_placed (length bytes) (arrival_reply b (Place at bytes)) p)
  place_held at bytes r row ask step = by_beyond (reaches_past (edge b) at bytes) refl
    where
      now : LaneHolds (view_of f s (after_arrival b (Place at bytes))) path p
      now = lane_later step.later path p tt far h

      -- what was placed stands there
      came : after_arrival b (Place at bytes) ≡ record b { places = places_after at bytes b } → (i : ℕ) → i < length bytes → IsIn (view_of f s (after_arrival b (Place at bytes))) (at + i)
      came is i below = subst (λ c. IsIn (view_of f s c) (at + i)) (sym is) (placed_in b at bytes i below)

      first_sent : (x : ℕ) (xs : List ℕ) → bytes ≡ x ∷ xs → at < length s.written
      first_sent x xs is = (row.each 0 at x (omega arith) (rw is refl)).within

      ends : (bs : List ℕ) → bytes ≡ bs → (view_of f s b).alone ≡ true → IsEnd (end_of s) p.edge → IsEnd (end_of s) (p.edge + length bs)
      ends [] is alone end = subst (IsEnd (end_of s)) (omega arith) end
      ends (x ∷ xs) is alone end =
          let at_edge : at ≡ p.edge = ask.identity alone (omega (arith, ap length is)) in
          absurd (omega (arith, at_edge, first_sent x xs is, (is_end_of s p.edge end).1))

      passed : (bs : List ℕ) → bytes ≡ bs → (view_of f s b).alone ≡ true
          → received (after_arrival b (Place at bytes)) ≡ b.read + length (filled (merged b.places (drop b.read (by_place at bytes))))
          → p.edge + length bs ≤ received (after_arrival b (Place at bytes))
      passed [] is alone same = omega (arith, h.receiver.passed alone, step.later.received)
      passed (x ∷ xs) is alone same =
          let at_edge : at ≡ p.edge = ask.identity alone (omega (arith, ap length is)) in
          omega (arith, same, at_edge, placed_reach b at bytes (omega (arith, at_edge, h.receiver.passed alone)), ap length is)

      passes : after_arrival b (Place at bytes) ≡ record b { places = places_after at bytes b } → IsPassed path (view_of f s (after_arrival b (Place at bytes))) p.sent (p.edge + length bytes)
      passes is = record {
        bytes = λ pos c below e. ⊎_elim
            (λ old. now.passed.bytes.bytes pos c old e)
            (λ new.
            let place = ask.cells (pos - p.edge) c (omega (arith, below, new)) (ap (slice_get p.sent) (omega (arith, new)) ∙ e) in
            subst (IsIn (view_of f s (after_arrival b (Place at bytes)))) (sym place) (came is (pos - p.edge) (omega (arith, below, new))))
            (cases_lt pos p.edge);
        past = λ more. let within = ask.within in absurd (omega (arith, more, within));
      }

      takes : (new : ℕ) → after_arrival b (Place at bytes) ≡ record b { places = places_after at bytes b }
          → received (after_arrival b (Place at bytes)) ≡ b.read + length (filled (merged b.places (drop b.read (by_place at bytes))))
          → LaneHolds (view_of f s (after_arrival b (Place at bytes))) path (takes_placed (length bytes) (Placed new) p)
      takes new is same = whole (new_passed (record {
        bytes = passes is;
        fin = λ in_order.
            let old = now.passed.fin in_order in
            let end = old.0 in let within = ask.within in
            (omega (arith, end, within), old.1);
        copies = now.passed.copies;
      })
          (new_bytes (record {
            granted = h.bytes.granted;
            apart = h.bytes.apart;
            honest = h.bytes.honest;
            within = ask.within;
            came = Cells-drop (length bytes) h.bytes.came;
            right = h.bytes.right;
            learned = h.bytes.learned;
            acked = h.bytes.acked;
          })
          (new_receiver (record {
            told = now.receiver.told;
            passed = λ alone. passed bytes refl alone same;
            fin = λ alone is. ends bytes refl alone (h.receiver.fin alone is);
            fresh = λ none alone is. absurd (true≢false is);
            copies = now.receiver.copies;
          })
          (new_ask tt (parts_of now)))))

      by_beyond : (c : Bool) → reaches_past (edge b) at bytes ≡ c
          → LaneHolds (view_of f s (after_arrival b (Place at bytes))) path (takes_placed (length bytes) (if c then Beyond (edge b) else placed_reply (clash b.known_end at bytes) at bytes b) p)
      by_beyond true beyond = with_ask (view_of f s (after_arrival b (Place at bytes))) path p Nothing tt now
      by_beyond false beyond =
          let answer = placed_answer at bytes beyond row in
          subst (λ reply. LaneHolds (view_of f s (after_arrival b (Place at bytes))) path (takes_placed (length bytes) reply p))
          (sym (sym (ap (λ (c : Bool). if c then Beyond (edge b) else placed_reply (clash b.known_end at bytes) at bytes b) beyond) ∙ answer.1))
          (takes answer.0 answer.2 (ap (λ (c : Arriving). received c) answer.2))

  pub fin_held : (at : ℕ) (r : Reader) → ReceiveStep granted f s b (after_arrival b (Fin at)) r
      → LaneHolds (view_of f s (after_arrival b (Fin at))) path (takes_fin (arrival_reply b (Fin at)) p)
  fin_held at r step = by_clash (fin_clash b.known_end at b)
    where
      now : LaneHolds (view_of f s (after_arrival b (Fin at))) path p
      now = lane_later step.later path p tt far h

      by_clash : (o : Option ℕ) → LaneHolds (view_of f s (after_arrival b (Fin at))) path (takes_fin (fin_reply_by o at) p)
      by_clash (Some fin) = with_ask (view_of f s (after_arrival b (Fin at))) path p Nothing tt now
      by_clash None = whole (new_receiver (record {
        told = now.receiver.told;
        passed = now.receiver.passed;
        fin = now.receiver.fin;
        fresh = λ none alone is. absurd (true≢false is);
        copies = now.receiver.copies;
      })
          (new_ask tt (parts_of now)))

  pub ack_out_held : (f.alters ≡ false → received b ≤ edge b) → LaneHolds (view_of f s b) path (takes_ack_out (arrival_reply b AckOut) p)
  ack_out_held room = whole (new_receiver (record {
    told = record { covers = omega (arith, wanted b.known_end arrived.end); reaches = λ none. let below = room none in omega (arith, wanted b.known_end arrived.end, below) };
    passed = h.receiver.passed;
    fin = h.receiver.fin;
    fresh = λ none alone _. let below = room none in omega (arith, h.receiver.passed alone, below);
    copies = h.receiver.copies;
  })
      (new_ask tt (parts_of h)))
    where
      wanted : (o : Option ℕ) → IfSome o (IsEnd (end_of s)) → (if is_end o (received b) then 1 else 0) ≤ all_in s.closed s.written (received b)
      wanted None end = omega arith
      wanted (Some e) end = by_end (e == received b) refl
        where
          by_end : (c : Bool) → (e == received b) ≡ c → (if c then 1 else 0) ≤ all_in s.closed s.written (received b)
          by_end false is = omega arith
          by_end true is =
              let at = is_end_of s e end in
              let one : all_in s.closed s.written (received b) ≡ 1 = all_in_one s.closed s.written (received b) at.0 (at.1 ∙ eqb-true e (received b) is) in
              omega (arith, one)
