-- What each call of a reassembly book makes of it, of its view and of its reader.
use Rattle.stream_lanes.proofs.Words.{◌≡◌, refl, sym, ap, subst, ℕ, zero, suc, ◌+◌, ◌<◌, ◌≤◌, max, Bool, true, false, nat_lt, List, [], ◌∷◌, length, take, drop}
use Rattle.stream_lanes.proofs.Words.{map, replicate, Option, Some, None, if◌then◌else◌, arith, is_some, eq-eqb, le-ltb, and_right, slice_get, length-drop}
use Rattle.stream_lanes.proofs.Words.{length-replicate, append-nil, length-map, length-append, IfSome, Place, Fin, AckOut, Abort, Arriving, filled, received}
use Rattle.stream_lanes.proofs.Words.{top, by_place, merged, edge, reaches_past, clash, places_after, fin_clash, is_taken, first_abort, Sending, Flags, Reader}
use Rattle.stream_lanes.proofs.Words.{From, view_of, all_in, IsEnd, IsPlaced, View, was_read, stands, IsSent, ArrivedHolds, SendHolds, ReaderHolds}
use Rattle.reassembly_book.specs.Steps.{after_call}
use Rattle.stream_lanes.proofs.Lists.{Cells-map}
use Rattle.stream_lanes.proofs.Bytes.{Cells-merged, Cells-by_place, merged_left}
use Rattle.stream_lanes.proofs.Later.{Later, Anyone}
use Rattle.stream_lanes.proofs.Views.{AllIn, all_in_is, all_in_one, is_end as is_end_of, row_below, received_written}
use Rattle.stream_lanes.proofs.Views.AllIn.{missing, complete}

-- a call of the reassembly book: its view went on, and all holds
pub record ReceiveStep (granted : ℕ → Type 0) (f : Flags) (s : Sending) (b c : Arriving) (q : Reader) : Type 0 where
  pub later : Later Anyone (view_of f s b) (view_of f s c)
  pub send : SendHolds s (view_of f s c)
  pub arrived : ArrivedHolds granted (view_of f s c) c
  pub reader : ReaderHolds (view_of f s c) c q

-- more is filled after a merge
filled_grows : (xs ys : List (Option ℕ)) → length (filled xs) ≤ length (filled (merged xs ys))
filled_grows [] ys = omega arith
filled_grows (Some x ∷ xs) [] = omega arith
filled_grows (None ∷ xs) [] = omega arith
filled_grows (Some x ∷ xs) (y ∷ ys) = omega (arith, filled_grows xs ys)
filled_grows (None ∷ xs) (y ∷ ys) = omega arith

length-merged : (xs ys : List (Option ℕ)) → length (merged xs ys) ≡ max (length xs) (length ys)
length-merged [] ys = omega arith
length-merged (x ∷ xs) [] = omega arith
length-merged (Some x ∷ xs) (y ∷ ys) = omega (arith, length-merged xs ys)
length-merged (None ∷ xs) (y ∷ ys) = omega (arith, length-merged xs ys)

-- what is filled is there, and as much of it is left as was not taken
pub filled_within : (places : List (Option ℕ)) → length (filled places) ≤ length places
filled_within [] = omega arith
filled_within (None ∷ places) = omega arith
filled_within (Some x ∷ places) = omega (arith, filled_within places)

pub filled_left : (n : ℕ) (places : List (Option ℕ)) → n ≤ length (filled places) → n + length (filled (drop n places)) ≡ length (filled places)
filled_left zero places within = omega arith
filled_left (suc n) [] within = absurd (omega (arith, within))
filled_left (suc n) (None ∷ places) within = absurd (omega (arith, within))
filled_left (suc n) (Some x ∷ places) within = omega (arith, filled_left n places (omega (arith, within)))

-- bytes in a row from a place on are what the list has there
drop_item : (xs : List ℕ) (first x : ℕ) → slice_get xs first ≡ Some x → drop first xs ≡ x ∷ drop (suc first) xs
drop_item [] first x e = cc
drop_item (y ∷ xs) zero x e = let same : y ≡ x = cc in rw same refl
drop_item (y ∷ xs) (suc first) x e = drop_item xs first x e

pub row_is : (xs : List ℕ) (first : ℕ) (bytes : List ℕ) (n : ℕ) → n ≤ length bytes → From (λ place x. slice_get xs place ≡ Some x) first bytes
    → take n (drop first xs) ≡ take n bytes
row_is xs first bytes zero within row = refl
row_is xs first [] (suc n) within row = absurd (omega (arith, within))
row_is xs first (x ∷ bytes) (suc n) within row =
    let here = drop_item xs first x (row.each 0 first x (omega arith) refl) in
    let rest : From (λ place x. slice_get xs place ≡ Some x) (suc first) bytes = record { each = λ i place y place_is e. row.each (suc i) place y (omega (arith, place_is)) e } in
    rw here (ap (λ ys. x ∷ ys) (row_is xs (suc first) bytes n (omega (arith, within)) rest))

-- the numbers of a book that went on
module _ (f : Flags) (s : Sending) (b c : Arriving) (room : edge b ≤ edge c) (more : received b ≤ received c) (within : received c ≤ length s.written)
    (placed : (place : ℕ) → IsPlaced b.read b.places place → IsPlaced c.read c.places place) where
  reach : AllIn s.closed s.written (received b) → (received b + all_in s.closed s.written (received b) ≤ received c + all_in s.closed s.written (received c))
      × (edge b + all_in s.closed s.written (received b) ≤ edge c + all_in s.closed s.written (received c))
  reach (missing is) = (omega (arith, is, more), omega (arith, is, room))
  reach (complete closed whole is) =
      let one : all_in s.closed s.written (received c) ≡ 1 = all_in_one s.closed s.written (received c) closed (omega (arith, whole, more, within)) in
      (omega (arith, is, one, more), omega (arith, is, one, room))

  pub went_on : Later Anyone (view_of f s b) (view_of f s c)
  went_on =
      let both = reach (all_in_is s.closed s.written (received b)) in
      record {
        more = [];
        written = sym (append-nil s.written);
        spent = λ path place is. is;
        untried = λ path q place is. is;
        news = λ path q kept n reach new. new;
        end = λ e is. is;
        acked = omega arith;
        confirmed = omega arith;
        room = room;
        received = more;
        next = both.0;
        edge = both.1;
        alone = λ is. is;
        fallen = λ is. is;
        stays_alone = λ fallen alone. alone;
        owner = λ path is. is;
        placed = placed;
        alters = refl;
        checked = refl;
        exact = λ is. is;
      }

  pub sends_on : SendHolds s (view_of f s b) → SendHolds s (view_of f s c)
  sends_on h =
      let both = reach (all_in_is s.closed s.written (received b)) in
      record { whole = h.whole; first = h.first; held = h.held; acked = omega (arith, h.acked, more); edge = λ none. let old = h.edge none in omega (arith, old, both.1); fin = h.fin }

-- bytes that were sent are taken
row_reaches : {granted : ℕ → Type 0} (v : View) (at : ℕ) (bytes : List ℕ) (bound : ℕ) → ((place byte : ℕ) → IsSent granted v place byte → place < bound)
    → From (IsSent granted v) at bytes → reaches_past bound at bytes ≡ false
row_reaches v at [] bound below row = refl
row_reaches {granted} v at (x ∷ bytes) bound below row =
    let first : at < bound = below at x (row.each 0 at x (omega arith) refl) in
    let whole : at + length (x ∷ bytes) ≤ bound = row_below bound at (x ∷ bytes) below (omega (arith, first)) row in
    and_right (nat_lt 0 (length (x ∷ bytes))) _ (le-ltb bound (at + length (x ∷ bytes)) whole)

module _ (granted : ℕ → Type 0) (f : Flags) (s : Sending) (b : Arriving) (send : SendHolds s (view_of f s b)) (arrived : ArrivedHolds granted (view_of f s b) b) where
  within : received b ≤ length s.written
  within = received_written (view_of f s b) b arrived

  -- no byte lies past what is taken, over links that alter nothing, or past a known end
  pub not_beyond : f.alters ≡ false → (at : ℕ) (bytes : List ℕ) → From (IsSent granted (view_of f s b)) at bytes → reaches_past (edge b) at bytes ≡ false
  not_beyond none at bytes row = row_reaches (view_of f s b) at bytes (edge b) (λ place byte sent. sent.room none) row

  pub not_clash : (at : ℕ) (bytes : List ℕ) → From (IsSent granted (view_of f s b)) at bytes → (o : Option ℕ) → IfSome o (IsEnd (view_of f s b).end) → clash o at bytes ≡ None
  not_clash at bytes row None end = refl
  not_clash at bytes row (Some e) end =
      let size = (is_end_of s e end).1 in
      ap (λ (c : Bool). if c then Some e else None) (row_reaches (view_of f s b) at bytes e (λ place byte sent. subst (λ n. place < n) size sent.within) row)

  -- an end agrees with what is there
  pub not_fin_clash : (at : ℕ) → IsEnd (view_of f s b).end at → (o : Option ℕ) → IfSome o (IsEnd (view_of f s b).end) → fin_clash o at b ≡ None
  not_fin_clash at is None end =
      ap (λ (c : Bool). if c then Some (top b) else None) (le-ltb at (top b) (omega (arith, (is_end_of s at is).1, arrived.top)))
  not_fin_clash at is (Some e) end =
      ap (λ (c : Bool). if c then None else Some e) (eq-eqb e at (omega (arith, (is_end_of s at is).1, (is_end_of s e end).1)))

  pub same_step : (r : Reader) → ReaderHolds (view_of f s b) b r → ReceiveStep granted f s b b r
  same_step r reader = record { later = went_on f s b b (omega arith) (omega arith) within (λ place is. is); send = send; arrived = arrived; reader = reader }

  receive_if : (taken : Bool) (c : Arriving) (r : Reader) → ReaderHolds (view_of f s b) b r → (taken ≡ true → ReceiveStep granted f s b c r) → ReceiveStep granted f s b (if taken then c else b) r
  receive_if = elim [ true ↦ λ c r reader takes. takes refl | false ↦ λ c r reader takes. same_step r reader ]

  pub place_step : (at : ℕ) (bytes : List ℕ) (r : Reader) → From (IsSent granted (view_of f s b)) at bytes → ReaderHolds (view_of f s b) b r → ReceiveStep granted f s b (after_call b (Place at bytes)) r
  place_step at bytes r row reader = receive_if (is_taken at bytes b) c r reader (λ _. takes)
    where
      c : Arriving
      c = record b { places = places_after at bytes b }

      highest : (bytes : List ℕ) → From (IsSent granted (view_of f s b)) at bytes → b.read + length (drop b.read (by_place at bytes)) ≤ max b.read (length s.written)
      highest [] row = omega (arith, length-drop {A = Option ℕ} b.read [])
      highest (x ∷ bytes) row =
          let first : at < length s.written = (row.each 0 at x (omega arith) refl).within in
          let last : at + length (x ∷ bytes) ≤ length s.written =
          row_below (length s.written) at (x ∷ bytes) (λ n y sent. sent.within) (omega (arith, first)) row in
          omega (
            arith,
            length-drop b.read (by_place at (x ∷ bytes)),
            length-append (replicate at None) (map Some (x ∷ bytes)),
            length-replicate {A = Option ℕ} at None,
            length-map (x ∷ bytes) Some,
            last,
          )

      holds : ArrivedHolds granted (view_of f s b) c
      holds = record {
        top = omega (arith, length-merged b.places (drop b.read (by_place at bytes)), highest bytes row, arrived.top);
        cells = Cells-merged arrived.cells (Cells-by_place b.read row);
        end = arrived.end;
        before = arrived.before;
      }

      now : received c ≤ length s.written
      now = received_written (view_of f s b) c holds

      more : received b ≤ received c
      more = omega (arith, filled_grows b.places (drop b.read (by_place at bytes)))

      stays : (place : ℕ) → IsPlaced b.read b.places place → IsPlaced b.read (places_after at bytes b) place
      stays place (was_read below) = was_read below
      stays place (stands i byte is e) = stands i byte is (merged_left b.places (drop b.read (by_place at bytes)) i byte e)

      takes : ReceiveStep granted f s b c r
      takes = record {
        later = went_on f s b c (omega arith) more now stays;
        send = sends_on f s b c (omega arith) more now stays send;
        arrived = record {
          top = holds.top;
          cells = Cells-map (λ place byte sent. record { within = sent.within; written = sent.written; room = sent.room; recorded = sent.recorded }) holds.cells;
          end = holds.end;
          before = holds.before;
        };
        reader = record { size = reader.size; out = reader.out; told = reader.told; once = reader.once };
      }

  pub fin_step : (at : ℕ) (r : Reader) → IsEnd (view_of f s b).end at → ReaderHolds (view_of f s b) b r → ReceiveStep granted f s b (after_call b (Fin at)) r
  fin_step at r end reader = at_clash (is_some (fin_clash b.known_end at b))
    where
      at_clash : (clash : Bool) → ReceiveStep granted f s b (if clash then b else record b { known_end = Some at }) r
      at_clash true = same_step r reader
      at_clash false = record {
        later = went_on f s b (record b { known_end = Some at }) (omega arith) (omega arith) within (λ place is. is);
        send = send;
        arrived = record { top = arrived.top; cells = arrived.cells; end = end; before = arrived.before };
        reader = record { size = reader.size; out = reader.out; told = reader.told; once = reader.once };
      }

  pub abort_step : (by_peer : Bool) (r : Reader) → ReaderHolds (view_of f s b) b r → ReceiveStep granted f s b (after_call b (Abort by_peer)) r
  abort_step by_peer r reader = record {
    later = went_on f s b (record b { aborted = first_abort b.aborted by_peer }) (omega arith) (omega arith) within (λ place is. is);
    send = send;
    arrived = record { top = arrived.top; cells = arrived.cells; end = arrived.end; before = arrived.before };
    reader = record { size = reader.size; out = reader.out; told = reader.told; once = reader.once };
  }

  pub ack_out_step : (r : Reader) → ReaderHolds (view_of f s b) b r → ReceiveStep granted f s b (after_call b AckOut) r
  ack_out_step r reader = same_step r reader
