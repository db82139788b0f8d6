-- What a receiver's end is about to place: bytes of the record, at the places that they have there.
use Rattle.stream_lanes.proofs.Words.{◌≡◌, refl, sym, ◌∙◌, ap, subst, ℕ, zero, suc, ◌+◌, ◌-◌, ◌<◌, ◌≤◌, Bool, true, false, not, ◌==◌, List, length, Option}
use Rattle.stream_lanes.proofs.Words.{Some, None, if◌then◌else◌, arith, ◌&&◌, ◌||◌, nat_le, and_parts, eqb-true, leb-true, slice_get, IfSome, option_map}
use Rattle.stream_lanes.proofs.Words.{slice_get_within, slice_get-map, same_Some, Mapping, Pair, Lane, Cell, AskPlace, place_by, places_pair, places, passes}
use Rattle.stream_lanes.proofs.Words.{lies_in, in_order, places_of, bytes_of, part_of, are_same, From, View, IsSent, RecordHolds, PlaceHolds, LaneHolds}
use Rattle.stream_lanes.proofs.Words.{CellFits, IsEndless, IsRight, HasPlace, Came, IsByteOf}
use Rattle.stream_lanes.proofs.Lists.{From-map, item_at}
use Rattle.stream_lanes.proofs.Bytes.{From-filled, From-take, part_is_honest}
use Rattle.stream_lanes.proofs.Checking.{came_within, came_unaltered, same_bytes}
use Rattle.stream_lanes.proofs.Local.{ViewFits, held_if, with_ask}

-- a cell of the record, by its position
place_is : (sent : List Cell) (pos : ℕ) (c : Cell) → slice_get sent pos ≡ Some c → slice_get (places_of sent) pos ≡ Some c.place
place_is sent pos c is = slice_get-map (λ (c : Cell). c.place) sent pos ∙ ap (option_map (λ (c : Cell). c.place)) is

pub sent_at : (v : View) (path : ℕ) (sent : List Cell) (pos place byte : ℕ) (c : Cell) → RecordHolds path v sent → slice_get sent pos ≡ Some c
    → c.place ≡ place → (v.exact ≡ true → c.byte ≡ byte) → IsSent (HasPlace sent) v place byte
sent_at v path sent pos place byte c h is at byte_is =
    let fits : CellFits path v c = h.cells.each pos c is in
    record {
      within = subst (λ q. q < length v.written) at (slice_get_within v.written c.place c.byte fits.byte);
      written = λ exact. subst (λ q. slice_get v.written q ≡ Some byte) at (subst (λ b. slice_get v.written c.place ≡ Some b) (byte_is exact) fits.byte);
      room = λ none. subst (λ q. q < v.room) at (fits.room none);
      recorded = record { at = pos; item = c; there = is; holds = at };
    }

byte_is : (sent : List Cell) (pos : ℕ) (c : Cell) → slice_get sent pos ≡ Some c → slice_get (bytes_of sent) pos ≡ Some c.byte
byte_is sent pos c is = slice_get-map (λ (c : Cell). c.byte) sent pos ∙ ap (option_map (λ (c : Cell). c.byte)) is

-- bytes that passed the check are those of the record
passed_row : (sent : List Cell) (m : Mapping) (edge : ℕ) (bytes : List ℕ) → IsRight sent m → ((m.pos == edge) && are_same bytes (part_of sent m)) ≡ true
    → From (IsByteOf sent) edge bytes
passed_row sent m edge bytes right passed =
    let parts = and_parts (m.pos == edge) (are_same bytes (part_of sent m)) passed in
    subst (λ first. From (IsByteOf sent) first bytes) (eqb-true m.pos edge parts.0)
    (subst (From (IsByteOf sent) m.pos) (sym (same_bytes bytes (part_of sent m) parts.1)) (part_is_honest sent m right))

or_rest : (c rest : Bool) → c ≡ true → (not c || rest) ≡ true → rest ≡ true
or_rest = elim [ true ↦ λ rest is passed. passed | false ↦ λ rest is passed. cc ]

-- bytes that came in a row end within it
pub row_within : (alters : Bool) (pieces : List Mapping) (sent : List Cell) (edge : ℕ) (bytes : List ℕ) → edge ≤ length sent
    → From (Came alters pieces sent) edge bytes → edge + length bytes ≤ length sent
row_within alters pieces sent edge bytes within row = (elim (length bytes) as (λ n. length bytes ≡ n → edge + length bytes ≤ length sent) [
  | zero ↦ λ is. omega (arith, within, is)
  | suc n ↦ λ is. let last = item_at bytes n (omega (arith, is)) in omega (arith, came_within alters pieces sent (edge + n) last.0 (row.each n (edge + n) last.0 refl last.1), is)
]) refl

module _ (v : View) (path : ℕ) (p : Lane) (h : LaneHolds v path p) (count : ℕ) where
  row : From (Came p.alters p.pieces p.sent) p.edge (in_order count p)
  row = From-take count (From-filled h.bytes.came)

  row_in : p.edge + length (in_order count p) ≤ length p.sent
  row_in = row_within p.alters p.pieces p.sent p.edge (in_order count p) h.bytes.within row

  -- over links that alter nothing the bytes that came are those of the record
  row_unaltered : v.alters ≡ false → From (IsByteOf p.sent) p.edge (in_order count p)
  row_unaltered none = From-map (λ pos byte came. came_unaltered p.alters p.pieces p.sent pos byte (h.link.alters_is ∙ none) came) row

  -- the cell of a byte that came, and that it has the byte where the bytes are right
  cell_of : (i n byte : ℕ) → n ≡ p.edge + i → slice_get (in_order count p) i ≡ Some byte → (v.exact ≡ true → From (IsByteOf p.sent) p.edge (in_order count p))
      → (c : Cell) × (slice_get p.sent n ≡ Some c) × (v.exact ≡ true → c.byte ≡ byte)
  cell_of i n byte n_is e right =
      let there = item_at p.sent n (came_within p.alters p.pieces p.sent n byte (row.each i n byte n_is e)) in (
        there.0,
        there.1,
        λ exact.
            same_Some _ _ (sym (byte_is p.sent n there.0 there.1) ∙ (right exact).each i n byte n_is e),
      )

  -- as long as no join was answered, the first byte has its position as its place
  first_alone : (first : ℕ) → ((i : ℕ) (c : Cell) → i < length (in_order count p) → slice_get p.sent (p.edge + i) ≡ Some c → c.place ≡ first + i)
      → v.alone ≡ true → 1 ≤ length (in_order count p) → first ≡ p.edge
  first_alone first at alone some =
      let there = item_at p.sent p.edge (omega (arith, row_in, some)) in
      let place = at 0 there.0 some (ap (slice_get p.sent) (omega arith) ∙ there.1) in
      let same : there.0.place ≡ p.edge = (h.alone alone).identity.each p.edge p.edge there.0 (omega arith) there.1 in
      omega (arith, place, same)

  mapped_place : (m : Mapping) → IsRight p.sent m → m.pos ≤ p.edge → p.edge + length (in_order count p) ≤ m.pos + m.len
      → (v.exact ≡ true → From (IsByteOf p.sent) p.edge (in_order count p)) → PlaceHolds v p.sent p.edge (m.place + (p.edge - m.pos)) (in_order count p)
  mapped_place m right after before exactly = record {
    cells = at;
    each = record {
      each = λ i n byte n_is e.
          let there = cell_of i (p.edge + i) byte refl e exactly in
          sent_at v path p.sent (p.edge + i) n byte there.0 h.record_of there.1 (at i there.0 (within_of (in_order count p) i byte e) there.1 ∙ sym n_is) there.2;
    };
    within = row_in;
    identity = first_alone (m.place + (p.edge - m.pos)) at;
  }
    where
      at : (i : ℕ) (c : Cell) → i < length (in_order count p) → slice_get p.sent (p.edge + i) ≡ Some c → c.place ≡ m.place + (p.edge - m.pos) + i
      at i c inside e =
          let told = right.places (p.edge - m.pos + i) (omega (arith, after, before, inside)) in
          let here : m.pos + (p.edge - m.pos + i) ≡ p.edge + i = omega (arith, after) in
          same_Some _ _ (sym (place_is p.sent (p.edge + i) c e) ∙ ap (slice_get (places_of p.sent)) (sym here) ∙ told) ∙ omega arith

      within_of : (xs : List ℕ) (i x : ℕ) → slice_get xs i ≡ Some x → i < length xs
      within_of xs i x e = slice_get_within xs i x e

  plain_place : v.alone ≡ true → (v.exact ≡ true → v.alters ≡ false) → PlaceHolds v p.sent p.edge p.edge (in_order count p)
  plain_place alone unaltered = record {
    cells = λ i c below e. (h.alone alone).identity.each (p.edge + i) (p.edge + i) c (omega arith) e;
    each = record {
      each = λ i n byte n_is e.
          let there = cell_of i n byte n_is e (λ exact. row_unaltered (unaltered exact)) in
          let same : there.0.place ≡ n = (h.alone alone).identity.each n n there.0 (omega arith) there.1 in
          sent_at v path p.sent n n byte there.0 h.record_of there.1 same there.2;
    };
    within = row_in;
    identity = λ _ some. refl;
  }

  -- by an infinite mapping
  endless_place : (m : Pair) → IsEndless path v p.sent m → m.pos ≤ p.edge → (v.exact ≡ true → v.alters ≡ false) → PlaceHolds v p.sent p.edge (place_by m p.edge) (in_order count p)
  endless_place m right after unaltered = record {
    cells = at;
    each = record {
      each = λ i n byte n_is e.
          let there = cell_of i (p.edge + i) byte refl e (λ exact. row_unaltered (unaltered exact)) in
          sent_at v path p.sent (p.edge + i) n byte there.0 h.record_of there.1 (at i there.0 (slice_get_within (in_order count p) i byte e) there.1 ∙ sym n_is) there.2;
    };
    within = row_in;
    identity = first_alone (place_by m p.edge) at;
  }
    where
      at : (i : ℕ) (c : Cell) → i < length (in_order count p) → slice_get p.sent (p.edge + i) ≡ Some c → c.place ≡ place_by m p.edge + i
      at i c inside e = right.places (p.edge + i) c (omega (arith, after)) e ∙ omega (arith, after)

  pub want_place_pair_held : (o : Option Pair) → p.taken ≡ o → LaneHolds v path (places_pair count o p)
  want_place_pair_held None is = h
  want_place_pair_held (Some m) is =
      held_if v path (p.receiver_loose && nat_le m.pos p.edge) p (record p { asking = AskPlace (place_by m p.edge) (in_order count p) }) (λ may.
      let both = and_parts p.receiver_loose (nat_le m.pos p.edge) may in
      let right : IsEndless path v p.sent m = subst (λ o. IfSome o (IsEndless path v p.sent)) is h.pairs.took in
      with_ask v path p (AskPlace (place_by m p.edge) (in_order count p)) (endless_place m right (leb-true _ _ both.1) (h.link.inexact both.0)) h) h

  pub want_place_held : (o : Option Mapping) (mapping : ℕ) → slice_get p.maps mapping ≡ o → LaneHolds v path (places count o p)
  want_place_held None mapping is = h
  want_place_held (Some m) mapping is =
      held_if v path (lies_in m (in_order count p) p && passes m (in_order count p) p) p
      (record p { asking = AskPlace (m.place + (p.edge - m.pos)) (in_order count p) }) (λ may.
      let parts = and_parts (lies_in m (in_order count p) p) (passes m (in_order count p) p) may in
      let both = and_parts (nat_le m.pos p.edge) (nat_le (p.edge + length (in_order count p)) (m.pos + m.len)) parts.0 in
      let right : IsRight p.sent m = h.bytes.right.each mapping m is in
      with_ask v path p (AskPlace (m.place + (p.edge - m.pos)) (in_order count p))
      (mapped_place m right (leb-true _ _ both.0) (leb-true _ _ both.1) (λ exact. checked_row m right parts.1 exact v.alters refl)) h) h
    where
      -- where links alter payload, an exact receiver has checked the bytes
      checked_row : (m : Mapping) → IsRight p.sent m → passes m (in_order count p) p ≡ true → v.exact ≡ true → (alters : Bool) → v.alters ≡ alters
          → From (IsByteOf p.sent) p.edge (in_order count p)
      checked_row m right passed exact false none = row_unaltered none
      checked_row m right passed exact true may =
          let checked : p.checked ≡ true = h.link.checked_is ∙ h.link.must exact may in
          passed_row p.sent m p.edge (in_order count p) right (or_rest p.checked _ checked passed)

  pub want_place_plain_held : ViewFits v → LaneHolds v path (if p.receiver_plain then record p { asking = AskPlace p.edge (in_order count p) } else p)
  want_place_plain_held fits =
      held_if v path p.receiver_plain p (record p { asking = AskPlace p.edge (in_order count p) })
      (λ plain. with_ask v path p (AskPlace p.edge (in_order count p)) (plain_place (fits.fallen (h.modes.receiver plain)) (h.modes.inexact plain)) h) h
