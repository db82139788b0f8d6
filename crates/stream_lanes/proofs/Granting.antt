-- What a lane makes of the reply to its grant.
--
-- A call that is generalised over a decision: `by_decision (r) → decision .. ≡ r → ..` with the state as `given_by path
-- r s`.
--
-- What a definition computes to is passed to `subst` as a function of the Bool or Option that decides.
use Rattle.stream_lanes.proofs.Words.{◌≡◌, refl, sym, ◌∙◌, ap, subst, ℕ, ◌+◌, ◌-◌, ◌<◌, ◌≤◌, Bool, true, false, not, ⊎_elim, List, [], ◌∷◌, ◌++◌, length, drop}
use Rattle.stream_lanes.proofs.Words.{Some, None, Ok, Err, position, if◌then◌else◌, arith, ◌⊎◌, ◌&&◌, inl, inr, and_parts, cases_lt, slice_get, length-take}
use Rattle.stream_lanes.proofs.Words.{length-drop, map-append, length-map, length-append, IfSome, option_map, slice_get_within, Arriving, received, edge, Span}
use Rattle.stream_lanes.proofs.Words.{Why, Grant, Sending, decision, given_by, change_part, reply_by, slice_get-changed_inside, slice_get-append_right}
use Rattle.stream_lanes.proofs.Words.{ByteMark, is_free_for, MayTake, decision-MayTake, spent-given, Mapping, Pair, Lane, Cell, Flags, place_by, takes_grant}
use Rattle.stream_lanes.proofs.Words.{places_of, cells_from, later_end, Every, view_of, end_of, IsEnd, AloneHolds, IsFin, LaneHolds, CellFits, IsPassed}
use Rattle.stream_lanes.proofs.Words.{PassedHolds, IsEndless, PairsHold, SendHolds, IsRight, HasPlace, AreApart, spent, spent_count, AreNew, tried}
use Rattle.send_book.specs.Marks.{given}
use Rattle.send_book.specs.Steps.{after_call, reply_to, part_of}
use Rattle.stream_lanes.proofs.Lists.{Every-map, Every-append, Every-push, From-append, Cells-map, in_append, in_one, in_drop, in_take, item_at, Has-more, IfSome-map}
use Rattle.stream_lanes.proofs.Bytes.{came_more, right_more, honest_more, length-cells_from, in_cells_from, places-cells_from, has_place}
use Rattle.stream_lanes.proofs.MarkLists.{count_within, grant_counts, grant_first, grant_is_next, position_within, AreNew-given, given_outside}
use Rattle.stream_lanes.proofs.Later.{But, modes_later, link_later, passes_later, granted_later, owner_later, ends_later, fin_later, heard_later, receiver_later, cells_later}
use Rattle.stream_lanes.proofs.Views.{AllIn, all_in_is, is_end}
use Rattle.stream_lanes.proofs.Views.AllIn.{missing, complete}
use Rattle.stream_lanes.proofs.Sends.{SendStep}
use Rattle.stream_lanes.proofs.LaneParts.{parts_of, whole, new_ends, new_ask}

module _ (f : Flags) (s : Sending) (b : Arriving) (path : ℕ) (p : Lane) (send : SendHolds s (view_of f s b)) (room : f.alters ≡ false → received b ≤ edge b) (h : LaneHolds (view_of f s b) path p) where
  -- nothing was granted: the end that was told is that of the stream
  refused_held : (why : Why) → LaneHolds (view_of f s b) path (takes_grant (reply_by (Err why) s) p)
  refused_held why = whole (new_ends (record { told = told (s.closed && not s.aborted) refl; named = h.ends.named })
      (new_ask tt (parts_of h)))
    where
      told : (c : Bool) → (s.closed && not s.aborted) ≡ c → IfSome (later_end (if c then Some (length s.written) else None) p.known_end) (IsEnd (end_of s))
      told true is = ap (λ (d : Bool). if d then Some (length s.written) else None) (and_parts s.closed (not s.aborted) is).0
      told false is = h.ends.told

  granted_held : (max : ℕ) (standby : Bool) (span : Span) → p.opened ≡ true → 1 ≤ max → decision path max standby s ≡ Ok span → MayTake path max s span
      → SendStep (But path) f s (record s { marks = change_part (given path) span s.marks }) b
      → LaneHolds (view_of f (record s { marks = change_part (given path) span s.marks }) b) path (takes_grant (reply_by (Ok span) s) p)
  granted_held max standby span opened some decided m step = record {
    record_of = record { cells = Every-append old new_cells; tried = tried_there; once = once };
    alone = alone;
    modes = modes_later step.later path p.opened p.sender_plain p.receiver_plain h.modes;
    bytes = record {
      granted = Every-push piece_mapping (Every-map (right_more p.sent cells) h.bytes.granted) new_right;
      apart = apart;
      honest = Every-map (honest_more p.alters p.pieces (piece_mapping ∷ []) p.sent cells) h.bytes.honest;
      within = omega (arith, h.bytes.within, longer);
      came = Cells-map (came_more p.alters p.pieces (piece_mapping ∷ []) p.sent cells) h.bytes.came;
      right = Every-map (right_more p.sent cells) h.bytes.right;
      learned = Every-map (λ m has. Has-more (piece_mapping ∷ []) has) h.bytes.learned;
      acked = Every-map (λ a is. omega (arith, is, longer)) h.bytes.acked;
    };
    link = link_later step.later p.alters p.checked p.receiver_loose h.link;
    passed = passed;
    pairs = pairs;
    ends = ends_later step.later p h.ends;
    fins = Every-map fins h.fins;
    heard = heard_later step.later p.heard p.fin_acked h.heard;
    receiver = receiver_later step.later p.edge p.fin_in p.due p.latest p.acks h.receiver;
    ask = tt;
  }
    where
      marks : List ByteMark
      marks = change_part (given path) span s.marks

      n : ℕ
      n = span.to - span.from

      whole : span.to ≡ span.from + n
      whole = omega (arith, m.whole)

      piece : List ℕ
      piece = part_of span s.written

      cells : List Cell
      cells = cells_from span.from piece

      size : length piece ≡ n
      size = omega (arith, length-take n (drop span.from s.written), length-drop span.from s.written, m.within, whole, send.whole)

      cells_size : length cells ≡ n
      cells_size = length-cells_from span.from piece ∙ size

      longer : length (p.sent ++ cells) ≡ length p.sent + n
      longer = length-append p.sent cells ∙ ap (λ k. length p.sent + k) cells_size

      counted : spent_count path marks ≡ spent_count path s.marks + n
      counted = grant_counts path max s span m

      piece_mapping : Mapping
      piece_mapping = record { pos = length p.sent; place = span.from; len = length piece }

      old : Every (CellFits path (view_of f (record s { marks = marks }) b)) p.sent
      old = cells_later step.later path p.sent h.record_of.cells

      -- a byte that the path tried is one of those granted before, or of these
      tried_there : (place : ℕ) → tried path (slice_get marks place) ≡ true → HasPlace (p.sent ++ cells) place
      tried_there place is = ⊎_elim (λ below. before (inl below)) (λ above. ⊎_elim here (λ over. before (inr over)) (cases_lt place span.to)) (cases_lt place span.from)
        where
          before : (place < span.from) ⊎ (span.to ≤ place) → HasPlace (p.sent ++ cells) place
          before side = Has-more cells (h.record_of.tried place
              (ap (tried path) (sym (given_outside path place span s.marks (omega (arith, m.whole)) m.within side)) ∙ is))

          here : place < span.to → HasPlace (p.sent ++ cells) place
          here under = ⊎_elim (λ below. before (inl below)) (λ above. has_place (p.sent ++ cells) (length p.sent + (place - span.from)) place
              (ap (λ qs. slice_get qs (length p.sent + (place - span.from))) (map-append (λ (c : Cell). c.place) p.sent cells)
              ∙ slice_get-append_right (places_of p.sent) (places_of cells) (place - span.from) (length p.sent + (place - span.from))
              (ap (λ k. k + (place - span.from)) (sym (length-map p.sent (λ (c : Cell). c.place))))
              ∙ places-cells_from span.from piece (place - span.from) place (omega (arith, above, under, size, whole)) (omega (arith, above)))) (cases_lt place span.from)

      once : length (p.sent ++ cells) ≤ spent_count path marks
      once = omega (arith, longer, counted, h.record_of.once)

      -- a byte below the edge of the window is taken by the receiver
      below_room : f.alters ≡ false → (place : ℕ) → place < s.edge → place < length s.written → AllIn s.closed s.written (received b) → place < edge b
      below_room none place below inside (missing is) = let window = send.edge none in omega (arith, below, is, window)
      below_room none place below inside (complete closed all is) = let taken = room none in omega (arith, inside, all, taken)

      cell_fits : (c : Cell) (i : ℕ) → slice_get cells i ≡ Some c → CellFits path (view_of f (record s { marks = marks }) b) c
      cell_fits c i e =
          let there = in_cells_from span.from piece i c e in
          let taken = in_take n (drop span.from s.written) i c.byte there.1 in
          let byte : slice_get s.written c.place ≡ Some c.byte = in_drop span.from s.written i c.place c.byte there.0 taken.0 in
          let at : c.place ≡ span.from + i = there.0 in
          let inside : i < n = taken.1 in
          let mark = item_at s.marks c.place (omega (arith, at, inside, whole, m.within)) in
          record {
            byte = byte;
            spent = ap (spent path) (slice_get-changed_inside (given path) span.from n span.to s.marks whole m.within c.place (omega (arith, at)) (omega (arith, at, inside, whole))
                ∙ ap (option_map (given path)) mark.1)
                ∙ spent-given path mark.0 (m.free c.place mark.0 (omega (arith, at)) (omega (arith, at, inside, whole)) mark.1);
            room = λ none. below_room none c.place (omega (arith, at, inside, whole, m.below)) (slice_get_within s.written c.place c.byte byte) (all_in_is s.closed s.written (received b));
          }

      new_cells : Every (CellFits path (view_of f (record s { marks = marks }) b)) cells
      new_cells = record { each = λ i c e. cell_fits c i e }

      new_right : IsRight (p.sent ++ cells) piece_mapping
      new_right = record {
        some = omega (arith, size, whole, m.whole, m.some some);
        within = omega (arith, longer, size);
        places = λ j below.
            ap (λ qs. slice_get qs (length p.sent + j)) (map-append (λ (c : Cell). c.place) p.sent cells)
            ∙ slice_get-append_right (places_of p.sent) (places_of cells) j (length p.sent + j) (ap (λ k. k + j) (sym (length-map p.sent (λ (c : Cell). c.place))))
            ∙ places-cells_from span.from piece j (span.from + j) below refl;
      }

      -- the new piece begins after the end of all others
      apart : AreApart (p.pieces ++ piece_mapping ∷ [])
      apart i j m o at_i at_j less = ⊎_elim
          (λ old. ⊎_elim (λ other. h.bytes.apart i j m o old other less) (λ new. omega (arith, (h.bytes.granted.each i m old).within, ap (λ (k : Mapping). k.pos) (in_one piece_mapping o (j - length p.pieces) new.1).1)) (in_append p.pieces (piece_mapping ∷ []) j o at_j))
          (λ new. ⊎_elim (λ other. absurd (omega (arith, (h.bytes.granted.each j o other).within, ap (λ (k : Mapping). k.pos) (in_one piece_mapping m (i - length p.pieces) new.1).1, less)))
          (λ same. absurd (omega (arith, ap (λ (k : Mapping). k.pos) (in_one piece_mapping m (i - length p.pieces) new.1).1, ap (λ (k : Mapping). k.pos) (in_one piece_mapping o (j - length p.pieces) same.1).1, less))) (in_append p.pieces (piece_mapping ∷ []) j o at_j))
          (in_append p.pieces (piece_mapping ∷ []) i m at_i)

      -- where a FIN was sent, all is spent, so nothing was granted
      none_after : (e : ℕ) → IsEnd (end_of s) e → e ≤ spent_count path s.marks → n ≡ 0
      none_after e end left = omega (arith, (is_end s e end).1, left, counted, count_within path marks, same_size, send.whole)
        where
          same_size : length marks ≡ length s.marks
          same_size = step.holds.whole ∙ sym send.whole

      fins : (pos : ℕ) → IsFin path (view_of f s b) p.sent pos → IsFin path (view_of f (record s { marks = marks }) b) (p.sent ++ cells) pos
      fins pos fin =
          let now = fin_later step.later path p.sent pos fin in
          record { last = omega (arith, fin.last, longer, none_after fin.left.0 fin.left.1 fin.left.2); left = now.left; ends = now.ends }

      first_inside : position (is_free_for path) s.marks ≡ Some span.from → span.from < length s.marks
      first_inside e = position_within (is_free_for path) s.marks span.from e

      -- a cell of the longer record is one of before, or of the grant
      cell_cases : (pos : ℕ) (c : Cell) → slice_get (p.sent ++ cells) pos ≡ Some c
          → (slice_get p.sent pos ≡ Some c) ⊎ ((length p.sent ≤ pos) × (pos < length p.sent + n) × (c.place ≡ span.from + (pos - length p.sent)))
      cell_cases pos c e = ⊎_elim
          (λ old. inl old)
          (λ new.
          let inside = slice_get_within cells (pos - length p.sent) c new.1 in
          let from = new.0 in
          inr (from, omega (arith, inside, cells_size, from), (in_cells_from span.from piece (pos - length p.sent) c new.1).0))
          (in_append p.sent cells pos c e)

      -- what was passed stays so: where nothing more is granted to the path, nothing was
      passes : (upto : ℕ) → IsPassed path (view_of f s b) p.sent upto → IsPassed path (view_of f (record s { marks = marks }) b) (p.sent ++ cells) upto
      passes upto old =
          let now = passes_later step.later path p.sent upto old in
          record {
            bytes = λ pos c below e. ⊎_elim
                (λ was. now.bytes pos c below was)
                (λ new. let all = old.past (omega (arith, new.0, below)) in absurd (omega (arith, new.0, new.1, none_after all.0 all.1 all.2)))
                (cell_cases pos c e);
            past = λ more. now.past (omega (arith, more, longer));
          }

      passed : PassedHolds path (view_of f (record s { marks = marks }) b) (p.sent ++ cells) p.edge p.fin_in p.acks
      passed = record {
        bytes = passes p.edge h.passed.bytes;
        fin = λ is.
            let old = h.passed.fin is in let end = old.0 in let all = old.1 in
            (omega (arith, end, longer, none_after all.0 all.1 all.2), granted_later step.later path all);
        copies = Every-map (λ a is. passes a.sub is) h.passed.copies;
      }

      span_within : span.to ≤ length s.marks
      span_within = m.within

      -- by an infinite mapping the next grant comes next
      endless : (m : Pair) → IsEndless path (view_of f s b) p.sent m → IsEndless path (view_of f (record s { marks = marks }) b) (p.sent ++ cells) m
      endless m old =
          let inside = old.within in
          let next : span.from ≡ place_by m (length p.sent) = grant_is_next path (place_by m (length p.sent)) span.from s.marks (grant_first path max standby s span decided) old.spent old.rest
          (first_inside (grant_first path max standby s span decided)) in
          let later : place_by m (length (p.sent ++ cells)) ≡ span.to = omega (arith, longer, next, whole, inside) in
          record {
            within = omega (arith, inside, longer);
            places = λ pos c from e. ⊎_elim
                (λ was. old.places pos c from was)
                (λ new. let place = new.2 in omega (arith, new.0, place, next, inside))
                (cell_cases pos c e);
            spent = λ place below. ⊎_elim
                (λ before. step.later.spent path place (old.spent place before))
                (λ after.
                let there = item_at cells (place - span.from) (omega (arith, below, later, after, next, cells_size, whole)) in
                let at : there.0.place ≡ place = (in_cells_from span.from piece (place - span.from) there.0 there.1).0 ∙ omega (arith, after, next) in
                subst (λ q. spent path (slice_get marks q) ≡ true) at (cell_fits there.0 (place - span.from) there.1).spent)
                (cases_lt place (place_by m (length p.sent)));
            rest = subst (λ k. AreNew k marks) (sym later) (AreNew-given path (place_by m (length p.sent)) span s.marks (omega (arith, next, whole)) (omega (arith, whole)) span_within old.rest);
            upto = omega (arith, later, span_within, send.whole);
            owner = owner_later step.later path old.owner;
          }

      pairs : PairsHold path (view_of f (record s { marks = marks }) b) (p.sent ++ cells) p.pair p.pairs p.taken
      pairs = record {
        own = IfSome-map p.pair (λ m is. let low = is.1 in (endless m is.0, omega (arith, low, step.later.acked), step.later.owner path is.2)) h.pairs.own;
        told = Every-map endless h.pairs.told;
        took = IfSome-map p.taken endless h.pairs.took;
      }

      alone : (view_of f (record s { marks = marks }) b).alone ≡ true → AloneHolds path marks (p.sent ++ cells)
      alone is =
          let before : AloneHolds path s.marks p.sent = h.alone is in
          let first : path ≡ 0 = h.modes.joined opened is in
          let new : AreNew (length p.sent) s.marks = before.untouched first in
          let next : span.from ≡ length p.sent = grant_is_next path (length p.sent) span.from s.marks (grant_first path max standby s span decided) (spent_before before) new
          (first_inside (grant_first path max standby s span decided)) in
          record {
            identity = From-append before.identity (record {
              each = λ i pos c pos_is e. let there = in_cells_from span.from piece i c e in omega (arith, there.0, next, pos_is);
            });
            others = λ other. absurd (other first);
            untouched = λ _. subst (λ k. AreNew k marks) (omega (arith, longer, next, whole))
                (AreNew-given path (length p.sent) span s.marks (omega (arith, next, whole)) (omega (arith, whole)) m.within new);
          }
        where
          spent_before : AloneHolds path s.marks p.sent → (place : ℕ) → place < length p.sent → spent path (slice_get s.marks place) ≡ true
          spent_before before place below =
              let there = item_at p.sent place below in
              let at : there.0.place ≡ place = before.identity.each place place there.0 (omega arith) there.1 in
              subst (λ q. spent path (slice_get s.marks q) ≡ true) at (h.record_of.cells.each place there.0 there.1).spent

  pub grant_held : (max : ℕ) (standby : Bool) → p.opened ≡ true → 1 ≤ max → SendStep (But path) f s (after_call s (Grant path max standby)) b
      → LaneHolds (view_of f (after_call s (Grant path max standby)) b) path (takes_grant (reply_to s (Grant path max standby)) p)
  grant_held max standby opened some step =
      (elim (decision path max standby s) as (λ r. decision path max standby s ≡ r → SendStep (But path) f s (given_by path r s) b → LaneHolds (view_of f (given_by path r s) b) path (takes_grant (reply_by r s) p)) [
        | Err why ↦ λ is step. refused_held why
        | Ok span ↦ λ is step. granted_held max standby span opened some is (decision-MayTake path max standby s span is) step
      ]) refl step
