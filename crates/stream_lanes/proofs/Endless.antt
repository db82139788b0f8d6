-- Infinite mappings: what is sent, heard and taken by one.
--
-- An infinite mapping (`IsEndless`) is right and stays so by facts that only grow: all places below the next one that
-- it gives are spent for the path, the others are new, and no other path is granted anything (`IsAlone`: the book has
-- this owner, or a side fell to plain TCP and so no join is ever answered). The same `grant_is_next` then serves a
-- grant in plain TCP and by an infinite mapping. That received bytes aren't new (`far` of `proofs/Directions`) is all
-- that an acknowledgement needs to keep new bytes new. What the receiver's edge passed is in its book (`PassedHolds`),
-- so what the subflow acknowledges was received.
use Rattle.stream_lanes.proofs.Words.{◌≡◌, refl, sym, ◌∙◌, subst, ℕ, suc, ◌+◌, ◌-◌, ◌<◌, ◌≤◌, min, max, true, ⊎_elim, List, [], ◌∷◌, ◌++◌, length, Option, Some}
use Rattle.stream_lanes.proofs.Words.{None, arith, ◌&&◌, nat_le, and_parts, both_ways, eqb-true, cases_lt, leb-true, slice_get, IfSome, AckCopy, Pair, Lane}
use Rattle.stream_lanes.proofs.Words.{Cell, AskAckIn, AskFin, place_by, shifted, hears_sub, sends_pair, sends_fin_pair, takes_pair, ends_pair, is_whole}
use Rattle.stream_lanes.proofs.Words.{place_after, sends_plain_pair, Every, IsEnd, IsIn, View, IsAll, AloneHolds, IsFin, LaneHolds, AllGranted, IsPassed}
use Rattle.stream_lanes.proofs.Words.{IsEndless, spent, spent_count, AreNew, fell}
use Rattle.stream_lanes.proofs.Lists.{Every-push, item_at}
use Rattle.stream_lanes.proofs.MarkLists.{new_count, spent_upto, spent_below, acked_spent}
use Rattle.stream_lanes.proofs.Local.{ViewFits, held_if, with_ask}
use Rattle.stream_lanes.proofs.Ending.{alone_within}
use Rattle.stream_lanes.proofs.LaneParts.{parts_of, whole, new_pairs, new_fins}

module _ (v : View) (path : ℕ) (fits : ViewFits v) where
  -- where the path is granted nothing more, the place after its record is the end
  endless_end : (sent : List Cell) (m : Pair) → IsEndless path v sent m → AllGranted path v → IsEnd v.end (place_by m (length sent))
  endless_end sent m h all =
      let e_is : all.0 ≡ length v.written = fits.end all.0 all.1 in
      let few : spent_count path v.marks ≤ place_by m (length sent) = new_count path (place_by m (length sent)) v.marks h.rest in
      let enough = all.2 in let upto = h.upto in
      let same : all.0 ≡ place_by m (length sent) = omega (arith, e_is, enough, few, upto) in
      subst (IsEnd v.end) same all.1

  -- ---- acknowledgements of the subflow

  pub hear_sub_held : (upto : ℕ) (o : Option AckCopy) (q : Option Pair) (copy : ℕ) (p : Lane) → slice_get p.acks copy ≡ o → p.pair ≡ q → LaneHolds v path p → LaneHolds v path (hears_sub upto o q p)
  hear_sub_held upto None q copy p is same h = h
  hear_sub_held upto (Some a) None copy p is same h = h
  hear_sub_held upto (Some a) (Some m) copy p is same h =
      held_if v path p.alters p (record p { asking = AskAckIn (place_by m (min upto a.sub)) a.window }) (λ alters.
      with_ask v path p (AskAckIn (place_by m (min upto a.sub)) a.window) (record {
        covers = ⊎_elim past within (cases_lt (length p.sent) (min upto a.sub));
        reaches = λ none. absurd (both_ways _ (h.link.alters_is ∙ none) alters);
      }) h) h
    where
      own : IsEndless path v p.sent m × (m.place ≤ v.acked) × (v.owner ≡ Some path)
      own = subst (λ o. IfSome o (λ m. IsEndless path v p.sent m × (m.place ≤ v.acked) × (v.owner ≡ Some path))) same h.pairs.own

      passed : IsPassed path v p.sent a.sub
      passed = h.passed.copies.each copy a is

      came : (n : ℕ) → n ≤ length p.sent → n ≤ a.sub → place_by m n ≤ v.received
      came n inside below = let low = own.1 in fits.reached m.place (place_by m n) (omega (arith, low, fits.acked)) (λ place from under.
          let pos : ℕ = m.pos + (place - m.place) in
          let there = item_at p.sent pos (omega (arith, from, under, inside)) in
          let at : there.0.place ≡ place_by m pos = own.0.places pos there.0 (omega arith) there.1 in
          subst (IsIn v) (at ∙ omega (arith, from)) (passed.bytes pos there.0 (omega (arith, from, under, below)) there.1))

      within : min upto a.sub ≤ length p.sent → place_by m (min upto a.sub) ≤ v.next
      within below = let got = came (min upto a.sub) below (omega arith) in omega (arith, got, fits.next)

      past : length p.sent < min upto a.sub → place_by m (min upto a.sub) ≤ v.next
      past more =
          let end = endless_end p.sent m own.0 (passed.past (omega (arith, more))) in
          let got = came (length p.sent) (omega arith) (omega (arith, more)) in
          let whole = (fits.whole (place_by m (length p.sent)) end got).0 in
          let sub = h.bytes.acked.each copy a is in
          let inside = own.0.within in
          omega (arith, got, whole, sub, inside)

  -- ---- what is sent

  with_pairs : (p : Lane) (pairs : List Pair) → Every (IsEndless path v p.sent) pairs → LaneHolds v path p → LaneHolds v path (record p { pairs = pairs })
  with_pairs p pairs told h = whole (new_pairs (record { own = h.pairs.own; told = told; took = h.pairs.took }) (parts_of h))

  shift_endless : (sent : List Cell) (m : Pair) (shift : ℕ) → m.pos + shift ≤ length sent → IsEndless path v sent m → IsEndless path v sent (shifted shift m)
  shift_endless sent m shift inside h =
      let next : place_by (shifted shift m) (length sent) ≡ place_by m (length sent) = omega (arith, inside) in
      record {
        within = inside;
        places = λ pos c from e. h.places pos c (omega (arith, from)) e ∙ omega (arith, from);
        spent = λ place below. h.spent place (omega (arith, below, next));
        rest = subst (λ n. AreNew n v.marks) (sym next) h.rest;
        upto = let old = h.upto in omega (arith, old, next);
        owner = h.owner;
      }

  pub send_pair_held : (shift : ℕ) (o : Option Pair) (p : Lane) → p.pair ≡ o → LaneHolds v path p → LaneHolds v path (sends_pair shift o p)
  send_pair_held shift None p is h = h
  send_pair_held shift (Some m) p is h =
      held_if v path (nat_le (m.pos + shift) (length p.sent)) p (record p { pairs = p.pairs ++ shifted shift m ∷ [] }) (λ may.
      let own = subst (λ o. IfSome o (λ m. IsEndless path v p.sent m × (m.place ≤ v.acked) × (v.owner ≡ Some path))) is h.pairs.own in
      with_pairs p (p.pairs ++ shifted shift m ∷ []) (Every-push (shifted shift m) h.pairs.told (shift_endless p.sent m shift (leb-true _ _ may) own.0)) h) h

  -- in plain TCP each byte has its position as its place
  plain_endless : (p : Lane) (pos : ℕ) → pos ≤ length p.sent → p.opened ≡ true → v.fallen ≡ true → LaneHolds v path p → IsEndless path v p.sent (record { pos = pos; place = pos })
  plain_endless p pos inside opened fallen h =
      let alone : v.alone ≡ true = fits.fallen fallen in
      let first : path ≡ 0 = h.modes.joined opened alone in
      let a : AloneHolds path v.marks p.sent = h.alone alone in
      let next : pos + (length p.sent - pos) ≡ length p.sent = omega (arith, inside) in
      record {
        within = inside;
        places = λ q c from e. a.identity.each q q c (omega arith) e ∙ omega (arith, from);
        spent = λ place below.
            let there = item_at p.sent place (omega (arith, below, next)) in
            let at : there.0.place ≡ place = a.identity.each place place there.0 (omega arith) there.1 in
            subst (λ q. spent path (slice_get v.marks q) ≡ true) at (h.record_of.cells.each place there.0 there.1).spent;
        rest = subst (λ n. AreNew n v.marks) (sym next) (a.untouched first);
        upto = omega (arith, next, alone_within v path fits p.sent h.record_of a);
        owner = fell first fallen alone;
      }

  pub send_plain_pair_held : (pos : ℕ) (p : Lane) → LaneHolds v path p → LaneHolds v path (sends_plain_pair pos p)
  send_plain_pair_held pos p h =
      held_if v path (p.sender_plain && (p.opened && nat_le pos (length p.sent))) p (record p { pairs = p.pairs ++ record { pos = pos; place = pos } ∷ [] }) (λ may.
      let plain = and_parts p.sender_plain (p.opened && nat_le pos (length p.sent)) may in
      let both = and_parts p.opened (nat_le pos (length p.sent)) plain.1 in
      with_pairs p (p.pairs ++ record { pos = pos; place = pos } ∷ [])
      (Every-push (record { pos = pos; place = pos }) h.pairs.told (plain_endless p pos (leb-true _ _ both.1) both.0 (h.modes.sender plain.0) h)) h) h

  -- the place after a record whose bytes all stand below a bound
  after_below : (bound before : ℕ) (sent : List Cell) → before ≤ bound → ((i : ℕ) (c : Cell) → slice_get sent i ≡ Some c → c.place < bound) → place_after before sent ≤ bound
  after_below bound before [] low each = low
  after_below bound before (c ∷ cells) low each = after_below bound (suc c.place) cells (each 0 c refl) (λ i d e. each (suc i) d e)

  -- a FIN that stands for the end by an infinite mapping
  fin_by_pair : (p : Lane) (m : Pair) → IsEndless path v p.sent m → LaneHolds v path p → p.opened ≡ true → (o : Option ℕ) → p.known_end ≡ o → is_whole o p ≡ true
      → IsFin path v p.sent (length p.sent)
  fin_by_pair p m endless h opened None is whole = cc
  fin_by_pair p m endless h opened (Some e) is whole = record { last = refl; left = (e, end, few); ends = ends }
    where
      end : IsEnd v.end e
      end = subst (λ k. IfSome k (IsEnd v.end)) is h.ends.told

      e_is : e ≡ length v.written
      e_is = fits.end e end

      after : place_after 0 p.sent ≤ place_by m (length p.sent)
      after = after_below (place_by m (length p.sent)) 0 p.sent (omega arith)
          (λ i c there. spent_below path (place_by m (length p.sent)) c.place v.marks endless.rest (h.record_of.cells.each i c there).spent)

      granted : place_by m (length p.sent) ≤ spent_count path v.marks
      granted = spent_upto path (place_by m (length p.sent)) v.marks endless.spent

      all_acked : IsAll v → e ≤ spent_count path v.marks
      all_acked all =
          let other : all.0 ≡ length v.written = fits.end all.0 all.1 in let acked = all.2 in
          omega (arith, other, acked, e_is, acked_spent path v.acked v.marks fits.first)

      few : e ≤ spent_count path v.marks
      few =
          let same : max (place_after 0 p.sent) (min p.heard e) ≡ e = eqb-true _ e whole in
          ⊎_elim
          (λ less. ⊎_elim
          (λ confirmed. omega (arith, same, less, confirmed, h.heard.below, acked_spent path v.acked v.marks fits.first))
          all_acked
          fits.confirmed)
          (λ more. omega (arith, more, after, granted))
          (cases_lt (place_after 0 p.sent) e)

      ends : v.alone ≡ true → IsEnd v.end (length p.sent)
      ends alone =
          let a : AloneHolds path v.marks p.sent = h.alone alone in
          let most : spent_count path v.marks ≤ length p.sent = new_count path (length p.sent) v.marks (a.untouched (h.modes.joined opened alone)) in
          let same : e ≡ length p.sent = omega (arith, few, most, e_is, alone_within v path fits p.sent h.record_of a) in
          subst (IsEnd v.end) same end

  pub send_fin_pair_held : (o : Option Pair) (p : Lane) → p.pair ≡ o → LaneHolds v path p → LaneHolds v path (sends_fin_pair o p)
  send_fin_pair_held None p is h = h
  send_fin_pair_held (Some m) p is h = held_if v path (p.opened && is_whole p.known_end p) p (record p { fins = p.fins ++ length p.sent ∷ [] }) (λ may.
      let both = and_parts p.opened (is_whole p.known_end p) may in
      let own = subst (λ o. IfSome o (λ m. IsEndless path v p.sent m × (m.place ≤ v.acked) × (v.owner ≡ Some path))) is h.pairs.own in
      whole (new_fins (Every-push (length p.sent) h.fins (fin_by_pair p m own.0 h both.0 p.known_end refl both.1)) (parts_of h))) h

  -- ---- what is taken

  pub take_pair_held : (o : Option Pair) (copy : ℕ) (p : Lane) → slice_get p.pairs copy ≡ o → LaneHolds v path p → LaneHolds v path (takes_pair o p)
  take_pair_held None copy p is h = h
  take_pair_held (Some m) copy p is h = whole (new_pairs (record { own = h.pairs.own; told = h.pairs.told; took = h.pairs.told.each copy m is }) (parts_of h))

  pub want_fin_pair_held : (o : Option Pair) (p : Lane) → p.taken ≡ o → LaneHolds v path p → LaneHolds v path (ends_pair o p)
  want_fin_pair_held None p is h = h
  want_fin_pair_held (Some m) p is h =
      held_if v path (p.receiver_loose && (p.fin_in && nat_le m.pos p.edge)) p (record p { asking = AskFin (place_by m p.edge) }) (λ may.
      let loose = and_parts p.receiver_loose (p.fin_in && nat_le m.pos p.edge) may in
      let both = and_parts p.fin_in (nat_le m.pos p.edge) loose.1 in
      let fin = h.passed.fin both.0 in
      let took : IsEndless path v p.sent m = subst (λ o. IfSome o (IsEndless path v p.sent)) is h.pairs.took in
      with_ask v path p (AskFin (place_by m p.edge)) (subst (λ n. IsEnd v.end (place_by m n)) (sym fin.0) (endless_end p.sent m took fin.1)) h) h
