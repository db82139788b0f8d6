-- FINs and acknowledgements that a lane sends.
use Rattle.stream_lanes.proofs.Words.{◌≡◌, refl, ◌∙◌, subst, ℕ, zero, suc, ◌+◌, ◌<◌, ◌≤◌, min, max, Bool, true, false, ⊎_elim, List, [], ◌∷◌, ◌++◌, length}
use Rattle.stream_lanes.proofs.Words.{Option, Some, None, if◌then◌else◌, arith, ◌&&◌, and_parts, eqb-true, cases_lt, cases_eq, IfSome, slice_get_within, Lane}
use Rattle.stream_lanes.proofs.Words.{Cell, AskFin, is_whole, may_finish, ack_copy, place_after, IsEnd, View, IsAll, RecordHolds, AloneHolds, IsFin, LaneHolds}
use Rattle.stream_lanes.proofs.Words.{IsPassed, spent_count}
use Rattle.stream_lanes.proofs.Lists.{Every-push, item_at}
use Rattle.stream_lanes.proofs.Bytes.{place_after-identity}
use Rattle.stream_lanes.proofs.MarkLists.{acked_spent, acked_is_spent}
use Rattle.stream_lanes.proofs.Local.{ViewFits, held_if, with_ask}
use Rattle.stream_lanes.proofs.LaneParts.{parts_of, whole, new_passed, new_bytes, new_fins, new_receiver}

module _ (v : View) (path : ℕ) (fits : ViewFits v) where
  -- as long as no join was answered, a path's record is no longer than what was written
  pub alone_within : (sent : List Cell) → RecordHolds path v sent → AloneHolds path v.marks sent → length sent ≤ length v.written
  alone_within sent r a = at (length sent) refl
    where
      at : (n : ℕ) → length sent ≡ n → length sent ≤ length v.written
      at zero is = omega (arith, is)
      at (suc n) is =
          let last = item_at sent n (omega (arith, is)) in
          let place : last.0.place ≡ n = a.identity.each n n last.0 (omega arith) last.1 in
          let inside : last.0.place < length v.written = slice_get_within v.written last.0.place last.0.byte (r.cells.each n last.0 last.1).byte in
          omega (arith, place, inside, is)

  -- once all is acknowledged, all of it is in the record
  all_recorded : (sent : List Cell) → RecordHolds path v sent → AloneHolds path v.marks sent → path ≡ 0 → IsAll v → IsEnd v.end (length sent)
  all_recorded sent r a first all =
      let e : ℕ = all.0 in
      let e_is : e ≡ length v.written = fits.end e all.1 in
      let below : length sent ≤ length v.written = alone_within sent r a in
      let same : e ≡ length sent = ⊎_elim
      (λ less.
      let there = item_at v.marks (length sent) (omega (arith, less, e_is, fits.size)) in
      absurd (acked_is_spent v.acked (length sent) v.marks there.0 fits.first (omega (arith, less, all.2)) there.1
      (a.untouched first (length sent) there.0 (omega arith) there.1)))
      (λ more. omega (arith, more, e_is, below))
      (cases_lt (length sent) e) in
      subst (IsEnd v.end) same all.1

  all_left : IsAll v → (e : ℕ) × IsEnd v.end e × (e ≤ spent_count path v.marks)
  all_left all = (all.0, all.1, omega (arith, all.2, acked_spent path v.acked v.marks fits.first))

  fin_after_all : (p : Lane) → LaneHolds v path p → p.opened ≡ true → IsAll v → IsFin path v p.sent (length p.sent)
  fin_after_all p h opened all = record {
    last = refl;
    left = all_left all;
    ends = λ alone. all_recorded p.sent h.record_of (h.alone alone) (h.modes.joined opened alone) all;
  }

  -- in plain TCP the end is the place after the record, or all is acknowledged
  fin_in_plain : (p : Lane) → LaneHolds v path p → p.opened ≡ true → v.alone ≡ true → (o : Option ℕ) → p.known_end ≡ o
      → is_whole o p ≡ true → IsFin path v p.sent (length p.sent)
  fin_in_plain p h opened alone None is whole = cc
  fin_in_plain p h opened alone (Some e) is whole =
      let end : IsEnd v.end e = subst (λ k. IfSome k (IsEnd v.end)) is h.ends.told in
      let same : max (place_after 0 p.sent) (min p.heard e) ≡ e = eqb-true _ e whole in
      let after : place_after 0 p.sent ≡ length p.sent = place_after-identity 0 p.sent (h.alone alone).identity ∙ omega arith in
      ⊎_elim
      (λ here. let at : e ≡ length p.sent = here in record { last = refl; left = (e, end, omega (arith, at, h.record_of.once)); ends = λ _. subst (IsEnd v.end) at end })
      (λ apart. fin_after_all p h opened (⊎_elim
      (λ confirmed. (e, end, omega (arith, same, after, apart_or e (length p.sent) (min p.heard e) (rw after at same) apart, confirmed, h.heard.below)))
      (λ all. all)
      fits.confirmed))
      (cases_eq e (length p.sent))
    where
      apart_or : (e n m : ℕ) → max n m ≡ e → (e ≡ n → ⊥) → m ≡ e
      apart_or e n m same apart = ⊎_elim (λ less. omega (arith, same, less)) (λ more. absurd (apart (omega (arith, same, more)))) (cases_lt n m)

  pub send_fin_held : (p : Lane) → LaneHolds v path p → LaneHolds v path (if may_finish p then record p { fins = p.fins ++ length p.sent ∷ [] } else p)
  send_fin_held p h = held_if v path (may_finish p) p (record p { fins = p.fins ++ length p.sent ∷ [] }) (λ may.
      let both = and_parts p.opened (if p.sender_plain then is_whole p.known_end p else p.fin_acked) may in
      whole (new_fins (Every-push (length p.sent) h.fins (by_mode p.sender_plain refl both.0 both.1)) (parts_of h))) h
    where
      by_mode : (plain : Bool) → p.sender_plain ≡ plain → p.opened ≡ true → (if plain then is_whole p.known_end p else p.fin_acked) ≡ true
          → IsFin path v p.sent (length p.sent)
      by_mode true is opened whole = fin_in_plain p h opened (fits.fallen (h.modes.sender is)) p.known_end refl whole
      by_mode false is opened acked = fin_after_all p h opened (h.heard.fin acked)

  pub want_fin_held : (p : Lane) → LaneHolds v path p → LaneHolds v path (if p.receiver_plain && p.fin_in then record p { asking = AskFin p.edge } else p)
  want_fin_held p h = held_if v path (p.receiver_plain && p.fin_in) p (record p { asking = AskFin p.edge }) (λ both.
      let parts = and_parts p.receiver_plain p.fin_in both in
      with_ask v path p (AskFin p.edge) (h.receiver.fin (fits.fallen (h.modes.receiver parts.0)) parts.1) h) h

  -- what the subflow acknowledges is received, and the FIN only where the end was reached
  sub_acks : (p : Lane) → LaneHolds v path p → p.due ≡ false → v.alone ≡ true → (fin_in : Bool) → p.fin_in ≡ fin_in
      → (p.edge + (if fin_in then 1 else 0) ≤ v.next) × (v.alters ≡ false → p.edge + (if fin_in then 1 else 0) + p.latest.window ≤ v.edge)
  sub_acks p h idle alone true is =
      let end : IsEnd v.end p.edge = h.receiver.fin alone is in
      let passed : p.edge ≤ v.received = h.receiver.passed alone in
      let whole = fits.whole p.edge end passed in
      (omega (arith, passed, whole.0), λ none. let fresh = h.receiver.fresh none alone idle in omega (arith, fresh, whole.1))
  sub_acks p h idle alone false is =
      let passed : p.edge ≤ v.received = h.receiver.passed alone in
      (omega (arith, passed, fits.next), λ none. let fresh = h.receiver.fresh none alone idle in omega (arith, fresh, fits.room))

  -- what the subflow acknowledges was passed
  acks_passed : (p : Lane) → LaneHolds v path p → (n : ℕ) (fin_in : Bool) → p.fin_in ≡ fin_in → n ≤ p.edge + (if fin_in then 1 else 0) → IsPassed path v p.sent n
  acks_passed p h n true is below =
      let fin = h.passed.fin is in
      let end : p.edge ≡ length p.sent = fin.0 in
      record { bytes = λ pos c under e. h.passed.bytes.bytes pos c (let inside = slice_get_within p.sent pos c e in omega (arith, end, inside)) e; past = λ more. fin.1 }
  acks_passed p h n false is below =
      record {
        bytes = λ pos c under e. h.passed.bytes.bytes pos c (omega (arith, under, below)) e;
        past = λ more. let within = h.bytes.within in absurd (omega (arith, more, below, within));
      }

  pub send_ack_held : (next window sub : ℕ) (p : Lane) → LaneHolds v path p
      → LaneHolds v path (if p.due then p else record p { acks = p.acks ++ ack_copy next window sub p ∷ [] })
  send_ack_held next window sub p h = at p.due refl
    where
      fin_bound : (b : Bool) → (if b then 1 else 0) ≤ 1
      fin_bound = elim [ true ↦ omega arith | false ↦ omega arith ]

      sends : p.due ≡ false → LaneHolds v path (record p { acks = p.acks ++ ack_copy next window sub p ∷ [] })
      sends idle = whole (new_passed (record { bytes = h.passed.bytes; fin = h.passed.fin; copies = Every-push (ack_copy next window sub p) h.passed.copies (acks_passed p h (ack_copy next window sub p).sub p.fin_in refl (omega arith)) })
          (new_bytes (record {
            granted = h.bytes.granted;
            apart = h.bytes.apart;
            honest = h.bytes.honest;
            within = h.bytes.within;
            came = h.bytes.came;
            right = h.bytes.right;
            learned = h.bytes.learned;
            acked = Every-push (ack_copy next window sub p) h.bytes.acked (omega (arith, h.bytes.within, fin_bound p.fin_in));
          })
          (new_receiver (record {
            told = h.receiver.told;
            passed = h.receiver.passed;
            fin = h.receiver.fin;
            fresh = h.receiver.fresh;
            copies = Every-push (ack_copy next window sub p) h.receiver.copies (record {
              stream = record { covers = omega (arith, h.receiver.told.covers); reaches = λ none. let old = h.receiver.told.reaches none in omega (arith, old) };
              subflow = λ alone.
                  let both = sub_acks p h idle alone p.fin_in refl in
                  record { covers = omega (arith, both.0); reaches = λ none. let old = both.1 none in omega (arith, old) };
            });
          }) (parts_of h))))

      at : (due : Bool) → p.due ≡ due → LaneHolds v path (if due then p else record p { acks = p.acks ++ ack_copy next window sub p ∷ [] })
      at = elim [ true ↦ λ is. h | false ↦ λ is. sends is ]
