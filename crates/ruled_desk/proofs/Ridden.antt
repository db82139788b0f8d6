-- A rider's turn, from what a turn at its seat promises.
use Rattle.ruled_desk.proofs.Words.{◌≡◌, refl, sym, ◌∙◌, ap, subst, ℕ, zero, suc, ◌-◌, ◌^◌, ◌<◌, ◌≤◌, ◌⊎◌, inl, inr, Bool, true, false, ◌||◌, List, [], ◌∷◌}
use Rattle.ruled_desk.proofs.Words.{length, Option, Some, None, Result, Ok, Err, arith, OnOk, OnErr, MatchOption, MatchResult, All, slice_index_or, list_any}
use Rattle.ruled_desk.proofs.Words.{Refusal, Memory, Stamps, Ask, Reply, Crew, Went, Stopped, NotesOneMore, refused_by, noted_all, stamp_after, Rider, HasPass}
use Rattle.ruled_desk.proofs.Words.{NotesFull, OneIsUsedUp, Rode, is_rider_refused, notes_held, IsUsedUp, SixLocked, AreOf, names_of, Passed, notes_by}
use Rattle.ruled_desk.proofs.Words.{notes_full}
use Rattle.actor_desk.specs.Noted.{BookNotes}
use Rattle.actor_turn.specs.Turns as turns
use Rattle.ruled_desk.proofs.Outs.{same_tables}

module _ {A : Type 0} (asks : A → Option Ask) (takes : Reply → A → A) where
  -- what used the stamps up
  pub used_up : (crew : Crew A) (pass : Passed) → turns.IsUsedUp asks (λ ask p. (2 ^ 62 - 1 ≤ p.stamp) ⊎ (notes_full ask pass.books ≡ true)) crew
      → (2 ^ 62 - 1 ≤ crew.pass.stamp) ⊎ NotesFull (Some pass)
  used_up crew pass (inl late) = inl late
  used_up crew pass (inr some) = elim some.2 [ inl late ↦ inl late | inr full ↦ inr (some.0, full) ]

  pub rode : {T : Type 0} (desk : SixLocked) (old new : Rider A) (r : Result T Refusal) (before after : Option BookNotes) → HasPass desk new
      → notes_held old.pass ≡ before → notes_held new.pass ≡ after → OnOk r (Went asks takes old.crew new.crew before after)
      → OnOk r (asks new.crew.member ≡ None) → OnErr r (Stopped asks takes old.crew new.crew before after)
      → MatchResult r (λ _. new.crew.refused ≡ None) (λ refusal. new.crew.refused ≡ Some refusal)
      → (length old.crew.list < 2 ^ 57 → length new.crew.list < 2 ^ 57) → (r ≡ Err Stamps → IsUsedUp new) → Rode asks takes desk old new
  rode desk old new (Ok x) before after has held held_new went over stopped refused few full = record {
    has = has;
    turned = record {
      notes = went.notes;
      made = went.made;
      few = few;
      ended = subst (λ o. MatchOption o ((asks new.crew.member ≡ None) × (new.crew.pass.stamp ≡ stamp_after old.crew.pass.stamp went.notes)) (λ _. Unit {0})) (sym refused)
          (over, went.stamp);
    };
    noted = subst (λ o. MatchOption o (notes_held new.pass ≡ noted_all (notes_held old.pass) went.notes)
        (λ _. NotesOneMore (noted_all (notes_held old.pass) went.notes) (notes_held new.pass))) (sym refused)
        (held_new ∙ went.noted ∙ ap (λ books. noted_all books went.notes) (sym held));
    used_up = λ is. cc;
  }
  rode desk old new (Err refusal) before after has held held_new went over stopped refused few full = record {
    has = has;
    turned = record {
      notes = stopped.notes;
      made = stopped.made;
      few = few;
      ended = subst (λ o. MatchOption o ((asks new.crew.member ≡ None) × (new.crew.pass.stamp ≡ stamp_after old.crew.pass.stamp stopped.notes)) (λ _. Unit {0})) (sym refused) tt;
    };
    noted = subst (λ o. MatchOption o (notes_held new.pass ≡ noted_all (notes_held old.pass) stopped.notes)
        (λ _. NotesOneMore (noted_all (notes_held old.pass) stopped.notes) (notes_held new.pass))) (sym refused)
        (subst (λ books. NotesOneMore (noted_all books stopped.notes) (notes_held new.pass)) (sym held)
        (subst (λ books. NotesOneMore (noted_all before stopped.notes) books) (sym held_new) stopped.more));
    used_up = λ is. (let same : refusal ≡ Stamps = cc in full (ap Err same));
  }

  -- the actor keeps its number
  actor_stays : {T : Type 0} (old new : Crew A) (r : Result T Refusal) (before after : Option BookNotes) → OnOk r (Went asks takes old new before after)
      → OnErr r (Stopped asks takes old new before after) → new.pass.actor ≡ old.pass.actor
  actor_stays old new (Ok x) before after went stopped = went.made.actor
  actor_stays old new (Err refusal) before after went stopped = stopped.made.actor

  -- from what the seat was, and what it is after the turn
  pub rode_at_seat : {T : Type 0} (desk seen seen_after : SixLocked) (old new : Crew A) (pass first back last : Passed) (r : Result T Refusal)
      → seen ≡ desk → first ≡ pass → back ≡ last → names_of seen_after ≡ names_of seen → pass.actor ≡ old.pass.actor → AreOf desk pass.books
      → ((actor : ℕ) → (first.actor ≡ actor) × AreOf seen first.books → (last.actor ≡ actor) × AreOf seen_after last.books)
      → OnOk r (Went asks takes old new (Some (notes_by first.books)) (Some (notes_by last.books))) → OnOk r (asks new.member ≡ None)
      → OnErr r (Stopped asks takes old new (Some (notes_by first.books)) (Some (notes_by last.books)))
      → MatchResult r (λ _. new.refused ≡ None) (λ refusal. new.refused ≡ Some refusal) → (length old.list < 2 ^ 57 → length new.list < 2 ^ 57)
      → (r ≡ Err Stamps → turns.IsUsedUp asks (λ ask p. (2 ^ 62 - 1 ≤ p.stamp) ⊎ (notes_full ask last.books ≡ true)) new)
      → Rode asks takes desk (record { crew = old; pass = Some pass }) (record { crew = new; pass = Some back })
  rode_at_seat desk seen seen_after old new pass first back last r seen_is first_is back_is root actor of serving went over stopped refused few full =
      let of_first : AreOf seen first.books = subst (λ d. AreOf d first.books) (sym seen_is) (subst (λ (p : Passed). AreOf desk p.books) (sym first_is) of) in
      let s = serving old.pass.actor (ap (λ (p : Passed). p.actor) first_is ∙ actor, of_first) in
      let stays = actor_stays old new r (Some (notes_by first.books)) (Some (notes_by last.books)) went stopped in
      rode desk (record { crew = old; pass = Some pass }) (record { crew = new; pass = Some back }) r (Some (notes_by first.books)) (Some (notes_by last.books)) (
        ap (λ (p : Passed). p.actor) back_is ∙ s.0 ∙ sym stays,
        subst (λ (p : Passed). AreOf desk p.books) (sym back_is) (same_tables seen_after desk last.books (root ∙ ap names_of seen_is) s.1),
      )
      (ap (λ (p : Passed). Some (notes_by p.books)) (sym first_is)) (ap (λ (p : Passed). Some (notes_by p.books)) back_is) went over stopped refused few
      (λ is. subst (λ (p : Passed). (2 ^ 62 - 1 ≤ new.pass.stamp) ⊎ NotesFull (Some p)) (sym back_is) (used_up new last (full is)))

-- ---- how a round ended

refused_stamps : (o : Option Refusal) → refused_by Stamps o ≡ true → o ≡ Some Stamps
refused_stamps None e = cc
refused_stamps (Some Memory) e = cc
refused_stamps (Some Stamps) e = refl

first_of : (a b : Bool) → (a || b) ≡ false → a ≡ false
first_of = elim [ false ↦ λ b e. refl | true ↦ λ b e. e ]

rest_of : (a b : Bool) → (a || b) ≡ false → b ≡ false
rest_of = elim [ false ↦ λ b e. e | true ↦ λ b e. cc ]

unrefused : (o : Option Refusal) → refused_by Memory o ≡ false → refused_by Stamps o ≡ false → o ≡ None
unrefused None memory stamps = refl
unrefused (Some Memory) memory stamps = cc
unrefused (Some Stamps) memory stamps = cc

module _ {A : Type 0} where
  -- one that is refused so stands somewhere
  any_at : (kind : Refusal) (riders : List (Rider A)) → list_any (is_rider_refused kind) riders ≡ true
      → (i : ℕ) × (i < length riders) × ((d : Rider A) → is_rider_refused kind (slice_index_or riders i d) ≡ true)
  any_at kind [] e = cc
  any_at kind (rider ∷ riders) e = by (is_rider_refused kind rider) refl (any_at kind riders)
    where
      by : (b : Bool) → is_rider_refused kind rider ≡ b
          → (list_any (is_rider_refused kind) riders ≡ true → (i : ℕ) × (i < length riders) × ((d : Rider A) → is_rider_refused kind (slice_index_or riders i d) ≡ true))
          → (i : ℕ) × (i < length (rider ∷ riders)) × ((d : Rider A) → is_rider_refused kind (slice_index_or (rider ∷ riders) i d) ≡ true)
      by true is later = (0, omega arith, λ d. is)
      by false is later =
          let there = later (subst (λ b. (b || list_any (is_rider_refused kind) riders) ≡ true) is e) in
          (suc there.0, omega (arith, there.1), λ d. there.2 d)

  pub one_used_up : (asks : A → Option Ask) (takes : Reply → A → A) (desk : SixLocked) (old new : List (Rider A)) → length new ≡ length old
      → ((i : ℕ) (d : Rider A) → i < length old → Rode asks takes desk (slice_index_or old i d) (slice_index_or new i d))
      → list_any (is_rider_refused Stamps) new ≡ true → OneIsUsedUp new
  one_used_up asks takes desk old new long rode any =
      let at = any_at Stamps new any in
      (at.0, at.1, λ d. (rode at.0 d (omega (arith, long, at.1))).used_up (refused_stamps (slice_index_or new at.0 d).crew.refused (at.2 d)))

  pub none_refused : (riders : List (Rider A)) → list_any (is_rider_refused Memory) riders ≡ false → list_any (is_rider_refused Stamps) riders ≡ false
      → All (λ rider. rider.crew.refused ≡ None) riders
  none_refused [] memory stamps k d within = absurd (omega (arith, within))
  none_refused (rider ∷ riders) memory stamps zero d within =
      unrefused rider.crew.refused (first_of (is_rider_refused Memory rider) _ memory) (first_of (is_rider_refused Stamps rider) _ stamps)
  none_refused (rider ∷ riders) memory stamps (suc k) d within =
      none_refused riders (rest_of (is_rider_refused Memory rider) _ memory) (rest_of (is_rider_refused Stamps rider) _ stamps) k d (omega (arith, within))
