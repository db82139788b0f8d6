-- What the books make of the first step of an order, where the order's calls at each book are what its journal gained.
use Rattle.world_laws.proofs.Words.{◌≡◌, refl, sym, ◌∙◌, ap, subst, ℕ, ◌+◌, ◌==◌, max, true, List, [], ◌∷◌, ◌++◌, map, filter, append-nil, append_assoc, Entry}
use Rattle.world_laws.proofs.Words.{Pass, entry_of, after_entering, next_stamp, Journaled, book_of, last_stamp, replay-append, last_stamp-append, A, B, Ask}
use Rattle.world_laws.proofs.Words.{Note, Reply, StampedBooks, after_entry, is_local, send_note, reassembly_note, control_note, note_of, AreEntries}
use Rattle.send_book.specs.Steps as sending
use Rattle.reassembly_book.specs.Steps as arriving
use Rattle.control_book.specs.Replies as controlling
use Rattle.control_book.specs.Steps as control

-- the number of the book that is asked
abbrev pub book_of_ask : Ask → ℕ
book_of_ask (Ask.Send A call) = 0
book_of_ask (Ask.Send B call) = 1
book_of_ask (Ask.Reassembly A call) = 2
book_of_ask (Ask.Reassembly B call) = 3
book_of_ask (Ask.Control A call) = 4
book_of_ask (Ask.Control B call) = 5
book_of_ask (Ask.Local step) = 6

-- the calls at one book
abbrev pub at_book : ℕ → List Note → List Note
at_book number notes = filter (λ n. book_of_ask n.ask == number) notes

same_head : {X : Type 0} (x y : X) (xs ys : List X) → x ∷ xs ≡ y ∷ ys → x ≡ y
same_head x y xs ys is = cc

same_rest : {X : Type 0} (x y : X) (xs ys : List X) → x ∷ xs ≡ y ∷ ys → xs ≡ ys
same_rest x y xs ys is = cc

module _ {O C R : Type 0} (reply_to : O → C → R) (after : O → C → O) (make : Entry C R → Note) where
  -- the journal gained what these notes say
  pub record Fits (notes : List Note) (old new : Journaled O C R) : Type 0 where
    pub entries : List (Entry C R)
    pub notes_are : notes ≡ map make entries
    pub is : new ≡ record old { journal = old.journal ++ entries }
    pub made : AreEntries reply_to after (book_of reply_to after old) (last_stamp 0 old.journal) entries

  same_entry : (stamp seen actor : ℕ) (call : C) (reply : R) (e : Entry C R) → e.stamp ≡ stamp → e.seen ≡ seen → e.actor ≡ actor → e.call ≡ call → e.reply ≡ reply
      → e ≡ record { stamp = stamp; seen = seen; actor = actor; call = call; reply = reply }
  same_entry stamp seen actor call reply e a b c d f = rw (← a, ← b, ← c, ← d, ← f) refl

  -- the first of them is the note of the call, and the journal after the call gained the rest
  pub record FirstFits (n : Note) (notes : List Note) (old new : Journaled O C R) (pass : Pass) (call : C) : Type 0 where
    pub note_is : n ≡ make (entry_of reply_to after old pass call)
    pub rest : Fits notes (after_entering reply_to after old pass call) new

  first_entry : (n : Note) (notes : List Note) (old new : Journaled O C R) (pass : Pass) (call : C) (e : Entry C R) (entries : List (Entry C R)) → n ≡ make e → e ≡ entry_of reply_to after old pass call
      → notes ≡ map make entries → new ≡ record old { journal = old.journal ++ e ∷ entries } → AreEntries reply_to after (after (book_of reply_to after old) e.call) e.stamp entries
      → FirstFits n notes old new pass call
  first_entry n notes old new pass call e entries note_is is notes_are new_is made =
      let first : Entry C R = entry_of reply_to after old pass call in
      let book : book_of reply_to after (after_entering reply_to after old pass call) ≡ after (book_of reply_to after old) call
      = replay-append reply_to after old.opening old.journal (first ∷ []) in
      let last : last_stamp 0 (old.journal ++ first ∷ []) ≡ first.stamp = last_stamp-append 0 old.journal (first ∷ []) in
      let own : AreEntries reply_to after (after (book_of reply_to after old) call) first.stamp entries
      = subst (λ (x : Entry C R). AreEntries reply_to after (after (book_of reply_to after old) x.call) x.stamp entries) is made in
      record {
        note_is = note_is ∙ ap make is;
        rest = record {
          entries = entries;
          notes_are = notes_are;
          is = new_is ∙ ap (λ (x : Entry C R). record old { journal = old.journal ++ x ∷ entries }) is
              ∙ ap (λ journal. record old { journal = journal }) (sym (append_assoc old.journal (first ∷ []) entries));
          made = subst (λ b. AreEntries reply_to after b (last_stamp 0 (old.journal ++ first ∷ [])) entries) (sym book)
              (subst (λ s. AreEntries reply_to after (after (book_of reply_to after old) call) s entries) (sym last) own);
        };
      }

  pub first_fits : ((e : Entry C R) → (make e).seen ≡ e.seen) → ((e : Entry C R) → (make e).actor ≡ e.actor) → (n : Note) (notes : List Note) (old new : Journaled O C R) (pass : Pass) (call : C)
      → Fits (n ∷ notes) old new → n.seen ≡ pass.stamp → n.actor ≡ pass.actor → ((e : Entry C R) → n ≡ make e → e.call ≡ call) → FirstFits n notes old new pass call
  first_fits seen_is actor_is n notes old new pass call h seen actor called = by h.entries h.notes_are h.is h.made
    where
      by : (entries : List (Entry C R)) → n ∷ notes ≡ map make entries → new ≡ record old { journal = old.journal ++ entries }
          → AreEntries reply_to after (book_of reply_to after old) (last_stamp 0 old.journal) entries → FirstFits n notes old new pass call
      by [] notes_are is made = cc
      by (e ∷ entries) notes_are is made =
          let note_is : n ≡ make e = same_head n (make e) notes (map make entries) notes_are in
          let e_seen : e.seen ≡ pass.stamp = sym (seen_is e) ∙ ap (λ m. m.seen) (sym note_is) ∙ seen in
          let e_actor : e.actor ≡ pass.actor = sym (actor_is e) ∙ ap (λ m. m.actor) (sym note_is) ∙ actor in
          let e_call : e.call ≡ call = called e note_is in
          first_entry n notes old new pass call e entries note_is
          (same_entry (next_stamp old pass) pass.stamp pass.actor call (reply_to (book_of reply_to after old) call) e
          (made.1 ∙ ap (λ s. max (last_stamp 0 old.journal) s + 1) e_seen) e_seen e_actor e_call (made.0 ∙ ap (reply_to (book_of reply_to after old)) e_call))
          (same_rest n (make e) notes (map make entries) notes_are) is made.2

  -- a journal that gained nothing
  pub nothing_fits : (old new : Journaled O C R) → Fits [] old new → old ≡ new
  nothing_fits old new h = (elim h.entries as (λ entries. [] ≡ map make entries → new ≡ record old { journal = old.journal ++ entries } → old ≡ new)
      [ [] ↦ λ notes_are is. sym (is ∙ ap (λ journal. record old { journal = journal }) (append-nil old.journal)) | e ∷ entries ↦ λ notes_are is. cc ]) h.notes_are h.is

-- ---- all six

pub record BooksFit (order : List Note) (old new : StampedBooks) : Type 0 where
  pub send_a : Fits sending.reply_to sending.after_call (send_note A) (at_book 0 order) old.send_a new.send_a
  pub send_b : Fits sending.reply_to sending.after_call (send_note B) (at_book 1 order) old.send_b new.send_b
  pub reassembly_a : Fits arriving.reply_to arriving.after_call (reassembly_note A) (at_book 2 order) old.reassembly_a new.reassembly_a
  pub reassembly_b : Fits arriving.reply_to arriving.after_call (reassembly_note B) (at_book 3 order) old.reassembly_b new.reassembly_b
  pub control_a : Fits controlling.reply_to control.after (control_note A) (at_book 4 order) old.control_a new.control_a
  pub control_b : Fits controlling.reply_to control.after (control_note B) (at_book 5 order) old.control_b new.control_b

abbrev pub a_note : ℕ → ℕ → ℕ → Ask → Reply → Note
a_note stamp seen actor ask reply = record { stamp = stamp; seen = seen; actor = actor; ask = ask; reply = reply }

-- the first note of the order is the one that the books make of its ask, and the rest fits the books after it
pub record StepFits (n : Note) (order : List Note) (old new : StampedBooks) (pass : Pass) : Type 0 where
  pub note_is : n ≡ note_of old pass n.ask
  pub rest : BooksFit order (after_entry n.ask pass old) new

module _ (stamp seen actor : ℕ) (reply : Reply) (order : List Note) (old new : StampedBooks) (pass : Pass) (seen_is : seen ≡ pass.stamp) (actor_is : actor ≡ pass.actor) where
  pub step_fits : (ask : Ask) → BooksFit (a_note stamp seen actor ask reply ∷ order) old new
      → (is_local ask ≡ true → (stamp ≡ pass.stamp + 1) × (reply ≡ Reply.Done)) → StepFits (a_note stamp seen actor ask reply) order old new pass
  step_fits (Ask.Send A call) h local =
      let first = first_fits sending.reply_to sending.after_call (send_note A) (λ e. refl) (λ e. refl) _ (at_book 0 order) old.send_a new.send_a pass call h.send_a seen_is actor_is
      (λ e is. let same : Ask.Send A call ≡ Ask.Send A e.call = ap (λ m. m.ask) is in cc) in
      record { note_is = first.note_is; rest = record { send_a = first.rest; send_b = h.send_b; reassembly_a = h.reassembly_a; reassembly_b = h.reassembly_b; control_a = h.control_a; control_b = h.control_b } }
  step_fits (Ask.Send B call) h local =
      let first = first_fits sending.reply_to sending.after_call (send_note B) (λ e. refl) (λ e. refl) _ (at_book 1 order) old.send_b new.send_b pass call h.send_b seen_is actor_is
      (λ e is. let same : Ask.Send B call ≡ Ask.Send B e.call = ap (λ m. m.ask) is in cc) in
      record { note_is = first.note_is; rest = record { send_a = h.send_a; send_b = first.rest; reassembly_a = h.reassembly_a; reassembly_b = h.reassembly_b; control_a = h.control_a; control_b = h.control_b } }
  step_fits (Ask.Reassembly A call) h local =
      let first = first_fits arriving.reply_to arriving.after_call (reassembly_note A) (λ e. refl) (λ e. refl) _ (at_book 2 order) old.reassembly_a new.reassembly_a pass call h.reassembly_a seen_is actor_is
      (λ e is. let same : Ask.Reassembly A call ≡ Ask.Reassembly A e.call = ap (λ m. m.ask) is in cc) in
      record { note_is = first.note_is; rest = record { send_a = h.send_a; send_b = h.send_b; reassembly_a = first.rest; reassembly_b = h.reassembly_b; control_a = h.control_a; control_b = h.control_b } }
  step_fits (Ask.Reassembly B call) h local =
      let first = first_fits arriving.reply_to arriving.after_call (reassembly_note B) (λ e. refl) (λ e. refl) _ (at_book 3 order) old.reassembly_b new.reassembly_b pass call h.reassembly_b seen_is actor_is
      (λ e is. let same : Ask.Reassembly B call ≡ Ask.Reassembly B e.call = ap (λ m. m.ask) is in cc) in
      record { note_is = first.note_is; rest = record { send_a = h.send_a; send_b = h.send_b; reassembly_a = h.reassembly_a; reassembly_b = first.rest; control_a = h.control_a; control_b = h.control_b } }
  step_fits (Ask.Control A call) h local =
      let first = first_fits controlling.reply_to control.after (control_note A) (λ e. refl) (λ e. refl) _ (at_book 4 order) old.control_a new.control_a pass call h.control_a seen_is actor_is
      (λ e is. let same : Ask.Control A call ≡ Ask.Control A e.call = ap (λ m. m.ask) is in cc) in
      record { note_is = first.note_is; rest = record { send_a = h.send_a; send_b = h.send_b; reassembly_a = h.reassembly_a; reassembly_b = h.reassembly_b; control_a = first.rest; control_b = h.control_b } }
  step_fits (Ask.Control B call) h local =
      let first = first_fits controlling.reply_to control.after (control_note B) (λ e. refl) (λ e. refl) _ (at_book 5 order) old.control_b new.control_b pass call h.control_b seen_is actor_is
      (λ e is. let same : Ask.Control B call ≡ Ask.Control B e.call = ap (λ m. m.ask) is in cc) in
      record { note_is = first.note_is; rest = record { send_a = h.send_a; send_b = h.send_b; reassembly_a = h.reassembly_a; reassembly_b = h.reassembly_b; control_a = h.control_a; control_b = first.rest } }
  step_fits (Ask.Local step) h local =
      let own = local refl in
      record {
        note_is = rw (seen_is, actor_is, own.0, own.1) refl;
        rest = record { send_a = h.send_a; send_b = h.send_b; reassembly_a = h.reassembly_a; reassembly_b = h.reassembly_b; control_a = h.control_a; control_b = h.control_b };
      }

pub books_end : (old new : StampedBooks) → BooksFit [] old new → old ≡ new
books_end old new h =
    let a = nothing_fits sending.reply_to sending.after_call (send_note A) old.send_a new.send_a h.send_a in
    let b = nothing_fits sending.reply_to sending.after_call (send_note B) old.send_b new.send_b h.send_b in
    let c = nothing_fits arriving.reply_to arriving.after_call (reassembly_note A) old.reassembly_a new.reassembly_a h.reassembly_a in
    let d = nothing_fits arriving.reply_to arriving.after_call (reassembly_note B) old.reassembly_b new.reassembly_b h.reassembly_b in
    let e = nothing_fits controlling.reply_to control.after (control_note A) old.control_a new.control_a h.control_a in
    let f = nothing_fits controlling.reply_to control.after (control_note B) old.control_b new.control_b h.control_b in
    same_six old new a b c d e f
  where
    same_six : (x y : StampedBooks) → x.send_a ≡ y.send_a → x.send_b ≡ y.send_b → x.reassembly_a ≡ y.reassembly_a → x.reassembly_b ≡ y.reassembly_b
        → x.control_a ≡ y.control_a → x.control_b ≡ y.control_b → x ≡ y
    same_six x y a b c d e f =
        ap (λ z. record x { send_a = z }) a ∙ ap (λ z. record x { send_a = y.send_a; send_b = z }) b
        ∙ ap (λ z. record x { send_a = y.send_a; send_b = y.send_b; reassembly_a = z }) c
        ∙ ap (λ z. record x { send_a = y.send_a; send_b = y.send_b; reassembly_a = y.reassembly_a; reassembly_b = z }) d
        ∙ ap (λ z. record y { control_a = z; control_b = x.control_b }) e
        ∙ ap (λ z. record y { control_b = z }) f
