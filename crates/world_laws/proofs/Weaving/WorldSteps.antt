-- The steps that a world makes one after the other are such as weaving takes: actors and books go on, and stay paired.
use Rattle.world_laws.proofs.Words.{◌≡◌, refl, sym, ◌∙◌, ap, subst, ℕ, zero, suc, ◌+◌, ◌≤◌, max, ⊎_elim, true, Option, Some, None, List, [], ◌∷◌, ◌++◌, arith}
use Rattle.world_laws.proofs.Words.{◌<◌, set, append-nil, append_assoc, same_Some, slice_get, Entry, Pass, entry_of, after_entering, Journaled, book_of, replay}
use Rattle.world_laws.proofs.Words.{last_stamp, replay-append, last_stamp-append, A, B, Ask, Note, Reply, StampedBooks, after_entry, is_local, Codec}
use Rattle.world_laws.proofs.Words.{Every-push, Every-nil, in_set, Every, ActorCrew, member_asks, WorldState, crew_after, asked, stepped, world_step, world_run}
use Rattle.world_laws.proofs.Words.{note_of, answer_to, IsFine, after_turns, AreEntries, JournalGrew, BooksGrew, after_note, after_notes, IsStepOf, AreStepsOf}
use Rattle.world_laws.proofs.Words.{Stepped, AllStepped, Begins, Worked, steps_by}
use Rattle.send_book.specs.Steps as sending
use Rattle.reassembly_book.specs.Steps as arriving
use Rattle.control_book.specs.Replies as controlling
use Rattle.control_book.specs.Steps as control
use Rattle.world_laws.specs.Serial.{after_steps}
use Rattle.world_laws.proofs.Weaving.StampsChain.{stamp_rises, local_stamp}
use Rattle.world_laws.proofs.Weaving.Paired.{step_fine}

-- ---- a journal

module _ {O C R : Type 0} (reply_to : O → C → R) (after : O → C → O) where
  entries_more : (book : O) (last : ℕ) (entries : List (Entry C R)) (e : Entry C R) → AreEntries reply_to after book last entries
      → e.reply ≡ reply_to (replay reply_to after book entries) e.call → e.stamp ≡ max (last_stamp last entries) e.seen + 1 → AreEntries reply_to after book last (entries ++ e ∷ [])
  entries_more book last [] e h reply stamp = (reply, stamp, tt)
  entries_more book last (f ∷ entries) e h reply stamp = (h.0, h.1, entries_more (after book f.call) f.stamp entries e h.2 reply stamp)

  same_grew : (top : ℕ) (old : Journaled O C R) → JournalGrew reply_to after top old old
  same_grew top old = record {
    entries = [];
    is = ap (λ journal. record old { journal = journal }) (sym (append-nil old.journal));
    made = tt;
    above = Every-nil (λ (e : Entry C R). top < e.stamp);
  }

  -- a call more, of an asker that knows the stamp or a greater one
  grew_more : (top : ℕ) (old new : Journaled O C R) (pass : Pass) (call : C) → top ≤ pass.stamp → JournalGrew reply_to after top old new
      → JournalGrew reply_to after top old (after_entering reply_to after new pass call)
  grew_more top old new pass call known h =
      let e : Entry C R = entry_of reply_to after new pass call in
      let journal : new.journal ≡ old.journal ++ h.entries = ap (λ j. j.journal) h.is in
      let opening : new.opening ≡ old.opening = ap (λ j. j.opening) h.is in
      let book : book_of reply_to after new ≡ replay reply_to after (book_of reply_to after old) h.entries
      = ap (book_of reply_to after) h.is ∙ replay-append reply_to after old.opening old.journal h.entries in
      let last : last_stamp 0 new.journal ≡ last_stamp (last_stamp 0 old.journal) h.entries = ap (last_stamp 0) journal ∙ last_stamp-append 0 old.journal h.entries in
      record {
        entries = h.entries ++ e ∷ [];
        is = ap (λ j. record new { journal = j }) (ap (λ j. j ++ e ∷ []) journal ∙ append_assoc old.journal h.entries (e ∷ []))
            ∙ ap (λ o. record old { opening = o; journal = old.journal ++ (h.entries ++ e ∷ []) }) opening;
        made = entries_more (book_of reply_to after old) (last_stamp 0 old.journal) h.entries e h.made (ap (λ b. reply_to b call) book) (ap (λ s. max s pass.stamp + 1) last);
        above = Every-push e h.above (omega (arith, known));
      }

-- ---- the books

same_books : (top : ℕ) (books : StampedBooks) → BooksGrew top books books
same_books top books = record {
  send_a = same_grew sending.reply_to sending.after_call top books.send_a;
  send_b = same_grew sending.reply_to sending.after_call top books.send_b;
  reassembly_a = same_grew arriving.reply_to arriving.after_call top books.reassembly_a;
  reassembly_b = same_grew arriving.reply_to arriving.after_call top books.reassembly_b;
  control_a = same_grew controlling.reply_to control.after top books.control_a;
  control_b = same_grew controlling.reply_to control.after top books.control_b;
}

books_more : (top : ℕ) (old new : StampedBooks) (pass : Pass) (ask : Ask) → top ≤ pass.stamp → BooksGrew top old new → BooksGrew top old (after_entry ask pass new)
books_more top old new pass (Ask.Send A call) known h = record {
  send_a = grew_more sending.reply_to sending.after_call top old.send_a new.send_a pass call known h.send_a;
  send_b = h.send_b;
  reassembly_a = h.reassembly_a;
  reassembly_b = h.reassembly_b;
  control_a = h.control_a;
  control_b = h.control_b;
}
books_more top old new pass (Ask.Send B call) known h = record {
  send_b = grew_more sending.reply_to sending.after_call top old.send_b new.send_b pass call known h.send_b;
  send_a = h.send_a;
  reassembly_a = h.reassembly_a;
  reassembly_b = h.reassembly_b;
  control_a = h.control_a;
  control_b = h.control_b;
}
books_more top old new pass (Ask.Reassembly A call) known h = record {
  reassembly_a = grew_more arriving.reply_to arriving.after_call top old.reassembly_a new.reassembly_a pass call known h.reassembly_a;
  send_a = h.send_a;
  send_b = h.send_b;
  reassembly_b = h.reassembly_b;
  control_a = h.control_a;
  control_b = h.control_b;
}
books_more top old new pass (Ask.Reassembly B call) known h = record {
  reassembly_b = grew_more arriving.reply_to arriving.after_call top old.reassembly_b new.reassembly_b pass call known h.reassembly_b;
  send_a = h.send_a;
  send_b = h.send_b;
  reassembly_a = h.reassembly_a;
  control_a = h.control_a;
  control_b = h.control_b;
}
books_more top old new pass (Ask.Control A call) known h = record {
  control_a = grew_more controlling.reply_to control.after top old.control_a new.control_a pass call known h.control_a;
  send_a = h.send_a;
  send_b = h.send_b;
  reassembly_a = h.reassembly_a;
  reassembly_b = h.reassembly_b;
  control_b = h.control_b;
}
books_more top old new pass (Ask.Control B call) known h = record {
  control_b = grew_more controlling.reply_to control.after top old.control_b new.control_b pass call known h.control_b;
  send_a = h.send_a;
  send_b = h.send_b;
  reassembly_a = h.reassembly_a;
  reassembly_b = h.reassembly_b;
  control_a = h.control_a;
}
books_more top old new pass (Ask.Local step) known h = h

no_answer : (books : StampedBooks) (ask : Ask) → is_local ask ≡ true → answer_to books ask ≡ Reply.Done
no_answer books (Ask.Local step) is = refl
no_answer books _ is = cc

module _ {C : Type 0} where
  -- ---- an actor

  notes_more : (k : Codec C) (notes : List Note) (n : Note) (c : ActorCrew C) → after_notes k (notes ++ n ∷ []) c ≡ after_note k n (after_notes k notes c)
  notes_more k [] n c = refl
  notes_more k (m ∷ notes) n c = notes_more k notes n (after_note k m c)

  steps_more : (k : Codec C) (notes : List Note) (n : Note) (c : ActorCrew C) → AreStepsOf k notes c → IsStepOf k n (after_notes k notes c) → AreStepsOf k (notes ++ n ∷ []) c
  steps_more k [] n c h step = (step, tt)
  steps_more k (m ∷ notes) n c h step = (h.0, steps_more k notes n (after_note k m c) h.1 step)

  stepped_more : (k : Codec C) (n : Note) (c d : ActorCrew C) → Stepped k c d → IsStepOf k n d → Stepped k c (after_note k n d)
  stepped_more k n c d h step = record {
    notes = h.notes ++ n ∷ [];
    are = steps_more k h.notes n c h.are (subst (IsStepOf k n) h.is step);
    is = ap (after_note k n) h.is ∙ sym (notes_more k h.notes n c);
  }

  all_same : (k : Codec C) (crew : List (ActorCrew C)) → AllStepped k crew crew
  all_same k [] = tt
  all_same k (c ∷ crew) = (record { notes = []; are = tt; is = refl }, all_same k crew)

  all_more : (k : Codec C) (n : Note) (crew after : List (ActorCrew C)) (i : ℕ) (d : ActorCrew C) → AllStepped k crew after → slice_get after i ≡ Some d → IsStepOf k n d
      → AllStepped k crew (set after i (after_note k n d))
  all_more k n [] [] i d h there step = cc
  all_more k n [] (y ∷ after) i d h there step = absurd h
  all_more k n (c ∷ crew) [] i d h there step = absurd h
  all_more k n (c ∷ crew) (y ∷ after) zero d h there step =
      (stepped_more k n c d (subst (Stepped k c) (same_Some y d there) h.0) step, h.1)
  all_more k n (c ∷ crew) (y ∷ after) (suc i) d h there step = (h.0, all_more k n crew after i d h.1 there step)

  -- ---- a world

  -- what is kept while a round goes on
  pub record Working (k : Codec C) (top : ℕ) (w v : WorldState C) : Type 0 where
    pub crew : AllStepped k w.crew v.crew
    pub books : BooksGrew top w.books v.books
    pub fine : IsFine top v
    pub known : Every (λ c. top ≤ c.pass.stamp) v.crew

  pub begins_working : (k : Codec C) (top : ℕ) (w : WorldState C) → Begins top w → Working k top w w
  begins_working k top w h = record {
    crew = all_same k w.crew;
    books = same_books top w.books;
    fine = h.fine;
    known = record { each = λ i c at. let is = h.known.each i c at in omega (arith, is) };
  }

  asked_working : (k : Codec C) (top : ℕ) (w v : WorldState C) (actor : ℕ) (d : ActorCrew C) (x : Ask) → Working k top w v → slice_get v.crew actor ≡ Some d → member_asks k d.member ≡ Some x
      → IsFine top (asked k actor (Some x) d v) → Working k top w (asked k actor (Some x) d v)
  asked_working k top w v actor d x h there asks fine =
      let known = h.known.each actor d there in
      let more = stamp_rises v.books d.pass x in
      record {
        crew = all_more k (note_of v.books d.pass x) w.crew v.crew actor d h.crew there (record {
          asked = asks;
          seen = refl;
          actor = refl;
          rises = more;
          local = λ local. (local_stamp v.books d.pass x local, no_answer v.books x local);
        });
        books = books_more top w.books v.books d.pass x known h.books;
        fine = fine;
        known = record {
          each = λ i c at. ⊎_elim
              (λ here. subst (λ y. top ≤ y.pass.stamp) here.1 (omega (arith, known, more)))
              (λ other. h.known.each i c other.1)
              (in_set v.crew actor (crew_after k x v.books d) i c at);
        };
      }

  pub step_working : (k : Codec C) (top actor : ℕ) (w v : WorldState C) → Working k top w v → Working k top w (world_step k actor v)
  step_working k top actor w v h = (elim (slice_get v.crew actor) as (λ o. slice_get v.crew actor ≡ o → IsFine top (stepped k actor o v) → Working k top w (stepped k actor o v))
      [ None ↦ λ there fine. h | Some d ↦ λ there fine. asks d there (member_asks k d.member) refl fine ]) refl (step_fine k actor top v h.fine)
    where
      asks : (d : ActorCrew C) → slice_get v.crew actor ≡ Some d → (o : Option Ask) → member_asks k d.member ≡ o → IsFine top (asked k actor o d v) → Working k top w (asked k actor o d v)
      asks d there None is fine = h
      asks d there (Some x) is fine = asked_working k top w v actor d x h there is fine

  pub worked : (k : Codec C) (top : ℕ) (w v : WorldState C) → Working k top w v → Worked k top w v
  worked k top w v h = record { crew = h.crew; books = h.books; paired = h.fine.paired top }

  pub steps_working : (k : Codec C) (top : ℕ) (actors : List ℕ) (w v : WorldState C) → Working k top w v → Working k top w (world_run k (steps_by actors) v)
  steps_working k top [] w v h = h
  steps_working k top (actor ∷ actors) w v h = steps_working k top actors w (world_step k actor v) (step_working k top actor w v h)

  turn_working : (k : Codec C) (top actor n : ℕ) (w v : WorldState C) → Working k top w v → Working k top w (after_steps k actor n v)
  turn_working k top actor zero w v h = h
  turn_working k top actor (suc n) w v h = turn_working k top actor n w (world_step k actor v) (step_working k top actor w v h)

  pub turns_working : (k : Codec C) (top actor : ℕ) (counts : List ℕ) (w v : WorldState C) → Working k top w v → Working k top w (after_turns k actor counts v)
  turns_working k top actor [] w v h = h
  turns_working k top actor (n ∷ counts) w v h = turns_working k top (suc actor) counts w (after_steps k actor n v) (turn_working k top actor n w v h)
