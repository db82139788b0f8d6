-- The modes that a side was in by the journal of its control book: it was in them for ever, and the present one is one of them.
use Rattle.world_laws.proofs.Words.{◌≡◌, refl, ◌||◌, inl, inr, ◌⊎◌, ⊎_elim, Bool, true, false, List, [], ◌∷◌, ◌++◌}
use Rattle.world_laws.proofs.Words.{or_cases, false≢true, Mode, Entry, Pass, entry_of, replay, Side, A, B, ControlCall, ControlReply, Control, Ask}
use Rattle.world_laws.proofs.Words.{StampedBooks, books_in, after_entry, control_of, pick, Codec, WorldState, Turn}
use Rattle.world_laws.proofs.Words.{after_turn, world_run}
use Rattle.world_laws.proofs.Worlds.Turns.{turn_so, run_so}
use Rattle.control_book.specs.Replies as controlling
use Rattle.control_book.specs.Steps as control
use Rattle.world_laws.specs.ModesSoFar.{was_by, was_in}

or_first : (a b : Bool) → a ≡ true → (a || b) ≡ true
or_first = elim [ true ↦ λ b is. refl | false ↦ λ b is. absurd (false≢true is) ]

or_second : (a b : Bool) → b ≡ true → (a || b) ≡ true
or_second = elim [ true ↦ λ b is. refl | false ↦ λ b is. is ]

-- ---- a journal

module _ (such : Mode → Bool) where
  -- with an entry more: before, or by it
  was_by_more : (book : Control) (journal : List (Entry ControlCall ControlReply)) (entry : Entry ControlCall ControlReply) → was_by such book (journal ++ entry ∷ []) ≡ true
      → (was_by such book journal ≡ true) ⊎ (such (replay controlling.reply_to control.after book (journal ++ entry ∷ [])).fall.mode ≡ true)
  was_by_more book [] entry is = or_cases (such book.fall.mode) (such (control.after book entry.call).fall.mode) is
  was_by_more book (first ∷ journal) entry is = ⊎_elim
      (λ here. inl (or_first (such book.fall.mode) (was_by such (control.after book first.call) journal) here))
      (λ later. ⊎_elim (λ before. inl (or_second (such book.fall.mode) (was_by such (control.after book first.call) journal) before)) (λ by_it. inr by_it)
      (was_by_more (control.after book first.call) journal entry later))
      (or_cases (such book.fall.mode) (was_by such (control.after book first.call) (journal ++ entry ∷ [])) is)

  was_by_still : (book : Control) (journal more : List (Entry ControlCall ControlReply)) → was_by such book journal ≡ true → was_by such book (journal ++ more) ≡ true
  was_by_still book [] [] is = is
  was_by_still book [] (entry ∷ more) is = or_first (such book.fall.mode) (was_by such (control.after book entry.call) more) is
  was_by_still book (first ∷ journal) more is = ⊎_elim
      (λ here. or_first (such book.fall.mode) (was_by such (control.after book first.call) (journal ++ more)) here)
      (λ later. or_second (such book.fall.mode) (was_by such (control.after book first.call) (journal ++ more)) (was_by_still (control.after book first.call) journal more later))
      (or_cases (such book.fall.mode) (was_by such (control.after book first.call) journal) is)

  was_by_now : (book : Control) (journal : List (Entry ControlCall ControlReply)) → such (replay controlling.reply_to control.after book journal).fall.mode ≡ true → was_by such book journal ≡ true
  was_by_now book [] is = is
  was_by_now book (first ∷ journal) is = or_second (such book.fall.mode) (was_by such (control.after book first.call) journal) (was_by_now (control.after book first.call) journal is)

-- a side in such a mode is in a wider one
was_by_wider : (such wider : Mode → Bool) → ((m : Mode) → such m ≡ true → wider m ≡ true) → (book : Control) (journal : List (Entry ControlCall ControlReply)) → was_by such book journal ≡ true
    → was_by wider book journal ≡ true
was_by_wider such wider widens book [] is = widens book.fall.mode is
was_by_wider such wider widens book (first ∷ journal) is = ⊎_elim
    (λ here. or_first (wider book.fall.mode) (was_by wider (control.after book first.call) journal) (widens book.fall.mode here))
    (λ later. or_second (wider book.fall.mode) (was_by wider (control.after book first.call) journal) (was_by_wider such wider widens (control.after book first.call) journal later))
    (or_cases (such book.fall.mode) (was_by such (control.after book first.call) journal) is)

-- ---- the books

abbrev pub Was : (Mode → Bool) → StampedBooks → Side → Type 0
Was such books s = was_in such (pick s books.control_a books.control_b) ≡ true

pub was_wider : (such wider : Mode → Bool) → ((m : Mode) → such m ≡ true → wider m ≡ true) → (books : StampedBooks) (s : Side) → Was such books s → Was wider books s
was_wider such wider widens books A is = was_by_wider such wider widens books.control_a.opening books.control_a.journal is
was_wider such wider widens books B is = was_by_wider such wider widens books.control_b.opening books.control_b.journal is

module _ (such : Mode → Bool) where
  pub was_now : (books : StampedBooks) (s : Side) → such (control_of s (books_in books)).fall.mode ≡ true → Was such books s
  was_now books A is = was_by_now such books.control_a.opening books.control_a.journal is
  was_now books B is = was_by_now such books.control_b.opening books.control_b.journal is

  pub was_more : (x : Ask) (pass : Pass) (books : StampedBooks) (s : Side) → Was such (after_entry x pass books) s
      → Was such books s ⊎ (such (control_of s (books_in (after_entry x pass books))).fall.mode ≡ true)
  was_more (Ask.Control A call) pass books A is = was_by_more such books.control_a.opening books.control_a.journal (entry_of controlling.reply_to control.after books.control_a pass call) is
  was_more (Ask.Control A call) pass books B is = inl is
  was_more (Ask.Control B call) pass books A is = inl is
  was_more (Ask.Control B call) pass books B is = was_by_more such books.control_b.opening books.control_b.journal (entry_of controlling.reply_to control.after books.control_b pass call) is
  was_more (Ask.Send t call) pass books A is = inl is
  was_more (Ask.Send t call) pass books B is = inl is
  was_more (Ask.Reassembly t call) pass books A is = inl is
  was_more (Ask.Reassembly t call) pass books B is = inl is
  was_more (Ask.Local step) pass books s is = inl is

  pub was_stays : (x : Ask) (pass : Pass) (books : StampedBooks) (s : Side) → Was such books s → Was such (after_entry x pass books) s
  was_stays (Ask.Control A call) pass books A is = was_by_still such books.control_a.opening books.control_a.journal _ is
  was_stays (Ask.Control A call) pass books B is = is
  was_stays (Ask.Control B call) pass books A is = is
  was_stays (Ask.Control B call) pass books B is = was_by_still such books.control_b.opening books.control_b.journal _ is
  was_stays (Ask.Send t call) pass books A is = is
  was_stays (Ask.Send t call) pass books B is = is
  was_stays (Ask.Reassembly t call) pass books A is = is
  was_stays (Ask.Reassembly t call) pass books B is = is
  was_stays (Ask.Local step) pass books s is = is

  -- ---- turns

  module _ {C : Type 0} (k : Codec C) (s : Side) where
    pub turn_was : (turn : Turn) (w : WorldState C) → Was such w.books s → Was such (after_turn k turn w).books s
    turn_was turn w is = turn_so k (λ w. Was such w.books s) turn w is (λ actor c x there asks. was_stays x c.pass w.books s is) (λ over. is)

    pub run_was : (turns : List Turn) (w : WorldState C) → Was such w.books s → Was such (world_run k turns w).books s
    run_was = run_so k (λ w. Was such w.books s) (λ w is actor c x there asks. was_stays x c.pass w.books s is) (λ w is over. is)
