-- What the steps of a round made fits the order by stamp, then actor.
use Rattle.world_laws.proofs.Words.{◌≡◌, refl, sym, ◌∙◌, ap, subst, ℕ, zero, suc, ◌+◌, ◌≤◌, inl, inr, ◌⊎◌, ⊎_elim, false, Some, List, [], ◌∷◌, ◌++◌, length}
use Rattle.world_laws.proofs.Words.{map, arith, ◌<◌, cases_lt, length-map, append-nil, append_assoc, map-append, same_Some, slice_get, Entry, Journaled}
use Rattle.world_laws.proofs.Words.{book_of, last_stamp, A, B, Ask, Note, is_local, above, send_note, reassembly_note, control_note, Codec, Every, ActorCrew}
use Rattle.world_laws.proofs.Words.{WorldState, journals_of, NotesRise, last_noted, AreStamped, BooksAreStamped, IsFineCrew, lists_of, AreEntries, JournalGrew}
use Rattle.world_laws.proofs.Words.{BooksGrew, after_note, after_notes, AreStepsOf, Stepped, AllStepped, Begins, Worked}
use Rattle.send_book.specs.Steps as sending
use Rattle.reassembly_book.specs.Steps as arriving
use Rattle.control_book.specs.Replies as controlling
use Rattle.control_book.specs.Steps as control
use Rattle.actor_desk.specs.Journals.{in_order}
use Rattle.world_laws.proofs.Weaving.StampsChain.{stamps_below}
use Rattle.world_laws.proofs.Weaving.Occurring.{In, Occurs, occurs_from, occurs_where}
use Rattle.world_laws.proofs.Weaving.FirstSteps.{book_of_ask, at_book, Fits, BooksFit}
use Rattle.world_laws.proofs.Weaving.TheOrder.{StampsClimb, AreNumbered, numbered_below, rises_climb, ours, ours_in_order, asked_in_order, in_order_of, gained}
use Rattle.world_laws.proofs.Weaving.DrivesTheWorld.{OrderFits, Runs, order_runs}

-- ---- lists

every_in : {X : Type 0} (P : X → Type 0) (xs : List X) (x : X) → Every P xs → In x xs → P x
every_in P [] x h none = absurd none
every_in P (y ∷ xs) x h (inl same) = subst P same (h.each 0 y refl)
every_in P (y ∷ xs) x h (inr later) = every_in P xs x (record { each = λ i z at. h.each (suc i) z at }) later

in_mapped : {X : Type 0} (f : X → Note) (xs : List X) (n : Note) → In n (map f xs) → (x : X) × In x xs × (f x ≡ n)
in_mapped f [] n none = absurd none
in_mapped f (x ∷ xs) n (inl same) = (x, inl refl, same)
in_mapped f (x ∷ xs) n (inr later) = let rest = in_mapped f xs n later in (rest.0, inr rest.1, rest.2)

in_both : {X : Type 0} (x : X) (xs ys : List X) → In x (xs ++ ys) → In x xs ⊎ In x ys
in_both x [] ys there = inr there
in_both x (y ∷ xs) ys (inl same) = inl (inl same)
in_both x (y ∷ xs) ys (inr later) = ⊎_elim (λ old. inl (inr old)) (λ new. inr new) (in_both x xs ys later)

NotesRise-append : (before : ℕ) (old new : List Note) → NotesRise before old → NotesRise (last_noted before old) new → NotesRise before (old ++ new)
NotesRise-append before [] new rise later = later
NotesRise-append before (n ∷ old) new rise later = (rise.0, NotesRise-append n.stamp old new rise.1 later)

rise_above : (before lower : ℕ) (notes : List Note) → lower ≤ before → NotesRise before notes → NotesRise lower notes
rise_above before lower [] less rise = tt
rise_above before lower (n ∷ notes) less rise = (omega (arith, less, rise.0), rise.1)

rises_above : (before : ℕ) (notes : List Note) (n : Note) → NotesRise before notes → In n notes → before < n.stamp
rises_above before [] n rise none = absurd none
rises_above before (m ∷ notes) n rise (inl same) = subst (λ x. before < x.stamp) same rise.0
rises_above before (m ∷ notes) n rise (inr later) = let rest = rises_above m.stamp notes n rise.1 later in omega (arith, rise.0, rest)

-- ---- journals

module _ {C R : Type 0} where
  stamped_append : (last : ℕ) (old new : List (Entry C R)) → AreStamped last old → AreStamped (last_stamp last old) new → AreStamped last (old ++ new)
  stamped_append last [] new stamped later = later
  stamped_append last (e ∷ old) new stamped later = (stamped.0, stamped_append e.stamp old new stamped.1 later)

  stamped_rise : (f : Entry C R → Note) → ((e : Entry C R) → (f e).stamp ≡ e.stamp) → (last : ℕ) (entries : List (Entry C R)) → AreStamped last entries → NotesRise last (map f entries)
  stamped_rise f same last [] stamped = tt
  stamped_rise f same last (e ∷ entries) stamped =
      (let is = same e in omega (arith, stamped.0, is), subst (λ s. NotesRise s (map f entries)) (sym (same e)) (stamped_rise f same e.stamp entries stamped.1))

module _ {O C R : Type 0} (reply_to : O → C → R) (after : O → C → O) where
  entries_stamped : (book : O) (last : ℕ) (entries : List (Entry C R)) → AreEntries reply_to after book last entries → AreStamped last entries
  entries_stamped book last [] h = tt
  entries_stamped book last (e ∷ entries) h = (h.1, entries_stamped (after book e.call) e.stamp entries h.2)

  module _ (make : Entry C R → Note) (same_stamp : (e : Entry C R) → (make e).stamp ≡ e.stamp) (top : ℕ) (old new : Journaled O C R) (stamped : AreStamped 0 old.journal)
      (grew : JournalGrew reply_to after top old new) where
    -- the stamps of the new journal climb
    journal_climbs : StampsClimb (map make new.journal)
    journal_climbs =
        let all : AreStamped 0 (old.journal ++ grew.entries)
        = stamped_append 0 old.journal grew.entries stamped (entries_stamped (book_of reply_to after old) (last_stamp 0 old.journal) grew.entries grew.made) in
        subst (λ (j : Journaled O C R). StampsClimb (map make j.journal)) (sym grew.is) (rises_climb 0 (map make (old.journal ++ grew.entries)) (stamped_rise make same_stamp 0 (old.journal ++ grew.entries) all))

    -- what of it is above the stamp is what it gained
    journal_above : ((n : Note) → In n (map make old.journal) → n.stamp ≤ top) → above top (map make new.journal) ≡ map make grew.entries
    journal_above below =
        ap (λ (j : Journaled O C R). above top (map make j.journal)) grew.is ∙ ap (above top) (map-append make old.journal grew.entries)
        ∙ gained top (map make old.journal) (map make grew.entries) below
        (λ n there. let found = in_mapped make grew.entries n there in
        let later = every_in (λ (e : Entry C R). top < e.stamp) grew.entries found.0 grew.above found.1 in
        let is = same_stamp found.0 in
        let own : (make found.0).stamp ≡ n.stamp = ap (λ m. m.stamp) found.2 in omega (arith, later, is, own))

    journal_fits : (notes : List Note) → notes ≡ above top (map make new.journal) → ((n : Note) → In n (map make old.journal) → n.stamp ≤ top) → Fits reply_to after make notes old new
    journal_fits notes is below = record { entries = grew.entries; notes_are = is ∙ journal_above below; is = grew.is; made = grew.made }

-- each note of such a journal is a call at that book
of_book : {C R : Type 0} (make : Entry C R → Note) (number : ℕ) → ((e : Entry C R) → book_of_ask (make e).ask ≡ number) → (entries : List (Entry C R)) (n : Note)
    → In n (map make entries) → book_of_ask n.ask ≡ number
of_book make number each entries n there =
    let found = in_mapped make entries n there in ap (λ m. book_of_ask m.ask) (sym found.2) ∙ each found.0

not_local : (ask : Ask) (number : ℕ) → book_of_ask ask ≡ number → number < 6 → is_local ask ≡ false
not_local = elim [ Ask.Local step ↦ λ number is small. absurd (omega (arith, is, small)) | _ ↦ λ number is small. refl ]

module _ {C : Type 0} where
  -- ---- what an actor gained

  grown_list : (k : Codec C) (notes : List Note) (c : ActorCrew C) → (after_notes k notes c).list ≡ c.list ++ notes
  grown_list k [] c = sym (append-nil c.list)
  grown_list k (n ∷ notes) c = grown_list k notes (after_note k n c) ∙ append_assoc c.list (n ∷ []) notes

  steps_rise : (k : Codec C) (notes : List Note) (c : ActorCrew C) → AreStepsOf k notes c → NotesRise c.pass.stamp notes
  steps_rise k [] c h = tt
  steps_rise k (n ∷ notes) c h = (h.0.rises, steps_rise k notes (after_note k n c) h.1)

  steps_ours : (k : Codec C) (notes : List Note) (c : ActorCrew C) (n : Note) → AreStepsOf k notes c → In n notes → n.actor ≡ c.pass.actor
  steps_ours k [] c n h none = absurd none
  steps_ours k (m ∷ notes) c n h (inl same) = ap (λ x. x.actor) (sym same) ∙ h.0.actor
  steps_ours k (m ∷ notes) c n h (inr later) = steps_ours k notes (after_note k m c) n h.1 later

  module _ (k : Codec C) (fine_top top number : ℕ) (c d : ActorCrew C) (fine : IsFineCrew fine_top number c) (known : c.pass.stamp ≡ top) (s : Stepped k c d) where
    list_is : d.list ≡ c.list ++ s.notes
    list_is = ap (λ x. x.list) s.is ∙ grown_list k s.notes c

    old_below : (n : Note) → In n c.list → n.stamp ≤ top
    old_below n there =
        let below = every_in (λ n. n.stamp ≤ last_noted 0 c.list) c.list n (stamps_below 0 c.list fine.rises) there in
        omega (arith, below, fine.known, known)

    list_ours : (n : Note) → In n d.list → n.actor ≡ number
    list_ours n there = ⊎_elim
        (λ old. every_in (λ m. m.actor ≡ number) c.list n fine.ours old)
        (λ new. steps_ours k s.notes c n s.are new ∙ fine.numbered)
        (in_both n c.list s.notes (subst (In n) list_is there))

    list_climbs : StampsClimb d.list
    list_climbs =
        subst StampsClimb (sym list_is)
        (rises_climb 0 (c.list ++ s.notes) (NotesRise-append 0 c.list s.notes fine.rises
        (rise_above c.pass.stamp (last_noted 0 c.list) s.notes fine.known (steps_rise k s.notes c s.are))))

    list_above : above top d.list ≡ s.notes
    list_above =
        ap (above top) list_is ∙ gained top c.list s.notes old_below
        (λ n there. let later = rises_above c.pass.stamp s.notes n (steps_rise k s.notes c s.are) there in omega (arith, later, known))

  -- ---- all actors

  as_many : (k : Codec C) (crew after : List (ActorCrew C)) → AllStepped k crew after → length crew ≡ length after
  as_many k [] [] h = refl
  as_many k [] (d ∷ after) h = absurd h
  as_many k (c ∷ crew) [] h = absurd h
  as_many k (c ∷ crew) (d ∷ after) h = let rest = as_many k crew after h.1 in omega (arith, rest)

  stepped_at : (k : Codec C) (crew after : List (ActorCrew C)) (i : ℕ) (c d : ActorCrew C) → AllStepped k crew after → slice_get crew i ≡ Some c → slice_get after i ≡ Some d → Stepped k c d
  stepped_at k [] after i c d h there there_d = cc
  stepped_at k (x ∷ crew) [] i c d h there there_d = absurd h
  stepped_at k (x ∷ crew) (y ∷ after) zero c d h there there_d =
      subst (λ z. Stepped k z d) (same_Some x c there) (subst (Stepped k x) (same_Some y d there_d) h.0)
  stepped_at k (x ∷ crew) (y ∷ after) (suc i) c d h there there_d = stepped_at k crew after i c d h.1 there there_d

  numbered : (k : Codec C) (fine_top top first : ℕ) (crew after : List (ActorCrew C)) → AllStepped k crew after
      → ((i n : ℕ) (c : ActorCrew C) → n ≡ first + i → slice_get crew i ≡ Some c → IsFineCrew fine_top n c × (c.pass.stamp ≡ top)) → AreNumbered (λ n. n.actor) first (lists_of after)
  numbered k fine_top top first [] [] h each = tt
  numbered k fine_top top first [] (d ∷ after) h each = absurd h
  numbered k fine_top top first (c ∷ crew) [] h each = absurd h
  numbered k fine_top top first (c ∷ crew) (d ∷ after) h each =
      let own = each 0 first c (omega arith) refl in (
        list_ours k fine_top top first c d own.0 own.1 h.0,
        list_climbs k fine_top top first c d own.0 own.1 h.0,
        numbered k fine_top top (suc first) crew after h.1 (λ i n x n_is there. each (suc i) n x (omega (arith, n_is)) there),
      )

  -- ---- the books

  module _ (k : Codec C) (top : ℕ) (w v : WorldState C) (begins : Begins top w) (worked : Worked k top w v) where
    each_fine : (i n : ℕ) (c : ActorCrew C) → n ≡ 0 + i → slice_get w.crew i ≡ Some c → IsFineCrew top n c × (c.pass.stamp ≡ top)
    each_fine i n c n_is there = (begins.fine.crew.each i n c n_is there, begins.known.each i c there)

    lists_numbered : AreNumbered (λ n. n.actor) 0 (lists_of v.crew)
    lists_numbered = numbered k top top 0 w.crew v.crew worked.crew each_fine

    -- no note and no entry from before the round is above the stamp
    lists_below : (first : ℕ) (crew : List (ActorCrew C))
        → ((i n : ℕ) (c : ActorCrew C) → n ≡ first + i → slice_get crew i ≡ Some c → IsFineCrew top n c × (c.pass.stamp ≡ top))
        → (n : Note) → Occurs n (lists_of crew) → n.stamp ≤ top
    lists_below first [] each n none = absurd none
    lists_below first (c ∷ crew) each n (inl here) =
        let own = each 0 first c (omega arith) refl in
        let below = every_in (λ m. m.stamp ≤ last_noted 0 c.list) c.list n (stamps_below 0 c.list own.0.rises) here in
        omega (arith, below, own.0.known, own.1)
    lists_below first (c ∷ crew) each n (inr later) = lists_below (suc first) crew (λ i m x m_is there. each (suc i) m x (omega (arith, m_is)) there) n later

    journals_below : (n : Note) → Occurs n (journals_of w.books) → n.stamp ≤ top
    journals_below n there = ⊎_elim
        (λ later.
        let where_is = occurs_where (journals_of w.books) n there in
        let found = (begins.fine.paired top).entries where_is.0 n where_is.1 where_is.2 later in
        lists_below 0 w.crew each_fine n (occurs_from (lists_of w.crew) found.0 n found.1 found.2))
        (λ below. below)
        (cases_lt top n.stamp)

    stamped : BooksAreStamped w.books
    stamped = begins.fine.journals

    grew : BooksGrew top w.books v.books
    grew = worked.books

    journals_numbered : AreNumbered (λ n. book_of_ask n.ask) 0 (journals_of v.books)
    journals_numbered = (
      of_book (send_note A) 0 (λ e. refl) v.books.send_a.journal,
      journal_climbs sending.reply_to sending.after_call (send_note A) (λ e. refl) top w.books.send_a v.books.send_a stamped.send_a grew.send_a,
      (
        of_book (send_note B) 1 (λ e. refl) v.books.send_b.journal,
        journal_climbs sending.reply_to sending.after_call (send_note B) (λ e. refl) top w.books.send_b v.books.send_b stamped.send_b grew.send_b,
        (
          of_book (reassembly_note A) 2 (λ e. refl) v.books.reassembly_a.journal,
          journal_climbs arriving.reply_to arriving.after_call (reassembly_note A) (λ e. refl) top w.books.reassembly_a v.books.reassembly_a stamped.reassembly_a grew.reassembly_a,
          (
            of_book (reassembly_note B) 3 (λ e. refl) v.books.reassembly_b.journal,
            journal_climbs arriving.reply_to arriving.after_call (reassembly_note B) (λ e. refl) top w.books.reassembly_b v.books.reassembly_b stamped.reassembly_b grew.reassembly_b,
            (
              of_book (control_note A) 4 (λ e. refl) v.books.control_a.journal,
              journal_climbs controlling.reply_to control.after (control_note A) (λ e. refl) top w.books.control_a v.books.control_a stamped.control_a grew.control_a,
              (
                of_book (control_note B) 5 (λ e. refl) v.books.control_b.journal,
                journal_climbs controlling.reply_to control.after (control_note B) (λ e. refl) top w.books.control_b v.books.control_b stamped.control_b grew.control_b,
                tt,
              ),
            ),
          ),
        ),
      ),
    )

    abbrev pub order : List Note
    order = in_order top (lists_of v.crew)

    asked_at : (b : ℕ) (journal : List Note) → b < 6 → slice_get (journals_of v.books) b ≡ Some journal → at_book b order ≡ above top journal
    asked_at b journal small there =
        asked_in_order top (λ n. book_of_ask n.ask) (lists_of v.crew) (journals_of v.books) b journal lists_numbered journals_numbered there
        (λ n is. not_local n.ask b is small) worked.paired

    all_fit : BooksFit order w.books v.books
    all_fit = record {
      send_a = journal_fits sending.reply_to sending.after_call (send_note A) (λ e. refl) top w.books.send_a v.books.send_a stamped.send_a grew.send_a (at_book 0 order) (asked_at 0 _ (omega arith) refl)
          (λ n there. journals_below n (inl there));
      send_b = journal_fits sending.reply_to sending.after_call (send_note B) (λ e. refl) top w.books.send_b v.books.send_b stamped.send_b grew.send_b (at_book 1 order) (asked_at 1 _ (omega arith) refl)
          (λ n there. journals_below n (inr (inl there)));
      reassembly_a = journal_fits arriving.reply_to arriving.after_call (reassembly_note A) (λ e. refl) top w.books.reassembly_a v.books.reassembly_a stamped.reassembly_a grew.reassembly_a (at_book 2 order)
          (asked_at 2 _ (omega arith) refl) (λ n there. journals_below n (inr (inr (inl there))));
      reassembly_b = journal_fits arriving.reply_to arriving.after_call (reassembly_note B) (λ e. refl) top w.books.reassembly_b v.books.reassembly_b stamped.reassembly_b grew.reassembly_b (at_book 3 order)
          (asked_at 3 _ (omega arith) refl) (λ n there. journals_below n (inr (inr (inr (inl there)))));
      control_a = journal_fits controlling.reply_to control.after (control_note A) (λ e. refl) top w.books.control_a v.books.control_a stamped.control_a grew.control_a (at_book 4 order)
          (asked_at 4 _ (omega arith) refl) (λ n there. journals_below n (inr (inr (inr (inr (inl there))))));
      control_b = journal_fits controlling.reply_to control.after (control_note B) (λ e. refl) top w.books.control_b v.books.control_b stamped.control_b grew.control_b (at_book 5 order)
          (asked_at 5 _ (omega arith) refl) (λ n there. journals_below n (inr (inr (inr (inr (inr (inl there)))))));
    }

    crew_fits : (i : ℕ) (c d : ActorCrew C) → slice_get w.crew i ≡ Some c → slice_get v.crew i ≡ Some d → AreStepsOf k (ours i order) c × (d ≡ after_notes k (ours i order) c)
    crew_fits i c d there there_d =
        let s = stepped_at k w.crew v.crew i c d worked.crew there there_d in
        let own = each_fine i i c (omega arith) there in
        let listed : slice_get (lists_of v.crew) i ≡ Some d.list = slice_get_mapped v.crew i d there_d in
        let same : s.notes ≡ ours i order
        = sym (ours_in_order top (lists_of v.crew) i d.list lists_numbered listed ∙ list_above k top top i c d own.0 own.1 s) in
        subst (λ ns. AreStepsOf k ns c × (d ≡ after_notes k ns c)) same (s.are, s.is)
      where
        slice_get_mapped : (crew : List (ActorCrew C)) (i : ℕ) (d : ActorCrew C) → slice_get crew i ≡ Some d → slice_get (lists_of crew) i ≡ Some d.list
        slice_get_mapped [] i d there = cc
        slice_get_mapped (x ∷ crew) zero d there = ap (λ y. Some y.list) (same_Some x d there)
        slice_get_mapped (x ∷ crew) (suc i) d there = slice_get_mapped crew i d there

    fits : OrderFits k order w v
    fits = record {
      many = as_many k w.crew v.crew worked.crew;
      known = λ n there.
          let where_is = in_order_of top (lists_of v.crew) n there in
          let below = numbered_below (λ m. m.actor) 0 (lists_of v.crew) n lists_numbered where_is.0 in
          omega (arith, below, length-map v.crew (λ c. c.list), as_many k w.crew v.crew worked.crew);
      crew = crew_fits;
      books = all_fit;
    }

    pub woven_runs : Runs k order w v
    woven_runs = order_runs k order w v fits
