-- An announcement goes out as the path was told in the same turn, and as the control book was asked, whatever the order of the steps.
use Rattle.world_laws.proofs.Words.{◌≡◌, refl, sym, ◌∙◌, ap, subst, ℕ, ◌+◌, ◌&&◌, not, inl, inr, ◌⊎◌, ⊎_elim, Bool, true, false, if◌then◌else◌}
use Rattle.world_laws.proofs.Words.{Option, Some, None, List, [], ◌∷◌, ◌++◌, both_ways, false≢true, true≢false, append-nil, append_assoc}
use Rattle.world_laws.proofs.Words.{same_Some, slice_get, IfSome, Entry, Pass, entry_of, is_member, no_ids, Side, A, B, ControlCall, ControlReply, Notice}
use Rattle.world_laws.proofs.Words.{is_dead, start_of_turn, Duty, SendDuty, StepDuty, OwnNotice, Ask, Note, Reply, StampedBooks, books_in, after_entry}
use Rattle.world_laws.proofs.Words.{control_of, reply_of, is_nil, Codec, stands, ask_for, passed, answered, PathEnd, first_sends, after_notice, after_look}
use Rattle.world_laws.proofs.Words.{may_note, waiting_path, first_turn, PathState, end_at, goes_on, with_agenda, settled, answers, asks_of, asks_first, takes}
use Rattle.world_laws.proofs.Words.{begins_turn, IsSettled, in_map, in_set, App, Path, control_journal, Actor, ActorCrew, member_asks, member_takes}
use Rattle.world_laws.proofs.Words.{member_next, is_over, told_to_announce, ends_turn, look_after, look_of_turn, is_wanted, WasTold, AnnouncesAsTold}
use Rattle.world_laws.proofs.Words.{AnnouncementsEnd, Always, PathPlan, Start, path_begins, opened_world, looks, WorldState, Turn, crew_after}
use Rattle.world_laws.proofs.Words.{greatest, begins, world_run, note_of}
use Rattle.world_laws.proofs.Rounds.Lifting.{all_over_each}
use Rattle.world_laws.proofs.Worlds.Turns.{run_so}
use Rattle.std.proofs.Common.{eqb-true}
use Rattle.control_book.specs.Replies as controlling
use Rattle.control_book.specs.Steps as control
use Rattle.world_laws.proofs.Announcements.LookThenNote.{comes, IsReady, start_ready, ready_rest, mild_or, answered_ready, mild_passed, mild_comes, mild_goes_on}
use Rattle.world_laws.proofs.Announcements.ToBeNoted.{is_queued, is_noted, pushed, IsMild, passed_sheds, answered_sheds, mild_holds, passed_holds, sheds_at, holds_at}
use Rattle.world_laws.proofs.Announcements.SaidAsNoted.{first_noted}
use Rattle.world_laws.proofs.Weaving.Journals.{books_after}
use Rattle.world_laws.proofs.Worlds.Opened.{opened_actors}
use Rattle.world_laws.proofs.Worlds.Settled.{settled_settled}
use Rattle.world_laws.proofs.Standby.OneDutyLooks.{MayNotLook, look_isn't, looks_none}
use Rattle.world_laws.proofs.Announcements.Wanted.{Wants, no_member, wants_once, wanted_push, look_due}

-- ---- a path, whatever it is to be told of an id

-- each announcement that an end has to note was told, and the end notes it in this turn
record Knows {C : Type 0} (s : Side) (Told : ℕ → Type 0) (ds : List Duty) (p : PathState C) : Type 0 where
  ready : IsReady s ds
  each : (id : ℕ) → is_noted id (end_at s p) ≡ true → Told id × (may_note (end_at s p) ≡ true) × (comes s ds ≡ true)

-- by a step that is no look of the side, and doesn't end the turn, what was told stays so
abbrev Stays : Side → (ℕ → Type 0) → (ℕ → Type 0) → Ask → Type 0
Stays s Told New x = looks s x ≡ false → ends_turn x ≡ false → (id : ℕ) → Told id → New id

-- and a look of the side tells it anew
abbrev Comes : Side → (ℕ → Type 0) → Ask → Reply → Type 0
Comes s New x r = looks s x ≡ true → (id : ℕ) → told_to_announce r ≡ Some id → New id

queued_some : (id : ℕ) (queue : List OwnNotice) → is_queued id queue ≡ true → not (is_nil queue) ≡ true
queued_some id [] h = absurd (false≢true h)
queued_some id (notice ∷ queue) h = refl

-- a look puts nothing there but what it tells, where the end may note it
look_end : (id : ℕ) (r : Reply) (e : PathEnd) → is_noted id (after_look r e) ≡ true → (is_noted id e ≡ true) ⊎ ((told_to_announce r ≡ Some id) × (may_note (after_look r e) ≡ true))
look_end id (Reply.Control (ControlReply.Standing mode standby sole notice)) e h = by (is_dead e.tcp.state) notice h
  where
    new : (other : ℕ) → is_queued id (e.notices.queue ++ OwnNotice.AddAddr other ∷ []) ≡ true → may_note e ≡ true
        → (is_noted id e ≡ true) ⊎ ((told_to_announce (Reply.Control (ControlReply.Standing mode standby sole (Notice.Announce other))) ≡ Some id) × (may_note e ≡ true))
    new other h may = elim (pushed id e.notices.queue (OwnNotice.AddAddr other) h) [ inl old ↦ inl old | inr is ↦ inr (ap (λ n. Some n) (eqb-true other id is), may) ]

    announced : (other : ℕ) (may : Bool) → may_note e ≡ may → is_queued id (if may then record e.notices { queue = e.notices.queue ++ OwnNotice.AddAddr other ∷ [] } else e.notices).queue ≡ true
        → (is_noted id e ≡ true) ⊎ ((told_to_announce (Reply.Control (ControlReply.Standing mode standby sole (Notice.Announce other))) ≡ Some id) × (may_note e ≡ true))
    announced other true may h = new other h may
    announced other false may h = inl h

    removed : (other : ℕ) → is_queued id (e.notices.queue ++ OwnNotice.Removes other ∷ []) ≡ true → is_noted id e ≡ true
    removed other h = elim (pushed id e.notices.queue (OwnNotice.Removes other) h) [ inl old ↦ old | inr never ↦ absurd (false≢true never) ]

    by : (dead : Bool) (notice : Notice) → is_queued id (if dead then e.notices else after_notice notice (may_note e) e.notices).queue ≡ true
        → (is_noted id e ≡ true) ⊎ ((told_to_announce (Reply.Control (ControlReply.Standing mode standby sole notice)) ≡ Some id) × (may_note e ≡ true))
    by true notice h = inl h
    by false Notice.Nothing h = inl h
    by false (Notice.Announce other) h = announced other (may_note e) refl h
    by false (Notice.Withdraw other) h = inl (removed other h)
    by false (Notice.Carrier key) h = inl h
    by false Notice.Reset h = inl h
look_end id _ e h = inl h

-- a duty is a look or isn't
look_or : (d : Duty) → MayNotLook d ⊎ ((t : Side) × (d ≡ Duty.Step (StepDuty.Look t)))
look_or (Duty.Step (StepDuty.Look t)) = inr (t, refl)
look_or _ = inl tt

module _ {C : Type 0} (k : Codec C) (s : Side) where
  -- ---- what comes to nothing

  -- the duty that notes stands as long as the end may note something
  note_left : (p : PathState C) (id : ℕ) → stands (Duty.Send (SendDuty.Notice s)) p ≡ false → is_noted id (end_at s p) ≡ true → may_note (end_at s p) ≡ true → ⊥
  note_left p id off noted may = both_ways (stands (Duty.Send (SendDuty.Notice s)) p) off (ap (λ b. b && not (is_nil (end_at s p).notices.queue)) may ∙ queued_some id (end_at s p).notices.queue noted)

  abbrev Each : (ℕ → Type 0) → List Duty → PathState C → ℕ → Type 0
  Each Told ds p id = Told id × (may_note (end_at s p) ≡ true) × (comes s ds ≡ true)

  module _ (Told : ℕ → Type 0) where
    mild_next : (d : Duty) (ds : List Duty) (p : PathState C) → IsMild d → stands d p ≡ false → (id : ℕ) → is_noted id (end_at s (passed d p)) ≡ true → is_noted id (end_at s p) ≡ true
        → Each Told (d ∷ ds) p id → Each Told ds (passed d p) id
    mild_next d ds p mild off id now was old =
        elim (mild_passed d mild s ds old.2) [
          | inl ahead ↦ (old.0, holds_at s p (passed d p) (passed_holds d mild p) id now old.1, ahead)
          | inr is ↦ absurd (note_left p id (subst (λ x. stands x p ≡ false) is off) was old.1)
        ]

    each_next : (d : Duty) (ds : List Duty) (p : PathState C) → stands d p ≡ false → (id : ℕ) → is_noted id (end_at s (passed d p)) ≡ true → is_noted id (end_at s p) ≡ true
        → Each Told (d ∷ ds) p id → Each Told ds (passed d p) id
    each_next d ds p off id now was old =
        elim (look_or d) [
          | inl free ↦ elim (mild_or d free) [
            | inl mild ↦ mild_next d ds p mild off id now was old
            | inr none ↦ absurd (both_ways (comes s (d ∷ ds)) (none s ds) old.2)
          ]
          | inr look ↦ absurd (true≢false (subst (λ x. stands x p ≡ false) look.1 off))
        ]

    next_knows : (d : Duty) (ds : List Duty) (p : PathState C) → stands d p ≡ false → Knows s Told (d ∷ ds) p → Knows s Told ds (passed d p)
    next_knows d ds p off h = record { ready = ready_rest s d ds h.ready; each = at }
      where
        at : (id : ℕ) → is_noted id (end_at s (passed d p)) ≡ true → Each Told ds (passed d p) id
        at id now = let was = sheds_at s p (passed d p) (passed_sheds d p) id now in each_next d ds p off id now was (h.each id was)

    settled_knows : (ds : List Duty) (p : PathState C) → Knows s Told ds p → Knows s Told (settled ds p).agenda (settled ds p)
    settled_knows [] p h = record { ready = tt; each = λ id noted. h.each id noted }
    settled_knows (d ∷ ds) p h = by (stands d p) refl (λ off. settled_knows ds (passed d p) (next_knows d ds p off h))
      where
        by : (b : Bool) → stands d p ≡ b → (stands d p ≡ false → Knows s Told (settled ds (passed d p)).agenda (settled ds (passed d p)))
            → Knows s Told (if b then with_agenda (d ∷ ds) p else settled ds (passed d p)).agenda (if b then with_agenda (d ∷ ds) p else settled ds (passed d p))
        by true is rest = record { ready = h.ready; each = λ id noted. h.each id noted }
        by false is rest = rest is

  -- ---- what is answered

  module _ (Told New : ℕ → Type 0) where
    -- a duty that is no look
    free_goes : (d : Duty) (ds : List Duty) (r : Reply) (p : PathState C) → MayNotLook d → stands d (with_agenda (d ∷ ds) p) ≡ true → Stays s Told New (ask_for k d (with_agenda (d ∷ ds) p))
        → Knows s Told (d ∷ ds) (with_agenda (d ∷ ds) p)
        → Knows s New (answered k d r (with_agenda (d ∷ ds) p)).agenda (answered k d r (with_agenda (d ∷ ds) p))
    free_goes d ds r p free on stays h = record { ready = answered_ready s k d ds r p h.ready; each = at }
      where
        q : PathState C
        q = with_agenda (d ∷ ds) p

        at : (id : ℕ) → is_noted id (end_at s (answered k d r q)) ≡ true → Each New (answered k d r q).agenda (answered k d r q) id
        at id now =
            let old = h.each id (sheds_at s q (answered k d r q) (answered_sheds k d free r q) id now) in
            elim (mild_or d free) [
              | inl mild ↦ (
                stays (look_isn't s (ask_for k d q) (looks_none k q d free)) (mild_goes_on k d mild q on) id old.0,
                holds_at s q (answered k d r q) (mild_holds k d mild r q) id now old.1,
                mild_comes k d mild s ds r p old.2,
              )
              | inr none ↦ absurd (both_ways (comes s (d ∷ ds)) (none s ds) old.2)
            ]

-- a look, of the side or of the other one
look_goes : {C : Type 0} (k : Codec C) (s t : Side) (Told New : ℕ → Type 0) (ds : List Duty) (r : Reply) (p : PathState C) → Stays s Told New (ask_for k (Duty.Step (StepDuty.Look t)) p)
    → Comes s New (ask_for k (Duty.Step (StepDuty.Look t)) p) r → Knows s Told (Duty.Step (StepDuty.Look t) ∷ ds) p
    → Knows s New ds (goes_on t (after_look r (end_at t p)) ds p)
look_goes k A A Told New ds r p stays comes_so h = record { ready = h.ready.1; each = at }
  where
    at : (id : ℕ) → is_noted id (after_look r p.a) ≡ true → New id × (may_note (after_look r p.a) ≡ true) × (comes A ds ≡ true)
    at id now = elim (look_end id r p.a now) [ inl was ↦ absurd (false≢true (h.each id was).2) | inr is ↦ (comes_so refl id is.0, is.1, h.ready.0 refl) ]
look_goes k B B Told New ds r p stays comes_so h = record { ready = h.ready.1; each = at }
  where
    at : (id : ℕ) → is_noted id (after_look r p.b) ≡ true → New id × (may_note (after_look r p.b) ≡ true) × (comes B ds ≡ true)
    at id now = elim (look_end id r p.b now) [ inl was ↦ absurd (false≢true (h.each id was).2) | inr is ↦ (comes_so refl id is.0, is.1, h.ready.0 refl) ]
look_goes k A B Told New ds r p stays comes_so h = record { ready = h.ready.1; each = λ id now. let old = h.each id now in (stays refl refl id old.0, old.1, old.2) }
look_goes k B A Told New ds r p stays comes_so h = record { ready = h.ready.1; each = λ id now. let old = h.each id now in (stays refl refl id old.0, old.1, old.2) }

module _ {C : Type 0} (k : Codec C) (s : Side) (Told New : ℕ → Type 0) where
  duty_goes : (d : Duty) (ds : List Duty) (r : Reply) (p : PathState C) → stands d (with_agenda (d ∷ ds) p) ≡ true → Stays s Told New (ask_for k d (with_agenda (d ∷ ds) p))
      → Comes s New (ask_for k d (with_agenda (d ∷ ds) p)) r → Knows s Told (d ∷ ds) (with_agenda (d ∷ ds) p)
      → Knows s New (answered k d r (with_agenda (d ∷ ds) p)).agenda (answered k d r (with_agenda (d ∷ ds) p))
  duty_goes (Duty.Step (StepDuty.Look t)) ds r p on stays comes_so h = look_goes k s t Told New ds r (with_agenda (Duty.Step (StepDuty.Look t) ∷ ds) p) stays comes_so h
  duty_goes (Duty.Step StepDuty.Events) ds r p on stays comes_so h = free_goes k s Told New (Duty.Step StepDuty.Events) ds r p tt on stays h
  duty_goes d ds r p on stays comes_so h = free_goes k s Told New d ds r p tt on stays h

  takes_knows : (x : Ask) (r : Reply) (p : PathState C) → asks_of k p ≡ Some x → IsSettled p → Stays s Told New x → Comes s New x r → Knows s Told p.agenda p
      → Knows s New (takes k r p).agenda (takes k r p)
  takes_knows x r p asks first stays comes_so h = by p.agenda asks first h
    where
      by : (ds : List Duty) → asks_first k ds (with_agenda ds p) ≡ Some x → IsSettled (with_agenda ds p) → Knows s Told ds (with_agenda ds p) → Knows s New (takes k r (with_agenda ds p)).agenda (takes k r (with_agenda ds p))
      by [] asks first h = let never : None ≡ Some x = asks in cc
      by (d ∷ ds) asks first h =
          let q : PathState C = answered k d r (with_agenda (d ∷ ds) p) in
          let is : x ≡ ask_for k d (with_agenda (d ∷ ds) p) = sym (same_Some (ask_for k d (with_agenda (d ∷ ds) p)) x asks) in
          settled_knows k s New q.agenda q (duty_goes d ds r p first (subst (Stays s Told New) is stays) (subst (λ y. Comes s New y r) is comes_so) h)

-- ---- what was told

-- one step more
look_push : (s : Side) (before : Option Note) (notes : List Note) (n : Note) → look_of_turn s before (notes ++ n ∷ []) ≡ look_after s n (look_of_turn s before notes)
look_push s before [] n = refl
look_push s before (note ∷ notes) n = look_push s (look_after s note before) notes n

abbrev Journal : Type 0
Journal = List (Entry ControlCall ControlReply)

told_more : (s : Side) (id : ℕ) (notes later : List Note) (journal longer : Journal) → look_of_turn s None later ≡ look_of_turn s None notes → (more : Journal) → longer ≡ journal ++ more
    → WasTold s id notes journal → WasTold s id later longer
told_more s id notes later journal longer look more grows h = record {
  look = h.look;
  in_turn = look ∙ h.in_turn;
  told = h.told;
  earlier = h.earlier;
  entry = h.entry;
  later = h.later ++ more;
  parts = grows ∙ ap (λ xs. xs ++ more) h.parts ∙ append_assoc h.earlier (h.entry ∷ h.later) more;
  entered = h.entered;
  wanted = h.wanted;
}

journal_more : (s : Side) (x : Ask) (pass : Pass) (books : StampedBooks) → (more : Journal) × ((control_journal s (after_entry x pass books)).journal ≡ (control_journal s books).journal ++ more)
journal_more s (Ask.Send t call) pass books = ([], sym (append-nil (control_journal s books).journal))
journal_more s (Ask.Reassembly t call) pass books = ([], sym (append-nil (control_journal s books).journal))
journal_more s (Ask.Local step) pass books = ([], sym (append-nil (control_journal s books).journal))
journal_more A (Ask.Control A call) pass books = (entry_of controlling.reply_to control.after books.control_a pass call ∷ [], refl)
journal_more B (Ask.Control B call) pass books = (entry_of controlling.reply_to control.after books.control_b pass call ∷ [], refl)
journal_more A (Ask.Control B call) pass books = ([], sym (append-nil books.control_a.journal))
journal_more B (Ask.Control A call) pass books = ([], sym (append-nil books.control_b.journal))

-- an id that is due is wanted by the calls of the journal
abbrev BooksAre : StampedBooks → Type 0
BooksAre books = (s : Side) (id : ℕ) → Wants id (control_of s (books_in books)) (is_wanted id false (control_journal s books).journal)

books_keep : (x : Ask) (pass : Pass) (books : StampedBooks) → BooksAre books → BooksAre (after_entry x pass books)
books_keep (Ask.Send t call) pass books h = λ s id. h s id
books_keep (Ask.Reassembly t call) pass books h = λ s id. h s id
books_keep (Ask.Local step) pass books h = h
books_keep (Ask.Control t call) pass books h = λ s id. by t s id
  where
    by : (t s : Side) (id : ℕ) → Wants id (control_of s (books_in (after_entry (Ask.Control t call) pass books))) (is_wanted id false (control_journal s (after_entry (Ask.Control t call) pass books)).journal)
    by A A id =
        let e = entry_of controlling.reply_to control.after books.control_a pass call in
        subst (λ six. Wants id six.control_a (is_wanted id false (books.control_a.journal ++ e ∷ []))) (sym (books_after (Ask.Control A call) pass books))
        (subst (Wants id (control.after (books_in books).control_a call)) (sym (wanted_push id false books.control_a.journal e))
        (wants_once (books_in books).control_a call id (is_wanted id false books.control_a.journal) (h A id)))
    by B B id =
        let e = entry_of controlling.reply_to control.after books.control_b pass call in
        subst (λ six. Wants id six.control_b (is_wanted id false (books.control_b.journal ++ e ∷ []))) (sym (books_after (Ask.Control B call) pass books))
        (subst (Wants id (control.after (books_in books).control_b call)) (sym (wanted_push id false books.control_b.journal e))
        (wants_once (books_in books).control_b call id (is_wanted id false books.control_b.journal) (h B id)))
    by A B id = h B id
    by B A id = h A id

-- a look of the side that tells to announce an id
look_tells : (s : Side) (path id : ℕ) (notes : List Note) (pass : Pass) (books : StampedBooks) → BooksAre books → told_to_announce (reply_of (books_in books) (Ask.Control s (ControlCall.Look path))) ≡ Some id
    → WasTold s id (notes ++ note_of books pass (Ask.Control s (ControlCall.Look path)) ∷ []) (control_journal s (after_entry (Ask.Control s (ControlCall.Look path)) pass books)).journal
look_tells A path id notes pass books h told = record {
  look = note_of books pass (Ask.Control A (ControlCall.Look path));
  in_turn = look_push A None notes (note_of books pass (Ask.Control A (ControlCall.Look path)));
  told = told;
  earlier = books.control_a.journal;
  entry = entry_of controlling.reply_to control.after books.control_a pass (ControlCall.Look path);
  later = [];
  parts = refl;
  entered = refl;
  wanted = (h A id (look_due (books_in books).control_a path id told)).1;
}
look_tells B path id notes pass books h told = record {
  look = note_of books pass (Ask.Control B (ControlCall.Look path));
  in_turn = look_push B None notes (note_of books pass (Ask.Control B (ControlCall.Look path)));
  told = told;
  earlier = books.control_b.journal;
  entry = entry_of controlling.reply_to control.after books.control_b pass (ControlCall.Look path);
  later = [];
  parts = refl;
  entered = refl;
  wanted = (h B id (look_due (books_in books).control_b path id told)).1;
}

look_is : (s : Side) (x : Ask) → looks s x ≡ true → (path : ℕ) × (x ≡ Ask.Control s (ControlCall.Look path))
look_is A (Ask.Control A (ControlCall.Look path)) is = (path, refl)
look_is B (Ask.Control B (ControlCall.Look path)) is = (path, refl)
look_is A _ is = absurd (false≢true is)
look_is B _ is = absurd (false≢true is)

turned : {X : Type 0} (N Q : ℕ → X → Type 0) (o : Option X) → ((id : ℕ) → IfSome o (N id)) → ((x : X) (id : ℕ) → N id x → Q id x) → IfSome o (λ x. (id : ℕ) → Q id x)
turned N Q None f g = tt
turned N Q (Some x) f g = λ id. g x id (f id)

-- ---- an actor and its list

abbrev ToldBy : Side → List Note → StampedBooks → ℕ → Type 0
ToldBy s notes books id = WasTold s id notes (control_journal s books).journal

module _ {C : Type 0} (k : Codec C) where
  abbrev MemberIs : StampedBooks → List Note → Actor C → Type 0
  MemberIs books notes (App a) = Unit {0}
  MemberIs books notes (Path p) = IsSettled p × ((s : Side) → Knows s (ToldBy s notes books) p.agenda p)

  -- by a step of another actor
  others_keep : (x : Ask) (pass : Pass) (books : StampedBooks) (notes : List Note) (m : Actor C) → MemberIs books notes m → MemberIs (after_entry x pass books) notes m
  others_keep x pass books notes (App a) h = tt
  others_keep x pass books notes (Path p) h = (h.0, λ s. at s (h.1 s))
    where
      at : (s : Side) → Knows s (ToldBy s notes books) p.agenda p → Knows s (ToldBy s notes (after_entry x pass books)) p.agenda p
      at s g =
          let grows = journal_more s x pass books in
          record {
            ready = g.ready;
            each = λ id noted. let old = g.each id noted in (told_more s id notes notes _ _ refl grows.0 grows.1 old.0, old.1, old.2);
          }

  -- by its own
  own_goes : (x : Ask) (pass : Pass) (books : StampedBooks) (notes : List Note) (m : Actor C) → BooksAre books → member_asks k m ≡ Some x → MemberIs books notes m
      → MemberIs (after_entry x pass books) (notes ++ note_of books pass x ∷ []) (member_takes k (reply_of (books_in books) x) m)
  own_goes x pass books notes (App a) are asks h = tt
  own_goes x pass books notes (Path p) are asks h = (takes_settled, λ s. takes_knows k s (ToldBy s notes books) (ToldBy s (notes ++ n ∷ []) (after_entry x pass books)) x r p asks h.0 (stays s) (comes_so s) (h.1 s))
    where
      r : Reply
      r = reply_of (books_in books) x

      n : Note
      n = note_of books pass x

      takes_settled : IsSettled (takes k r p)
      takes_settled = let q : PathState C = answers k p.agenda r p in settled_settled q.agenda q

      unchanged : (s : Side) → looks s x ≡ false → ends_turn x ≡ false → look_of_turn s None (notes ++ n ∷ []) ≡ look_of_turn s None notes
      unchanged s no_look no_end = look_push s None notes n ∙ ap (λ b. if b then Some n else (if ends_turn x then None else look_of_turn s None notes)) no_look ∙ ap (λ b. if b then None else look_of_turn s None notes) no_end

      stays : (s : Side) → looks s x ≡ false → ends_turn x ≡ false → (id : ℕ) → ToldBy s notes books id → ToldBy s (notes ++ n ∷ []) (after_entry x pass books) id
      stays s no_look no_end id old =
          let grows = journal_more s x pass books in told_more s id notes (notes ++ n ∷ []) _ _ (unchanged s no_look no_end) grows.0 grows.1 old

      comes_so : (s : Side) → looks s x ≡ true → (id : ℕ) → told_to_announce r ≡ Some id → ToldBy s (notes ++ n ∷ []) (after_entry x pass books) id
      comes_so s look id =
          let is = look_is s x look in
          subst (λ y. told_to_announce (reply_of (books_in books) y) ≡ Some id → ToldBy s (notes ++ note_of books pass y ∷ []) (after_entry y pass books) id) (sym is.1)
          (look_tells s is.0 id notes pass books are)

  -- ---- rounds

  -- a turn that is over has nothing left to announce
  over_none : (s : Side) (Told : ℕ → Type 0) (p : PathState C) → is_nil p.agenda ≡ true → Knows s Told p.agenda p → (id : ℕ) → is_noted id (end_at s p) ≡ true → ⊥
  over_none s Told p over h id noted = (elim p.agenda as (λ ds. is_nil ds ≡ true → comes s ds ≡ true → ⊥)
      [ [] ↦ λ over ahead. false≢true ahead | d ∷ ds ↦ λ over ahead. false≢true over ]) over (h.each id noted).2

  begins_knows : (s : Side) (Told : ℕ → Type 0) (p : PathState C) → ((id : ℕ) → is_noted id (end_at s p) ≡ true → ⊥) → Knows s Told (begins_turn p).agenda (begins_turn p)
  begins_knows s Told p none = settled_knows k s Told start_of_turn (with_agenda start_of_turn p) (record { ready = start_ready s; each = λ id noted. absurd (none id noted) })

  member_goes_on : (books : StampedBooks) (notes : List Note) (m : Actor C) → is_over m ≡ true → MemberIs books notes m → MemberIs books notes (member_next m)
  member_goes_on books notes (App a) over h = tt
  member_goes_on books notes (Path p) over h =
      let q : PathState C = record p { clock = p.until; until = p.until + 100 } in
      (settled_settled start_of_turn (with_agenda start_of_turn q), λ s. begins_knows s (ToldBy s notes books) q (over_none s (ToldBy s notes books) p over (h.1 s)))

  -- ---- worlds

  record WorldIs (w : WorldState C) : Type 0 where
    crew : (i : ℕ) (c : ActorCrew C) → slice_get w.crew i ≡ Some c → MemberIs w.books c.list c.member
    books : BooksAre w.books

  run_is : (turns : List Turn) (w : WorldState C) → WorldIs w → WorldIs (world_run k turns w)
  run_is = run_so k WorldIs
      (λ w h actor c x there is. record {
        crew = λ i d at. ⊎_elim
            (λ here. subst (λ e. MemberIs (after_entry x c.pass w.books) e.list e.member) here.1 (own_goes x c.pass w.books c.list c.member h.books is (h.crew actor c there)))
            (λ other. others_keep x c.pass w.books d.list d.member (h.crew i d other.1))
            (in_set w.crew actor (crew_after k x w.books c) i d at);
        books = books_keep x c.pass w.books h.books;
      })
      (λ w h over. record {
        crew = λ i d at.
            let found = in_map (begins (greatest 0 w.crew)) w.crew i d at in
            subst (λ e. MemberIs w.books e.list e.member) found.2
            (member_goes_on w.books found.0.list found.0.member (all_over_each w.crew i found.0 over found.1) (h.crew i found.0 found.1));
        books = h.books;
      })

  opened_is : (start : Start) → WorldIs (opened_world start)
  opened_is start = record { crew = opened_actors (λ actor c. MemberIs (opened_world {C = C} start).books c.list c.member) start tt tt (λ number plan there. path number plan); books = books }
    where
      none : (number : ℕ) (plan : PathPlan) (s : Side) (id : ℕ) → is_noted id (end_at s (waiting_path {C = C} (path_begins start number plan) start.lines)) ≡ true → ⊥
      none number plan A id = false≢true
      none number plan B id = false≢true

      path : (number : ℕ) (plan : PathPlan) → MemberIs (opened_world {C = C} start).books [] (Path (first_turn (path_begins start number plan) start.lines))
      path number plan =
          let q : PathState C = waiting_path (path_begins start number plan) start.lines in
          (settled_settled start_of_turn (with_agenda start_of_turn q), λ s. begins_knows s (ToldBy s [] (opened_world {C = C} start).books) q (none number plan s))

      books : BooksAre (opened_world {C = C} start).books
      books A id = λ due. absurd (both_ways (is_member no_ids id) (no_member id) due)
      books B id = λ due. absurd (both_ways (is_member no_ids id) (no_member id) due)

  -- ---- the law

  tells : (books : StampedBooks) (notes : List Note) (m : Actor C) → MemberIs books notes m → AnnouncesAsTold books notes m
  tells books notes (App a) h = tt
  tells books notes (Path p) h = turned _ _ (first_sends p.agenda p) (λ id. first_noted id p p.agenda) (λ t id noted is. ((h.1 t.from).each id (noted is)).0)

pub announcements_end : {C : Type 0} (k : Codec C) → Always k (λ start w. AnnouncementsEnd w)
announcements_end k start turns =
    let w = run_is k turns (opened_world start) (opened_is k start) in
    record { each = λ actor c there. tells k (world_run k turns (opened_world start)).books c.list c.member (w.crew actor c there) }
