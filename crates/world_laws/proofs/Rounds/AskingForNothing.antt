-- At every moment an end of a path whose turn is over would ask for nothing, or was refused its last grant.
use Rattle.world_laws.proofs.Words.{◌≡◌, refl, sym, ◌∙◌, ap, subst, ℕ, ◌+◌, inl, inr, ⊎_elim, Bool, true, false, if◌then◌else◌, Option, Some, None, Result, Ok}
use Rattle.world_laws.proofs.Words.{Err, List, [], ◌∷◌, ◌++◌, length, drop, map, append-nil, append_assoc, same_Some, slice_get, Side, A, B, Span, Why, Sending}
use Rattle.world_laws.proofs.Words.{Record, start_of_turn, Duty, SendDuty, StepDuty, AskDuty, SilentDuty, Ask, Note, Reply, StampedBooks, books_in, Codec}
use Rattle.world_laws.proofs.Words.{ask_for, answered, waiting_path, PathState, end_at, with_agenda, asks_first, takes, begins_turn, answered_data}
use Rattle.world_laws.proofs.Words.{answered_grant, first_unsent, grant_in, data_ask, grant_ask, in_map, in_set, Every, App, Path, Actor, ActorCrew}
use Rattle.world_laws.proofs.Words.{member_asks, member_takes, member_next, Start, path_begins, opened_world, WorldState, crew_after, asked, stepped}
use Rattle.world_laws.proofs.Words.{world_step, all_over, greatest, begins, world_run, note_of, answer_to, asks_grant, is_no_grant, refused_after, last_refused}
use Rattle.world_laws.proofs.Words.{BeginsRound, InEachRound, steps_since, GrantsAreDone, AreDoneAsking, notes_at, notes_or}
use Rattle.send_book.specs.Steps as sending
use Rattle.path_core.specs.Emission.{Grant}
use Rattle.world_laws.specs.RoundNumbers.{after_steps}
use Rattle.world_laws.proofs.Rounds.GrantAtOneDuty.{MayNotAsk, asks_none, ask_isn't}
use Rattle.world_laws.proofs.Rounds.PiecesFit.{CrewFits, MemberFits, fits_at, paid_or_refused, round_fits}
use Rattle.world_laws.proofs.Rounds.EndsRefused.{Pays, Granting, is_followed, is_owed, is_paid, settled_done, data_sent, granted_done, refused_done, answered_done}
use Rattle.world_laws.proofs.Worlds.Opened.{opened_actors}

-- ---- steps more

refused_more : (s : Side) (before : Bool) (notes : List Note) (n : Note) → last_refused s before (notes ++ n ∷ []) ≡ refused_after s n (last_refused s before notes)
refused_more s before [] n = refl
refused_more s before (m ∷ notes) n = refused_more s (refused_after s m before) notes n

-- a step that asks for no bytes
other_step : (s : Side) (n : Note) (before : Bool) → asks_grant s n.ask ≡ false → refused_after s n before ≡ before
other_step s n before none = ap (λ (b : Bool). if b then is_no_grant n.reply else before) none

grant_step : (s : Side) (n : Note) (before : Bool) → asks_grant s n.ask ≡ true → refused_after s n before ≡ is_no_grant n.reply
grant_step s n before is = ap (λ (b : Bool). if b then is_no_grant n.reply else before) is

-- what is answered to a grant is a grant, or none
answered_none : (o : Result Span Why) (b : Sending) → grant_in (Reply.Send (sending.reply_by o b)) ≡ None → is_no_grant (Reply.Send (sending.reply_by o b)) ≡ true
answered_none = elim [ Ok span ↦ λ b none. cc | Err why ↦ λ b none. refl ]

-- the flags by the steps so far
abbrev flags_of : List Note → Side → Bool
flags_of notes s = last_refused s false notes

module _ {C : Type 0} where
  flags_same : (ds : List Duty) (p : PathState C) (f g : Side → Bool) → ((s : Side) → f s ≡ g s) → ((s : Side) → Pays p ds f s) → (s : Side) → Pays p ds g s
  flags_same ds p f g same each s = elim (each s)
      [ inl owed ↦ inl owed | inr paid ↦ inr (record { paid = λ none may. sym (same s) ∙ paid.paid none may; waits = paid.waits }) ]

  module _ (k : Codec C) (p : PathState C) (notes : List Note) (n : Note) where
    abbrev later : Side → Bool
    later = flags_of (notes ++ n ∷ [])

    unasked_flags : ((s : Side) → asks_grant s n.ask ≡ false) → (s : Side) → flags_of notes s ≡ later s
    unasked_flags none s = sym (refused_more s false notes n ∙ other_step s n (flags_of notes s) (none s))

    -- a duty that asks for no bytes
    other_duty : (d : Duty) (ds : List Duty) (r : Reply) → n.ask ≡ ask_for k d (with_agenda (d ∷ ds) p) → MayNotAsk d → is_followed (d ∷ ds) ≡ true
        → ((s : Side) → Pays (with_agenda (d ∷ ds) p) (d ∷ ds) (flags_of notes) s) → Granting (answered k d r (with_agenda (d ∷ ds) p)) later
    other_duty d ds r asks other f each =
        let same = unasked_flags (λ s. ap (asks_grant s) asks ∙ ask_isn't s (ask_for k d (with_agenda (d ∷ ds) p)) (asks_none k (with_agenda (d ∷ ds) p) d other)) in
        answered_done k r p later d ds other f (flags_same (d ∷ ds) (with_agenda (d ∷ ds) p) (flags_of notes) later same each)

    own_grant : (s : Side) → n.ask ≡ grant_ask s p → asks_grant s n.ask ≡ true
    own_grant = elim [ A ↦ λ is. ap (asks_grant A) is | B ↦ λ is. ap (asks_grant B) is ]

    other_grant : (s t : Side) → (t ≡ s → ⊥) → n.ask ≡ grant_ask s p → asks_grant t n.ask ≡ false
    other_grant A A apart is = absurd (apart refl)
    other_grant A B apart is = ap (asks_grant B) is
    other_grant B A apart is = ap (asks_grant A) is
    other_grant B B apart is = absurd (apart refl)

    -- a grant that was asked
    asked_duty : (s : Side) (ds : List Duty) (r : Reply) → first_unsent (end_at s p) ≡ None → n.ask ≡ grant_ask s p → n.reply ≡ r → (grant_in r ≡ None → is_no_grant r ≡ true) → is_followed (Duty.Step (StepDuty.Data s) ∷ ds) ≡ true
        → ((t : Side) → Pays (with_agenda (Duty.Step (StepDuty.Data s) ∷ ds) p) (Duty.Step (StepDuty.Data s) ∷ ds) (flags_of notes) t) → (o : Option Grant) → grant_in r ≡ o
        → Granting (answered_grant s o r (with_agenda (Duty.Step (StepDuty.Data s) ∷ ds) p)) later
    asked_duty s ds r unsent asks is refusal f each (Some grant) found = granted_done k r p later s ds grant f at
      where
        own : (s t : Side) → Pays (with_agenda (Duty.Step (StepDuty.Data s) ∷ ds) p) (Duty.Step (StepDuty.Data s) ∷ ds) (flags_of notes) t → n.ask ≡ grant_ask s p → Pays (with_agenda (Duty.Step (StepDuty.Data s) ∷ ds) p) (Duty.Step (StepDuty.Data s) ∷ ds) later t
        own A A h asks = inl refl
        own B B h asks = inl refl
        own A B (inl owed) asks = inl owed
        own A B (inr paid) asks = inr (record { paid = λ none may. refused_more B false notes n ∙ other_step B n (flags_of notes B) (ap (asks_grant B) asks) ∙ paid.paid none may; waits = paid.waits })
        own B A (inl owed) asks = inl owed
        own B A (inr paid) asks = inr (record { paid = λ none may. refused_more A false notes n ∙ other_step A n (flags_of notes A) (ap (asks_grant A) asks) ∙ paid.paid none may; waits = paid.waits })

        at : (t : Side) → Pays (with_agenda (Duty.Step (StepDuty.Data s) ∷ ds) p) (Duty.Step (StepDuty.Data s) ∷ ds) later t
        at t = own s t (each t) asks
    asked_duty s ds r unsent asks is refusal f each None found =
        refused_done k r p later s ds unsent (refused_more s false notes n ∙ grant_step s n (flags_of notes s) (own_grant s asks) ∙ ap is_no_grant is ∙ refusal found) f
        (λ t apart. other t apart (each t))
      where
        other : (t : Side) → (t ≡ s → ⊥) → Pays (with_agenda (Duty.Step (StepDuty.Data s) ∷ ds) p) (Duty.Step (StepDuty.Data s) ∷ ds) (flags_of notes) t → Pays (with_agenda (Duty.Step (StepDuty.Data s) ∷ ds) p) (Duty.Step (StepDuty.Data s) ∷ ds) later t
        other t apart (inl owed) = inl owed
        other t apart (inr paid) =
            inr (record { paid = λ none may. refused_more t false notes n ∙ other_step t n (flags_of notes t) (other_grant s t apart asks) ∙ paid.paid none may; waits = paid.waits })

    sent_isn't : (s t : Side) (u : Record) (q : PathState C) → n.ask ≡ data_ask k s (Some u) q → asks_grant t n.ask ≡ false
    sent_isn't s A u q is = ap (asks_grant A) is
    sent_isn't s B u q is = ap (asks_grant B) is

    data_duty : (s : Side) (ds : List Duty) (r : Reply) → n.reply ≡ r → (n.ask ≡ grant_ask s p → grant_in r ≡ None → is_no_grant r ≡ true) → is_followed (Duty.Step (StepDuty.Data s) ∷ ds) ≡ true
        → ((t : Side) → Pays (with_agenda (Duty.Step (StepDuty.Data s) ∷ ds) p) (Duty.Step (StepDuty.Data s) ∷ ds) (flags_of notes) t) → (o : Option Record) → first_unsent (end_at s p) ≡ o → n.ask ≡ data_ask k s o (with_agenda (Duty.Step (StepDuty.Data s) ∷ ds) p)
        → Granting (answered_data k s o r (with_agenda (Duty.Step (StepDuty.Data s) ∷ ds) p)) later
    data_duty s ds r is refusal f each (Some u) unsent asks =
        data_sent k r p later s ds u f (flags_same (Duty.Step (StepDuty.Data s) ∷ ds) (with_agenda (Duty.Step (StepDuty.Data s) ∷ ds) p) (flags_of notes) later (unasked_flags (λ t. sent_isn't s t u (with_agenda (Duty.Step (StepDuty.Data s) ∷ ds) p) asks)) each)
    data_duty s ds r is refusal f each None unsent asks = asked_duty s ds r unsent asks is (refusal asks) f each (grant_in r) refl

    duty_done : (d : Duty) (ds : List Duty) (r : Reply) → n.ask ≡ ask_for k d (with_agenda (d ∷ ds) p) → n.reply ≡ r → ((s : Side) → n.ask ≡ grant_ask s p → grant_in r ≡ None → is_no_grant r ≡ true)
        → is_followed (d ∷ ds) ≡ true → ((t : Side) → Pays (with_agenda (d ∷ ds) p) (d ∷ ds) (flags_of notes) t) → Granting (answered k d r (with_agenda (d ∷ ds) p)) later
    duty_done (Duty.Step (StepDuty.Data s)) ds r asks is refusal f each = data_duty s ds r is (refusal s) f each (first_unsent (end_at s p)) refl asks
    duty_done (Duty.Ask AskDuty.JoinAgain) ds r asks is refusal f each = other_duty (Duty.Ask AskDuty.JoinAgain) ds r asks tt f each
    duty_done (Duty.Send (SendDuty.Update s)) ds r asks is refusal f each = other_duty (Duty.Send (SendDuty.Update s)) ds r asks tt f each
    duty_done (Duty.Silent (SilentDuty.Timer s)) ds r asks is refusal f each = other_duty (Duty.Silent (SilentDuty.Timer s)) ds r asks tt f each
    duty_done d ds r asks is refusal f each = other_duty d ds r asks tt f each

    takes_done : (r : Reply) (ds : List Duty) → asks_first k ds (with_agenda ds p) ≡ Some n.ask → n.reply ≡ r → ((s : Side) → n.ask ≡ grant_ask s p → grant_in r ≡ None → is_no_grant r ≡ true)
        → is_followed ds ≡ true → ((t : Side) → Pays (with_agenda ds p) ds (flags_of notes) t) → Granting (takes k r (with_agenda ds p)) later
    takes_done r [] asks is refusal f each = cc
    takes_done r (d ∷ ds) asks is refusal f each =
        let q : PathState C = answered k d r (with_agenda (d ∷ ds) p) in
        let h : Granting q later = duty_done d ds r (sym (same_Some _ n.ask asks)) is refusal f each in
        settled_done q.agenda q later h.followed h.each

  -- ---- an actor

  abbrev MemberGrants : Actor C → List Note → Type 0
  MemberGrants (App a) notes = Unit {0}
  MemberGrants (Path p) notes = Granting p (flags_of notes)

  -- a grant that is refused is told so
  refusal_told : (books : StampedBooks) (p : PathState C) (x : Ask) (s : Side) → x ≡ grant_ask s p → grant_in (answer_to books x) ≡ None → is_no_grant (answer_to books x) ≡ true
  refusal_told books p x s is none = subst (λ y. is_no_grant (answer_to books y) ≡ true) (sym is) (by s (subst (λ y. grant_in (answer_to books y) ≡ None) is none))
    where
      by : (s : Side) → grant_in (answer_to books (grant_ask s p)) ≡ None → is_no_grant (answer_to books (grant_ask s p)) ≡ true
      by A none = answered_none _ (books_in books).send_a none
      by B none = answered_none _ (books_in books).send_b none

  step_grants : (k : Codec C) (books : StampedBooks) (m : Actor C) (notes : List Note) (n : Note) (x : Ask) → n.ask ≡ x → n.reply ≡ answer_to books x → member_asks k m ≡ Some x → MemberGrants m notes
      → MemberGrants (member_takes k (answer_to books x) m) (notes ++ n ∷ [])
  step_grants k books (App a) notes n x asked is asks h = tt
  step_grants k books (Path p) notes n x asked is asks h =
      takes_done k p notes n (answer_to books x) p.agenda (asks ∙ ap (λ y. Some y) (sym asked)) is
      (λ s same none. refusal_told books p x s (sym asked ∙ same) none) h.followed h.each

  pub begun_grants : (p : PathState C) (flags : Side → Bool) → Granting (begins_turn p) flags
  begun_grants p flags = settled_done start_of_turn (with_agenda start_of_turn p) flags refl (elim [ A ↦ inl refl | B ↦ inl refl ])

  next_grants : (m : Actor C) (notes : List Note) → MemberGrants (member_next m) notes
  next_grants (App a) notes = tt
  next_grants (Path p) notes = begun_grants (record p { clock = p.until; until = p.until + 100 }) (flags_of notes)

  -- ---- where a turn is over

  done_asking : (m : Actor C) (notes : List Note) → MemberFits m → MemberGrants m notes → AreDoneAsking m notes
  done_asking (App a) notes fits h = tt
  done_asking (Path p) notes fits h = λ over s may.
      let none : is_owed s p.agenda ≡ false = ap (is_owed s) over in
      paid_or_refused p.profile s (end_at s p) (flags_of notes s) (fits_at s p fits) (is_paid p p.agenda (flags_of notes) s none (h.each s)) may

  -- ---- a round, which began in this world

  module _ (k : Codec C) (u : WorldState C) where
    -- the steps of an actor since then
    record Since (actor : ℕ) (c : ActorCrew C) : Type 0 where
      steps : List Note
      list_is : c.list ≡ notes_at actor u.crew ++ steps
      grants : MemberGrants c.member steps

    record EachSince (w : WorldState C) : Type 0 where
      each : (actor : ℕ) (c : ActorCrew C) → slice_get w.crew actor ≡ Some c → Since actor c

    step_since : (actor : ℕ) (w : WorldState C) → EachSince w → EachSince (world_step k actor w)
    step_since actor w h = by (slice_get w.crew actor) refl
      where
        goes : (c : ActorCrew C) (x : Ask) → Since actor c → member_asks k c.member ≡ Some x → Since actor (crew_after k x w.books c)
        goes c x s is = record {
          steps = s.steps ++ note_of w.books c.pass x ∷ [];
          list_is = ap (λ notes. notes ++ note_of w.books c.pass x ∷ []) s.list_is ∙ append_assoc (notes_at actor u.crew) s.steps (note_of w.books c.pass x ∷ []);
          grants = step_grants k w.books c.member s.steps (note_of w.books c.pass x) x refl refl is s.grants;
        }

        takes : (c : ActorCrew C) → slice_get w.crew actor ≡ Some c → (o : Option Ask) → member_asks k c.member ≡ o → EachSince (asked k actor o c w)
        takes c there None is = h
        takes c there (Some x) is = record {
          each = λ i d at. ⊎_elim
              (λ here. subst (Since i) here.1 (subst (λ n. Since n (crew_after k x w.books c)) (sym here.0) (goes c x (h.each actor c there) is)))
              (λ other. h.each i d other.1)
              (in_set w.crew actor (crew_after k x w.books c) i d at);
        }

        by : (o : Option (ActorCrew C)) → slice_get w.crew actor ≡ o → EachSince (stepped k actor o w)
        by None there = h
        by (Some c) there = takes c there (member_asks k c.member) refl

    steps_since_then : (order : List ℕ) (w : WorldState C) → EachSince w → EachSince (after_steps k order w)
    steps_since_then [] w h = h
    steps_since_then (actor ∷ order) w h = steps_since_then order (world_step k actor w) (step_since actor w h)

    -- no step of it was made yet
    begun_since : ((actor : ℕ) (c : ActorCrew C) → slice_get u.crew actor ≡ Some c → MemberGrants c.member []) → EachSince u
    begun_since grants = record {
      each = λ actor c there. record { steps = []; list_is = sym (append-nil c.list) ∙ ap (λ o. notes_or o ++ []) (sym there); grants = grants actor c there };
    }

    drop_front : (xs ys : List Note) → drop (length xs) (xs ++ ys) ≡ ys
    drop_front [] ys = refl
    drop_front (x ∷ xs) ys = drop_front xs ys

    grants_since : (w : WorldState C) → Every CrewFits w.crew → EachSince w → GrantsAreDone u w
    grants_since w fits h = record {
      each = λ actor c there.
          let s = h.each actor c there in
          let steps_are : steps_since actor u w ≡ s.steps =
          ap (λ o. drop (length (notes_at actor u.crew)) (notes_or o)) there ∙ ap (drop (length (notes_at actor u.crew))) s.list_is ∙ drop_front (notes_at actor u.crew) s.steps in
          subst (AreDoneAsking c.member) (sym steps_are) (done_asking c.member s.steps (fits.each actor c there) s.grants);
    }

  begun_members : (k : Codec C) (start : Start) (u : WorldState C) → BeginsRound k start u → (actor : ℕ) (c : ActorCrew C) → slice_get u.crew actor ≡ Some c → MemberGrants c.member []
  begun_members k start u (BeginsRound.First is) = subst (λ v. (actor : ℕ) (c : ActorCrew C) → slice_get v.crew actor ≡ Some c → MemberGrants c.member []) (sym is)
      (opened_actors (λ actor c. MemberGrants c.member []) start tt tt (λ number plan there. begun_grants (waiting_path (path_begins start number plan) start.lines) (flags_of [])))
  begun_members k start u (BeginsRound.Next turns over is) = subst (λ v. (actor : ℕ) (c : ActorCrew C) → slice_get v.crew actor ≡ Some c → MemberGrants c.member []) (sym is)
      (by (all_over last.crew) over)
    where
      last : WorldState C
      last = world_run k turns (opened_world start)

      by : (b : Bool) → b ≡ true → (actor : ℕ) (c : ActorCrew C) → slice_get (if b then record last { crew = map (begins (greatest 0 last.crew)) last.crew } else last).crew actor ≡ Some c → MemberGrants c.member []
      by true ended = λ actor c there. let found = in_map (begins (greatest 0 last.crew)) last.crew actor c there in subst (λ (d : ActorCrew C). MemberGrants d.member []) found.2 (next_grants found.0.member [])
      by false ended = cc

  pub grants_are_done : (k : Codec C) → InEachRound k GrantsAreDone
  grants_are_done k start begun order begins =
      grants_since k begun (after_steps k order begun) (round_fits k start begun order begins) (steps_since_then k begun order begun (begun_since k begun (begun_members k start begun begins)))
