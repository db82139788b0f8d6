-- The peer's DATA_FIN came to an end as its side's reassembly book took the end of the peer's stream, and that stays.
use Rattle.std.proofs.Common.{◌≡◌, refl, sym, subst, ap, ◌∙◌, ◌⊎◌, inl, inr, ⊎_elim, ℕ, zero, ◌+◌, ◌<◌, ◌≤◌, arith, Bool, true, false, true≢false, if◌then◌else◌, Option, Some, None, is_some, List, [], ◌∷◌, length}
use Rattle.std.specs.Prelude.{IfSome, IsSome}
use Rattle.std.specs.List.{slice_get}
use Rattle.std.proofs.lemmas.Bool.{eq-eqb}
use Rattle.std.proofs.lemmas.Option.{same_Some}
use Rattle.sides.specs.declared.side.Side.{Side}
use Rattle.sides.specs.declared.side.Side.TheVariants.{A, B}
use Rattle.sides.specs.Side.{peer}
use Rattle.send_book.specs.State.{Sending}
use Rattle.reassembly_book.proofs.Merging.{filled-le}
use Rattle.reassembly_book.specs.State.{Arriving, received, top}
use Rattle.reassembly_book.specs.Steps.{fin_clash, fin_reply_by, is_end, next_wanted}
use Rattle.stream_lanes.specs.Duo.{Duo}
use Rattle.stream_lanes.specs.Holding.{Holds}
use Rattle.stream_lanes.specs.View.{IsEnd, end_of}
use Rattle.stream_lanes.proofs.Lists.{in_map, in_set}
use Rattle.actor_desk.specs.Books.{books_in}
use Rattle.actor_desk.specs.Desk.{SixBooks, after_ask, reassembly_of, reply_of, send_of}
use Rattle.actor_desk.specs.declared.ask.Ask.{Ask}
use Rattle.actor_desk.specs.declared.ask.Reply.{Reply}
use Rattle.actor_desk.specs.declared.ask.Reply.TheVariants as replies
use Rattle.path_agenda.specs.Agenda.{breaks}
use Rattle.path_agenda.specs.declared.duty.Duty.{Duty}
use Rattle.path_agenda.specs.declared.duty.Duty.TheVariants as duties
use Rattle.path_agenda.specs.declared.duty.AskDuty.TheVariants as ask_duties
use Rattle.path_agenda.specs.declared.duty.SendDuty.TheVariants as send_duties
use Rattle.path_agenda.specs.declared.duty.SilentDuty.TheVariants as silent_duties
use Rattle.path_agenda.specs.declared.duty.StepDuty.TheVariants as step_duties
use Rattle.path_core.specs.Codec.{Codec}
use Rattle.path_core.specs.DataFin.{answered_fin_heard, answered_plain_fin, data_fin_of, fin_ask, is_fin_set, place_of_fin, with_fin_told, with_peer_data_fin}
use Rattle.path_core.specs.Deliver.{having_asked}
use Rattle.path_core.specs.Duties.{answered, ask_for, passed}
use Rattle.path_core.specs.End.{PathEnd}
use Rattle.path_core.specs.Looking.{duty_sends, first_sends, segment_sent}
use Rattle.path_core.specs.Start.{PathStart, waiting_path}
use Rattle.path_core.specs.State.{PathState, end_at, goes_on, left, with_agenda}
use Rattle.path_core.specs.Steps.{answers, asks_first, begins_turn, takes}
use Rattle.path_core.specs.Values.{Carried, values}
use Rattle.world_laws.specs.declared.member.Member.TheVariants.{App, Path}
use Rattle.world_laws.specs.Actors.{Actor, ActorCrew, member_asks, member_next, member_takes}
use Rattle.world_laws.specs.Laws.{Always}
use Rattle.world_laws.specs.Members.{HoldsOfKind}
use Rattle.world_laws.specs.Openings.{Start, opened_world, path_begins}
use Rattle.world_laws.specs.Promises.{HasRoom}
use Rattle.world_laws.specs.Worlds.{WorldState, Turn, begins, crew_after, greatest, world_run}
use Rattle.world_laws.specs.Writes.{EndView, EndWrites, Only, OnlyAt, Writes, side_of, writes}
use Rattle.world_laws.proofs.Lanes.OfAWorld.{Links, WorldShows, anyhow, duo_of}
use Rattle.world_laws.proofs.Weaving.Journals.{books_after}
use Rattle.world_laws.proofs.Worlds.Opened.{opened_actors}
use Rattle.world_laws.proofs.Worlds.Turns.{run_so}
use Rattle.world_laws.proofs.Writes.Paths.{passes_no_more, writes_no_more}
use Rattle.world_laws.proofs.Writes.Steps.{Lasts, begins_lasts, both_ends, settled_lasts, unwritten}
use Rattle.whole_paths.specs.AgendaSteps.{is_silent}
use Rattle.whole_paths.specs.Closing.{IsFinHeard, IsToTell, TellsFin, comes_before_fins}
use Rattle.whole_paths.specs.Closing.{IsFinHeard as hearing}
use Rattle.whole_paths.specs.ClosingKnown.{EachEndIsToldFirst, HeardIsWanted, HasTheEnd, WhatIsHeardIsWanted, WhoHeardTheEndKnowsIt}
use Rattle.whole_paths.specs.DataAcksHeard.{IsPastTheEnd}
use Rattle.whole_paths.specs.DataAcksOwed.{WantsWhereItSends}
use Rattle.whole_paths.specs.News.{one_if}
use Rattle.whole_paths.proofs.Acknowledged.{always_shown}
use Rattle.whole_paths.proofs.Books.{side_up}
use Rattle.whole_paths.proofs.Passing.{Resets, silent_resets}

-- ---- an end

abbrev came : PathEnd → Bool
came e = e.sending.close.peer_came

only_came : (w : EndWrites) (e f : PathEnd) → w.peer_came ≡ false → Only w e f → came f ≡ came e
only_came w e f none x = unwritten w.peer_came (came e) (came f) none (ap (λ (v : EndView). v.peer_came) x.same)

-- what the book is told and takes is its end
told_end : (s : Side) (o : Option ℕ) (six : SixBooks) → is_fin_set (reply_of six (fin_ask s o)) ≡ true → IsSome (reassembly_of s (after_ask (fin_ask s o) six)).known_end
told_end s None six is = absurd (true≢false (sym is))
told_end A (Some place) six is = by six.reassembly_a is
  where
    by : (b : Arriving) → is_fin_set (replies.Reassembly (fin_reply_by (fin_clash b.known_end place b) place)) ≡ true
        → IsSome (if is_some (fin_clash b.known_end place b) then b else record b { known_end = Some place }).known_end
    by b = elim (fin_clash b.known_end place b) as (λ o. is_fin_set (replies.Reassembly (fin_reply_by o place)) ≡ true → IsSome (if is_some o then b else record b { known_end = Some place }).known_end)
        [ None ↦ λ set. refl | Some other ↦ λ set. absurd (true≢false (sym set)) ]
told_end B (Some place) six is = by six.reassembly_b is
  where
    by : (b : Arriving) → is_fin_set (replies.Reassembly (fin_reply_by (fin_clash b.known_end place b) place)) ≡ true
        → IsSome (if is_some (fin_clash b.known_end place b) then b else record b { known_end = Some place }).known_end
    by b = elim (fin_clash b.known_end place b) as (λ o. is_fin_set (replies.Reassembly (fin_reply_by o place)) ≡ true → IsSome (if is_some o then b else record b { known_end = Some place }).known_end)
        [ None ↦ λ set. refl | Some other ↦ λ set. absurd (true≢false (sym set)) ]

fins_silent : (d : Duty) → comes_before_fins d ≡ true → is_silent d ≡ true
fins_silent (duties.Ask (ask_duties.JoinHeard s)) is = absurd (true≢false (sym is))
fins_silent (duties.Ask d) is = refl
fins_silent (duties.Silent d) is = refl
fins_silent (duties.Step step_duties.Events) is = absurd (true≢false (sym is))
fins_silent (duties.Step (step_duties.Data s)) is = absurd (true≢false (sym is))
fins_silent (duties.Step d) is = refl
fins_silent (duties.Send d) is = absurd (true≢false (sym is))
fins_silent duties.End is = absurd (true≢false (sym is))

module _ {C : Type 0} where
  -- ---- before the end sends

  tells_first : (s : Side) (ds : List Duty) (p : PathState C) → IsToTell s ds → IfSome (first_sends ds p) (Resets p)
  tells_first s [] p tell = absurd tell
  tells_first s (d ∷ ds) p (inl now) = here d now
    where
      here : (d : Duty) → TellsFin s d → IfSome (duty_sends d p) (Resets p)
      here (duties.Ask (ask_duties.HeardFin t zero)) now = tt
      here _ now = absurd now
  tells_first s (d ∷ ds) p (inr later) = silent_resets d p (fins_silent d later.1.0)

  -- by no reset: it came
  abbrev CameFirst : Side → PathState C → Type 0
  CameFirst s p = IfSome (first_sends p.agenda p) (λ t. t.from ≡ s → (segment_sent p t).rst ≡ false → came (end_at s p) ≡ true)

  unless_it_resets : (s : Side) (p : PathState C) → IfSome (first_sends p.agenda p) (Resets p) → CameFirst s p
  unless_it_resets s p = elim (first_sends p.agenda p) as (λ o. IfSome o (Resets p) → IfSome o (λ t. t.from ≡ s → (segment_sent p t).rst ≡ false → came (end_at s p) ≡ true))
      [ Some t ↦ λ reset own speaks. absurd (true≢false (sym reset ∙ speaks)) | None ↦ λ none. tt ]

  pub each_end_is_told_first : (p : PathState C) → EachEndIsToldFirst p
  each_end_is_told_first p s (hearing.came is) =
      elim (first_sends p.agenda p) as (λ o. IfSome o (λ t. t.from ≡ s → (segment_sent p t).rst ≡ false → came (end_at s p) ≡ true)) [ Some t ↦ λ own speaks. is | None ↦ tt ]
  each_end_is_told_first p s (hearing.told place hear tell) = unless_it_resets s p (tells_first s p.agenda p tell)
  each_end_is_told_first p s (hearing.heard some tell) = unless_it_resets s p (tells_first s p.agenda p tell)

  -- ---- a duty

  abbrev CameStays : PathState C → PathState C → Type 0
  CameStays p q = (s : Side) → came (end_at s q) ≡ came (end_at s p)

  came_both : (s : Side) (w : Writes) (p q : PathState C) → w.own.peer_came ≡ false → w.other.peer_came ≡ false → OnlyAt s w p q → (came q.a ≡ came p.a) × (came q.b ≡ came p.b)
  came_both s w p q own theirs x = both_ends (λ e f. came f ≡ came e) s w p q (λ e f y. only_came w.own e f own y) (λ e f y. only_came w.other e f theirs y) x

  came_by : (s : Side) (w : Writes) (p q : PathState C) → w.own.peer_came ≡ false → w.other.peer_came ≡ false → OnlyAt s w p q → CameStays p q
  came_by s w p q own theirs x A = (came_both s w p q own theirs x).0
  came_by s w p q own theirs x B = (came_both s w p q own theirs x).1

  passed_came : (d : Duty) (p : PathState C) → CameStays p (passed d p)
  passed_came (duties.Step (step_duties.Data t)) p s = refl
  passed_came (duties.Ask (ask_duties.HeardFin t index)) p s = refl
  passed_came (duties.Ask (ask_duties.SubflowFin t)) p s = refl
  passed_came (duties.Send (send_duties.Update t)) p s = refl
  passed_came (duties.Silent (silent_duties.Timer t)) p s = came_by t (writes (duties.Silent (silent_duties.Timer t))) p _ refl refl (passes_no_more (duties.Silent (silent_duties.Timer t)) p) s
  passed_came d p s = came_by (side_of d) (writes d) p (passed d p) refl refl (passes_no_more d p) s

  came_lasts : Lasts (λ (p q : PathState C). CameStays p q)
  came_lasts = record { agenda = λ ds p s. by_side s ds p; chains = λ p q r x y s. y s ∙ x s; passes = λ d p. passed_came d p }
    where
      by_side : (s : Side) (ds : List Duty) (p : PathState C) → came (end_at s (with_agenda ds p)) ≡ came (end_at s p)
      by_side = elim [ A ↦ λ ds p. refl | B ↦ λ ds p. refl ]

  -- the DATA_FIN came before, or the book has the end
  abbrev Told : SixBooks → Ask → PathState C → PathState C → Type 0
  Told six x p q = (s : Side) → (came (end_at s q) ≡ came (end_at s p)) ⊎ IsSome (reassembly_of s (after_ask x six)).known_end

  goes_told : (six : SixBooks) (x : Ask) (t : Side) (f : PathEnd) (ds : List Duty) (p : PathState C) → (came f ≡ came (end_at t p)) ⊎ IsSome (reassembly_of t (after_ask x six)).known_end
      → Told six x p (goes_on t f ds p)
  goes_told six x A f ds p h A = h
  goes_told six x B f ds p h B = h
  goes_told six x A f ds p h B = inl refl
  goes_told six x B f ds p h A = inl refl

  heard_told : (six : SixBooks) (t : Side) (o : Option ℕ) (p : PathState C) → Told six (fin_ask t o) p (answered_fin_heard t (is_fin_set (reply_of six (fin_ask t o))) p)
  heard_told six t o p = (elim (is_fin_set (reply_of six (fin_ask t o))) as (λ b. is_fin_set (reply_of six (fin_ask t o)) ≡ b → Told six (fin_ask t o) p (answered_fin_heard t b p)) [
    | true ↦ λ is. goes_told six (fin_ask t o) t (having_asked (with_peer_data_fin (end_at t p))) (left p) p (inr (told_end t o six is))
    | false ↦ λ is. goes_told six (fin_ask t o) t (having_asked (end_at t p)) (breaks t 1) p (inl refl)
  ]) refl

  plain_told : (six : SixBooks) (t : Side) (o : Option ℕ) (p : PathState C) → Told six (fin_ask t o) p (answered_plain_fin t (is_fin_set (reply_of six (fin_ask t o))) p)
  plain_told six t o p = (elim (is_fin_set (reply_of six (fin_ask t o))) as (λ b. is_fin_set (reply_of six (fin_ask t o)) ≡ b → Told six (fin_ask t o) p (answered_plain_fin t b p)) [
    | true ↦ λ is. goes_told six (fin_ask t o) t (having_asked (with_peer_data_fin (with_fin_told (end_at t p)))) (left p) p (inr (told_end t o six is))
    | false ↦ λ is. goes_told six (fin_ask t o) t (having_asked (end_at t p)) (breaks t 1) p (inl refl)
  ]) refl

  module _ (k : Codec C) where
    abbrev AnsweredTold : SixBooks → Duty → PathState C → Type 0
    AnsweredTold six d p = Told six (ask_for k d p) p (answered k d (reply_of six (ask_for k d p)) p)

    quiet_told : (six : SixBooks) (d : Duty) (p : PathState C) → (writes d).own.peer_came ≡ false → (writes d).other.peer_came ≡ false → AnsweredTold six d p
    quiet_told six d p own theirs s = (let r : Reply = reply_of six (ask_for k d p) in inl (came_by (side_of d) (writes d) p (answered k d r p) own theirs (writes_no_more k d r p) s))

    answered_told : (six : SixBooks) (d : Duty) (p : PathState C) → AnsweredTold six d p
    answered_told six (duties.Ask (ask_duties.HeardFin t index)) p = heard_told six t (data_fin_of index (end_at t p)) p
    answered_told six (duties.Ask (ask_duties.SubflowFin t)) p = plain_told six t (place_of_fin (end_at t p)) p
    answered_told six (duties.Step (step_duties.Data t)) p = quiet_told six (duties.Step (step_duties.Data t)) p refl refl
    answered_told six (duties.Send (send_duties.Update t)) p = quiet_told six (duties.Send (send_duties.Update t)) p refl refl
    answered_told six (duties.Silent (silent_duties.Timer t)) p = quiet_told six (duties.Silent (silent_duties.Timer t)) p refl refl
    answered_told six d p = quiet_told six d p refl refl

    -- ---- a path

    stays_known : (six : SixBooks) (x : Ask) (s : Side) → IsSome (reassembly_of s six).known_end → IsSome (reassembly_of s (after_ask x six)).known_end
    stays_known six x s is = by (reassembly_of s six).known_end refl is
      where
        by : (o : Option ℕ) → (reassembly_of s six).known_end ≡ o → IsSome o → IsSome (reassembly_of s (after_ask x six)).known_end
        by None at some = absurd (true≢false (sym some))
        by (Some place) at some = ap is_some ((side_up x six s).arrival.end place at)

    takes_known : (six : SixBooks) (d : Duty) (ds : List Duty) (p : PathState C) → p.agenda ≡ d ∷ ds → HasTheEnd six p
        → HasTheEnd (after_ask (ask_for k d p) six) (takes k (reply_of six (ask_for k d p)) p)
    takes_known six d ds p is h s now = by (answered_told six d p s)
      where
        r : Reply
        r = reply_of six (ask_for k d p)

        same : came (end_at s (takes k r p)) ≡ came (end_at s (answered k d r p))
        same = (let q : PathState C = answers k p.agenda r p in settled_lasts (λ p q. CameStays p q) came_lasts q.agenda q s ∙ ap (λ ds. came (end_at s (answers k ds r p))) is)

        by : (came (end_at s (answered k d r p)) ≡ came (end_at s p)) ⊎ IsSome (reassembly_of s (after_ask (ask_for k d p) six)).known_end → IsSome (reassembly_of s (after_ask (ask_for k d p) six)).known_end
        by (inl before) = stays_known six (ask_for k d p) s (h s (sym before ∙ sym same ∙ now))
        by (inr known) = known

    -- ---- the world

    abbrev Knows : SixBooks → Actor C → Type 0
    Knows six m = HoldsOfKind (λ app. Unit {0}) (HasTheEnd six) m

    path_known : (six : SixBooks) (x : Ask) (p : PathState C) (ds : List Duty) → p.agenda ≡ ds → asks_first k ds p ≡ Some x → HasTheEnd six p → HasTheEnd (after_ask x six) (takes k (reply_of six x) p)
    path_known six x p [] is asks h = cc
    path_known six x p (d ∷ ds) is asks h = subst (λ (y : Ask). HasTheEnd (after_ask y six) (takes k (reply_of six y) p)) (same_Some (ask_for k d p) x asks) (takes_known six d ds p is h)

    member_known : (six : SixBooks) (x : Ask) (m : Actor C) → member_asks k m ≡ Some x → Knows six m → Knows (after_ask x six) (member_takes k (reply_of six x) m)
    member_known six x (App a) asks h = tt
    member_known six x (Path p) asks h = path_known six x p p.agenda refl asks h

    member_stays : (six : SixBooks) (x : Ask) (m : Actor C) → Knows six m → Knows (after_ask x six) m
    member_stays six x (App a) h = tt
    member_stays six x (Path p) h = λ s is. stays_known six x s (h s is)

    begun_came : (p : PathState C) → CameStays p (begins_turn (record p { clock = p.until; until = p.until + 100 }))
    begun_came p s = begins_lasts (λ p q. CameStays p q) came_lasts (record p { clock = p.until; until = p.until + 100 }) s ∙ by s
      where
        by : (s : Side) → came (end_at s (record p { clock = p.until; until = p.until + 100 })) ≡ came (end_at s p)
        by = elim [ A ↦ refl | B ↦ refl ]

    member_begun : (six : SixBooks) (m : Actor C) → Knows six m → Knows six (member_next m)
    member_begun six (App a) h = tt
    member_begun six (Path p) h = λ s is. h s (sym (begun_came p s) ∙ is)

    abbrev AllKnow : WorldState C → Type 0
    AllKnow w = (actor : ℕ) (c : ActorCrew C) → slice_get w.crew actor ≡ Some c → Knows (books_in w.books) c.member

    run_known : (turns : List Turn) (w : WorldState C) → AllKnow w → AllKnow (world_run k turns w)
    run_known = run_so k AllKnow
        (λ w h actor c x there asks i e at.
        let six : SixBooks = books_in w.books in
        subst (λ (y : SixBooks). Knows y e.member) (sym (books_after x c.pass w.books))
        (⊎_elim
        (λ here. subst (λ (y : ActorCrew C). Knows (after_ask x six) y.member) here.1 (member_known six x c.member asks (h actor c there)))
        (λ other. member_stays six x e.member (h i e other.1))
        (in_set w.crew actor (crew_after k x w.books c) i e at)))
        (λ w h over i e at.
        let found = in_map (begins (greatest 0 w.crew)) w.crew i e at in
        subst (λ (y : ActorCrew C). Knows (books_in w.books) y.member) found.2 (member_begun (books_in w.books) found.0.member (h i found.0 found.1)))

    opened_known : (start : Start) → AllKnow (opened_world start)
    opened_known start = opened_actors (λ actor c. Knows (books_in (opened_world {C = C} start).books) c.member) start tt tt (λ number plan there s is.
        let p : PathState C = waiting_path (path_begins start number plan) start.lines in
        absurd (true≢false (sym is ∙ begins_lasts (λ p q. CameStays p q) came_lasts p s ∙ by s (path_begins start number plan) start)))
      where
        by : (s : Side) (x : PathStart) (start : Start) → came (end_at s (waiting_path {C = C} x start.lines)) ≡ false
        by = elim [ A ↦ λ x start. refl | B ↦ λ x start. refl ]

    pub who_heard_the_end_knows_it : Always k (λ start w. WhoHeardTheEndKnowsIt w)
    who_heard_the_end_knows_it start turns = record { each = run_known turns (opened_world start) (opened_known start) }

-- ---- what is wanted

-- an end that the book knows is where the peer's stream ends
end_is : (b : Sending) (e : ℕ) → IsEnd (end_of b) e → length b.written ≡ e
end_is b e = elim b.closed as (λ c. (if c then Some (length b.written) else None) ≡ Some e → length b.written ≡ e) [ true ↦ λ is. same_Some (length b.written) e is | false ↦ λ is. cc ]

-- what a reassembly book has to do with the peer's send book
record IsOfTheStream (b : Arriving) (c : Sending) : Type 0 where
  ends : (e : ℕ) → b.known_end ≡ Some e → length c.written ≡ e
  within : received b ≤ length c.written

of_the_stream : (b : Arriving) (c : Sending) → top b ≤ length c.written → IfSome b.known_end (IsEnd (end_of c)) → IsOfTheStream b c
of_the_stream b c most end = record {
  ends = λ e is. end_is c e (subst (λ o. IfSome o (IsEnd (end_of c))) is end);
  within = (let inside = filled-le b.places in omega (arith, most, inside));
}

shown_books : (links : Links) (start : Start) (d : Duo) (w : WorldState Carried) → Holds d → WorldShows links start d w → (s : Side)
    → IsOfTheStream (reassembly_of (peer s) (books_in w.books)) (send_of s (books_in w.books))
shown_books links start d w held h = subst (λ (v : WorldState Carried). (s : Side) → IsOfTheStream (reassembly_of (peer s) (books_in v.books)) (send_of s (books_in v.books))) (sym h.is)
    (elim [ A ↦ of_the_stream _ _ holds.ab.arrived.top holds.ab.arrived.end | B ↦ of_the_stream _ _ holds.ba.arrived.top holds.ba.arrived.end ])
  where
    holds : Holds (duo_of links (books_in h.cast.books) h.lanes_ab h.lanes_ba h.reader_a h.reader_b)
    holds = subst Holds h.duo_is held

-- all bytes are received, and one place more is wanted
past_all : (b : Arriving) (place e : ℕ) → place ≤ received b + 1 → b.known_end ≡ Some e → e ≡ received b → place ≤ next_wanted b
past_all b place e low known same =
    subst (λ n. place ≤ received b + n) (sym (ap (λ c. if c then 1 else 0) (ap (λ o. is_end o (received b)) known ∙ eq-eqb e (received b) same))) low

module _ (start : Start) (turns : List Turn) (size : HasRoom start) where
  abbrev w : WorldState Carried
  w = world_run values turns (opened_world start)

  streams : (s : Side) → IsOfTheStream (reassembly_of (peer s) (books_in w.books)) (send_of s (books_in w.books))
  streams = (let shown = always_shown start turns size in shown_books (anyhow start size).links start shown.0 w shown.1.1 shown.1.0)

  -- what is received before this place, or all but the place of the DATA_FIN, the book wants, or it doesn't know the end yet
  pub wanted_or_unknown : (s : Side) (place : ℕ) (fin : Bool) → IsPastTheEnd w.books s place fin → place ≤ received (reassembly_of (peer s) (books_in w.books)) + one_if fin
      → (place ≤ next_wanted (reassembly_of (peer s) (books_in w.books))) ⊎ ((fin ≡ true) × ((reassembly_of (peer s) (books_in w.books)).known_end ≡ None))
  wanted_or_unknown s place false past low = inl (let within : place ≤ received (reassembly_of (peer s) (books_in w.books)) + 0 = low in omega (arith, within))
  wanted_or_unknown s place true past low = by (reassembly_of (peer s) (books_in w.books)).known_end refl
    where
      by : (o : Option ℕ) → (reassembly_of (peer s) (books_in w.books)).known_end ≡ o
          → (place ≤ next_wanted (reassembly_of (peer s) (books_in w.books))) ⊎ ((true ≡ true) × ((reassembly_of (peer s) (books_in w.books)).known_end ≡ None))
      by None at = inr (refl, at)
      by (Some e) at = inl (past_all (reassembly_of (peer s) (books_in w.books)) place e low at (let all = (streams s).ends e at in let most = (streams s).within in let far = past refl in omega (arith, all, most, far, low)))

  module _ (p : PathState Carried) (known : HasTheEnd (books_in w.books) p) (s : Side) (place : ℕ) where
    abbrev b : Arriving
    b = reassembly_of (peer s) (books_in w.books)

    wants_end : length (send_of s (books_in w.books)).written < place → place ≤ received b + 1 → came (end_at (peer s) p) ≡ true → place ≤ next_wanted b
    wants_end past low is = by b.known_end refl (known (peer s) is)
      where
        by : (o : Option ℕ) → b.known_end ≡ o → IsSome o → place ≤ next_wanted b
        by None at some = absurd (true≢false (sym some))
        by (Some e) at some = past_all b place e low at (let all = (streams s).ends e at in let most = (streams s).within in omega (arith, all, most, past, low))

    wants : (fin : Bool) → IsPastTheEnd w.books s place fin → place ≤ received b + one_if fin → (fin ≡ true → IsFinHeard (peer s) p) → WantsWhereItSends (books_in w.books) (peer s) place p
    wants false past low heard = (elim (first_sends p.agenda p) as (λ o. IfSome o (λ t. t.from ≡ peer s → (segment_sent p t).rst ≡ false → place ≤ next_wanted b))
        [ Some t ↦ λ own speaks. (let within : place ≤ received b + 0 = low in omega (arith, within)) | None ↦ tt ])
    wants true past low heard = told_so (each_end_is_told_first p (peer s) (heard refl))
      where
        told_so : IfSome (first_sends p.agenda p) (λ t. t.from ≡ peer s → (segment_sent p t).rst ≡ false → came (end_at (peer s) p) ≡ true) → WantsWhereItSends (books_in w.books) (peer s) place p
        told_so = (elim (first_sends p.agenda p) as (λ o. IfSome o (λ t. t.from ≡ peer s → (segment_sent p t).rst ≡ false → came (end_at (peer s) p) ≡ true)
            → IfSome o (λ t. t.from ≡ peer s → (segment_sent p t).rst ≡ false → place ≤ next_wanted b))
            [ Some t ↦ λ is own speaks. wants_end (past refl) low (is own speaks) | None ↦ λ none. tt ])

  member_wants : (m : Actor Carried) → HoldsOfKind (λ app. Unit {0}) (HasTheEnd (books_in w.books)) m → HoldsOfKind (λ app. Unit {0}) (HeardIsWanted w.books) m
  member_wants (App a) known = tt
  member_wants (Path p) known = λ s place fin past low heard. wants p known s place fin past low heard

pub what_is_heard_is_wanted : WhatIsHeardIsWanted
what_is_heard_is_wanted start turns size actor c at = member_wants start turns size c.member ((who_heard_the_end_knows_it values start turns).each actor c at)
