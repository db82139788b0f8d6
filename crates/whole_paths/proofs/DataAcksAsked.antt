-- What an end asks again that has no record left comes to the peer, whatever is lost.
use Rattle.std.proofs.Common.{◌≡◌, refl, sym, subst, ap, ◌∙◌, ◌⊎◌, inl, inr, ⊎_elim, ℕ, ◌+◌, ◌-◌, ◌^◌, ◌<◌, ◌≤◌, max, Bool, false, true≢false, if◌then◌else◌, Option, Some, None, IfSome, List, [], ◌∷◌, arith}
use Rattle.std.specs.Prelude.{IsSome}
use Rattle.std.specs.List.{slice_get}
use Rattle.std.proofs.lemmas.Bool.{cases_lt}
use Rattle.std.proofs.lemmas.Option.{same_Some}
use Rattle.sides.specs.declared.side.Side.{Side}
use Rattle.sides.specs.declared.side.Side.TheVariants.{A, B}
use Rattle.link_model.specs.declared.flight.Flight.{Flight}
use Rattle.link_model.specs.Steps.{next_number, segments_sent, changed}
use Rattle.link_model.specs.Fate.{is_stripped, is_altered}
use Rattle.path_segments.specs.Spelled.{PlainSegment}
use Rattle.subflow_send.specs.Records.{Record}
use Rattle.subflow_tcp.specs.State.{is_some_record, has_records}
use Rattle.subflow_tcp.specs.States.{is_closed_to_segments, is_dead}
use Rattle.subflow_tcp.specs.declared.handshake.State.{State}
use Rattle.subflow_tcp.specs.declared.handshake.State.TheVariants as phase
use Rattle.path_agenda.specs.Agenda.{emission}
use Rattle.path_agenda.specs.declared.duty.Duty.TheVariants as duties
use Rattle.path_agenda.specs.declared.duty.AskDuty.TheVariants as ask_duties
use Rattle.path_agenda.specs.declared.duty.SendDuty.TheVariants as send_duties
use Rattle.path_core.specs.Codec.{Codec}
use Rattle.path_core.specs.Emission.{ack_resent, first_record}
use Rattle.path_core.specs.End.{PathEnd}
use Rattle.path_core.specs.Handover.{handed}
use Rattle.path_core.specs.Looking.{first_sends, segment_sent}
use Rattle.path_core.specs.OptionsOut.{record_or_ack}
use Rattle.path_core.specs.Profile.{Profile}
use Rattle.path_core.specs.Shown.{AltersNothing}
use Rattle.path_core.specs.State.{PathState, end_at}
use Rattle.path_core.specs.declared.events.Event.TheVariants as happenings
use Rattle.world_laws.specs.declared.member.Member.TheVariants.{App, Path}
use Rattle.world_laws.specs.Actors.{Actor, ActorCrew}
use Rattle.world_laws.specs.Members.{HoldsOfKind}
use Rattle.world_laws.specs.NeverFalls.{StripsNothing}
use Rattle.world_laws.specs.Openings.{Start, opened_world}
use Rattle.world_laws.specs.Worlds.{WorldState, Turn, after_turn, world_run}
use Rattle.whole_paths.specs.Copies.{IsUnderWay, GoesOnItsWay, CopiesGoOn, CopiesAreNumbered, LinksAreNumbered}
use Rattle.whole_paths.specs.Copies.{GoesOnItsWay as copy}
use Rattle.whole_paths.specs.DataAcksAsked.{IsAsking, IsAskedAgain, AskingGoesOn, IsAskedSo, AskComesSo, AsksGoOn, IsAskedAtTheEnd, WhatIsAskedComes}
use Rattle.whole_paths.specs.DataAcksAsked.IsAskedAgain.{waits, resends, flies}
use Rattle.whole_paths.specs.DataAcksAsked.{AskingGoesOn as goes}
use Rattle.whole_paths.specs.Expiries.{IsToSend, IsToSendAgain, PathsGoAgain, GoesAgain, Expires}
use Rattle.whole_paths.specs.Flights.{IsFirst}
use Rattle.whole_paths.specs.Flights.{IsOnItsWay as way}
use Rattle.whole_paths.specs.Mending.{IsSentSoon}
use Rattle.whole_paths.specs.InTime.{ComesFrom, NothingIsOverdue}
use Rattle.whole_paths.specs.Kept.{IsSameRecord}
use Rattle.whole_paths.specs.Reasons.{IsOutstanding, IsTimedWhereItWaits}
use Rattle.whole_paths.specs.Running.{IsRunning, RunsOn, EndsRunOn}
use Rattle.whole_paths.specs.Running.{RunsOn as run}
use Rattle.whole_paths.specs.Saying.{SaysWhatCame, HandsOver, PathsHandOver}
use Rattle.whole_paths.specs.Timers.{TimersAreNear}
use Rattle.whole_paths.specs.Waits.{IsSettledAtTheEnd}
use Rattle.whole_paths.proofs.Copies.{copies_leave}
use Rattle.whole_paths.proofs.Flying.{Frames, FramesStay, frames_stay}
use Rattle.whole_paths.proofs.InTime.{timer_behind}
use Rattle.whole_paths.proofs.Reasons.{who_waits_has_a_timer}
use Rattle.whole_paths.proofs.Resending.{what_runs_out_goes_again}
use Rattle.whole_paths.proofs.Running.{timers_run_on}
use Rattle.whole_paths.proofs.Saying.{ToSend, each_segment_says_what_came}
use Rattle.whole_paths.proofs.SentSoon.{segments_come_soon}
use Rattle.whole_paths.proofs.Timing.{timers_run_out}
use Rattle.whole_paths.proofs.Waiting.{no_timer_is_put_off}

same_record : (r : Record) → IsSameRecord r r
same_record r = record { pos = refl; kind = refl; piece = refl; mapping = refl }

module _ {C : Type 0} where
  timer_from : (s : Side) (tick : ℕ) (p : PathState C) → ComesFrom p.clock p → (end_at s p).tcp.timing.timer ≡ Some tick → p.clock ≤ tick
  timer_from A tick p h runs = subst (λ o. IfSome o (λ t. p.clock ≤ t)) runs h.timer_a
  timer_from B tick p h runs = subst (λ o. IfSome o (λ t. p.clock ≤ t)) runs h.timer_b

  timer_near : (s : Side) (tick : ℕ) (p : PathState C) → TimersAreNear p → (end_at s p).tcp.timing.timer ≡ Some tick → tick ≤ p.clock + 60000
  timer_near A tick p h runs = subst (λ o. IfSome o (λ t. t ≤ p.clock + 60000)) runs h.a.timer
  timer_near B tick p h runs = subst (λ o. IfSome o (λ t. t ≤ p.clock + 60000)) runs h.b.timer

  -- ---- one turn of a path

  module _ (k : Codec C) (s : Side) (by_then : ℕ) (p q : PathState C) (frames : Frames p q) (Was : PathEnd → Bool → Bool → Type 0)
      (was : (end_at s p).tcp.send.records ≡ [] → Was (end_at s p) (is_stripped s (next_number s p.link) p.clock p.link.lines) (is_altered s (next_number s p.link) p.link.lines)) where
    abbrev Next : Type 0
    Next = (go : AskingGoesOn k s by_then p q) × AskComesSo Was go

    same_on : q ≡ p → (h : IsAskedAgain k s by_then p) → IsAskedSo Was h → Next
    same_on same h so = let there = subst (λ v. (w : IsAskedAgain k s by_then v) × IsAskedSo Was w) (sym same) (h, so) in (goes.on there.0, there.1)

    first_of : (r : Record) (others : List Record) → (end_at s q).tcp.send.records ≡ r ∷ others → IsFirst r (end_at s q)
    first_of r others is = record { first = r; others = others; records = is; same = same_record r }

    -- the timer runs on, for this or for a record
    running_on : (end_at s p).tcp.send.records ≡ [] → (tick : ℕ) → tick + 400 ≤ by_then → IsRunning tick (end_at s q) → Next
    running_on had tick low h = by (end_at s q).tcp.send.records refl
      where
        by : (rs : List Record) → (end_at s q).tcp.send.records ≡ rs → Next
        by [] none = (goes.on (waits tick low h none), tt)
        by (r ∷ others) is = (goes.record_waits r had (first_of r others is) (way.waits tick low (record { timer = h.timer; settled = h.settled; first = r; others = others; records = is; living = h.living }) (first_of r others is)) tt, tt)

    sending_on : (end_at s p).tcp.send.records ≡ [] → q.clock + 400 ≤ by_then → IsToSendAgain s q → Next
    sending_on had low next = by (end_at s q).tcp.send.records refl
      where
        by : (rs : List Record) → (end_at s q).tcp.send.records ≡ rs → Next
        by [] none = (goes.on (resends low next none), tt)
        by (r ∷ others) is = (goes.record_waits r had (first_of r others is) (way.resends low next (first_of r others is)) tt, tt)

    waits_goes : GoesAgain k p q → ComesFrom p.clock p → (tick : ℕ) → tick + 400 ≤ by_then → IsRunning tick (end_at s p) → (end_at s p).tcp.send.records ≡ [] → RunsOn s tick p q → Next
    waits_goes again past tick low h none (run.on on) = running_on none tick (omega (arith, low)) on
    waits_goes again past tick low h none (run.news news) = (goes.news news, tt)
    waits_goes again past tick low h none (run.gone gone) = (goes.gone gone, tt)
    waits_goes again past tick low h none (run.done done) = (goes.done done, tt)
    waits_goes again past tick low h none (run.runs_out at out) = ⊎_elim
        (λ same. same_on same (waits tick low h none) tt)
        (λ expired. ⊎_elim (λ same. same_on same (waits tick low h none) tt) (λ clock. ran_out expired clock) (frames.moves (happenings.Fires s at) out.others out.first out.next))
        (again.fires s at out)
      where
        ran_out : Expires s p q → q.clock ≡ max p.clock at → Next
        ran_out expired clock = ⊎_elim
            (λ few. sending_on none in_time (expired.again few).next)
            (λ many. (goes.gone (expired.sixth many), tt))
            (cases_lt (end_at s p).tcp.timing.expiries 5)
          where
            in_time : q.clock + 400 ≤ by_then
            in_time =
                let early = timer_behind s (happenings.Fires s at) tick p out.next h.timer in
                let from = timer_from s tick p past h.timer in
                omega (arith, clock, early, from, low)

    flown : CopiesAreNumbered p → (x : PlainSegment) → x ≡ ack_resent p.profile s (end_at s p) → q.link ≡ handed k s x p → (end_at s p).tcp.send.records ≡ [] → p.clock + 400 ≤ by_then → segments_sent s p.link < 2 ^ 64 - 1 → Next
    flown numbered x asks taken none low few = ⊎_elim (λ harmed. (goes.harmed harmed, tt)) by (segments_come_soon k p q numbered s x few taken)
      where
        by : IsSentSoon k s x p q → Next
        by c = (
          goes.on (flies c.copy (let soon = c.soon in omega (arith, soon, low)) c.there (record {
            to = c.to;
            sender = end_at s p;
            stripped = c.stripped;
            altered = c.altered;
            whole = λ strips. c.whole (subst StripsNothing frames.lines strips);
            plain = λ alters. c.plain (subst AltersNothing frames.lines alters);
            carried = subst (λ (y : Profile). c.copy.carried ≡ changed (k.strips y.spelling s) (k.alters y.spelling s) c.stripped c.altered (k.makes y.spelling s (ack_resent y s (end_at s p)))) (sym frames.profile)
                (subst (λ (y : PlainSegment). c.copy.carried ≡ changed (k.strips p.profile.spelling s) (k.alters p.profile.spelling s) c.stripped c.altered (k.makes p.profile.spelling s y)) asks c.carried);
          })),
          subst (λ b. Was (end_at s p) b c.altered) (sym c.strips_it) (subst (λ b. Was (end_at s p) (is_stripped s (next_number s p.link) p.clock p.link.lines) b) (sym c.alters_it) (was none)),
        )

    -- what goes in the place of the first record
    abbrev resent : PlainSegment
    resent = if has_records (end_at s p).tcp then record_or_ack p.profile s (first_record (end_at s p)) (end_at s p) else ack_resent p.profile s (end_at s p)

    resent_asks : (end_at s p).tcp.send.records ≡ [] → resent ≡ ack_resent p.profile s (end_at s p)
    resent_asks none = ap (λ rs. if is_some_record rs then record_or_ack p.profile s (first_record (end_at s p)) (end_at s p) else ack_resent p.profile s (end_at s p)) none

    abbrev Sent : ToSend → Type 0
    Sent t = (q ≡ p) ⊎ ((q.link ≡ handed k t.from (segment_sent p t) p) × SaysWhatCame (end_at t.from p) (segment_sent p t))

    -- without a record the acknowledgement is sent that asks
    sent_so : CopiesAreNumbered p → HandsOver k p q → IsToSend s p → (end_at s p).tcp.send.records ≡ [] → p.clock + 400 ≤ by_then → segments_sent s p.link < 2 ^ 64 - 1 → Next
    sent_so numbered hands is none low few = by (subst (λ ds. IfSome (first_sends ds p) Sent) is hands.sends)
      where
        by : (q ≡ p) ⊎ ((q.link ≡ handed k s resent p) × SaysWhatCame (end_at s p) resent) → Next
        by sent = ⊎_elim (λ same. same_on same (resends low (inr is) none) tt) (λ taken. flown numbered resent (resent_asks none) taken.0 none low few) sent

    resends_goes : CopiesAreNumbered p → GoesAgain k p q → HandsOver k p q → p.clock + 400 ≤ by_then → segments_sent s p.link < 2 ^ 64 - 1 → IsToSendAgain s p → (end_at s p).tcp.send.records ≡ [] → Next
    resends_goes numbered again hands low few (inl is) none = ⊎_elim
        (λ same. same_on same (resends low (inl is) none) tt)
        (λ given. sending_on none still (inr given.0))
        (again.gives_back s is)
      where
        still : q.clock + 400 ≤ by_then
        still = let clock = frames.stands (duties.Ask (ask_duties.Return s)) (duties.Send (send_duties.Resend s) ∷ emission s) is refl in omega (arith, clock, low)
    resends_goes numbered again hands low few (inr is) none = sent_so numbered hands is none low few

    flies_goes : (f : Flight C) → f.tick ≤ by_then → IsUnderWay f p → (h : IsAsking k s p f) → Was h.sender h.stripped h.altered → GoesOnItsWay f p q → Next
    flies_goes f low before h so (copy.on there) = (
      goes.on (flies f low there (record {
        to = h.to;
        sender = h.sender;
        stripped = h.stripped;
        altered = h.altered;
        whole = λ strips. h.whole (subst StripsNothing frames.lines strips);
        plain = λ alters. h.plain (subst AltersNothing frames.lines alters);
        carried = subst (λ (c : Profile). f.carried ≡ changed (k.strips c.spelling s) (k.alters c.spelling s) h.stripped h.altered (k.makes c.spelling s (ack_resent c s h.sender))) (sym frames.profile) h.carried;
      })),
      so,
    )
    flies_goes f low before h so (copy.arrives others first next) = (goes.arrives f low before h others first next, so)
    flies_goes f low before h so (copy.dies line next is dead) = (goes.dies line next is dead, tt)

    goes_by : CopiesAreNumbered p → EndsRunOn (Path p) (Path q) → GoesAgain k p q → HandsOver k p q → CopiesGoOn (Path p) (Path q) → ComesFrom p.clock p → segments_sent s p.link < 2 ^ 64 - 1
        → (h : IsAskedAgain k s by_then p) → IsAskedSo Was h → Next
    goes_by numbered timers again hands copies past few (waits tick low h none) so = waits_goes again past tick low h none (timers s tick h)
    goes_by numbered timers again hands copies past few (resends low is none) so = resends_goes numbered again hands low few is none
    goes_by numbered timers again hands copies past few (flies f low there h) so = flies_goes f low there h so (copies f there)

  -- ---- the world

  abbrev AreNumbered : Actor C → Type 0
  AreNumbered = HoldsOfKind (λ app. Unit {0}) (λ (p : PathState C). CopiesAreNumbered p)

  abbrev ComesInTime : Actor C → Type 0
  ComesInTime = HoldsOfKind (λ app. Unit {0}) (λ (p : PathState C). ComesFrom p.clock p)

  -- what becomes of what is asked, with what held of each sender, which was so where the end had no record
  abbrev pub AsksComeSo : (PathEnd → Bool → Bool → Type 0) → Codec C → Actor C → Actor C → Type 0
  AsksComeSo Was k (Path p) (Path q) = (s : Side) (by_then : ℕ) → segments_sent s p.link < 2 ^ 64 - 1
      → ((end_at s p).tcp.send.records ≡ [] → Was (end_at s p) (is_stripped s (next_number s p.link) p.clock p.link.lines) (is_altered s (next_number s p.link) p.link.lines))
      → (h : IsAskedAgain k s by_then p) → IsAskedSo Was h → (go : AskingGoesOn k s by_then p q) × AskComesSo Was go
  AsksComeSo Was k (App a) (App b) = Unit {0}
  AsksComeSo Was k _ _ = ⊥

  asks_go_on : (Was : PathEnd → Bool → Bool → Type 0) (k : Codec C) (m n : Actor C) → EndsRunOn m n → PathsGoAgain k m n → PathsHandOver k m n → CopiesGoOn m n → FramesStay m n → ComesInTime m → AreNumbered m → AsksComeSo Was k m n
  asks_go_on Was k (App a) (App b) timers again hands copies frames past numbered = tt
  asks_go_on Was k (Path p) (Path q) timers again hands copies frames past numbered = λ s by_then few was h so. goes_by k s by_then p q frames Was was numbered timers again hands copies past few h so
  asks_go_on Was k (App a) (Path q) timers again hands copies frames past numbered = absurd timers
  asks_go_on Was k (Path p) (App b) timers again hands copies frames past numbered = absurd timers

  -- whatever its sender
  any_asker : {s : Side} {n : ℕ} {p : PathState C} (k : Codec C) (h : IsAskedAgain k s n p) → IsAskedSo (λ e strips alters. Unit {0}) h
  any_asker k (waits tick low h none) = tt
  any_asker k (resends low is none) = tt
  any_asker k (flies f low there h) = tt

  whoever_asks : (k : Codec C) (m n : Actor C) → AsksComeSo (λ e strips alters. Unit {0}) k m n → AsksGoOn k m n
  whoever_asks k (App a) (App b) h = tt
  whoever_asks k (Path p) (Path q) h = λ s by_then few way. (h s by_then few (λ none. tt) way (any_asker k way)).0
  whoever_asks k (App a) (Path q) h = absurd h
  whoever_asks k (Path p) (App b) h = absurd h

  pub asks_come_so : (Was : PathEnd → Bool → Bool → Type 0) (k : Codec C) (w : WorldState C) → NothingIsOverdue w → LinksAreNumbered w → (turn : Turn) (actor : ℕ) (c : ActorCrew C) → slice_get w.crew actor ≡ Some c
      → (d : ActorCrew C) × (slice_get (after_turn k turn w).crew actor ≡ Some d) × AsksComeSo Was k c.member d.member
  asks_come_so Was k w past numbered turn actor c there =
      let timers = timers_run_on k w turn actor c there in
      let d : ActorCrew C = timers.0 in
      let again = what_runs_out_goes_again k w turn actor c there in
      let hands = each_segment_says_what_came k w turn actor c there in
      let copies = copies_leave k w turn actor c there in
      let frames = frames_stay k w turn actor c there in (
        d,
        timers.1,
        asks_go_on Was k c.member d.member timers.2
            (subst (λ (x : ActorCrew C). PathsGoAgain k c.member x.member) (same_Some again.0 d (sym again.1 ∙ timers.1)) again.2)
            (subst (λ (x : ActorCrew C). PathsHandOver k c.member x.member) (same_Some hands.0 d (sym hands.1 ∙ timers.1)) hands.2)
            (subst (λ (x : ActorCrew C). CopiesGoOn c.member x.member) (same_Some copies.0 d (sym copies.1 ∙ timers.1)) copies.2)
            (subst (λ (x : ActorCrew C). FramesStay c.member x.member) (same_Some frames.0 d (sym frames.1 ∙ timers.1)) frames.2)
            (past.each actor c there)
            (numbered.each actor c there),
      )

  goes_on_so : (k : Codec C) (w : WorldState C) → NothingIsOverdue w → LinksAreNumbered w → (turn : Turn) (actor : ℕ) (c : ActorCrew C) → slice_get w.crew actor ≡ Some c
      → (d : ActorCrew C) × (slice_get (after_turn k turn w).crew actor ≡ Some d) × AsksGoOn k c.member d.member
  goes_on_so k w past numbered turn actor c there = let go = asks_come_so (λ e strips alters. Unit {0}) k w past numbered turn actor c there in (go.0, go.1, whoever_asks k c.member go.0.member go.2)

  -- at the end of a turn
  abbrev pub AskedAtTheEnd : (PathEnd → Bool → Bool → Type 0) → Codec C → PathState C → Type 0
  AskedAtTheEnd Was k p = p.agenda ≡ [] → (s : Side) → is_closed_to_segments (end_at s p).tcp.state ≡ false → (end_at s p).tcp.send.records ≡ [] → IsOutstanding (end_at s p)
      → (h : IsAskedAgain k s (p.clock + 60000 + 400) p) × IsAskedSo Was h

  begins_so : (Was : PathEnd → Bool → Bool → Type 0) (k : Codec C) (p : PathState C) → IsTimedWhereItWaits p → IsSettledAtTheEnd p → TimersAreNear p → AskedAtTheEnd Was k p
  begins_so Was k p timed settled near over s living none out = by (end_at s p).tcp.timing.timer refl (timed over s living out)
    where
      alive : (state : State) → is_closed_to_segments state ≡ false → is_dead state ≡ false
      alive phase.Dead living = absurd (true≢false living)
      alive _ living = refl

      by : (o : Option ℕ) → (end_at s p).tcp.timing.timer ≡ o → IsSome o → (h : IsAskedAgain k s (p.clock + 60000 + 400) p) × IsAskedSo Was h
      by None runs some = absurd (true≢false (sym some))
      by (Some tick) runs some = (
        waits tick (let low = timer_near s tick p near runs in omega (arith, low))
            (record { timer = runs; settled = settled over s (alive (end_at s p).tcp.state living); living = living }) none,
        tt,
      )

  abbrev OfPaths : (PathState C → Type 0) → Actor C → Type 0
  OfPaths P = HoldsOfKind (λ app. Unit {0}) P

  member_so : (Was : PathEnd → Bool → Bool → Type 0) (k : Codec C) (m : Actor C) → OfPaths IsTimedWhereItWaits m → OfPaths IsSettledAtTheEnd m → OfPaths TimersAreNear m → OfPaths (AskedAtTheEnd Was k) m
  member_so Was k (App a) timed settled near = tt
  member_so Was k (Path p) timed settled near = begins_so Was k p timed settled near

  pub asked_at_the_end : (Was : PathEnd → Bool → Bool → Type 0) (k : Codec C) (start : Start) (turns : List Turn) (actor : ℕ) (c : ActorCrew C) → slice_get (world_run k turns (opened_world start)).crew actor ≡ Some c
      → OfPaths (AskedAtTheEnd Was k) c.member
  asked_at_the_end Was k start turns actor c there = member_so Was k c.member ((who_waits_has_a_timer k start turns).each actor c there) (((no_timer_is_put_off k).settled start turns).each actor c there)
      ((timers_run_out k start turns).each actor c there)

  asks_at_the_end : (k : Codec C) (m : Actor C) → OfPaths (AskedAtTheEnd (λ e strips alters. Unit {0}) k) m → OfPaths (IsAskedAtTheEnd k) m
  asks_at_the_end k (App a) h = tt
  asks_at_the_end k (Path p) h = λ over s living none out. (h over s living none out).0

  pub what_is_asked_comes : (k : Codec C) → WhatIsAskedComes k
  what_is_asked_comes k = record {
    begins = λ start turns. record { each = λ actor c there. asks_at_the_end k c.member (asked_at_the_end (λ e strips alters. Unit {0}) k start turns actor c there) };
    goes_on = goes_on_so k;
  }
