-- Each expiry is answered in time, where the segments of its exchange mean to the ends what they should: by the ticks of copies and timers.
use Rattle.std.proofs.Common.{◌≡◌, refl, sym, subst, ap, ◌∙◌, inl, inr, ◌⊎◌, ⊎_elim, ℕ, zero, suc, ◌+◌, ◌-◌, ◌*◌, ◌^◌, ◌<◌, ◌≤◌, min, arith, le_refl, nat_le, nat_lt, Bool, true, false, true≢false, if◌then◌else◌, Option, Some, None, List, [], ◌∷◌, length}
use Rattle.std.specs.List.{AllByRecursion, slice_get}
use Rattle.std.specs.Option.{IfSome, option_and_then}
use Rattle.std.proofs.lemmas.Bool.{both_ways, cases_lt}
use Rattle.std.proofs.lemmas.Option.{same_Some}
use Rattle.sides.specs.declared.side.Side.{Side}
use Rattle.sides.specs.declared.side.Side.TheVariants.{A, B}
use Rattle.sides.specs.Side.{peer}
use Rattle.path_segments.specs.Spelled.{PlainSegment}
use Rattle.link_script.specs.declared.script.ScriptLine.{ScriptLine}
use Rattle.link_model.specs.Steps.{changed, due_of, next_due, segments_sent}
use Rattle.link_model.specs.declared.flight.Due.{Due}
use Rattle.link_model.specs.declared.flight.Flight.{Flight}
use Rattle.subflow_tcp.specs.States.{is_dead, is_waiting}
use Rattle.subflow_tcp.specs.declared.dues.Due.{Due as Dues}
use Rattle.subflow_tcp.specs.declared.handshake.State.{State as EndPhase}
use Rattle.path_agenda.specs.Agenda.{emission}
use Rattle.path_agenda.specs.declared.duty.Duty.{Duty}
use Rattle.path_agenda.specs.declared.duty.Duty.TheVariants as duties
use Rattle.path_agenda.specs.declared.duty.AskDuty.TheVariants as ask_duties
use Rattle.path_agenda.specs.declared.duty.SendDuty.TheVariants as send_duties
use Rattle.path_agenda.specs.declared.duty.StepDuty.TheVariants as step_duties
use Rattle.path_store.specs.declared.lines.LineLeft.{LineLeft}
use Rattle.path_core.specs.Events.{before, earlier, earliest, next_copy, next_event, next_join, next_line, tick_of}
use Rattle.path_core.specs.Handover.{handed}
use Rattle.path_core.specs.OptionsOut.{ack_said}
use Rattle.path_core.specs.State.{PathState, end_at}
use Rattle.path_core.specs.Timer.{next_fire}
use Rattle.path_core.specs.Values.{Carried, altered, as_arrived, carried_by, stripped, values}
use Rattle.path_core.specs.declared.events.Event.{Event}
use Rattle.path_core.specs.declared.events.Event.TheVariants as happenings
use Rattle.world_laws.specs.declared.member.Member.TheVariants.{Path}
use Rattle.world_laws.specs.Actors.{Actor, ActorCrew}
use Rattle.world_laws.specs.Members.{HoldsOfKind}
use Rattle.world_laws.specs.Openings.{Start}
use Rattle.world_laws.specs.RoundDone.{reached}
use Rattle.world_laws.specs.Worlds.{WorldState, Turn, after_turn}
use Rattle.whole_paths.specs.AsFar.{IsActorAsFar, stage}
use Rattle.whole_paths.specs.Answered.{HasAnswered, IsDone}
use Rattle.whole_paths.specs.Answered.IsDone.{next, over}
use Rattle.whole_paths.specs.AnsweredExpiries.{IsAnsweredAt, IsAnsweredInTime, IsHeardBy, IsLivingTurn, IsOwed, OpensOn, SegmentsMeanSo}
use Rattle.whole_paths.specs.AnsweredExpiries.{IsHeardBy as heard}
use Rattle.whole_paths.specs.AnsweredExpiries.{OpensOn as opening}
use Rattle.whole_paths.specs.Copies.{CopiesAreNumbered, CopiesGoOn, GoesOnItsWay, IsUnderWay}
use Rattle.whole_paths.specs.Copies.{GoesOnItsWay as going}
use Rattle.whole_paths.specs.Expiries.{Expires, IsToSend, IsToSendAgain, PathsGoAgain, RunsOut, SendsAgain}
use Rattle.whole_paths.specs.ExpiriesInARow.{ExpiriesAreAnswered, in_a_row}
use Rattle.whole_paths.specs.FewLossesEnd.{RunsAlive}
use Rattle.whole_paths.specs.Finish.{IsPathAt, harmed, is_harmed}
use Rattle.whole_paths.specs.InTime.{ComesFrom}
use Rattle.whole_paths.specs.Mending.{IsSentSoon}
use Rattle.whole_paths.specs.Mild.{LinkIsMild}
use Rattle.whole_paths.specs.OwedGoes.{IsReply, OwedGoes}
use Rattle.whole_paths.specs.OwedGoes.{IsReply as reply}
use Rattle.whole_paths.specs.OwedGoes.{OwedGoes as owed}
use Rattle.whole_paths.specs.Reasons.{IsOutstanding}
use Rattle.whole_paths.specs.SetTimers.{RunsForASecond, TimersRunForASecond}
use Rattle.whole_paths.specs.Timers.{TimersAreNear}
use Rattle.whole_paths.specs.Finish.{harms_between, harms_of}
use Rattle.whole_paths.specs.Mild.{IsMildStart}
use Rattle.whole_paths.proofs.Arrivals.{sender_of}
use Rattle.whole_paths.proofs.Copies.{copies_leave}
use Rattle.whole_paths.proofs.Marking.{MarksTo, turn_marks}
use Rattle.whole_paths.proofs.Flying.{Frames, FramesStay, frames_stay}
use Rattle.whole_paths.proofs.GoesOn.{goes_on_so}
use Rattle.whole_paths.proofs.InTime.{events_come_in_order, nothing_is_overdue}
use Rattle.whole_paths.proofs.Mild.{links_are_mild}
use Rattle.whole_paths.proofs.OwedGoes.{what_is_owed_goes}
use Rattle.whole_paths.proofs.Owing.{copies_are_answered}
use Rattle.whole_paths.proofs.Pieces.{is_event}
use Rattle.whole_paths.proofs.RecordWaits.{path_is}
use Rattle.whole_paths.proofs.Resending.{what_runs_out_goes_again}
use Rattle.whole_paths.proofs.SentByTurns.{each_turn_sends_one_at_most}
use Rattle.whole_paths.proofs.SentSoon.{what_is_sent_comes_soon}
use Rattle.whole_paths.proofs.Straying.{end_far}
use Rattle.whole_paths.proofs.TimerReasons.{each_timer_has_a_reason}
use Rattle.whole_paths.proofs.SetTimers.{each_timer_runs_for_a_second}
use Rattle.whole_paths.proofs.Timing.{timers_run_out}

-- ---- the timer that runs out

module _ (p : PathState Carried) where
  abbrev IsOfATimer : Option Event → Type 0
  IsOfATimer (Some (happenings.Fires s tick)) = (end_at s p).tcp.timing.timer ≡ Some tick
  IsOfATimer _ = Unit {0}

  earlier_of : (x y : Option Event) → IsOfATimer x → IsOfATimer y → IsOfATimer (earlier x y)
  earlier_of None y one other = other
  earlier_of (Some x) None one other = one
  earlier_of (Some x) (Some y) one other = elim (nat_le (tick_of x) (tick_of y)) as (λ b. IsOfATimer (if b then Some x else Some y)) [ true ↦ one | false ↦ other ]

  join_of : (state : EndPhase) (o : Option ℕ) → IsOfATimer (next_join state o)
  join_of state None = tt
  join_of state (Some tick) = elim (is_waiting state) as (λ b. IsOfATimer (if b then Some (happenings.Joins tick) else None)) [ true ↦ tt | false ↦ tt ]

  line_of : (lines : List LineLeft) → IsOfATimer (next_line lines)
  line_of [] = tt
  line_of (line ∷ lines) = tt

  copy_of_timer : (o : Option Due) → IsOfATimer (next_copy o)
  copy_of_timer None = tt
  copy_of_timer (Some due) = tt

  fire_of : (s : Side) (o : Option ℕ) → (end_at s p).tcp.timing.timer ≡ o → IsOfATimer (next_fire s o)
  fire_of s None is = tt
  fire_of s (Some tick) is = is

  round_of : (until : ℕ) (o : Option Event) → IsOfATimer o → IsOfATimer (option_and_then (before until) o)
  round_of until None h = tt
  round_of until (Some event) h = elim (nat_lt (tick_of event) until) as (λ b. IsOfATimer (if b then Some event else None)) [ true ↦ h | false ↦ tt ]

  pub timer_of : (s : Side) (tick : ℕ) → next_event p ≡ Some (happenings.Fires s tick) → (end_at s p).tcp.timing.timer ≡ Some tick
  timer_of s tick is = subst IsOfATimer is (round_of p.until (earliest p)
      (earlier_of (next_join p.a.tcp.state p.joined_at) _ (join_of p.a.tcp.state p.joined_at)
      (earlier_of (next_line p.lines) _ (line_of p.lines)
      (earlier_of (next_copy (next_due p.link.under_way)) _ (copy_of_timer (next_due p.link.under_way))
      (earlier_of (next_fire A p.a.tcp.timing.timer) (next_fire B p.b.tcp.timing.timer) (fire_of A p.a.tcp.timing.timer refl) (fire_of B p.b.tcp.timing.timer refl))))))

-- ---- small things

all_at : (P : Flight Carried → Type 0) (fs : List (Flight Carried)) (i : ℕ) (f : Flight Carried) → AllByRecursion P fs → slice_get fs i ≡ Some f → P f
all_at P [] i f h is = cc
all_at P (g ∷ fs) zero f h is = subst P (same_Some g f is) h.0
all_at P (g ∷ fs) (suc i) f h is = all_at P fs i f h.1 is

-- no copy comes before what comes next
late : (n : ℕ) (f : Flight Carried) (p : PathState Carried) → ComesFrom n p → IsUnderWay f p → n ≤ f.tick
late n f p h there = subst (λ (g : Flight Carried). n ≤ g.tick) there.holds (all_at (λ (f : Flight Carried). n ≤ f.tick) p.link.under_way there.at there.item h.copies there.there)

comes_first : List Duty → Bool
comes_first [] = false
comes_first (d ∷ ds) = is_event d

not_to_send : (s : Side) (others : List Duty) (p : PathState Carried) → IsToSendAgain s p → p.agenda ≡ duties.Step step_duties.Events ∷ others → ⊥
unfolding comes_first
not_to_send s others p again first = ⊎_elim
    (λ is. true≢false (sym (ap comes_first (sym is ∙ first))))
    (λ is. true≢false (sym (ap comes_first (sym is ∙ first)))) again

-- the copy is the segment itself, where the link changes nothing
arrives_whole : (s : Side) (x : PlainSegment) (p q : PathState Carried) (lines : List ScriptLine) → LinkIsMild lines p → (h : IsSentSoon values s x p q) → as_arrived h.copy.carried ≡ x
arrives_whole s x p q lines mild h =
    ap as_arrived (h.carried ∙ ap (λ b. changed stripped altered b h.altered (carried_by p.profile.spelling s x)) (h.whole mild.strips) ∙ ap (λ b. changed stripped altered false b (carried_by p.profile.spelling s x)) (h.plain mild.alters))

-- ---- harms

two : (a b : Bool) → (a ≡ true) ⊎ (b ≡ true) → 1 ≤ (if a then 1 else 0) + (if b then 1 else 0)
two true b is = elim b as (λ b. 1 ≤ 1 + (if b then 1 else 0)) [ true ↦ omega arith | false ↦ omega arith ]
two false true is = omega arith
two false false is = absurd (⊎_elim (λ no. true≢false (sym no)) (λ no. true≢false (sym no)) is)

harm_between : (s : Side) (p q : PathState Carried) → is_harmed s p q ≡ true → 1 ≤ harms_between (Path p) (Path q)
harm_between A p q is = two (is_harmed A p q) (is_harmed B p q) (inl is)
harm_between B p q is = two (is_harmed A p q) (is_harmed B p q) (inr is)

-- ---- a turn

module _ (start : Start) (turns : List Turn) (turn : Turn) (p q : PathState Carried) (t : IsLivingTurn start turns turn p q) (mild : IsMildStart start) (few : length turns < 2 ^ 64 - 1) where
  abbrev w : WorldState Carried
  w = reached values start turns

  between : (R : Actor Carried → Actor Carried → Type 0) → (d : ActorCrew Carried) × (slice_get (after_turn values turn w).crew 2 ≡ Some d) × R t.before.crew.member d.member → R (Path p) (Path q)
  between R found = subst (λ m. R (Path p) m) t.after.is (subst (λ m. R m t.after.crew.member) t.before.is
      (subst (λ (d : ActorCrew Carried). R t.before.crew.member d.member) (same_Some found.0 t.after.crew (sym found.1 ∙ t.after.there)) found.2))

  of_path : (P : PathState Carried → Type 0) → HoldsOfKind (λ app. Unit {0}) P t.before.crew.member → P p
  of_path P h = subst (HoldsOfKind (λ app. Unit {0}) P) t.before.is h

  frames : Frames p q
  frames = between FramesStay (frames_stay values w turn 2 t.before.crew t.before.there)

  runs : (s : Side) → RunsForASecond s p q
  runs = between TimersRunForASecond (each_timer_runs_for_a_second values start turns turn 2 t.before.crew t.before.there)

  far : (s : Side) → stage (end_at s p).tcp.state ≤ stage (end_at s q).tcp.state
  far s = (end_far p q (between IsActorAsFar (let found = (goes_on_so values w (turn ∷ [])).crew 2 t.before.crew t.before.there in (found.0, found.1, found.2.member))) s).subflow.state

  leaves : (f : Flight Carried) → IsUnderWay f p → GoesOnItsWay f p q
  leaves = between CopiesGoOn (copies_leave values w turn 2 t.before.crew t.before.there)

  near : TimersAreNear p
  near = of_path TimersAreNear ((timers_run_out values start turns).each 2 t.before.crew t.before.there)

  later : p.clock ≤ q.clock
  later = (between (MarksTo values) (turn_marks values w turn 2 t.before.crew t.before.there)).clock (let low = near.clock in omega (arith, low))

  link : LinkIsMild start.lines p
  link = of_path (LinkIsMild start.lines) ((links_are_mild values start turns mild).each 2 t.before.crew t.before.there)

  sent : (s : Side) (x : PlainSegment) → q.link ≡ handed values s x p → (is_harmed s p q ≡ true) ⊎ IsSentSoon values s x p q
  sent s x taken = (what_is_sent_comes_soon values).comes p q (of_path CopiesAreNumbered (((what_is_sent_comes_soon values).numbered start turns).each 2 t.before.crew t.before.there)) s x
      (let most = of_path (λ (p : PathState Carried). (s : Side) → segments_sent s p.link ≤ length turns) (each_turn_sends_one_at_most values start turns 2 t.before.crew t.before.there) s in omega (arith, most, few)) taken

  harm_counts : (s : Side) → is_harmed s p q ≡ true → 1 ≤ harmed values 0 (turn ∷ []) w
  harm_counts s is =
      let one : 1 ≤ harms_between t.before.crew.member t.after.crew.member = subst (λ m. 1 ≤ harms_between t.before.crew.member m) (sym t.after.is) (subst (λ m. 1 ≤ harms_between m (Path q)) (sym t.before.is) (harm_between s p q is)) in
      let all : 1 ≤ harms_of (slice_get w.crew 2) (slice_get (after_turn values turn w).crew 2) =
      subst (λ o. 1 ≤ harms_of (slice_get w.crew 2) o) (sym t.after.there) (subst (λ o. 1 ≤ harms_of o (Some t.after.crew)) (sym t.before.there) one) in
      omega (arith, all)

  -- the timer stays behind
  early : (s : Side) (by : ℕ) → by ≤ p.clock + 800 → IfSome (end_at s p).tcp.timing.timer (λ tick. by < tick) → IfSome (end_at s q).tcp.timing.timer (λ tick. by < tick)
  early s by soon was = at (end_at s q).tcp.timing.timer (runs s)
    where
      at : (o : Option ℕ) → IfSome o (λ tick. ((end_at s p).tcp.timing.timer ≡ Some tick) ⊎ (q.clock + 1000 ≤ tick)) → IfSome o (λ tick. by < tick)
      at None h = tt
      at (Some tick) h = ⊎_elim (λ same. subst (λ o. IfSome o (λ tick. by < tick)) same was) (λ far. let up = later in omega (arith, far, up, soon)) h

  -- ---- the exchange

  module _ (Wants Ends : Side → PlainSegment → PathState Carried → Type 0) (Opens : Side → PathState Carried → Type 0) (mean : SegmentsMeanSo Wants Ends Opens start) (s : Side) (h : IsAnsweredInTime Wants Ends Opens s p) where
    abbrev Result : Type 0
    Result = IsAnsweredInTime Wants Ends Opens s q ⊎ ((1 ≤ harmed values 0 (turn ∷ []) w) ⊎ (in_a_row (end_at s q) ≡ 0))

    still : IsHeardBy Wants Ends Opens s h.by q → Result
    still heard_so = inl (record { by = h.by; heard = heard_so; soon = (let up = later in let soon = h.soon in omega (arith, up, soon)); early = early s h.by h.soon h.early })

    over_now : in_a_row (end_at s q) ≡ 0 → Result
    over_now none = inr (inr none)

    same_now : q ≡ p → Result
    same_now same = inl (subst (IsAnsweredInTime Wants Ends Opens s) (sym same) h)

    -- what it sends again
    sends_again : p.clock + 800 ≤ h.by → IsToSend s p → IsOutstanding (end_at s p) → SendsAgain values s p q → Result
    sends_again low is out again = ⊎_elim
        (λ harm. inr (inl (harm_counts s harm)))
        (λ soon. ⊎_elim
        (λ wants. still (heard.goes soon.copy soon.there soon.to (let tick = soon.soon in omega (arith, tick, low)) (subst (λ x. Wants s x q) (sym (arrives_whole s again.segment p q start.lines link soon)) wants)))
        over_now
        (mean.goes_again turns turn p q t s is out again))
        (sent s again.segment again.taken)

    goes_again : PathsGoAgain values (Path p) (Path q)
    goes_again = between (PathsGoAgain values) (what_runs_out_goes_again values w turn 2 t.before.crew t.before.there)

    resends_on : p.clock + 800 ≤ h.by → IsOutstanding (end_at s p) → IsToSendAgain s p → Result
    resends_on low out (inl is) = ⊎_elim same_now
        (λ next. still (heard.resends (let clock = frames.stands (duties.Ask (ask_duties.Return s)) (duties.Send (send_duties.Resend s) ∷ emission s) is refl in omega (arith, clock, low))
        (record { next = inr next.0; outstanding = subst IsOutstanding (sym next.1) out })))
        (goes_again.gives_back s is)
    resends_on low out (inr is) = ⊎_elim same_now (λ again. sends_again low is out again) (goes_again.sends s is)

    -- the peer's reply
    answered : HasAnswered p
    answered = of_path HasAnswered ((copies_are_answered values start turns).each 2 t.before.crew t.before.there)

    owes_none : IsOwed s p → IsDone p → ⊥
    owes_none is done = let none = answered done (peer s) (t.lived (peer s)) in both_ways _ none.ack is.ack

    stands_still : IsOwed s p → (ds : List Duty) → p.agenda ≡ ds → q.clock ≡ p.clock
    stands_still is [] first = absurd (owes_none is (over first))
    stands_still is (d ∷ ds) first = by (is_event d) refl
      where
        event : (d : Duty) → is_event d ≡ true → d ≡ duties.Step step_duties.Events
        event (duties.Step step_duties.Events) is = refl
        event _ is = absurd (true≢false (sym is))

        by : (b : Bool) → is_event d ≡ b → q.clock ≡ p.clock
        by true e = absurd (owes_none is (next ds (first ∙ ap (λ d. d ∷ ds) (event d e))))
        by false e = frames.stands d ds first e

    owes_on : p.clock + 400 ≤ h.by → IsOwed s p → Result
    owes_on low is = by (what_is_owed_goes start turns turn mild p q t.before t.after t.lived (peer s) (inl is.ack))
      where
        acks : (x : PlainSegment) → IsReply p.profile (peer s) (end_at (peer s) p) x → x ≡ ack_said p.profile (peer s) (end_at (peer s) p).tcp.send.nxt None (end_at (peer s) p)
        acks x (reply.acks none said) = said
        acks x (reply.opens none said) = absurd (both_ways _ none is.ack)

        by : OwedGoes (peer s) p q → Result
        by (owed.owes same) = still (heard.owes (let clock = stands_still is p.agenda refl in omega (arith, clock, low))
            (record { opened = (let high = is.opened in let up = far s in omega (arith, high, up)); ack = ap (λ (d : Dues). d.ack) same ∙ is.ack }))
        by (owed.gone u dead) = absurd (both_ways _ (t.lives u) dead)
        by (owed.goes x said taken clock) = ⊎_elim
            (λ harm. inr (inl (harm_counts (peer s) harm)))
            (λ soon. ⊎_elim
            (λ ends. still (heard.returns soon.copy soon.there (soon.to ∙ sender_of s) (let tick = soon.soon in omega (arith, tick, low)) (subst (λ x. Ends s x q) (sym (arrives_whole (peer s) x p q start.lines link soon)) ends)))
            over_now
            (mean.replies turns turn p q t s x is (acks x said)))
            (sent (peer s) x taken)

    opens_on : p.clock + 400 ≤ h.by → Opens s p → Result
    opens_on low is = by (mean.opens_on turns turn p q t s is)
      where
        by : OpensOn Wants Ends Opens s p q → Result
        by (opening.opens clock still_is) = still (heard.opens (omega (arith, clock, low)) still_is)
        by (opening.over none) = over_now none
        by (opening.goes x taken clock ends) = ⊎_elim
            (λ harm. inr (inl (harm_counts (peer s) harm)))
            (λ soon. still (heard.returns soon.copy soon.there (soon.to ∙ sender_of s) (let tick = soon.soon in omega (arith, tick, low))
            (subst (λ x. Ends s x q) (sym (arrives_whole (peer s) x p q start.lines link soon)) ends)))
            (sent (peer s) x taken)

    -- copies
    dead_never : (is_dead q.a.tcp.state ≡ true) → ⊥
    dead_never dead = both_ways _ (t.lives A) dead

    moved : (f : Flight Carried) → IsUnderWay f p → (others : List Duty) → p.agenda ≡ duties.Step step_duties.Events ∷ others → next_event p ≡ Some (happenings.Arrives (due_of f)) → q.clock ≤ f.tick
    moved f there others first comes_then =
        let low : p.clock ≤ f.tick = late p.clock f p (of_path (λ (p : PathState Carried). ComesFrom p.clock p) ((nothing_is_overdue values start turns).each 2 t.before.crew t.before.there)) there in ⊎_elim
        (λ same. subst (λ (x : PathState Carried). x.clock ≤ f.tick) (sym same) low)
        (λ is. omega (arith, is, low))
        (frames.moves (happenings.Arrives (due_of f)) others first comes_then)

    goes_on : (f : Flight Carried) → IsUnderWay f p → f.to ≡ peer s → f.tick + 400 ≤ h.by → Wants s (as_arrived f.carried) p → Result
    goes_on f there to low wants = by (leaves f there)
      where
        by : GoesOnItsWay f p q → Result
        by (going.on now) = ⊎_elim (λ w. still (heard.goes f now to low w)) over_now (mean.wants_on turns turn p q t s (as_arrived f.carried) wants)
        by (going.dies line comes_then is dead) = absurd (dead_never dead)
        by (going.arrives others first then_next) = ⊎_elim same_now
            (λ x. ⊎_elim
            (λ y. let clock = moved f there others first then_next in ⊎_elim (λ owes. still (heard.owes (omega (arith, clock, low)) owes)) (λ opens. still (heard.opens (omega (arith, clock, low)) opens)) y)
            over_now x)
            (mean.wants_come turns turn p q t s f there to wants (record { others = others; first = first; next = then_next }))

    returns_on : (f : Flight Carried) → IsUnderWay f p → f.to ≡ s → f.tick ≤ h.by → Ends s (as_arrived f.carried) p → Result
    returns_on f there to low ends = by (leaves f there)
      where
        by : GoesOnItsWay f p q → Result
        by (going.on now) = ⊎_elim (λ e. still (heard.returns f now to low e)) over_now (mean.ends_on turns turn p q t s (as_arrived f.carried) ends)
        by (going.dies line comes_then is dead) = absurd (dead_never dead)
        by (going.arrives others first then_next) = ⊎_elim same_now over_now (mean.ends_come turns turn p q t s f there to ends (record { others = others; first = first; next = then_next }))

    goes_so : Result
    goes_so = by h.heard
      where
        by : IsHeardBy Wants Ends Opens s h.by p → Result
        by (heard.resends low is) = resends_on low is.outstanding is.next
        by (heard.goes f there to low wants) = goes_on f there to low wants
        by (heard.owes low is) = owes_on low is
        by (heard.opens low is) = opens_on low is
        by (heard.returns f there to low ends) = returns_on f there to low ends

-- ---- every moment

module _ (Wants Ends : Side → PlainSegment → PathState Carried → Type 0) (Opens : Side → PathState Carried → Type 0) (start : Start) (mild : IsMildStart start) (mean : SegmentsMeanSo Wants Ends Opens start) where
  abbrev Living : PathState Carried → Type 0
  Living p = (s : Side) → is_dead (end_at s p).tcp.state ≡ false

  on_at : (turns : List Turn) → length turns < 2 ^ 64 - 1 → (turn : Turn) (s : Side) (p q : PathState Carried) → Living p → Living q → let w = reached values start turns in
      IsPathAt 0 w p → IsPathAt 0 (after_turn values turn w) q → IsAnsweredAt Wants Ends Opens s w
      → IsAnsweredAt Wants Ends Opens s (after_turn values turn w) ⊎ ((1 ≤ harmed values 0 (turn ∷ []) w) ⊎ (in_a_row (end_at s q) ≡ 0))
  on_at turns few turn s p q lived lives here there comes = ⊎_elim
      (λ in_time. inl (record { path = q; here = there; in_time = in_time })) (λ rest. inr rest)
      (goes_so start turns turn p q (record { before = here; after = there; lived = lived; lives = lives; few = few }) mild few Wants Ends Opens mean s
      (subst (IsAnsweredInTime Wants Ends Opens s) (path_is (reached values start turns) comes.path p comes.here here) comes.in_time))

  begins_at : (turns : List Turn) → length turns < 2 ^ 64 - 1 → (turn : Turn) (s : Side) (p q : PathState Carried) → Living p → Living q → let w = reached values start turns in
      IsPathAt 0 w p → IsPathAt 0 (after_turn values turn w) q → (tick : ℕ) → RunsOut s tick p → in_a_row (end_at s q) ≡ suc (in_a_row (end_at s p)) → IsAnsweredAt Wants Ends Opens s (after_turn values turn w)
  begins_at turns few turn s p q lived lives here there tick out one = ⊎_elim
      (λ same. let as_much = ap (λ (x : PathState Carried). in_a_row (end_at s x)) same in absurd (omega (arith, as_much, one)))
      (λ (expires : Expires s p q). ⊎_elim
      (λ less. timed expires less)
      (λ many. absurd (both_ways _ (lives s) (expires.sixth many)))
      (cases_lt (in_a_row (end_at s p)) 5))
      ((between start turns turn p q t mild few (PathsGoAgain values) (what_runs_out_goes_again values (reached values start turns) turn 2 here.crew here.there)).fires s tick out)
    where
      t : IsLivingTurn start turns turn p q
      t = record { before = here; after = there; lived = lived; lives = lives; few = few }

      -- what the timer ran for
      reason : IsOutstanding (end_at s p)
      reason = each_timer_has_a_reason start turns p here out.others out.first s (lived s) tick (timer_of p s tick out.next)

      timed : Expires s p q → in_a_row (end_at s p) < 5 → IsAnsweredAt Wants Ends Opens s (after_turn values turn (reached values start turns))
      timed expires less =
          let again = expires.again less in record {
            path = q;
            here = there;
            in_time = record {
              by = q.clock + 800;
              heard = heard.resends (le_refl (q.clock + 800)) (record { next = again.next; outstanding = again.outstanding reason });
              soon = le_refl (q.clock + 800);
              early = subst (λ o. IfSome o (λ tick. q.clock + 800 < tick)) (sym again.timer) (waits (end_at s p).tcp.timing.rtt.rto (least s));
            };
          }
        where
          near_p : TimersAreNear p
          near_p = near start turns turn p q t mild few

          least : (s : Side) → 1000 ≤ (end_at s p).tcp.timing.rtt.rto
          least A = near_p.a.timeout.least
          least B = near_p.b.timeout.least

          waits : (rto : ℕ) → 1000 ≤ rto → q.clock + 800 < q.clock + min 60000 (2 * rto)
          waits rto least = omega (arith, least)

  due_at : (turns : List Turn) (s : Side) (p : PathState Carried) → Living p → let w = reached values start turns in IsPathAt 0 w p → IsAnsweredAt Wants Ends Opens s w → (tick : ℕ) → RunsOut s tick p → ⊥
  due_at turns s p lived here comes tick out = by h.heard
    where
      h : IsAnsweredInTime Wants Ends Opens s p
      h = subst (IsAnsweredInTime Wants Ends Opens s) (path_is (reached values start turns) comes.path p comes.here here) comes.in_time

      behind : h.by < tick
      behind = subst (λ o. IfSome o (λ tick. h.by < tick)) (timer_of p s tick out.next) h.early

      ordered : ComesFrom tick p
      ordered = subst (HoldsOfKind (λ app. Unit {0}) (λ (p : PathState Carried). (event : Event) → next_event p ≡ Some event → ComesFrom (tick_of event) p)) here.is (events_come_in_order values start turns 2 here.crew here.there)
          (happenings.Fires s tick) out.next

      by : IsHeardBy Wants Ends Opens s h.by p → ⊥
      by (heard.resends low is) = not_to_send s out.others p is.next out.first
      by (heard.goes f there to low wants) = let late_so = late tick f p ordered there in let last = behind in omega (arith, late_so, last, low)
      by (heard.owes low is) =
          let none = subst (HoldsOfKind (λ app. Unit {0}) HasAnswered) here.is ((copies_are_answered values start turns).each 2 here.crew here.there) (next out.others out.first) (peer s) (lived (peer s)) in
          both_ways _ none.ack is.ack
      by (heard.opens low is) = mean.opens_first turns p here lived s is out.others out.first
      by (heard.returns f there to low ends) = let late_so = late tick f p ordered there in let last = behind in omega (arith, late_so, last, low)

  living_at : (w : WorldState Carried) (p : PathState Carried) → RunsAlive start w → IsPathAt 0 w p → Living p
  living_at w p alive here s = subst (λ (x : PathState Carried). is_dead (end_at s x).tcp.state ≡ false) (path_is w alive.path p alive.here here) (alive.living s)

  -- each expiry is answered
  pub expiries_are_answered_so : ExpiriesAreAnswered values (RunsAlive start) (IsAnsweredAt Wants Ends Opens)
  expiries_are_answered_so = record {
    begins = λ w turn alive later s p q here there. subst (λ w. IsPathAt 0 w p → IsPathAt 0 (after_turn values turn w) q → (tick : ℕ) → RunsOut s tick p → in_a_row (end_at s q) ≡ suc (in_a_row (end_at s p)) → IsAnsweredAt Wants Ends Opens s (after_turn values turn w))
        (sym alive.is) (begins_at alive.turns alive.few turn s p q (living_at w p alive here) (living_at (after_turn values turn w) q later there)) here there;
    on = λ w turn alive later s p q here there. subst (λ w. IsPathAt 0 w p → IsPathAt 0 (after_turn values turn w) q → IsAnsweredAt Wants Ends Opens s w → IsAnsweredAt Wants Ends Opens s (after_turn values turn w) ⊎ ((1 ≤ harmed values 0 (turn ∷ []) w) ⊎ (in_a_row (end_at s q) ≡ 0)))
        (sym alive.is) (on_at alive.turns alive.few turn s p q (living_at w p alive here) (living_at (after_turn values turn w) q later there)) here there;
    due = λ w alive s p here. subst (λ w. IsPathAt 0 w p → IsAnsweredAt Wants Ends Opens s w → (tick : ℕ) → RunsOut s tick p → ⊥) (sym alive.is) (due_at alive.turns s p (living_at w p alive here)) here;
  }
