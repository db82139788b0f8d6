-- No timer waits for more than a minute, at any moment.
use Rattle.std.proofs.Common.{◌≡◌, refl, sym, subst, ap, ℕ, ◌+◌, ◌<◌, ◌≤◌, max, nat_lt, Bool, true, false, is_none, ◌||◌, if◌then◌else◌, Option, Some, None, IfSome, arith}
use Rattle.std.proofs.lemmas.Bool.{ltb-true}
use Rattle.std.proofs.lemmas.Option.{same_Some}
use Rattle.std.specs.Option.{option_and_then}
use Rattle.sides.specs.declared.side.Side.{Side}
use Rattle.sides.specs.declared.side.Side.TheVariants.{A}
use Rattle.link_model.specs.Steps.{arriving, after_delivery}
use Rattle.rtt_timer.specs.Estimates.{IsWithinBounds}
use Rattle.loss_recovery.specs.declared.timers.Timing.{Timing}
use Rattle.loss_recovery.specs.Timers.{timer_settled, measured, stopped, heard}
use Rattle.subflow_send.specs.declared.record.AckKind.TheVariants.{New, Duplicate, Old, Future}
use Rattle.subflow_send.specs.Rules.{ack_kind, after_acknowledge, sample_of}
use Rattle.subflow_tcp.specs.declared.handshake.State.TheVariants.{Established}
use Rattle.subflow_tcp.specs.declared.segments.Hint.{Hint}
use Rattle.subflow_tcp.specs.declared.segments.Occasion.{Occasion}
use Rattle.subflow_tcp.specs.declared.segments.Occasion.TheVariants as to_send
use Rattle.subflow_tcp.specs.declared.verdicts.Meaning.{Meaning}
use Rattle.subflow_tcp.specs.declared.verdicts.Meaning.TheVariants as means
use Rattle.subflow_tcp.specs.Expiring.{after_fire, after_expiry, is_sixth, is_timed}
use Rattle.subflow_tcp.specs.Segments.{Copy}
use Rattle.subflow_tcp.specs.State.{EndState}
use Rattle.subflow_tcp.specs.Emitting.{after_sending}
use Rattle.subflow_tcp.specs.Taking.{after_death, after_payload, after_ack_kind, after_acknowledgement, is_duplicate, after_duplicate, after_interruption, told_by, after_telling, after_heard_ack, after_established, after_hearing, after_arrival}
use Rattle.actor_desk.specs.declared.ask.Reply.{Reply}
use Rattle.actor_desk.specs.Words.{tail_of}
use Rattle.path_agenda.specs.Agenda.{leaves, emission}
use Rattle.path_agenda.specs.declared.duty.Duty.{Duty}
use Rattle.path_store.specs.declared.lines.LineAction.TheVariants as actions
use Rattle.path_agenda.specs.declared.duty.Duty.TheVariants as duties
use Rattle.path_agenda.specs.declared.duty.SendDuty.TheVariants as send_duties
use Rattle.path_agenda.specs.declared.duty.SilentDuty.TheVariants as silent_duties
use Rattle.path_agenda.specs.declared.duty.StepDuty.TheVariants as step_duties
use Rattle.path_core.specs.Codec.{Codec}
use Rattle.path_core.specs.Duties.{passed, answered}
use Rattle.path_core.specs.Events.{before, earliest, next_event, after_line, happens_if, tick_of}
use Rattle.path_core.specs.Start.{waiting_path}
use Rattle.path_core.specs.Arrival.{copy_heard, heard_in}
use Rattle.path_core.specs.MpJoin.{is_never, keys_begun, never_joined, opened_by}
use Rattle.path_core.specs.State.{PathState, at_tick, end_at, goes_on}
use Rattle.path_core.specs.Steps.{takes, begins_turn, next_round}
use Rattle.path_core.specs.declared.events.Event.{Event}
use Rattle.path_core.specs.declared.events.Event.TheVariants as happenings
use Rattle.world_laws.specs.declared.member.Member.TheVariants.{App, Path}
use Rattle.world_laws.specs.Members.{HoldsOfKind}
use Rattle.world_laws.specs.Actors.{Actor, member_takes, member_next}
use Rattle.world_laws.specs.Laws.{Always}
use Rattle.world_laws.specs.Openings.{PathPlan, Start, path_begins, opened_world}
use Rattle.world_laws.specs.StampedBooks.{answer_to}
use Rattle.world_laws.specs.Writes.{Writes, OnlyAt, PathView, writes, side_of}
use Rattle.world_laws.proofs.Rounds.Lifting.{run_lifted, opened_lifted}
use Rattle.world_laws.proofs.Writes.Paths.{writes_no_more, passes_no_more}
use Rattle.world_laws.proofs.Writes.Steps.{Lasts, unwritten, takes_lasts, begins_lasts}
use Rattle.whole_paths.specs.EndSteps.{SubflowStep, SubflowSteps, PathStep}
use Rattle.whole_paths.specs.EndSteps.SubflowStep.{arrives, holds, owes, keeps, drops, advances, passes, forgets, pushes, finishes, sends, settles, fires, grows, begins, joins, dies}
use Rattle.whole_paths.specs.EndSteps.SubflowSteps.{none, more}
use Rattle.whole_paths.specs.Timers.{IsNear, TimersAreNear, TimersRunOut}
use Rattle.whole_paths.proofs.Duties.{passed_steps, answered_steps}

-- ---- the timer of an end

pub later : (now next : ℕ) (t : Timing) → now ≤ next → IsNear now t → IsNear next t
later now next t up h = record { timer = by t.timer h.timer; timeout = h.timeout }
  where
    by : (o : Option ℕ) → IfSome o (λ tick. tick ≤ now + 60000) → IfSome o (λ tick. tick ≤ next + 60000)
    by = elim [ None ↦ λ low. tt | Some tick ↦ λ low. omega (arith, low, up) ]

-- neither timer nor timeout changes
same_near : (now : ℕ) (t u : Timing) → u.timer ≡ t.timer → u.rtt ≡ t.rtt → IsNear now t → IsNear now u
same_near now t u timer rtt h = record {
  timer = subst (λ o. IfSome o (λ tick. tick ≤ now + 60000)) (sym timer) h.timer;
  timeout = subst (λ x. IsWithinBounds x.rto) (sym rtt) h.timeout;
}

stopped_near : (now : ℕ) (t : Timing) → IsNear now t → IsNear now (stopped t)
stopped_near now t h = record { timer = tt; timeout = h.timeout }

measured_near : (since : Option ℕ) (at now : ℕ) (t : Timing) → IsNear now t → IsNear now (measured since at t)
measured_near None at now t h = record { timer = h.timer; timeout = h.timeout }
measured_near (Some first) at now t h = record { timer = h.timer; timeout = record { least = omega arith; greatest = omega arith } }

settled_near : (reason restart : Bool) (now : ℕ) (t : Timing) → IsNear now t → IfSome (timer_settled reason restart now t) (λ tick. tick ≤ now + 60000)
settled_near false restart now t h = tt
settled_near true restart now t h = elim (is_none t.timer || (t.news || restart)) as (λ b. IfSome (if b then Some (now + t.rtt.rto) else t.timer) (λ tick. tick ≤ now + 60000))
    [ true ↦ let most = h.timeout.greatest in omega (arith, most) | false ↦ h.timer ]

-- ---- what a segment makes of it

ack_near : (pos at now : ℕ) (s : EndState) → IsNear now s.timing → IsNear now (after_acknowledgement pos at s).timing
ack_near pos at now s h = elim (ack_kind pos s.send) as (λ kind. IsNear now (after_ack_kind kind (sample_of pos s.send) at (record s { send = after_acknowledge pos s.send })).timing)
    [ New octets ↦ measured_near (sample_of pos s.send) at now s.timing h | Duplicate ↦ h | Old ↦ h | Future ↦ h ]

heard_ack_near : (pos : ℕ) (hint : Hint) (at now : ℕ) (c : Copy) (s : EndState) → IsNear now s.timing → IsNear now (after_heard_ack pos hint at c s).timing
heard_ack_near pos hint at now c s h =
    elim (is_duplicate (ack_kind pos s.send) (told_by hint c) c acked) as (λ b. IsNear now (after_telling (told_by hint c) (if b then after_duplicate acked else after_interruption acked)).timing)
    [ true ↦ ack_near pos at now s h | false ↦ ack_near pos at now s h ]
  where
    acked : EndState
    acked = after_acknowledgement pos at s

-- an acceptable segment ends the row of expiries
hearing_near : (now : ℕ) (s : EndState) → IsNear now s.timing → IsNear now (after_hearing s).timing
hearing_near now s h = record { timer = h.timer; timeout = h.timeout }

arrival_near : (m : Meaning) (hint : Hint) (now : ℕ) (c : Copy) (s : EndState) → IsNear now s.timing → IsNear now (after_arrival m hint now c s).timing
arrival_near means.Challenged hint now c s h = hearing_near now s h
arrival_near means.Unacknowledging hint now c s h = hearing_near now s h
arrival_near means.Ahead hint now c s h = hearing_near now s h
arrival_near (means.Accepts acknowledged) hint now c s h =
    ack_near acknowledged now now (record (after_hearing (after_payload 1 hint c s)) { state = Established }) (hearing_near now s h)
arrival_near means.Kills hint now c s h = stopped_near now s.timing h
arrival_near (means.Taken pos acknowledged) hint now c s h =
    heard_ack_near acknowledged hint now now c (after_established (after_hearing (after_payload pos hint c s))) (hearing_near now s h)
arrival_near _ hint now c s h = h

-- ---- each step, and many

fire_near : (now : ℕ) (s : EndState) → IsNear now s.timing → IsNear now (after_fire now s).timing
fire_near now s h = elim (is_sixth s) as (λ b. IsNear now (if b then after_death true s else after_expiry now s).timing)
    [ true ↦ stopped_near now s.timing h | false ↦ let least = h.timeout.least in record { timer = omega arith; timeout = record { least = omega (arith, least); greatest = omega arith } } ]

sending_near : (occasion : Occasion) (now : ℕ) (s : EndState) → (after_sending occasion now s).timing ≡ s.timing
sending_near = elim [ to_send.Reset ↦ λ now s. refl | _ ↦ λ now s. refl ]

step_near : (now : ℕ) (s t : EndState) → SubflowStep now s t → IsNear now s.timing → IsNear now t.timing
step_near now s t (arrives m hint c is) h = arrival_near m hint now c s h
step_near now s t (sends occasion) h = subst (IsNear now) (sym (sending_near occasion now s)) h
step_near now s t (settles on restart) h = record { timer = settled_near (is_timed on s) restart now s.timing h; timeout = h.timeout }
step_near now s t fires h = fire_near now s h
step_near now s t dies h = stopped_near now s.timing h
step_near now s t (holds pos octets) h = h
step_near now s t owes h = h
step_near now s t keeps h = h
step_near now s t drops h = h
step_near now s t (advances count) h = h
step_near now s t (passes next) h = h
step_near now s t (forgets pos) h = h
step_near now s t (pushes piece mapping) h = h
step_near now s t finishes h = h
step_near now s t (grows growth) h = h
step_near now s t (begins is) h = h
step_near now s t (joins window is) h = h

pub steps_near : (now : ℕ) (s t : EndState) → SubflowSteps now s t → IsNear now s.timing → IsNear now t.timing
steps_near now s t none h = h
steps_near now s t (more u v steps step) h = step_near now u t step (steps_near now s u steps h)

-- ---- the clock

in_time : (until : ℕ) (o : Option Event) (event : Event) → option_and_then (before until) o ≡ Some event → tick_of event < until
in_time until None event is = cc
in_time until (Some x) event is = (elim (nat_lt (tick_of x) until) as (λ b. nat_lt (tick_of x) until ≡ b → (if b then Some x else None) ≡ Some event → tick_of event < until)
    [ true ↦ λ early same. subst (λ y. tick_of y < until) (same_Some x event same) (ltb-true (tick_of x) until early) | false ↦ λ early same. cc ]) refl is

module _ {C : Type 0} where
  -- an event moves the clock to its tick
  pub happens_clock : (k : Codec C) (event : Event) (r : Reply) (p : PathState C) → (happens_if k (Some event) r p).clock ≡ max p.clock (tick_of event)
  happens_clock k (happenings.Joins tick) r p =
      elim (is_never r) as (λ b. (if b then goes_on A (never_joined r (end_at A q)) (leaves A) q else goes_on A (opened_by (keys_begun r) (end_at A q)) (emission A) q).clock ≡ max p.clock tick)
      [ true ↦ refl | false ↦ refl ]
    where
      q : PathState C
      q = record (at_tick tick p) { joined_at = None }
  happens_clock k (happenings.Takes line) r p = elim line.action as (λ action. (after_line action (record (at_tick line.tick p) { lines = tail_of p.lines })).clock ≡ max p.clock line.tick)
      [ actions.Die ↦ refl | actions.Prio s backup ↦ refl | actions.Announce s id ↦ refl | actions.Withdraw s id ↦ refl ]
  happens_clock k (happenings.Arrives due) r p =
      elim (heard_in k due.to (arriving due p.link) p) as (λ o. (copy_heard due.to o (record (at_tick due.tick p) { link = after_delivery due p.link })).clock ≡ max p.clock due.tick)
      [ None ↦ refl | Some heard ↦ refl ]
  happens_clock k (happenings.Fires s tick) r p = refl

  -- the clock goes on, and stays before the round's end, which stays
  pub record Ticks (p q : PathState C) : Type 0 where
    pub clock : p.clock ≤ q.clock
    pub most : p.clock < p.until → q.clock < p.until
    pub until : q.until ≡ p.until

  stands_still : (p q : PathState C) → q.clock ≡ p.clock → q.until ≡ p.until → Ticks p q
  stands_still p q clock until = record { clock = omega (arith, clock); most = λ low. omega (arith, clock, low); until = until }

  no_event : (s : Side) (w : Writes) (p q : PathState C) → w.events ≡ false → OnlyAt s w p q → Ticks p q
  no_event s w p q is x =
      stands_still p q (unwritten w.events p.clock q.clock is (ap (λ (v : PathView C). v.clock) x.same)) (ap (λ (v : PathView C). v.until) x.same)

  happens_ticks : (k : Codec C) (r : Reply) (p : PathState C) → Ticks p (happens_if k (next_event p) r p)
  happens_ticks k r p = by (next_event p) refl
    where
      by : (o : Option Event) → next_event p ≡ o → Ticks p (happens_if k o r p)
      by None is = stands_still p _ refl refl
      by (Some event) is =
          let clock = happens_clock k event r p in
          let early = in_time p.until (earliest p) event is in
          let until : (happens_if k (Some event) r p).until ≡ p.until = subst (λ x. (happens_if k x r p).until ≡ p.until) is
          (ap (λ (v : PathView C). v.until) (writes_no_more k (duties.Step step_duties.Events) r p).same) in
          record { clock = omega (arith, clock); most = λ low. omega (arith, clock, early, low); until = until }

  pub answered_ticks : (k : Codec C) (d : Duty) (r : Reply) (p : PathState C) → Ticks p (answered k d r p)
  answered_ticks k (duties.Step step_duties.Events) r p = happens_ticks k r p
  answered_ticks k (duties.Send (send_duties.Update s)) r p = stands_still p _ refl refl
  answered_ticks k (duties.Silent d) r p = stands_still p _ refl refl
  answered_ticks k d r p = no_event (side_of d) (writes d) p _ refl (writes_no_more k d r p)

  pub passed_ticks : (d : Duty) (p : PathState C) → Ticks p (passed d p)
  passed_ticks (duties.Step step_duties.Events) p = stands_still p p refl refl
  passed_ticks (duties.Send (send_duties.Update s)) p = stands_still p p refl refl
  passed_ticks (duties.Silent (silent_duties.Timer s)) p = stands_still p _ refl refl
  passed_ticks d p = no_event (side_of d) (writes d) p _ refl (passes_no_more d p)

  -- ---- a path

  near_on : (p q : PathState C) → PathStep p q → Ticks p q → TimersAreNear p → TimersAreNear q
  near_on p q x ticks h = record {
    clock = (let most = ticks.most h.clock in omega (arith, most, ticks.until));
    a = steps_near q.clock p.a.tcp q.a.tcp x.a.subflow (later p.clock q.clock p.a.tcp.timing ticks.clock h.a);
    b = steps_near q.clock p.b.tcp q.b.tcp x.b.subflow (later p.clock q.clock p.b.tcp.timing ticks.clock h.b);
  }

  abbrev Nearly : PathState C → PathState C → Type 0
  Nearly p q = TimersAreNear p → TimersAreNear q

  nearly_lasts : Lasts Nearly
  nearly_lasts = record {
    agenda = λ ds p h. record { clock = h.clock; a = h.a; b = h.b };
    chains = λ p q r x y h. y (x h);
    passes = λ d p h. near_on p (passed d p) (passed_steps d p) (passed_ticks d p) h;
  }

  takes_near : (k : Codec C) (r : Reply) (p : PathState C) → TimersAreNear p → TimersAreNear (takes k r p)
  takes_near k r p = takes_lasts Nearly nearly_lasts k r p (λ d h. near_on p (answered k d r p) (answered_steps k d r p) (answered_ticks k d r p) h)

  begins_near : (p : PathState C) → TimersAreNear p → TimersAreNear (begins_turn p)
  begins_near p = begins_lasts Nearly nearly_lasts p

  next_near : (p : PathState C) → TimersAreNear p → TimersAreNear (next_round p)
  next_near p h = begins_near (record p { clock = p.until; until = p.until + 100 }) (record {
    clock = omega arith;
    a = later p.clock p.until p.a.tcp.timing (let early = h.clock in omega (arith, early)) h.a;
    b = later p.clock p.until p.b.tcp.timing (let early = h.clock in omega (arith, early)) h.b;
  })

  -- ---- the world

  abbrev IsNearMember : Actor C → Type 0
  IsNearMember = HoldsOfKind (λ app. Unit {0}) TimersAreNear

  member_near : (k : Codec C) (r : Reply) (m : Actor C) → IsNearMember m → IsNearMember (member_takes k r m)
  member_near k r (App a) h = tt
  member_near k r (Path p) h = takes_near k r p h

  member_begins : (m : Actor C) → IsNearMember m → IsNearMember (member_next m)
  member_begins = elim [ App a ↦ λ h. tt | Path p ↦ λ h. next_near p h ]

  first_near : (number : ℕ) (start : Start) (plan : PathPlan) → TimersAreNear (waiting_path {C = C} (path_begins start number plan) start.lines)
  first_near number start plan = record {
    clock = omega arith;
    a = record { timer = tt; timeout = record { least = omega arith; greatest = omega arith } };
    b = record { timer = tt; timeout = record { least = omega arith; greatest = omega arith } };
  }

  pub timers_run_out : (k : Codec C) → Always k (λ start w. TimersRunOut w)
  timers_run_out k start turns = record {
    each = (run_lifted k (λ c. IsNearMember c.member) (λ books c x asks h. member_near k (answer_to books x) c.member h) (λ stamp c over h. member_begins c.member h)
        turns (opened_world start)
        (opened_lifted (λ c. IsNearMember c.member) start tt tt (λ number plan there. begins_near (waiting_path (path_begins start number plan) start.lines) (first_near number start plan)))).each;
  }
