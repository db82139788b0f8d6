-- No event of a path is passed by: each happens at its tick.
use Rattle.std.proofs.Common.{◌≡◌, refl, sym, subst, ap, ◌⊎◌, inl, inr, ⊎_elim, ℕ, zero, suc, ◌+◌, ◌≤◌, max, nat_lt, nat_le, Bool, true, false, true≢false, is_none, ◌||◌, if◌then◌else◌, Option, Some, None, IfSome, List, [], ◌∷◌, remove, position, le_refl, arith}
use Rattle.std.specs.List.{AllByRecursion}
use Rattle.std.specs.Option.{option_and_then}
use Rattle.std.proofs.lemmas.Bool.{cases_lt, ltb-true, ltb-false, leb-true, leb-false}
use Rattle.sides.specs.declared.side.Side.{Side}
use Rattle.sides.specs.declared.side.Side.TheVariants.{A, B}
use Rattle.link_script.specs.declared.script.ScriptLine.{ScriptLine}
use Rattle.link_model.specs.declared.fate.Fate.{Fate}
use Rattle.link_model.specs.declared.fate.Fate.TheVariants as fates
use Rattle.link_model.specs.declared.flight.Flight.{Flight}
use Rattle.link_model.specs.declared.flight.Due.{Due}
use Rattle.link_model.specs.Order.{AreInOrder}
use Rattle.link_model.specs.State.{LinkState}
use Rattle.link_model.specs.Steps.{arriving, next_due, next_number, arrivals, comes_before, with_flight, with_flights, fate_at, first_arrival, without, is_due, after_delivery, after_send}
use Rattle.link_model.proofs.Order.{earliest as first_copy, in_order_sent, in_order_delivered}
use Rattle.loss_recovery.specs.declared.timers.Timing.{Timing}
use Rattle.loss_recovery.specs.Timers.{timer_settled, measured}
use Rattle.subflow_send.specs.declared.record.AckKind.TheVariants.{New, Duplicate, Old, Future}
use Rattle.subflow_send.specs.Rules.{ack_kind, after_acknowledge, sample_of}
use Rattle.subflow_tcp.specs.declared.handshake.State.{State}
use Rattle.subflow_tcp.specs.declared.handshake.State.TheVariants as phase
use Rattle.subflow_tcp.specs.declared.segments.Hint.{Hint}
use Rattle.subflow_tcp.specs.declared.segments.Occasion.{Occasion}
use Rattle.subflow_tcp.specs.declared.segments.Occasion.TheVariants as to_send
use Rattle.subflow_tcp.specs.declared.verdicts.Meaning.{Meaning}
use Rattle.subflow_tcp.specs.declared.verdicts.Meaning.TheVariants as means
use Rattle.subflow_tcp.specs.Emitting.{after_sending}
use Rattle.subflow_tcp.specs.Expiring.{after_fire, after_expiry, is_sixth, is_timed}
use Rattle.subflow_tcp.specs.Segments.{Copy}
use Rattle.subflow_tcp.specs.State.{EndState}
use Rattle.subflow_tcp.specs.States.{is_waiting, after_finish, after_fin_acked, after_fin_passed, after_handshake}
use Rattle.subflow_tcp.specs.Taking.{after_death, after_payload, is_fin_acked, after_ack_kind, after_acknowledgement, is_duplicate, after_duplicate, after_interruption, told_by, after_telling, after_heard_ack, after_established, after_hearing, after_arrival}
use Rattle.path_segments.specs.Heard.{HeardSegment}
use Rattle.path_agenda.specs.declared.duty.Duty.{Duty}
use Rattle.path_agenda.specs.declared.duty.Duty.TheVariants as duties
use Rattle.path_agenda.specs.declared.duty.SendDuty.TheVariants as send_duties
use Rattle.path_agenda.specs.declared.duty.SilentDuty.TheVariants as silent_duties
use Rattle.path_agenda.specs.declared.duty.StepDuty.TheVariants as step_duties
use Rattle.path_agenda.specs.Agenda.{leaves, emission}
use Rattle.path_store.specs.declared.lines.LineAction.{LineAction}
use Rattle.path_store.specs.declared.lines.LineAction.TheVariants as actions
use Rattle.path_store.specs.declared.lines.LineLeft.{LineLeft}
use Rattle.path_store.specs.Lines.{is_later, with_line, with_some, with_event, event_in, events_from}
use Rattle.actor_desk.specs.declared.ask.Reply.{Reply}
use Rattle.stream_lanes.specs.Words.{Every}
use Rattle.actor_desk.specs.Words.{tail_of, is_nil}
use Rattle.path_core.specs.Arrival.{copy_heard, heard_in}
use Rattle.path_core.specs.Codec.{Codec}
use Rattle.path_core.specs.Duties.{passed, answered}
use Rattle.path_core.specs.Events.{tick_of, next_join, next_line, next_copy, earlier, earliest, before, next_event, after_line, happens_if}
use Rattle.path_core.specs.MpJoin.{is_never, keys_begun, never_joined, opened_by}
use Rattle.path_core.specs.Start.{waiting_path}
use Rattle.path_core.specs.State.{PathState, at_tick, end_at, goes_on}
use Rattle.path_core.specs.Timer.{next_fire}
use Rattle.path_core.specs.declared.events.Event.{Event}
use Rattle.path_core.specs.declared.events.Event.TheVariants as happenings
use Rattle.world_laws.specs.declared.member.Member.TheVariants.{App, Path}
use Rattle.world_laws.specs.Members.{HoldsOfKind}
use Rattle.world_laws.specs.Actors.{Actor, member_takes, member_next, is_over}
use Rattle.world_laws.specs.Laws.{Always}
use Rattle.world_laws.specs.Openings.{PathPlan, Start, path_begins, opened_world}
use Rattle.world_laws.specs.StampedBooks.{answer_to}
use Rattle.world_laws.specs.Writes.{Writes, OnlyAt, PathView, writes, side_of}
use Rattle.world_laws.specs.Worlds.{Turn, world_run}
use Rattle.world_laws.proofs.Rounds.Lifting.{run_lifted, opened_lifted}
use Rattle.world_laws.proofs.Rounds.NothingDueIsLeft.{Shaped, takes_shaped, begun_shaped, nothing_due}
use Rattle.world_laws.proofs.Writes.Paths.{writes_no_more, passes_no_more}
use Rattle.world_laws.proofs.Writes.Steps.{Lasts, unwritten, takes_lasts, begins_lasts}
use Rattle.whole_paths.specs.EndSteps.{SubflowStep, SubflowSteps, PathStep}
use Rattle.whole_paths.specs.EndSteps.SubflowStep.{arrives, holds, owes, keeps, drops, advances, passes, forgets, pushes, finishes, sends, settles, fires, grows, begins, joins, dies}
use Rattle.whole_paths.specs.EndSteps.SubflowSteps.{none, more}
use Rattle.whole_paths.specs.InTime.{ComesFrom, EventsComeInOrder, NothingIsOverdue}
use Rattle.whole_paths.proofs.Copies.{LinkStep, link_step, passed_link}
use Rattle.whole_paths.proofs.Copies.LinkStep.{stays, hands, delivers, is_cut}
use Rattle.whole_paths.proofs.Duties.{passed_steps, answered_steps}
use Rattle.whole_paths.proofs.Timing.{happens_clock}

-- ---- the lines of a script

abbrev LinesFrom : ℕ → List LineLeft → Type 0
LinesFrom n lines = AllByRecursion (λ (line : LineLeft). n ≤ line.tick) lines

-- each line behind those of earlier ticks
abbrev InTickOrder : List LineLeft → Type 0
InTickOrder [] = Unit {0}
InTickOrder (line ∷ lines) = LinesFrom line.tick lines × InTickOrder lines

lines_lower : (m n : ℕ) (lines : List LineLeft) → m ≤ n → LinesFrom n lines → LinesFrom m lines
lines_lower m n [] low h = tt
lines_lower m n (line ∷ lines) low h = let first = h.0 in (omega (arith, low, first), lines_lower m n lines low h.1)

one_more : (n : ℕ) (line : LineLeft) (lines : List LineLeft) → n ≤ line.tick → LinesFrom n lines → LinesFrom n (with_line line lines)
one_more n line [] low h = (low, tt)
one_more n line (first ∷ lines) low h = by (is_later line first) (one_more n line lines low h.1)
  where
    by : (b : Bool) → LinesFrom n (with_line line lines) → LinesFrom n (if b then line ∷ first ∷ lines else first ∷ with_line line lines)
    by true rest = (low, h)
    by false rest = (h.0, rest)

line_ordered : (line : LineLeft) (lines : List LineLeft) → InTickOrder lines → InTickOrder (with_line line lines)
line_ordered line [] h = (tt, tt)
line_ordered line (first ∷ lines) h = by (is_later line first) refl (line_ordered line lines h.1)
  where
    by : (b : Bool) → is_later line first ≡ b → InTickOrder (with_line line lines) → InTickOrder (if b then line ∷ first ∷ lines else first ∷ with_line line lines)
    by true is rest =
        let low = ltb-true line.tick first.tick is in ((omega (arith, low), lines_lower line.tick first.tick lines (omega (arith, low)) h.0), h)
    by false is rest = let high = ltb-false line.tick first.tick is in (one_more first.tick line lines (omega (arith, high)) h.0, rest)

some_ordered : (o : Option LineLeft) (lines : List LineLeft) → InTickOrder lines → InTickOrder (with_some o lines)
some_ordered None lines h = h
some_ordered (Some line) lines h = line_ordered line lines h

events_ordered : (path number : ℕ) (script : List ScriptLine) (lines : List LineLeft) → InTickOrder lines → InTickOrder (events_from path number script lines)
events_ordered path number [] lines h = h
events_ordered path number (line ∷ script) lines h = events_ordered path (number + 1) script (with_event path number line lines) (some_ordered (event_in path number line) lines h)

tail_ordered : (lines : List LineLeft) → InTickOrder lines → InTickOrder (tail_of lines)
tail_ordered [] h = tt
tail_ordered (line ∷ lines) h = h.1

tail_from : (n : ℕ) (lines : List LineLeft) → LinesFrom n lines → LinesFrom n (tail_of lines)
tail_from n [] h = tt
tail_from n (line ∷ lines) h = h.1

from_zero : (lines : List LineLeft) → LinesFrom 0 lines
from_zero [] = tt
from_zero (line ∷ lines) = (omega arith, from_zero lines)

-- ---- the copies of a link

arrives_from : (n on_time : ℕ) (fate : Fate) → n ≤ on_time → AllByRecursion (λ tick. n ≤ tick) (arrivals fate on_time)
arrives_from n on_time fates.OnTime low = (low, tt)
arrives_from n on_time fates.Lost low = tt
arrives_from n on_time fates.Full low = tt
arrives_from n on_time (fates.Late ticks) low = (omega (arith, low), tt)
arrives_from n on_time (fates.Twice ticks) low = (low, (omega (arith, low), tt))

module _ {C : Type 0} where
  abbrev CopiesFrom : ℕ → List (Flight C) → Type 0
  CopiesFrom n flights = AllByRecursion (λ (f : Flight C). n ≤ f.tick) flights

  copies_lower : (m n : ℕ) (flights : List (Flight C)) → m ≤ n → CopiesFrom n flights → CopiesFrom m flights
  copies_lower m n [] low h = tt
  copies_lower m n (f ∷ flights) low h = let first = h.0 in (omega (arith, low, first), copies_lower m n flights low h.1)

  one_copy : (n : ℕ) (f : Flight C) (flights : List (Flight C)) → n ≤ f.tick → CopiesFrom n flights → CopiesFrom n (with_flight f flights)
  one_copy n f [] low h = (low, tt)
  one_copy n f (g ∷ flights) low h = by (comes_before f g) (one_copy n f flights low h.1)
    where
      by : (b : Bool) → CopiesFrom n (with_flight f flights) → CopiesFrom n (if b then f ∷ g ∷ flights else g ∷ with_flight f flights)
      by true rest = (low, h)
      by false rest = (h.0, rest)

  copies_with : (n : ℕ) (to : Side) (number : ℕ) (carried : C) (ticks : List ℕ) (flights : List (Flight C)) → AllByRecursion (λ tick. n ≤ tick) ticks → CopiesFrom n flights
      → CopiesFrom n (with_flights to number carried ticks flights)
  copies_with n to number carried [] flights low h = h
  copies_with n to number carried (tick ∷ ticks) flights low h =
      copies_with n to number carried ticks _ low.1 (one_copy n (record { tick = tick; to = to; number = number; carried = carried }) flights low.0 h)

  sent_from : (n : ℕ) (strip alter : Side → C → C) (s : Side) (carried : C) (size now : ℕ) (link : LinkState C) → n ≤ now → CopiesFrom n link.under_way
      → CopiesFrom n (after_send strip alter s carried size now link).under_way
  sent_from n strip alter A carried size now link low h =
      let number : ℕ = next_number A link in
      copies_with n B _ _ _ link.under_way (arrives_from n (first_arrival A number size now link) (fate_at A number size now link) (omega (arith, low))) h
  sent_from n strip alter B carried size now link low h =
      let number : ℕ = next_number B link in
      copies_with n A _ _ _ link.under_way (arrives_from n (first_arrival B number size now link) (fate_at B number size now link) (omega (arith, low))) h

  removed_from : (n : ℕ) (flights : List (Flight C)) (i : ℕ) → CopiesFrom n flights → CopiesFrom n (remove flights i)
  removed_from n [] zero h = tt
  removed_from n [] (suc i) h = tt
  removed_from n (f ∷ flights) zero h = h.1
  removed_from n (f ∷ flights) (suc i) h = (h.0, removed_from n flights i h.1)

  delivered_from : (n : ℕ) (due : Due) (link : LinkState C) → CopiesFrom n link.under_way → CopiesFrom n (after_delivery due link).under_way
  delivered_from n due link h = by (position (is_due due) link.under_way)
    where
      by : (o : Option ℕ) → CopiesFrom n (without o link.under_way)
      by None = h
      by (Some i) = removed_from n link.under_way i h

-- ---- the timer of an end

abbrev FiresFrom : ℕ → EndState → Type 0
FiresFrom now s = IfSome s.timing.timer (λ tick. now ≤ tick)

ack_fires : (pos at now : ℕ) (s : EndState) → FiresFrom now s → FiresFrom now (after_acknowledgement pos at s)
ack_fires pos at now s h = elim (ack_kind pos s.send) as (λ kind. FiresFrom now (after_ack_kind kind (sample_of pos s.send) at (record s { send = after_acknowledge pos s.send })))
    [ New octets ↦ new (sample_of pos s.send) | Duplicate ↦ h | Old ↦ h | Future ↦ h ]
  where
    new : (since : Option ℕ) → IfSome (measured since at s.timing).timer (λ tick. now ≤ tick)
    new = elim [ None ↦ h | Some first ↦ h ]

heard_ack_fires : (pos : ℕ) (hint : Hint) (at now : ℕ) (c : Copy) (s : EndState) → FiresFrom now s → FiresFrom now (after_heard_ack pos hint at c s)
heard_ack_fires pos hint at now c s h = by (is_duplicate (ack_kind pos s.send) (told_by hint c) c acked)
  where
    acked : EndState
    acked = after_acknowledgement pos at s

    by : (b : Bool) → FiresFrom now (after_telling (told_by hint c) (if b then after_duplicate acked else after_interruption acked))
    by true = ack_fires pos at now s h
    by false = ack_fires pos at now s h

arrival_fires : (m : Meaning) (hint : Hint) (now : ℕ) (c : Copy) (s : EndState) → FiresFrom now s → FiresFrom now (after_arrival m hint now c s)
arrival_fires (means.Accepts acknowledged) hint now c s h = ack_fires acknowledged now now (record (after_hearing (after_payload 1 hint c s)) { state = phase.Established }) h
arrival_fires means.Kills hint now c s h = tt
arrival_fires (means.Taken pos acknowledged) hint now c s h = heard_ack_fires acknowledged hint now now c (after_established (after_hearing (after_payload pos hint c s))) h
arrival_fires _ hint now c s h = h

fire_from : (now : ℕ) (s : EndState) → FiresFrom now (after_fire now s)
fire_from now s = by (is_sixth s)
  where
    by : (b : Bool) → FiresFrom now (if b then after_death true s else after_expiry now s)
    by true = tt
    by false = omega arith

settled_from : (reason restart : Bool) (now : ℕ) (t : Timing) → IfSome t.timer (λ tick. now ≤ tick) → IfSome (timer_settled reason restart now t) (λ tick. now ≤ tick)
settled_from false restart now t h = tt
settled_from true restart now t h = by (is_none t.timer || (t.news || restart))
  where
    by : (b : Bool) → IfSome (if b then Some (now + t.rtt.rto) else t.timer) (λ tick. now ≤ tick)
    by true = omega arith
    by false = h

sending_fires : (occasion : Occasion) (now : ℕ) (s : EndState) → (after_sending occasion now s).timing ≡ s.timing
sending_fires = elim [ to_send.Reset ↦ λ now s. refl | _ ↦ λ now s. refl ]

step_fires : (now : ℕ) (s t : EndState) → SubflowStep now s t → FiresFrom now s → FiresFrom now t
step_fires now s t (arrives m hint c is) h = arrival_fires m hint now c s h
step_fires now s t (sends occasion) h = subst (λ (x : Timing). IfSome x.timer (λ tick. now ≤ tick)) (sym (sending_fires occasion now s)) h
step_fires now s t (settles on restart) h = settled_from (is_timed on s) restart now s.timing h
step_fires now s t fires h = fire_from now s
step_fires now s t dies h = tt
step_fires now s t (holds pos octets) h = h
step_fires now s t owes h = h
step_fires now s t keeps h = h
step_fires now s t drops h = h
step_fires now s t (advances count) h = h
step_fires now s t (passes next) h = h
step_fires now s t (forgets pos) h = h
step_fires now s t (pushes piece mapping) h = h
step_fires now s t finishes h = h
step_fires now s t (grows growth) h = h
step_fires now s t (begins is) h = h
step_fires now s t (joins window is) h = h

steps_fire : (now : ℕ) (s t : EndState) → SubflowSteps now s t → FiresFrom now s → FiresFrom now t
steps_fire now s t none h = h
steps_fire now s t (more u v steps step) h = step_fires now u t step (steps_fire now s u steps h)

-- ---- an end that waits for its join did so before

abbrev Waits : State → Type 0
Waits state = is_waiting state ≡ true

finish_waits : (s : State) → Waits (after_finish s) → Waits s
finish_waits = elim [ phase.Waiting ↦ λ h. refl | phase.Established ↦ λ h. absurd (true≢false (sym h)) | phase.CloseWait ↦ λ h. absurd (true≢false (sym h)) | _ ↦ λ h. h ]

fin_acked_waits : (s : State) → Waits (after_fin_acked s) → Waits s
fin_acked_waits = elim [ phase.FinWait1 ↦ λ h. absurd (true≢false (sym h)) | phase.Closing ↦ λ h. absurd (true≢false (sym h)) | _ ↦ λ h. h ]

fin_passed_waits : (s : State) → Waits (after_fin_passed s) → Waits s
fin_passed_waits = elim [ phase.Established ↦ λ h. absurd (true≢false (sym h)) | phase.FinWait1 ↦ λ h. absurd (true≢false (sym h)) | phase.FinWait2 ↦ λ h. absurd (true≢false (sym h)) | _ ↦ λ h. h ]

handshake_waits : (s : State) → Waits (after_handshake s) → Waits s
handshake_waits = elim [ phase.SynReceived ↦ λ h. absurd (true≢false (sym h)) | _ ↦ λ h. h ]

ack_waits : (pos now : ℕ) (s : EndState) → Waits (after_acknowledgement pos now s).state → Waits s.state
ack_waits pos now s = elim (ack_kind pos s.send) as (λ kind. Waits (after_ack_kind kind (sample_of pos s.send) now acked).state → Waits s.state)
    [ New octets ↦ new (is_fin_acked acked.send) | Duplicate ↦ λ h. h | Old ↦ λ h. h | Future ↦ λ h. h ]
  where
    acked : EndState
    acked = record s { send = after_acknowledge pos s.send }

    new : (b : Bool) → Waits (if b then after_fin_acked s.state else s.state) → Waits s.state
    new true h = fin_acked_waits s.state h
    new false h = h

heard_ack_waits : (pos : ℕ) (hint : Hint) (now : ℕ) (c : Copy) (s : EndState) → Waits (after_heard_ack pos hint now c s).state → Waits s.state
heard_ack_waits pos hint now c s = by (is_duplicate (ack_kind pos s.send) (told_by hint c) c acked)
  where
    acked : EndState
    acked = after_acknowledgement pos now s

    by : (b : Bool) → Waits (after_telling (told_by hint c) (if b then after_duplicate acked else after_interruption acked)).state → Waits s.state
    by true h = ack_waits pos now s h
    by false h = ack_waits pos now s h

arrival_waits : (m : Meaning) (hint : Hint) (now : ℕ) (c : Copy) (s : EndState) → Waits (after_arrival m hint now c s).state → Waits s.state
arrival_waits means.Opens hint now c s h = absurd (true≢false (sym h))
arrival_waits (means.Accepts acknowledged) hint now c s h = absurd (true≢false (sym (ack_waits acknowledged now (record (after_hearing (after_payload 1 hint c s)) { state = phase.Established }) h)))
arrival_waits means.Kills hint now c s h = absurd (true≢false (sym h))
arrival_waits (means.Taken pos acknowledged) hint now c s h =
    handshake_waits s.state (heard_ack_waits acknowledged hint now c (after_established (after_hearing (after_payload pos hint c s))) h)
arrival_waits _ hint now c s h = h

fire_waits : (now : ℕ) (s : EndState) → Waits (after_fire now s).state → Waits s.state
fire_waits now s = by (is_sixth s)
  where
    by : (b : Bool) → Waits (if b then after_death true s else after_expiry now s).state → Waits s.state
    by true h = absurd (true≢false (sym h))
    by false h = h

sending_waits : (occasion : Occasion) (now : ℕ) (s : EndState) → (after_sending occasion now s).state ≡ s.state
sending_waits = elim [ to_send.SynAck ↦ λ now s. refl | _ ↦ λ now s. refl ]

step_waits : (now : ℕ) (s t : EndState) → SubflowStep now s t → Waits t.state → Waits s.state
step_waits now s t (arrives m hint c is) h = arrival_waits m hint now c s h
step_waits now s t (sends occasion) h = subst Waits (sending_waits occasion now s) h
step_waits now s t fires h = fire_waits now s h
step_waits now s t dies h = absurd (true≢false (sym h))
step_waits now s t finishes h = finish_waits s.state h
step_waits now s t (passes next) h = fin_passed_waits s.state h
step_waits now s t (begins is) h = absurd (true≢false (sym h))
step_waits now s t (joins window is) h = absurd (true≢false (sym h))
step_waits now s t (settles on restart) h = h
step_waits now s t (holds pos octets) h = h
step_waits now s t owes h = h
step_waits now s t keeps h = h
step_waits now s t drops h = h
step_waits now s t (advances count) h = h
step_waits now s t (forgets pos) h = h
step_waits now s t (pushes piece mapping) h = h
step_waits now s t (grows growth) h = h

steps_wait : (now : ℕ) (s t : EndState) → SubflowSteps now s t → Waits t.state → Waits s.state
steps_wait now s t none h = h
steps_wait now s t (more u v steps step) h = steps_wait now s u steps (step_waits now u t step h)

-- ---- what comes next

abbrev NotBefore : ℕ → Option Event → Type 0
NotBefore n o = IfSome o (λ event. n ≤ tick_of event)

earlier_both : (n : ℕ) (x y : Option Event) → NotBefore n (earlier x y) → NotBefore n x × NotBefore n y
earlier_both n None y h = (tt, h)
earlier_both n (Some x) None h = (h, tt)
earlier_both n (Some x) (Some y) h = by (nat_le (tick_of x) (tick_of y)) refl h
  where
    by : (b : Bool) → nat_le (tick_of x) (tick_of y) ≡ b → NotBefore n (if b then Some x else Some y) → (n ≤ tick_of x) × (n ≤ tick_of y)
    by true is low = let up = leb-true (tick_of x) (tick_of y) is in (low, omega (arith, up, low))
    by false is low = let down = leb-false (tick_of x) (tick_of y) is in (omega (arith, down, low), low)

join_so : (n : ℕ) (state : State) (o : Option ℕ) → Waits state → NotBefore n (next_join state o) → IfSome o (λ tick. n ≤ tick)
join_so n state None waits h = tt
join_so n state (Some tick) waits h = subst (λ b. NotBefore n (if b then Some (happenings.Joins tick) else None)) waits h

lines_so : (n : ℕ) (lines : List LineLeft) → InTickOrder lines → NotBefore n (next_line lines) → LinesFrom n lines
lines_so n [] order h = tt
lines_so n (line ∷ lines) order h = (h, lines_lower n line.tick lines h order.0)

copies_so : {C : Type 0} (n : ℕ) (flights : List (Flight C)) → AreInOrder flights → NotBefore n (next_copy (next_due flights)) → CopiesFrom n flights
copies_so n [] order h = tt
copies_so n (f ∷ flights) order h = copies_lower n f.tick (f ∷ flights) h (first_copy (f ∷ flights) order)

timer_so : (n : ℕ) (s : Side) (o : Option ℕ) → NotBefore n (next_fire s o) → IfSome o (λ tick. n ≤ tick)
timer_so n s None h = tt
timer_so n s (Some tick) h = h

event_is : (until : ℕ) (o : Option Event) (event : Event) → option_and_then (before until) o ≡ Some event → o ≡ Some event
event_is until None event is = cc
event_is until (Some x) event is = by (nat_lt (tick_of x) until) is
  where
    by : (b : Bool) → (if b then Some x else None) ≡ Some event → Some x ≡ Some event
    by true same = same
    by false same = cc

none_early : (until : ℕ) (o : Option Event) → option_and_then (before until) o ≡ None → NotBefore until o
none_early until None is = tt
none_early until (Some x) is = by (nat_lt (tick_of x) until) refl is
  where
    by : (b : Bool) → nat_lt (tick_of x) until ≡ b → (if b then Some x else None) ≡ None → until ≤ tick_of x
    by true early same = cc
    by false late same = let up = ltb-false (tick_of x) until late in omega (arith, up)

-- of any duty but an event
abbrev pub is_event : Duty → Bool
is_event (duties.Step step_duties.Events) = true
is_event _ = false

events_so : (d : Duty) → is_event d ≡ true → d ≡ duties.Step step_duties.Events
events_so (duties.Step step_duties.Events) is = refl
events_so _ is = absurd (true≢false (sym is))

pub nil_so : (ds : List Duty) → is_nil ds ≡ true → ds ≡ []
nil_so [] is = refl
nil_so (d ∷ ds) is = absurd (true≢false (sym is))

-- ---- a path

module _ {C : Type 0} where
  record InOrder (p : PathState C) : Type 0 where
    lines : InTickOrder p.lines
    copies : AreInOrder p.link.under_way

  record InTime (p : PathState C) : Type 0 where
    order : InOrder p
    comes : ComesFrom p.clock p

  -- what comes at this tick or later, of each kind
  record Sources (n : ℕ) (p : PathState C) : Type 0 where
    join : NotBefore n (next_join p.a.tcp.state p.joined_at)
    line : NotBefore n (next_line p.lines)
    copy : NotBefore n (next_copy (next_due p.link.under_way))
    fires_a : NotBefore n (next_fire A p.a.tcp.timing.timer)
    fires_b : NotBefore n (next_fire B p.b.tcp.timing.timer)

  sources : (n : ℕ) (p : PathState C) → NotBefore n (earliest p) → Sources n p
  sources n p h =
      let fires : Option Event = earlier (next_fire A p.a.tcp.timing.timer) (next_fire B p.b.tcp.timing.timer) in
      let comes : Option Event = earlier (next_copy (next_due p.link.under_way)) fires in
      let told : Option Event = earlier (next_line p.lines) comes in
      let first = earlier_both n (next_join p.a.tcp.state p.joined_at) told h in
      let second = earlier_both n (next_line p.lines) comes first.1 in
      let third = earlier_both n (next_copy (next_due p.link.under_way)) fires second.1 in
      let last = earlier_both n (next_fire A p.a.tcp.timing.timer) (next_fire B p.b.tcp.timing.timer) third.1 in
      record { join = first.0; line = second.0; copy = third.0; fires_a = last.0; fires_b = last.1 }

  -- no timer runs out before the next event
  pub timer_behind : (s : Side) (event : Event) (tick : ℕ) (p : PathState C) → next_event p ≡ Some event → (end_at s p).tcp.timing.timer ≡ Some tick → tick_of event ≤ tick
  timer_behind s event tick p next runs = subst (λ o. IfSome o (λ t. tick_of event ≤ t)) runs (of_side s)
    where
      all : Sources (tick_of event) p
      all = sources (tick_of event) p (subst (NotBefore (tick_of event)) (sym (event_is p.until (earliest p) event next)) (le_refl (tick_of event)))

      of_side : (s : Side) → IfSome (end_at s p).tcp.timing.timer (λ t. tick_of event ≤ t)
      of_side A = timer_so (tick_of event) A p.a.tcp.timing.timer all.fires_a
      of_side B = timer_so (tick_of event) B p.b.tcp.timing.timer all.fires_b

  -- all comes from the tick of the earliest
  waiting_so : (n : ℕ) (p : PathState C) → InOrder p → NotBefore n (earliest p) → ComesFrom n p
  waiting_so n p order h =
      let all : Sources n p = sources n p h in
      record {
        join = λ waits. join_so n p.a.tcp.state p.joined_at waits all.join;
        lines = lines_so n p.lines order.lines all.line;
        copies = copies_so n p.link.under_way order.copies all.copy;
        timer_a = timer_so n A p.a.tcp.timing.timer all.fires_a;
        timer_b = timer_so n B p.b.tcp.timing.timer all.fires_b;
      }

  from_both : (m n : ℕ) (p : PathState C) → ComesFrom m p → ComesFrom n p → ComesFrom (max m n) p
  from_both m n p first second = ⊎_elim
      (λ low. subst (λ x. ComesFrom x p) (omega (arith, low)) second)
      (λ high. subst (λ x. ComesFrom x p) (omega (arith, high)) first)
      (cases_lt m n)

  -- ---- what a duty makes of what waits to happen

  pub record Same (p q : PathState C) : Type 0 where
    pub clock : q.clock ≡ p.clock
    pub lines : q.lines ≡ p.lines
    pub joined : q.joined_at ≡ p.joined_at

  unhappened : (s : Side) (w : Writes) (p q : PathState C) → w.events ≡ false → OnlyAt s w p q → Same p q
  unhappened s w p q is x = record {
    clock = unwritten w.events p.clock q.clock is (ap (λ (v : PathView C). v.clock) x.same);
    lines = unwritten w.events p.lines q.lines is (ap (λ (v : PathView C). v.lines) x.same);
    joined = unwritten w.events p.joined_at q.joined_at is (ap (λ (v : PathView C). v.joined_at) x.same);
  }

  pub answered_same : (k : Codec C) (d : Duty) (r : Reply) (p : PathState C) → is_event d ≡ false → Same p (answered k d r p)
  answered_same k (duties.Step step_duties.Events) r p other = absurd (true≢false other)
  answered_same k (duties.Send (send_duties.Update s)) r p other = record { clock = refl; lines = refl; joined = refl }
  answered_same k (duties.Silent d) r p other = record { clock = refl; lines = refl; joined = refl }
  answered_same k d r p other = unhappened (side_of d) (writes d) p _ refl (writes_no_more k d r p)

  pub passed_same : (d : Duty) (p : PathState C) → Same p (passed d p)
  passed_same (duties.Step step_duties.Events) p = record { clock = refl; lines = refl; joined = refl }
  passed_same (duties.Send (send_duties.Update s)) p = record { clock = refl; lines = refl; joined = refl }
  passed_same (duties.Silent (silent_duties.Timer s)) p = record { clock = refl; lines = refl; joined = refl }
  passed_same d p = unhappened (side_of d) (writes d) p _ refl (passes_no_more d p)

  -- a line is taken, or A joins; neither comes again
  pub record Fewer (p q : PathState C) : Type 0 where
    pub lines : (q.lines ≡ p.lines) ⊎ (q.lines ≡ tail_of p.lines)
    pub joined : (q.joined_at ≡ p.joined_at) ⊎ (q.joined_at ≡ None)

  same_fewer : (p q : PathState C) → Same p q → Fewer p q
  same_fewer p q x = record { lines = inl x.lines; joined = inl x.joined }

  pub happens_fewer : (k : Codec C) (event : Event) (r : Reply) (p : PathState C) → Fewer p (happens_if k (Some event) r p)
  happens_fewer k (happenings.Joins tick) r p = by (is_never r)
    where
      q : PathState C
      q = record (at_tick tick p) { joined_at = None }

      by : (b : Bool) → Fewer p (if b then goes_on A (never_joined r (end_at A q)) (leaves A) q else goes_on A (opened_by (keys_begun r) (end_at A q)) (emission A) q)
      by true = record { lines = inl refl; joined = inr refl }
      by false = record { lines = inl refl; joined = inr refl }
  happens_fewer k (happenings.Takes line) r p = by line.action
    where
      by : (action : LineAction) → Fewer p (after_line action (record (at_tick line.tick p) { lines = tail_of p.lines }))
      by actions.Die = record { lines = inr refl; joined = inl refl }
      by (actions.Prio s backup) = record { lines = inr refl; joined = inl refl }
      by (actions.Announce s id) = record { lines = inr refl; joined = inl refl }
      by (actions.Withdraw s id) = record { lines = inr refl; joined = inl refl }
  happens_fewer k (happenings.Arrives due) r p = by (heard_in k due.to (arriving due p.link) p)
    where
      by : (o : Option HeardSegment) → Fewer p (copy_heard due.to o (record (at_tick due.tick p) { link = after_delivery due p.link }))
      by None = record { lines = inl refl; joined = inl refl }
      by (Some segment) = record { lines = inl refl; joined = inl refl }
  happens_fewer k (happenings.Fires s tick) r p = record { lines = inl refl; joined = inl refl }

  -- ---- it is in time still

  on_time : (p q : PathState C) → InOrder p → ComesFrom q.clock p → PathStep p q → Fewer p q → AreInOrder q.link.under_way → CopiesFrom q.clock q.link.under_way → InTime q
  on_time p q order h steps fewer ordered copies = record {
    order = record {
      lines = ⊎_elim (λ is. subst InTickOrder (sym is) order.lines) (λ is. subst InTickOrder (sym is) (tail_ordered p.lines order.lines)) fewer.lines;
      copies = ordered;
    };
    comes = record {
      join = λ waits. ⊎_elim
          (λ is. subst (λ o. IfSome o (λ tick. q.clock ≤ tick)) (sym is) (h.join (steps_wait q.clock p.a.tcp q.a.tcp steps.a.subflow waits)))
          (λ is. subst (λ o. IfSome o (λ tick. q.clock ≤ tick)) (sym is) tt)
          fewer.joined;
      lines = ⊎_elim (λ is. subst (LinesFrom q.clock) (sym is) h.lines) (λ is. subst (LinesFrom q.clock) (sym is) (tail_from q.clock p.lines h.lines)) fewer.lines;
      copies = copies;
      timer_a = steps_fire q.clock p.a.tcp q.a.tcp steps.a.subflow h.timer_a;
      timer_b = steps_fire q.clock p.b.tcp q.b.tcp steps.b.subflow h.timer_b;
    };
  }

  link_from : {d : Duty} (k : Codec C) (p q : PathState C) → LinkStep d k p q → CopiesFrom q.clock p.link.under_way → CopiesFrom q.clock q.link.under_way
  link_from k p q (stays is) h = subst (λ (l : LinkState C). CopiesFrom q.clock l.under_way) (sym is) h
  link_from k p q (hands s carried size still is) h =
      subst (λ (l : LinkState C). CopiesFrom q.clock l.under_way) (sym is) (sent_from q.clock (k.strips p.profile.spelling) (k.alters p.profile.spelling) s carried size p.clock p.link (omega (arith, still)) h)
  link_from k p q (delivers event due next is) h = subst (λ (l : LinkState C). CopiesFrom q.clock l.under_way) (sym is) (delivered_from q.clock due p.link h)
  link_from k p q (is_cut line next action is dead) h = subst (λ (l : LinkState C). CopiesFrom q.clock l.under_way) (sym is) tt

  link_ordered : {d : Duty} (k : Codec C) (p q : PathState C) → LinkStep d k p q → AreInOrder p.link.under_way → AreInOrder q.link.under_way
  link_ordered k p q (stays is) h = subst (λ (l : LinkState C). AreInOrder l.under_way) (sym is) h
  link_ordered k p q (hands s carried size still is) h =
      subst (λ (l : LinkState C). AreInOrder l.under_way) (sym is) (in_order_sent (k.strips p.profile.spelling) (k.alters p.profile.spelling) s carried size p.clock p.link h)
  link_ordered k p q (delivers event due next is) h = subst (λ (l : LinkState C). AreInOrder l.under_way) (sym is) (in_order_delivered due p.link h)
  link_ordered k p q (is_cut line next action is dead) h = subst (λ (l : LinkState C). AreInOrder l.under_way) (sym is) tt

  by_link : {d : Duty} (k : Codec C) (p q : PathState C) → InOrder p → ComesFrom q.clock p → PathStep p q → Fewer p q → LinkStep d k p q → InTime q
  by_link k p q order h steps fewer link = on_time p q order h steps fewer (link_ordered k p q link order.copies) (link_from k p q link h.copies)

  event_in_time : (k : Codec C) (r : Reply) (p : PathState C) → InTime p → InTime (happens_if k (next_event p) r p)
  event_in_time k r p h = by (next_event p) refl (answered_steps k (duties.Step step_duties.Events) r p) (link_step k (duties.Step step_duties.Events) r p)
    where
      by : (o : Option Event) → next_event p ≡ o → PathStep p (happens_if k o r p) → LinkStep (duties.Step step_duties.Events) k p (happens_if k o r p) → InTime (happens_if k o r p)
      by None is steps link = by_link k p _ h.order h.comes steps (record { lines = inl refl; joined = inl refl }) link
      by (Some event) is steps link =
          let q : PathState C = happens_if k (Some event) r p in
          let past : ComesFrom (tick_of event) p = waiting_so (tick_of event) p h.order (subst (NotBefore (tick_of event)) (sym (event_is p.until (earliest p) event is)) (le_refl (tick_of event))) in
          by_link k p q h.order (subst (λ n. ComesFrom n p) (sym (happens_clock k event r p)) (from_both p.clock (tick_of event) p h.comes past)) steps (happens_fewer k event r p) link

  answered_in_time : (k : Codec C) (d : Duty) (r : Reply) (p : PathState C) → InTime p → InTime (answered k d r p)
  answered_in_time k d r p h = by (is_event d) refl
    where
      q : PathState C
      q = answered k d r p

      by : (b : Bool) → is_event d ≡ b → InTime q
      by false other =
          let same : Same p q = answered_same k d r p other in
          by_link k p q h.order (subst (λ n. ComesFrom n p) (sym same.clock) h.comes) (answered_steps k d r p) (same_fewer p q same) (link_step k d r p)
      by true is = subst (λ x. InTime (answered k x r p)) (sym (events_so d is)) (event_in_time k r p h)

  passed_in_time : (d : Duty) (p : PathState C) → InTime p → InTime (passed d p)
  passed_in_time d p h =
      let q : PathState C = passed d p in
      let same : Same p q = passed_same d p in
      let past : ComesFrom q.clock p = subst (λ n. ComesFrom n p) (sym same.clock) h.comes in
      on_time p q h.order past (passed_steps d p) (same_fewer p q same)
      (subst (λ (l : LinkState C). AreInOrder l.under_way) (sym (passed_link d p)) h.order.copies)
      (subst (λ (l : LinkState C). CopiesFrom q.clock l.under_way) (sym (passed_link d p)) past.copies)

  abbrev StaysInTime : PathState C → PathState C → Type 0
  StaysInTime p q = InTime p → InTime q

  in_time_lasts : Lasts StaysInTime
  in_time_lasts = record {
    agenda = λ ds p h. record {
      order = record { lines = h.order.lines; copies = h.order.copies };
      comes = record { join = h.comes.join; lines = h.comes.lines; copies = h.comes.copies; timer_a = h.comes.timer_a; timer_b = h.comes.timer_b };
    };
    chains = λ p q r x y h. y (x h);
    passes = λ d p h. passed_in_time d p h;
  }

  -- as a round begins nothing is due before
  next_in_time : (p : PathState C) → InTime p → next_event p ≡ None → InTime (record p { clock = p.until; until = p.until + 100 })
  next_in_time p h quiet =
      let comes : ComesFrom p.until p = waiting_so p.until p h.order (none_early p.until (earliest p) quiet) in
      record {
        order = record { lines = h.order.lines; copies = h.order.copies };
        comes = record { join = comes.join; lines = comes.lines; copies = comes.copies; timer_a = comes.timer_a; timer_b = comes.timer_b };
      }

  first_in_time : (number : ℕ) (start : Start) (plan : PathPlan) → InTime (waiting_path {C = C} (path_begins start number plan) start.lines)
  first_in_time number start plan =
      let p : PathState C = waiting_path (path_begins start number plan) start.lines in
      record {
        order = record { lines = events_ordered (path_begins start number plan).profile.spelling.path 0 start.lines [] tt; copies = tt };
        comes = record { join = λ waits. joins_from p.joined_at; lines = from_zero p.lines; copies = tt; timer_a = tt; timer_b = tt };
      }
    where
      joins_from : (o : Option ℕ) → IfSome o (λ tick. 0 ≤ tick)
      joins_from None = tt
      joins_from (Some tick) = omega arith

  -- ---- the world

  abbrev IsInTime : Actor C → Type 0
  IsInTime = HoldsOfKind (λ app. Unit {0}) (λ (p : PathState C). InTime p × Shaped p.agenda p)

  member_takes_on : (k : Codec C) (r : Reply) (m : Actor C) → IsInTime m → IsInTime (member_takes k r m)
  member_takes_on k r (App a) h = tt
  member_takes_on k r (Path p) h = (takes_lasts StaysInTime in_time_lasts k r p (λ d x. answered_in_time k d r p x) h.0, takes_shaped k r p h.1)

  member_begins : (m : Actor C) → is_over m ≡ true → IsInTime m → IsInTime (member_next m)
  member_begins (App a) over h = tt
  member_begins (Path p) over h =
      let q : PathState C = record p { clock = p.until; until = p.until + 100 } in
      (begins_lasts StaysInTime in_time_lasts q (next_in_time p h.0 (nothing_due p h.1 (nil_so p.agenda over))), begun_shaped q)

  member_so : (m : Actor C) → IsInTime m → HoldsOfKind (λ app. Unit {0}) (λ (p : PathState C). ComesFrom p.clock p) m
  member_so (App a) h = tt
  member_so (Path p) h = h.0.comes

  member_over : (m : Actor C) → IsInTime m → HoldsOfKind (λ app. Unit {0}) (λ (p : PathState C). p.agenda ≡ [] → ComesFrom p.until p) m
  member_over (App a) h = tt
  member_over (Path p) h = λ over. waiting_so p.until p h.0.order (none_early p.until (earliest p) (nothing_due p h.1 over))

  always_in_time : (k : Codec C) (start : Start) (turns : List Turn) → Every (λ c. IsInTime c.member) (world_run k turns (opened_world start)).crew
  always_in_time k start turns = run_lifted k (λ c. IsInTime c.member) (λ books c x asks h. member_takes_on k (answer_to books x) c.member h)
      (λ stamp c over h. member_begins c.member over h) turns (opened_world start)
      (opened_lifted (λ c. IsInTime c.member) start tt tt (λ number plan there. let p : PathState C = waiting_path (path_begins start number plan) start.lines in
      (begins_lasts StaysInTime in_time_lasts p (first_in_time number start plan), begun_shaped p)))

  member_in_order : (m : Actor C) → IsInTime m → HoldsOfKind (λ app. Unit {0}) (λ (p : PathState C). (event : Event) → next_event p ≡ Some event → ComesFrom (tick_of event) p) m
  member_in_order (App a) h = tt
  member_in_order (Path p) h = λ event next.
      waiting_so (tick_of event) p h.0.order (subst (NotBefore (tick_of event)) (sym (event_is p.until (earliest p) event next)) (le_refl (tick_of event)))

  pub events_come_in_order : (k : Codec C) → EventsComeInOrder k
  events_come_in_order k start turns actor c there = member_in_order c.member ((always_in_time k start turns).each actor c there)

  pub nothing_is_overdue : (k : Codec C) → Always k (λ start w. NothingIsOverdue w)
  nothing_is_overdue k start turns =
      let all = always_in_time k start turns in record {
        each = λ actor c there. member_so c.member (all.each actor c there);
        over = λ actor c there. member_over c.member (all.each actor c there);
      }
