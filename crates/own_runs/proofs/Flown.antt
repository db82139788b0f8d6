-- What holds of each segment that a path's ends send, and of each reset, holds of its copies under way.
use Rattle.std.proofs.Common.{◌≡◌, refl, sym, ap, subst, ℕ, Bool, true, false, if◌then◌else◌, Option, Some, None, List, [], ◌∷◌}
use Rattle.std.specs.Option.{IfSome}
use Rattle.actor_desk.specs.declared.ask.Reply.{Reply}
use Rattle.link_model.specs.Fate.{is_altered, is_stripped}
use Rattle.link_model.specs.State.{LinkState}
use Rattle.link_model.specs.Steps.{after_delivery, arriving, changed, next_number, without}
use Rattle.link_model.specs.declared.flight.Flight.{Flight}
use Rattle.fallback_state.specs.declared.fall.Event.{Event as FallEvent}
use Rattle.path_agenda.specs.Agenda.{announces, emission, leaves, resets, rest_of_turn, start_of_turn, withdraws}
use Rattle.path_agenda.specs.declared.duty.AskDuty.{AskDuty}
use Rattle.path_agenda.specs.declared.duty.Duty.{Duty}
use Rattle.path_agenda.specs.declared.duty.SendDuty.{SendDuty}
use Rattle.path_agenda.specs.declared.duty.SilentDuty.{SilentDuty}
use Rattle.path_agenda.specs.declared.duty.StepDuty.{StepDuty}
use Rattle.path_agenda.specs.declared.heard.Heard.{Heard}
use Rattle.path_core.specs.Arrival.{copy_heard, heard_in}
use Rattle.path_core.specs.Breaking.{answered_break, reset_of, reset_on}
use Rattle.path_core.specs.DssIn.{is_clash, with_learned}
use Rattle.path_core.specs.Duties.{answered, passed}
use Rattle.path_core.specs.Emission.{Grant, answered_data, answered_grant, first_unsent, grant_in, having_sent_unsent, unsent_segment}
use Rattle.path_core.specs.End.{PathEnd, died}
use Rattle.path_core.specs.Events.{after_line, happens_if, next_event}
use Rattle.path_core.specs.Fallback.{after_fell, breaks_by_ack, fell_duties, with_plain_ack}
use Rattle.path_core.specs.Handover.{handed, sent_on}
use Rattle.path_core.specs.Looking.{duty_sends, first_sends, segment_sent, send_of, unsent_sends}
use Rattle.path_core.specs.MpJoin.{is_never, join_begun, keys_begun, never_joined, opened_by}
use Rattle.path_core.specs.Standing.{after_ack_out}
use Rattle.path_core.specs.State.{PathState, at_tick, end_at, goes_on, left, with_agenda, with_end}
use Rattle.path_core.specs.Steps.{answers, settled, takes}
use Rattle.path_core.specs.Timer.{after_firing, template_fired, timer_fired}
use Rattle.path_core.specs.Treating.{answered_heard, answered_item, item_of}
use Rattle.path_core.specs.Values.{Carried, altered, carried_by, stripped, values}
use Rattle.path_core.specs.declared.events.Event.{Event}
use Rattle.path_segments.specs.Spelled.{PlainSegment}
use Rattle.path_store.specs.declared.lines.LineAction.{LineAction}
use Rattle.sides.specs.Side.{peer}
use Rattle.sides.specs.declared.side.Side.TheVariants.{A, B}
use Rattle.sides.specs.declared.side.Side.{Side}
use Rattle.stream_lanes.proofs.Lists.{Every-nil}
use Rattle.stream_lanes.specs.Words.{Every}
use Rattle.subflow_send.specs.Records.{Record}
use Rattle.world_laws.proofs.Falls.FailedChecks.{fail_answered_so}
use Rattle.world_laws.proofs.Keys.Held.{in_removed}
use Rattle.world_laws.proofs.Lanes.Saying.{handed_kept}
use Rattle.world_laws.proofs.Writes.Paths.{passes_no_more, writes_no_more}
use Rattle.world_laws.proofs.Writes.Steps.{Lasts, settled_lasts, unwritten}
use Rattle.world_laws.specs.Writes.{OnlyAt, PathView, Writes, side_of, writes}
use Rattle.own_runs.proofs.Speaking.{ToSend}

module _ (P : Side → PlainSegment → Type 0) where
  abbrev pub FlightIs : Flight Carried → Type 0
  FlightIs f = P (peer f.to) f.carried.segment

  pub record Flies (p : PathState Carried) : Type 0 where
    pub copies : Every FlightIs p.link.under_way

  abbrev pub SendsSo : PathState Carried → Option ToSend → Type 0
  SendsSo p o = IfSome o (λ t. P t.from (segment_sent p t))

  -- where it says nothing of payload, and each reset is so
  module _ (any_payload : (s : Side) (sg : PlainSegment) (payload : List ℕ) → P s sg → P s (record sg { payload = payload }))
      (each_reset : (s : Side) (reason : Option ℕ) (p : PathState Carried) → P s (reset_of s reason p)) where
    -- ---- a segment is handed over

    changed_is : (s : Side) (strips alters : Bool) (carried : Carried) → P s carried.segment → P s (changed stripped altered strips alters carried).segment
    changed_is s true true carried is = any_payload s carried.segment _ is
    changed_is s false true carried is = any_payload s carried.segment _ is
    changed_is s true false carried is = is
    changed_is s false false carried is = is

    twice : (s : Side) (sg : PlainSegment) → P s sg → P (peer (peer s)) sg
    twice A sg is = is
    twice B sg is = is

    sent_copies : (s : Side) (sg : PlainSegment) (p : PathState Carried) → P s sg → Flies p → Every FlightIs (handed values s sg p).under_way
    sent_copies s sg p is h =
        let number = next_number s p.link in
        let made = carried_by p.profile.spelling s sg in
        let strips = is_stripped s number p.clock p.link.lines in
        let alters = is_altered s number p.link.lines in
        handed_kept FlightIs s sg p (λ tick. twice s (changed stripped altered strips alters made).segment (changed_is s strips alters made is)) h.copies

    sent : (s : Side) (sg : PlainSegment) (e : PathEnd) (es : List Duty) (p : PathState Carried) → P s sg → Flies p → Flies (sent_on values s sg e es p)
    sent A sg e es p is h = record { copies = sent_copies A sg p is h }
    sent B sg e es p is h = record { copies = sent_copies B sg p is h }

    goes : (s : Side) (e : PathEnd) (es : List Duty) (p : PathState Carried) → Flies p → Flies (goes_on s e es p)
    goes A e es p h = record { copies = h.copies }
    goes B e es p h = record { copies = h.copies }

    put : (s : Side) (e : PathEnd) (p : PathState Carried) → Flies p → Flies (with_end s e p)
    put A e p h = record { copies = h.copies }
    put B e p h = record { copies = h.copies }

    any : (ds : List Duty) (p : PathState Carried) → Flies p → Flies (with_agenda ds p)
    any ds p h = record { copies = h.copies }

    only : (s : Side) (w : Writes) (p q : PathState Carried) → w.link ≡ false → OnlyAt s w p q → Flies p → Flies q
    only s w p q link x h =
        let linked : q.link ≡ p.link = unwritten w.link p.link q.link link (ap (λ (v : PathView Carried). v.link) x.same) in
        record { copies = subst (λ (l : LinkState Carried). Every FlightIs l.under_way) (sym linked) h.copies }

    either : (b : Bool) (q r : PathState Carried) → Flies q → Flies r → Flies (if b then q else r)
    either true q r x y = x
    either false q r x y = y

    -- ---- replies

    module _ (r : Reply) (p : PathState Carried) (h : Flies p) where
      reset_so : (s : Side) (reason : Option ℕ) (es : List Duty) → Flies (reset_on values s reason es p)
      reset_so s reason es = sent s (reset_of s reason p) (died (end_at s p)) es p (each_reset s reason p) h

      break_so : (s : Side) (reason : ℕ) → Flies (answered_break values s reason r p)
      break_so s reason = either (end_at s p).treated.asked _ _ (goes s (after_ack_out r (end_at s p)) (resets s reason) p h) (reset_so s (Some reason) (leaves s))

      fell : (s : Side) (e : PathEnd) → Flies (goes_on s e (fell_duties s r p) p)
      fell s e = goes s e (fell_duties s r p) p h

      thing_so : (s : Side) (item : Heard) → Flies (answered_heard values s item r p)
      thing_so s (Heard.DataAck next window) = goes s _ _ p h
      thing_so s (Heard.Mapping fin) = either (is_clash (end_at s p)) _ _ (break_so s 1) (fell s (with_learned (after_fell FallEvent.MappingHeard r (end_at s p))))
      thing_so s (Heard.DataFin place) = fell s _
      thing_so s (Heard.InfiniteMapping place position) = fell s _
      thing_so s (Heard.Keys own other) = goes s _ (left p) p h
      thing_so s (Heard.Notice notice) = goes s _ (left p) p h
      thing_so s Heard.Fail = fail_answered_so Flies s r p (goes s _ _ p h) (fell s _)
      thing_so s (Heard.FastClose key) = any _ p h
      thing_so s _ = any (left p) p h

      item_so : (s : Side) (o : Option Heard) → Flies (answered_item values s o r p)
      item_so s None = any (left p) p h
      item_so s (Some item) = thing_so s item

      granted_so : (s : Side) (o : Option Grant) → Flies (answered_grant s o r p)
      granted_so s None = goes s _ (left p) p h
      granted_so s (Some grant) = goes s _ p.agenda p h

      data_so : (s : Side) (o : Option Record) → SendsSo p (unsent_sends s o) → Flies (answered_data values s o r p)
      data_so s (Some unsent) says = sent s (unsent_segment s p) (having_sent_unsent s p) p.agenda p says h
      data_so s None says = granted_so s (grant_in r)

      join_so : (dead living : List Duty) → Flies (join_begun r dead living p)
      join_so dead living = either (is_never r) _ _ (goes A (never_joined r p.a) dead p h) (goes A (opened_by (keys_begun r) p.a) living p h)

      out : (s : Side) (sg : PlainSegment) (e : PathEnd) (es : List Duty) → P s sg → Flies (sent_on values s sg e es p)
      out s sg e es is = sent s sg e es p is h

      send_so : (d : SendDuty) → SendsSo p (send_of d) → Flies (answered values (Duty.Send d) r p)
      send_so (SendDuty.Syn s) says = out s _ _ (left p) says
      send_so (SendDuty.SynAck s) says = out s _ _ (left p) says
      send_so (SendDuty.Again s) says = out s _ _ (left p) says
      send_so (SendDuty.Answer s) says = out s _ _ (left p) says
      send_so (SendDuty.Resend s) says = out s _ _ (left p) says
      send_so (SendDuty.Fin s) says = out s _ _ (left p) says
      send_so (SendDuty.BreakReset s reason) says = reset_so s (Some reason) (leaves s)
      send_so (SendDuty.Reset s) says = reset_so s None _
      send_so (SendDuty.ResetNoted s) says = reset_so s None _
      send_so (SendDuty.Notice s) says = out s _ _ p.agenda says
      send_so (SendDuty.Update s) says = out s _ _ (left p) says
      send_so (SendDuty.FastClose s) says = out s _ _ (left p) says
      send_so (SendDuty.DataFin s) says = out s _ _ (left p) says
      send_so (SendDuty.Refuse s) says = out s _ _ (left p) says
      send_so (SendDuty.Acknowledge s) says = out s _ _ (left p) says
      send_so (SendDuty.ResetAnswer s) says = out s _ _ (left p) says

      line_so : (action : LineAction) → Flies (after_line action p)
      line_so LineAction.Die = record { copies = Every-nil FlightIs }
      line_so (LineAction.Prio s backup) = goes s _ (emission s) p h
      line_so (LineAction.Announce s id) = any (announces s id) p h
      line_so (LineAction.Withdraw s id) = any (withdraws s id) p h

      fired_so : (s : Side) → Flies (timer_fired s p)
      fired_so s = goes s (after_firing p.clock (end_at s p)) (template_fired _ s) p h

      ask_so : (d : AskDuty) → Flies (answered values (Duty.Ask d) r p)
      ask_so d = only (side_of (Duty.Ask d)) (writes (Duty.Ask d)) p _ (no_link d) (writes_no_more values (Duty.Ask d) r p) h
        where
          no_link : (d : AskDuty) → (writes (Duty.Ask d)).link ≡ false
          no_link AskDuty.JoinAgain = refl
          no_link _ = refl

    -- ---- events

    left_copies : (o : Option ℕ) (fs : List (Flight Carried)) → Every FlightIs fs → Every FlightIs (without o fs)
    left_copies None fs h = h
    left_copies (Some place) fs h = record { each = λ k f at. let was = in_removed fs place k f at in h.each was.0 f was.1 }

    event_so : (o : Option Event) (r : Reply) (p : PathState Carried) → Flies p → Flies (happens_if values o r p)
    event_so None r p h = any rest_of_turn p h
    event_so (Some (Event.Joins tick)) r p h = join_so r (record (at_tick tick p) { joined_at = None }) (record { copies = h.copies }) (leaves A) (emission A)
    event_so (Some (Event.Takes line)) r p h = line_so r (record (at_tick line.tick p) { lines = _ }) (record { copies = h.copies }) line.action
    event_so (Some (Event.Arrives due)) r p h = by (heard_in values due.to (arriving due p.link) p)
      where
        q : PathState Carried
        q = record (at_tick due.tick p) { link = after_delivery due p.link }

        is : Flies q
        is = record { copies = left_copies _ p.link.under_way h.copies }

        by : (o : Option _) → Flies (copy_heard due.to o q)
        by None = any (emission due.to) q is
        by (Some heard) = goes due.to _ _ q is
    event_so (Some (Event.Fires s tick)) r p h = fired_so r (at_tick tick p) (record { copies = h.copies }) s

    -- ---- a step

    step_so : (d : StepDuty) (r : Reply) (p : PathState Carried) → SendsSo p (duty_sends (Duty.Step d) p) → Flies p → Flies (answered values (Duty.Step d) r p)
    step_so (StepDuty.Look s) r p says h = only s (writes (Duty.Step (StepDuty.Look s))) p _ refl (writes_no_more values (Duty.Step (StepDuty.Look s)) r p) h
    step_so (StepDuty.Data s) r p says h = data_so r p h s (first_unsent (end_at s p)) says
    step_so StepDuty.Events r p says h = event_so (next_event p) r p h
    step_so (StepDuty.Heard s index) r p says h = item_so r p h s (item_of index (end_at s p))
    step_so (StepDuty.PlainAck s) r p says h = either (breaks_by_ack p.profile (end_at s p)) _ _ (break_so r p h s 6) (fell r p h s (with_plain_ack (after_fell FallEvent.PlainAck r (end_at s p))))
    step_so (StepDuty.Unmapped s) r p says h = break_so r p h s 6

    answered_so : (d : Duty) (r : Reply) (p : PathState Carried) → SendsSo p (duty_sends d p) → Flies p → Flies (answered values d r p)
    answered_so (Duty.Ask d) r p says h = ask_so r p h d
    answered_so (Duty.Send d) r p says h = send_so r p h d says
    answered_so (Duty.Step d) r p says h = step_so d r p says h
    answered_so (Duty.Silent d) r p says h = any (left p) p h
    answered_so Duty.End r p says h = any [] p h

    passed_so : (d : Duty) (p : PathState Carried) → Flies p → Flies (passed d p)
    passed_so (Duty.Step (StepDuty.Heard s index)) p h = put s _ p h
    passed_so (Duty.Step (StepDuty.PlainAck s)) p h = put s _ p h
    passed_so (Duty.Step (StepDuty.Unmapped s)) p h = put s _ p h
    passed_so (Duty.Step _) p h = h
    passed_so (Duty.Ask (AskDuty.CheckFailed s)) p h = only s (writes (Duty.Ask (AskDuty.CheckFailed s))) p _ refl (passes_no_more (Duty.Ask (AskDuty.CheckFailed s)) p) h
    passed_so (Duty.Ask _) p h = h
    passed_so (Duty.Send d) p h = h
    passed_so (Duty.Silent (SilentDuty.PassFin s)) p h = only s (writes (Duty.Silent (SilentDuty.PassFin s))) p _ refl (passes_no_more (Duty.Silent (SilentDuty.PassFin s)) p) h
    passed_so (Duty.Silent (SilentDuty.Timer s)) p h = only s (writes (Duty.Silent (SilentDuty.Timer s))) p _ refl (passes_no_more (Duty.Silent (SilentDuty.Timer s)) p) h
    passed_so (Duty.Silent (SilentDuty.Keep s)) p h = only s (writes (Duty.Silent (SilentDuty.Keep s))) p _ refl (passes_no_more (Duty.Silent (SilentDuty.Keep s)) p) h
    passed_so Duty.End p h = h

    lasts : Lasts {C = Carried} (λ p q. Flies p → Flies q)
    lasts = record {
      agenda = λ ds p. any ds p;
      chains = λ p q r x y h. y (x h);
      passes = λ d p. passed_so d p;
    }

    settles : (ds : List Duty) (p : PathState Carried) → Flies p → Flies (settled ds p)
    settles ds p = settled_lasts (λ p q. Flies p → Flies q) lasts ds p

    pub takes_fly : (r : Reply) (p : PathState Carried) → SendsSo p (first_sends p.agenda p) → Flies p → Flies (takes values r p)
    takes_fly r p says h = by p.agenda says
      where
        by : (ds : List Duty) → SendsSo p (first_sends ds p) → Flies (settled (answers values ds r p).agenda (answers values ds r p))
        by [] says = settles p.agenda p h
        by (d ∷ ds) says = settles (answered values d r p).agenda (answered values d r p) (answered_so d r p says h)

    pub begins_fly : (p : PathState Carried) → Flies p → Flies (settled start_of_turn (with_agenda start_of_turn p))
    begins_fly p h = settles start_of_turn (with_agenda start_of_turn p) (any start_of_turn p h)
