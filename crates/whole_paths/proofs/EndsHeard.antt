-- Until A may send a DSS its end keeps no DATA_FIN of B's that is to be told.
use Rattle.std.proofs.Common.{◌≡◌, refl, sym, subst, ap, ◌∙◌, ⊎_elim, ℕ, ◌+◌, Bool, true, false, true≢false, if◌then◌else◌, Option, Some, None, is_some, List, [], ◌∷◌}
use Rattle.std.proofs.lemmas.Bool.{and_parts, both_ways}
use Rattle.path_segments.specs.Heard.{HeardSegment}
use Rattle.sides.specs.declared.side.Side.{Side}
use Rattle.sides.specs.declared.side.Side.TheVariants.{A, B}
use Rattle.sides.specs.Side.{peer}
use Rattle.link_model.specs.Steps.{after_delivery, arriving}
use Rattle.dss_mapping.specs.declared.kept.KeptMapping.{KeptMapping}
use Rattle.subflow_tcp.specs.Expiring.{after_expiry, is_sixth}
use Rattle.subflow_tcp.specs.States.{is_dead, is_waiting}
use Rattle.subflow_tcp.specs.Taking.{after_death}
use Rattle.subflow_tcp.specs.declared.segments.Outgoing.{Outgoing}
use Rattle.subflow_tcp.specs.declared.verdicts.Meaning.{Meaning}
use Rattle.actor_desk.specs.Words.{tail_of}
use Rattle.actor_desk.specs.declared.ask.Reply.{Reply}
use Rattle.path_agenda.specs.Agenda.{leaves, resets, start_of_turn}
use Rattle.path_agenda.specs.declared.duty.Duty.{Duty}
use Rattle.path_agenda.specs.declared.duty.Duty.TheVariants as duties
use Rattle.path_agenda.specs.declared.duty.AskDuty.TheVariants as ask_duties
use Rattle.path_agenda.specs.declared.duty.SendDuty.TheVariants as send_duties
use Rattle.path_agenda.specs.declared.duty.SilentDuty.TheVariants as silent_duties
use Rattle.path_agenda.specs.declared.duty.StepDuty.TheVariants as step_duties
use Rattle.path_agenda.specs.declared.heard.Heard.{Heard}
use Rattle.path_agenda.specs.declared.heard.Heard.TheVariants as says
use Rattle.path_store.specs.Receiving.{data_fin_reached}
use Rattle.path_store.specs.declared.lines.LineAction.{LineAction}
use Rattle.path_store.specs.declared.lines.LineAction.TheVariants as actions
use Rattle.path_core.specs.Addresses.{with_priority}
use Rattle.path_core.specs.Arrival.{copy_heard, copy_judged, heard_in, judged_in, reset_for}
use Rattle.path_core.specs.DssIn.{held_of}
use Rattle.path_core.specs.Judged.{taken_as}
use Rattle.path_core.specs.MpJoin.{is_joined}
use Rattle.path_core.specs.OptionsIn.{options_heard}
use Rattle.path_core.specs.Breaking.{answered_break, reset_on}
use Rattle.path_core.specs.Choices.{item_at}
use Rattle.path_core.specs.Deliver.{after_pieces, fins_and}
use Rattle.path_core.specs.Duties.{answered, passed, stands}
use Rattle.path_core.specs.End.{PathEnd, died}
use Rattle.path_core.specs.Events.{after_line, happens_if, next_event}
use Rattle.path_core.specs.Fallback.{after_fell, breaks_by_ack, fell_duties, with_plain_ack}
use Rattle.fallback_state.specs.declared.fall.Event.TheVariants as fell
use Rattle.path_core.specs.Start.{waiting_path}
use Rattle.path_core.specs.Standing.{answered_ack_out}
use Rattle.path_core.specs.State.{PathState, at_tick, end_at, goes_on, with_agenda}
use Rattle.path_core.specs.Steps.{begins_turn, next_round, settled, takes}
use Rattle.path_core.specs.Treating.{answered_heard, answered_item, item_of, item_passed}
use Rattle.path_core.specs.Turns.{FirstStands}
use Rattle.path_core.specs.Values.{Carried, values}
use Rattle.path_core.specs.declared.events.Event.{Event}
use Rattle.path_core.specs.declared.events.Event.TheVariants as happenings
use Rattle.world_laws.specs.declared.member.Member.TheVariants.{App, Path}
use Rattle.world_laws.specs.Actors.{Actor}
use Rattle.world_laws.specs.Openings.{PathPlan, Start, opened_world, path_begins}
use Rattle.world_laws.specs.RoundDone.{reached}
use Rattle.world_laws.specs.Worlds.{Turn}
use Rattle.world_laws.specs.Writes.{EndView, EndWrites, Only, OnlyAt, PathView, nothing, side_of, writes}
use Rattle.world_laws.proofs.Falls.ClearStays.{Clears, passed_clear, takes_clear, unclear_before}
use Rattle.world_laws.proofs.Falls.FailedChecks.{fail_answered_so}
use Rattle.world_laws.proofs.Keys.DssIsTheSign.{IsLed, IsUnclear, Leads, Led, LeadsWell, answers_lead, passed_leads, started_leads, unheard, unled}
use Rattle.world_laws.proofs.Keys.WhatWakes.{next_happens}
use Rattle.world_laws.proofs.Writes.Paths.{passes_no_more, writes_no_more}
use Rattle.world_laws.proofs.Writes.Steps.{Lasts, settled_lasts, unwritten}
use Rattle.world_laws.proofs.Rounds.Lifting.{opened_lifted}
use Rattle.whole_paths.specs.Clear.{AHearsNoEndBefore, HearsNoEnd}
use Rattle.whole_paths.specs.Finish.{IsPathAt}
use Rattle.whole_paths.specs.Mild.{IsMildStart}
use Rattle.whole_paths.proofs.ByTurns.{Of, OfFirst, each_first_moment}
use Rattle.whole_paths.proofs.Clearing.{none_other}
use Rattle.whole_paths.proofs.Handshaking.{Given, PathMet, each_met, given, never_waits}
use Rattle.whole_paths.proofs.SendsEnds.{EndsClear, each_ends}
use Rattle.whole_paths.proofs.InTime.{is_event}
use Rattle.whole_paths.proofs.Pieces.{own_only}
use Rattle.whole_paths.proofs.Settling.{sides}

-- ---- an end

kept : (e f : PathEnd) → f.treated.fins ≡ e.treated.fins → f.receiving.mapped_data_fin ≡ e.receiving.mapped_data_fin → HearsNoEnd e → HearsNoEnd f
kept e f fins mapped h = record { fins = fins ∙ h.fins; mapped = mapped ∙ h.mapped }

-- the end forgets what it treated
forgets : (e f : PathEnd) → f.treated.fins ≡ [] → f.receiving.mapped_data_fin ≡ e.receiving.mapped_data_fin → HearsNoEnd e → HearsNoEnd f
forgets e f fins mapped h = record { fins = fins; mapped = mapped ∙ h.mapped }

by_writes : (w : EndWrites) (e f : PathEnd) → w.fins ≡ false → w.mapped_data_fin ≡ false → Only w e f → HearsNoEnd e → HearsNoEnd f
by_writes w e f fins mapped x = kept e f
    (unwritten w.fins e.treated.fins f.treated.fins fins (ap (λ (v : EndView). v.fins) x.same))
    (unwritten w.mapped_data_fin e.receiving.mapped_data_fin f.receiving.mapped_data_fin mapped (ap (λ (v : EndView). v.mapped_data_fin) x.same))

-- by these duties an end may keep one, or forgets it
abbrev is_special : Duty → Bool
is_special (duties.Ask ask_duties.JoinAgain) = true
is_special (duties.Ask (ask_duties.LeaveNoted s)) = true
is_special (duties.Step (step_duties.Heard s index)) = true
is_special (duties.Step (step_duties.PlainAck s)) = true
is_special (duties.Step (step_duties.Unmapped s)) = true
is_special (duties.Step step_duties.Events) = true
is_special (duties.Send (send_duties.BreakReset s reason)) = true
is_special (duties.Send (send_duties.Reset s)) = true
is_special (duties.Send (send_duties.ResetNoted s)) = true
is_special _ = false

record Unwritten (w : EndWrites) : Type 0 where
  fins : w.fins ≡ false
  mapped : w.mapped_data_fin ≡ false

none_written : (d : Duty) → is_special d ≡ false → Unwritten (writes d).own
none_written (duties.Ask ask_duties.JoinAgain) none = absurd (true≢false none)
none_written (duties.Ask (ask_duties.LeaveNoted s)) none = absurd (true≢false none)
none_written (duties.Step (step_duties.Heard s index)) none = absurd (true≢false none)
none_written (duties.Step (step_duties.PlainAck s)) none = absurd (true≢false none)
none_written (duties.Step (step_duties.Unmapped s)) none = absurd (true≢false none)
none_written (duties.Step step_duties.Events) none = absurd (true≢false none)
none_written (duties.Send (send_duties.BreakReset s reason)) none = absurd (true≢false none)
none_written (duties.Send (send_duties.Reset s)) none = absurd (true≢false none)
none_written (duties.Send (send_duties.ResetNoted s)) none = absurd (true≢false none)
none_written (duties.Silent (silent_duties.Timer s)) none = record { fins = refl; mapped = refl }
none_written _ none = record { fins = refl; mapped = refl }

-- at A's end, by the duties of the other one, and by the most of its own
by_duty : (d : Duty) (p q : PathState Carried) → is_event d ≡ false → (side_of d ≡ A → is_special d ≡ false) → OnlyAt (side_of d) (writes d) p q → HearsNoEnd p.a → HearsNoEnd q.a
by_duty d p q other none x = ⊎_elim
    (λ own. subst (λ t. HearsNoEnd (end_at t p) → HearsNoEnd (end_at t q)) own
    (by_writes (writes d).own (end_at (side_of d) p) (end_at (side_of d) q) (none_written d (none own)).fins (none_written d (none own)).mapped (own_only (side_of d) (writes d) p q x)))
    (λ away. subst (λ t. HearsNoEnd (end_at t p) → HearsNoEnd (end_at t q)) away
    (by_writes nothing (end_at (peer (side_of d)) p) (end_at (peer (side_of d)) q) refl refl
    (subst (λ v. Only v (end_at (peer (side_of d)) p) (end_at (peer (side_of d)) q)) (none_other d other) (record { same = ap (λ (v : PathView Carried). v.other) x.same }))))
    (sides A (side_of d))

-- ---- what is answered

told_quiet : (r : Reply) (p : PathState Carried) (ds : List Duty) → HearsNoEnd p.a → HearsNoEnd (answered_ack_out A r ds p).a
told_quiet r p ds h =
    let d : Duty = duties.Ask (ask_duties.AckOut A) in
    let now = by_duty d p (answered values d r p) refl (λ own. refl) (writes_no_more values d r p) h in
    record { fins = now.fins; mapped = now.mapped }

break_quiet : (reason : ℕ) (r : Reply) (p : PathState Carried) → HearsNoEnd p.a → HearsNoEnd (answered_break values A reason r p).a
break_quiet reason r p = elim p.a.treated.asked as (λ b. HearsNoEnd p.a → HearsNoEnd (if b then answered_ack_out A r (resets A reason) p else reset_on values A (Some reason) (leaves A) p).a) [
  | true ↦ told_quiet r p (resets A reason)
  | false ↦ λ h. forgets p.a (died p.a) refl refl h
]

plain_quiet : (r : Reply) (p : PathState Carried) → HearsNoEnd p.a → HearsNoEnd (answered values (duties.Step (step_duties.PlainAck A)) r p).a
plain_quiet r p = elim (breaks_by_ack p.profile p.a) as (λ b. HearsNoEnd p.a → HearsNoEnd (if b then answered_break values A 6 r p else goes_on A (with_plain_ack (after_fell fell.PlainAck r p.a)) (fell_duties A r p) p).a)
    [ true ↦ break_quiet 6 r p | false ↦ λ h. kept p.a _ refl refl h ]

-- an event
judged_quiet : (joined : Bool) (told : List KeptMapping) (answer : Outgoing) (now : ℕ) (h : HeardSegment) (m : Meaning) (e : PathEnd) → HearsNoEnd e → HearsNoEnd (copy_judged joined told answer A now h m e)
judged_quiet joined told answer now h m e = forgets e (copy_judged joined told answer A now h m e) refl refl

told_by : (joined : Bool) (told : List KeptMapping) (answer : Outgoing) (now : ℕ) (h : HeardSegment) (m : Meaning) (p : PathState Carried) (ds : List Duty) → HearsNoEnd p.a
    → HearsNoEnd (goes_on A (copy_judged joined told answer A now h m p.a) ds p).a
told_by joined told answer now h m p ds = judged_quiet joined told answer now h m p.a

event_quiet : (o : Option Event) (r : Reply) (p : PathState Carried) → (is_waiting p.a.tcp.state ≡ true → ⊥) → next_event p ≡ o → HearsNoEnd p.a → HearsNoEnd (happens_if values o r p).a
event_quiet None r p awake next h = h
event_quiet (Some (happenings.Joins tick)) r p awake next h = absurd (awake (next_happens p (happenings.Joins tick) next))
event_quiet (Some (happenings.Takes line)) r p awake next h = by line.action
  where
    x : PathState Carried
    x = record (at_tick line.tick p) { lines = tail_of p.lines }

    by : (action : LineAction) → HearsNoEnd (after_line action x).a
    by actions.Die = elim (is_dead p.a.tcp.state) as (λ b. HearsNoEnd (if b then p.a else died p.a)) [ true ↦ h | false ↦ forgets p.a (died p.a) refl refl h ]
    by (actions.Prio A backup) = kept p.a (with_priority backup p.a) refl refl h
    by (actions.Prio B backup) = h
    by (actions.Announce s id) = h
    by (actions.Withdraw s id) = h
event_quiet (Some (happenings.Arrives due)) r p awake next h = by due.to (heard_in values due.to (arriving due p.link) p)
  where
    q : PathState Carried
    q = record (at_tick due.tick p) { link = after_delivery due p.link }

    by : (s : Side) (o : Option HeardSegment) → HearsNoEnd (copy_heard s o q).a
    by A None = h
    by A (Some heard) =
        let x : HeardSegment = options_heard p.a heard in
        judged_quiet (is_joined q.profile) (held_of q.profile A x) (reset_for q.profile A x) q.clock x (taken_as (judged_in (is_joined q.profile) A x p.a)) p.a h
    by B None = h
    by B (Some heard) = h
event_quiet (Some (happenings.Fires A tick)) r p awake next h =
    let now = (at_tick tick p).clock in
    elim (is_sixth p.a.tcp) as (λ b. HearsNoEnd (record p.a { tcp = if b then after_death true p.a.tcp else after_expiry now p.a.tcp })) [ true ↦ kept p.a _ refl refl h | false ↦ kept p.a _ refl refl h ]
event_quiet (Some (happenings.Fires B tick)) r p awake next h = h

-- what a copy says to A's end, which may send no DSS yet, is nothing that a DSS says
module _ (index : ℕ) (ds : List Duty) (p : PathState Carried) (above : p.a.modes.identity ≡ false) (unclear : p.a.modes.clear ≡ false) (leads : Leads (duties.Step (step_duties.Heard A index) ∷ ds) p) where
  is_led : (item : Heard) → item_at index p.a.treated.items ≡ Some item → IsLed false item
  is_led item is = ⊎_elim
      (λ clear. absurd (both_ways p.a.modes.clear unclear clear))
      (λ (u : IsUnclear (duties.Step (step_duties.Heard A index) ∷ ds) p).
      unled u.n p.a.treated.items item leads.led (unheard p u.n above u.none) (subst (λ n. item_at n p.a.treated.items ≡ Some item) u.follows.0 is))
      leads.clear

  thing_quiet : (r : Reply) (item : Heard) → IsLed false item → HearsNoEnd p.a → HearsNoEnd (answered_heard values A item r p).a
  thing_quiet r (says.DataAck next window) led = absurd (true≢false (sym led))
  thing_quiet r (says.Mapping fin) led = absurd (true≢false (sym led))
  thing_quiet r (says.DataFin place) led = absurd (true≢false (sym led))
  thing_quiet r (says.InfiniteMapping place position) led = absurd (true≢false (sym led))
  thing_quiet r (says.Keys own other) led = kept p.a _ refl refl
  thing_quiet r (says.Notice notice) led = kept p.a _ refl refl
  thing_quiet r says.Fail led = fail_answered_so (λ q. HearsNoEnd p.a → HearsNoEnd q.a) A r p (kept p.a _ refl refl) (kept p.a _ refl refl)
  thing_quiet r _ led = λ h. h

  heard_quiet : (r : Reply) → HearsNoEnd p.a → HearsNoEnd (answered_item values A (item_of index p.a) r p).a
  heard_quiet r = by p.a.modes.identity above
    where
      things : (o : Option Heard) → item_at index p.a.treated.items ≡ o → HearsNoEnd p.a → HearsNoEnd (answered_item values A o r p).a
      things None is = λ h. h
      things (Some item) is = thing_quiet r item (is_led item is)

      by : (b : Bool) → b ≡ false → HearsNoEnd p.a → HearsNoEnd (answered_item values A (if b then None else item_at index p.a.treated.items) r p).a
      by true is = absurd (true≢false is)
      by false is = things (item_at index p.a.treated.items) refl

  item_quiet : (item : Heard) → IsLed false item → HearsNoEnd p.a → HearsNoEnd (item_passed A (Some item) p.a)
  item_quiet (says.DataAck next window) led = absurd (true≢false (sym led))
  item_quiet (says.Mapping fin) led = absurd (true≢false (sym led))
  item_quiet (says.DataFin place) led = absurd (true≢false (sym led))
  item_quiet (says.InfiniteMapping place position) led = absurd (true≢false (sym led))
  item_quiet says.Dss led = kept p.a _ refl refl
  item_quiet _ led = λ h. h

  passed_heard : HearsNoEnd p.a → HearsNoEnd (item_passed A (item_of index p.a) p.a)
  passed_heard = by p.a.modes.identity above
    where
      things : (o : Option Heard) → item_at index p.a.treated.items ≡ o → HearsNoEnd p.a → HearsNoEnd (item_passed A o p.a)
      things None is = λ h. h
      things (Some item) is = item_quiet item (is_led item is)

      by : (b : Bool) → b ≡ false → HearsNoEnd p.a → HearsNoEnd (item_passed A (if b then None else item_at index p.a.treated.items) p.a)
      by true is = absurd (true≢false is)
      by false is = things (item_at index p.a.treated.items) refl

answered_quiet : (d : Duty) (ds : List Duty) (r : Reply) (p : PathState Carried) → p.a.modes.identity ≡ false → p.a.modes.clear ≡ false → (is_waiting p.a.tcp.state ≡ true → ⊥) → stands d p ≡ true
    → Leads (d ∷ ds) p → HearsNoEnd p.a → HearsNoEnd (answered values d r p).a
answered_quiet (duties.Step step_duties.Events) ds r p above unclear awake due leads = event_quiet (next_event p) r p awake refl
answered_quiet (duties.Step (step_duties.Heard A index)) ds r p above unclear awake due leads = heard_quiet index ds p above unclear leads r
answered_quiet (duties.Step (step_duties.Heard B index)) ds r p above unclear awake due leads =
    let d : Duty = duties.Step (step_duties.Heard B index) in by_duty d p (answered values d r p) refl (λ own. cc) (writes_no_more values d r p)
answered_quiet (duties.Step (step_duties.PlainAck A)) ds r p above unclear awake due leads = plain_quiet r p
answered_quiet (duties.Step (step_duties.PlainAck B)) ds r p above unclear awake due leads =
    let d : Duty = duties.Step (step_duties.PlainAck B) in by_duty d p (answered values d r p) refl (λ own. cc) (writes_no_more values d r p)
answered_quiet (duties.Step (step_duties.Unmapped A)) ds r p above unclear awake due leads = break_quiet 6 r p
answered_quiet (duties.Step (step_duties.Unmapped B)) ds r p above unclear awake due leads =
    let d : Duty = duties.Step (step_duties.Unmapped B) in by_duty d p (answered values d r p) refl (λ own. cc) (writes_no_more values d r p)
answered_quiet (duties.Ask ask_duties.JoinAgain) ds r p above unclear awake due leads = absurd (awake (and_parts (is_waiting p.a.tcp.state) _ due).0)
answered_quiet (duties.Ask (ask_duties.LeaveNoted A)) ds r p above unclear awake due leads = forgets p.a _ refl refl
answered_quiet (duties.Ask (ask_duties.LeaveNoted B)) ds r p above unclear awake due leads = λ h. h
answered_quiet (duties.Send (send_duties.BreakReset A reason)) ds r p above unclear awake due leads = forgets p.a _ refl refl
answered_quiet (duties.Send (send_duties.BreakReset B reason)) ds r p above unclear awake due leads = λ h. h
answered_quiet (duties.Send (send_duties.Reset A)) ds r p above unclear awake due leads = forgets p.a _ refl refl
answered_quiet (duties.Send (send_duties.Reset B)) ds r p above unclear awake due leads = λ h. h
answered_quiet (duties.Send (send_duties.ResetNoted A)) ds r p above unclear awake due leads = forgets p.a _ refl refl
answered_quiet (duties.Send (send_duties.ResetNoted B)) ds r p above unclear awake due leads = λ h. h
answered_quiet d ds r p above unclear awake due leads = by_duty d p (answered values d r p) refl (λ own. refl) (writes_no_more values d r p)

-- ---- what is passed

pieces_quiet : (e : PathEnd) → HearsNoEnd e → HearsNoEnd (after_pieces e)
pieces_quiet e h = record {
  fins = ap (λ o. fins_and (data_fin_reached o e.tcp.recv.edge) e.treated.fins) h.mapped ∙ h.fins;
  mapped = ap (λ o. if is_some (data_fin_reached o e.tcp.recv.edge) then None else o) h.mapped;
}

passed_quiet : (d : Duty) (ds : List Duty) (p : PathState Carried) → p.a.modes.identity ≡ false → p.a.modes.clear ≡ false → Leads (d ∷ ds) p → HearsNoEnd p.a → HearsNoEnd (passed d p).a
passed_quiet (duties.Step (step_duties.Heard A index)) ds p above unclear leads = passed_heard index ds p above unclear leads
passed_quiet (duties.Step (step_duties.Heard B index)) ds p above unclear leads = λ h. h
passed_quiet (duties.Step (step_duties.PlainAck A)) ds p above unclear leads = kept p.a _ refl refl
passed_quiet (duties.Step (step_duties.PlainAck B)) ds p above unclear leads = λ h. h
passed_quiet (duties.Step (step_duties.Unmapped A)) ds p above unclear leads = pieces_quiet p.a
passed_quiet (duties.Step (step_duties.Unmapped B)) ds p above unclear leads = λ h. h
passed_quiet (duties.Step step_duties.Events) ds p above unclear leads = λ h. h
passed_quiet (duties.Ask ask_duties.JoinAgain) ds p above unclear leads = λ h. h
passed_quiet (duties.Ask (ask_duties.LeaveNoted s)) ds p above unclear leads = λ h. h
passed_quiet (duties.Send (send_duties.BreakReset s reason)) ds p above unclear leads = λ h. h
passed_quiet (duties.Send (send_duties.Reset s)) ds p above unclear leads = λ h. h
passed_quiet (duties.Send (send_duties.ResetNoted s)) ds p above unclear leads = λ h. h
passed_quiet d ds p above unclear leads = by_duty d p (passed d p) refl (λ own. refl) (passes_no_more d p)

clear_lasts : Lasts {C = Carried} (λ p q. Clears p q)
clear_lasts = record {
  agenda = λ ds p. record { a = (λ h. h, λ h. h); b = (λ h. h, λ h. h) };
  chains = λ p q r x y. record { a = (λ h. y.a.0 (x.a.0 h), λ h. y.a.1 (x.a.1 h)); b = (λ h. y.b.0 (x.b.0 h), λ h. y.b.1 (x.b.1 h)) };
  passes = λ d p. passed_clear d p;
}

settled_quiet : (ds : List Duty) (p : PathState Carried) → Leads ds p → HearsNoEnd p.a → (settled ds p).a.modes.identity ≡ false → (settled ds p).a.modes.clear ≡ false → HearsNoEnd (settled ds p).a
settled_quiet [] p leads h = λ above unclear. record { fins = h.fins; mapped = h.mapped }
settled_quiet (d ∷ ds) p leads h = (elim (stands d p) as (λ b. stands d p ≡ b → let q = (if b then with_agenda (d ∷ ds) p else settled ds (passed d p)) in q.a.modes.identity ≡ false → q.a.modes.clear ≡ false → HearsNoEnd q.a) [
  | true ↦ λ due above unclear. record { fins = h.fins; mapped = h.mapped }
  | false ↦ λ done above unclear.
      let r : PathState Carried = passed d p in
      let q : PathState Carried = settled ds r in
      let on = (settled_lasts (λ p q. Clears p q) clear_lasts ds r).a in
      let step = (passed_clear d p).a in
      let above_p = unclear_before p.a.modes.identity q.a.modes.identity (λ is. on.1 (step.1 is)) above in
      let unclear_p = unclear_before p.a.modes.clear q.a.modes.clear (λ is. on.0 (step.0 is)) unclear in
      settled_quiet ds r (passed_leads d ds p leads done) (passed_quiet d ds p above_p unclear_p leads h) above unclear
]) refl

-- ---- a turn

-- A's end is quiet while it may send no DSS, and isn't in plain TCP
pub record IsQuietUntilClear (p : PathState Carried) : Type 0 where
  pub quiet : p.a.modes.identity ≡ false → p.a.modes.clear ≡ false → HearsNoEnd p.a

-- as it was so before
record Before (p q : PathState Carried) : Type 0 where
  above : p.a.modes.identity ≡ false
  unclear : p.a.modes.clear ≡ false

before : (p q : PathState Carried) → Clears p q → q.a.modes.identity ≡ false → q.a.modes.clear ≡ false → Before p q
before p q on above unclear = record {
  above = unclear_before p.a.modes.identity q.a.modes.identity on.a.1 above;
  unclear = unclear_before p.a.modes.clear q.a.modes.clear on.a.0 unclear;
}

takes_quiet : (r : Reply) (p : PathState Carried) → (is_waiting p.a.tcp.state ≡ true → ⊥) → FirstStands p.agenda p → LeadsWell p → IsQuietUntilClear p → IsQuietUntilClear (takes values r p)
takes_quiet r p awake due leads h = record { quiet = λ above unclear. by p.agenda due leads above unclear (before p (takes values r p) (takes_clear values r p) above unclear) }
  where
    by : (ds : List Duty) → FirstStands ds (with_agenda ds p) → Leads ds (with_agenda ds p) → let q = takes values r (with_agenda ds p) in q.a.modes.identity ≡ false → q.a.modes.clear ≡ false
        → Before p (takes values r p) → HearsNoEnd q.a
    by [] due leads above unclear was = let quiet = h.quiet was.above was.unclear in record { fins = quiet.fins; mapped = quiet.mapped }
    by (d ∷ ds) due leads above unclear was =
        let x : PathState Carried = with_agenda (d ∷ ds) p in
        let q : PathState Carried = answered values d r x in
        let quiet = h.quiet was.above was.unclear in
        settled_quiet q.agenda q (answers_lead values r x due leads) (answered_quiet d ds r x was.above was.unclear awake due leads (record { fins = quiet.fins; mapped = quiet.mapped })) above unclear

-- as a turn begins
begins_quiet : (p : PathState Carried) → Led false p.a.treated.items → IsQuietUntilClear p → IsQuietUntilClear (begins_turn p)
begins_quiet p led h = record {
  quiet = λ above unclear.
      let x : PathState Carried = with_agenda start_of_turn p in
      let was = before x (begins_turn p) (settled_lasts (λ p q. Clears p q) clear_lasts start_of_turn x) above unclear in
      let quiet = h.quiet was.above was.unclear in
      settled_quiet start_of_turn x (started_leads p led) (record { fins = quiet.fins; mapped = quiet.mapped }) above unclear;
}

next_quiet : (p : PathState Carried) → LeadsWell p → IsQuietUntilClear p → IsQuietUntilClear (next_round p)
next_quiet p leads h =
    let q : PathState Carried = record p { clock = p.until; until = p.until + 100 } in
    begins_quiet q leads.led (record { quiet = h.quiet })

-- ---- the world

opened_quiet : (start : Start) (number : ℕ) (plan : PathPlan) → IsQuietUntilClear (begins_turn (waiting_path (path_begins start number plan) start.lines))
opened_quiet start number plan = begins_quiet (waiting_path (path_begins start number plan) start.lines) tt (record { quiet = λ above unclear. record { fins = refl; mapped = refl } })

module _ (start : Start) (mild : IsMildStart start) where
  record Known (p : PathState Carried) : Type 0 where
    given : Given start p
    met : PathMet p
    ends : EndsClear p

  known_first : (m : Actor Carried) → Of (Given start) m → Of PathMet m → Of EndsClear m → Of Known m
  known_first (App a) g h ends = tt
  known_first (Path p) g h ends = record { given = g; met = h; ends = ends }

  known : (turns : List Turn) → OfFirst Known (reached values start turns)
  known turns = record { each = λ c there. known_first c.member ((given start mild turns).each c there) ((each_met start mild turns).each c there) ((each_ends start mild turns).each c there) }

  opened_first : OfFirst IsQuietUntilClear (opened_world start)
  opened_first = record {
    each = λ c there. (opened_lifted (λ c. Of IsQuietUntilClear c.member) start tt tt (λ number plan at. opened_quiet start number plan)).each 2 c there;
  }

  each_quiet : (turns : List Turn) → OfFirst IsQuietUntilClear (reached values start turns)
  each_quiet = each_first_moment values start Known IsQuietUntilClear known opened_first
      (λ r p k h. takes_quiet r p (never_waits start p k.given k.met) k.given.upright.passes.settled k.ends.leads h) (λ p k h. next_quiet p k.ends.leads h)

  quiet_at : (turns : List Turn) (p : PathState Carried) → IsPathAt 0 (reached values start turns) p → p.a.modes.clear ≡ false → HearsNoEnd p.a
  quiet_at turns p here unclear =
      (subst (Of IsQuietUntilClear) here.is ((each_quiet turns).each here.crew here.there)).quiet ((subst (Of (Given start)) here.is ((given start mild turns).each here.crew here.there)).upright.identity A) unclear

pub a_hears_no_end_before : AHearsNoEndBefore
a_hears_no_end_before start turns mild p here unclear = quiet_at start mild turns p here unclear
