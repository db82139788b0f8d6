-- At every moment of a run A's control book has B's key only where B showed it on a SYN/ACK that acknowledges A's SYN, and B's end of path 0 heard
-- what A asks for only where A sent its SYN.
use Rattle.std.proofs.Common.{◌≡◌, refl, sym, ap, ◌∙◌, subst, ℕ, ◌+◌, ◌==◌, inl, inr, ◌⊎◌, ⊎_elim, Bool, true, false, if◌then◌else◌, Option, Some, None, is_some, List, [], ◌∷◌, length, map}
use Rattle.std.specs.List.{flat_map, list_any, slice_get}
use Rattle.std.proofs.lemmas.Bool.{and_parts, both_ways, false≢true}
use Rattle.std.proofs.lemmas.Option.{same_Some}
use Rattle.actor_desk.specs.Books.{books_in}
use Rattle.actor_desk.specs.Desk.{SixBooks, after_ask, reply_of}
use Rattle.actor_desk.specs.declared.ask.Ask.{Ask}
use Rattle.actor_desk.specs.declared.ask.Reply.{Reply}
use Rattle.control_book.specs.Control.{Control}
use Rattle.control_book.specs.Replies as reply
use Rattle.control_book.specs.Steps as control
use Rattle.control_book.specs.declared.call.ControlCall.{ControlCall}
use Rattle.control_book.specs.declared.call.Notice.{Notice}
use Rattle.link_model.specs.Steps.{after_delivery, arriving, is_due, without}
use Rattle.link_model.specs.declared.flight.Due.{Due}
use Rattle.link_model.specs.declared.flight.Flight.{Flight}
use Rattle.path_agenda.specs.Agenda.{emission, leaves, rest_of_turn, start_of_turn}
use Rattle.path_agenda.specs.Items.{key_heard, keys_heard}
use Rattle.path_agenda.specs.declared.duty.AskDuty.{AskDuty}
use Rattle.path_agenda.specs.declared.duty.Duty.{Duty}
use Rattle.path_agenda.specs.declared.duty.SendDuty.{SendDuty}
use Rattle.path_agenda.specs.declared.duty.SilentDuty.{SilentDuty}
use Rattle.path_agenda.specs.declared.duty.StepDuty.{StepDuty}
use Rattle.path_agenda.specs.declared.heard.Heard.{Heard}
use Rattle.path_agenda.specs.declared.keys.KeyPair.{KeyPair}
use Rattle.path_agenda.specs.declared.notice.PeerNotice.{PeerNotice}
use Rattle.fallback_state.specs.declared.fall.Event.{Event as FallEvent}
use Rattle.path_core.specs.Arrival.{asked_in, copy_heard, copy_of, heard_in, judged_in, owing_if, template_of, told_at, with_payload}
use Rattle.path_core.specs.Addresses.{notice_ask}
use Rattle.path_core.specs.Breaking.{break_ask, reset_of}
use Rattle.path_core.specs.DssIn.{is_clash}
use Rattle.path_core.specs.Duties.{answered, ask_for, passed, stands}
use Rattle.path_core.specs.End.{PathEnd, died}
use Rattle.path_core.specs.Events.{after_line, happens_if, next_event}
use Rattle.path_core.specs.Fallback.{fell_ask}
use Rattle.path_core.specs.Handover.{sends}
use Rattle.path_core.specs.Judged.{taken_as}
use Rattle.path_core.specs.Looking.{duty_sends, first_sends, segment_sent}
use Rattle.path_core.specs.MpCapable.{opened_ask, peer_key_ask}
use Rattle.path_core.specs.MpJoin.{is_joined, is_never, join_begun, keys_begun, never_joined, opened_by}
use Rattle.path_core.specs.OptionsIn.{hint_of, items_in, items_of, options_heard, owes_by}
use Rattle.path_core.specs.Standing.{ack_out_ask}
use Rattle.path_core.specs.Start.{waiting_path}
use Rattle.path_core.specs.State.{PathState, at_tick, end_at, goes_on, left, with_agenda}
use Rattle.path_core.specs.Steps.{answers, asks_first, next_round, settled, takes}
use Rattle.path_core.specs.Treating.{item_ask, item_of}
use Rattle.path_core.specs.Turns.{FirstStands, IsSettled}
use Rattle.path_core.specs.Values.{Carried, as_arrived, values}
use Rattle.path_core.specs.declared.events.Event.{Event}
use Rattle.path_core.specs.declared.judged.Judged.{Judged}
use Rattle.path_core.specs.declared.modes.Modes.{Modes}
use Rattle.path_segments.specs.Heard.{HeardSegment}
use Rattle.path_segments.specs.Laws.{meant, meant_option}
use Rattle.path_segments.specs.Spelled.{PlainSegment}
use Rattle.path_store.specs.declared.lines.LineAction.{LineAction}
use Rattle.sides.specs.Side.{peer}
use Rattle.sides.specs.declared.side.Side.TheVariants.{A, B}
use Rattle.sides.specs.declared.side.Side.{Side}
use Rattle.stream_apps.specs.AppSteps.{app_ask, app_asks_first}
use Rattle.stream_apps.specs.Apps.{AppState}
use Rattle.stream_apps.specs.declared.duty.AppDuty.{AppDuty}
use Rattle.stream_lanes.proofs.Lists.{Every-nil, in_map, in_set}
use Rattle.stream_lanes.specs.Words.{Every}
use Rattle.subflow_tcp.specs.Judging.{meaning_of}
use Rattle.subflow_tcp.specs.States.{is_dead}
use Rattle.subflow_tcp.specs.Taking.{after_arrival}
use Rattle.subflow_tcp.specs.declared.verdicts.Meaning.{Meaning}
use Rattle.world_laws.proofs.Falls.FailedChecks.{fail_asks_so}
use Rattle.world_laws.proofs.Joins.TokensAgree.{WorldMet, opened_met, turn_met}
use Rattle.world_laws.proofs.Keys.AnswerHeardFirst.{a_template, b_template, is_calm, tail_fewer}
use Rattle.world_laws.proofs.Keys.Held.{in_removed}
use Rattle.world_laws.proofs.Keys.ToldAreOwn.{KeysAsk, MemberIs, member_asks_are}
use Rattle.world_laws.proofs.Weaving.Journals.{books_after}
use Rattle.world_laws.proofs.Worlds.Finding.{find_every, one_side}
use Rattle.world_laws.proofs.Worlds.Opened.{opened_actors}
use Rattle.world_laws.proofs.Writes.Asks.{asks_no_more}
use Rattle.world_laws.proofs.Writes.Paths.{passes_no_more, writes_no_more}
use Rattle.world_laws.proofs.Writes.Steps.{Lasts, both_ends, settled_lasts, unwritten}
use Rattle.world_laws.specs.Actors.{Actor, ActorCrew, member_asks, member_next, member_takes}
use Rattle.world_laws.specs.Asking.{IsAt, May, asking, may}
use Rattle.world_laws.specs.Openings.{PathPlan, Start, new_path, opened_world, path_begins}
use Rattle.world_laws.specs.Worlds.{Turn, WorldState, after_turn, all_over, asked, begins, crew_after, greatest, stepped}
use Rattle.world_laws.specs.Writes.{EndView, EndWrites, Only, OnlyAt, PathView, Writes, side_of, writes}
use Rattle.world_laws.specs.declared.member.Member.TheVariants.{App, Path}
use Rattle.own_runs.proofs.DutiesFew.{is_events}
use Rattle.own_runs.proofs.KeyHears.{Waits, alone_so, answer_so, copy_waits, says_none}
use Rattle.own_runs.proofs.Learning.{FlightTells, IsAlone, IsAnswer, Learns, LearnsAt, PathLearns, SendsSo, Tells, agenda_so, ask_so, fired_so, is_unborn, join_so, line_so, send_so, settled_so, shows_key, step_so, still_false}
use Rattle.own_runs.proofs.Speaking.{ToSend}

-- ---- what B's end heard of A's SYN

-- whether it asks for Multipath TCP stays
record Asks (p q : PathState Carried) : Type 0 where
  profile : q.profile ≡ p.profile
  asked : q.b.modes.capable_asked ≡ p.b.modes.capable_asked

same_asks : (p : PathState Carried) → Asks p p
same_asks p = record { profile = refl; asked = refl }

asked_only : (w : EndWrites) → w.capable_asked ≡ false → (e f : PathEnd) → Only w e f → f.modes.capable_asked ≡ e.modes.capable_asked
asked_only w none e f x = unwritten w.capable_asked e.modes.capable_asked f.modes.capable_asked none (ap (λ (v : EndView). v.capable_asked) x.same)

asks_by : (s : Side) (w : Writes) (p q : PathState Carried) → w.own.capable_asked ≡ false → w.other.capable_asked ≡ false → OnlyAt s w p q → Asks p q
asks_by s w p q own other x = record {
  profile = ap (λ (v : PathView Carried). v.profile) x.same;
  asked = (both_ends (λ e f. f.modes.capable_asked ≡ e.modes.capable_asked) s w p q (asked_only w.own own) (asked_only w.other other) x).1;
}

abbrev is_event : Duty → Bool
is_event (Duty.Step d) = is_events d
is_event _ = false

-- no duty but that of events writes it
asks_unwritten : (d : Duty) → is_event d ≡ false → ((writes d).own.capable_asked ≡ false) × ((writes d).other.capable_asked ≡ false)
asks_unwritten (Duty.Ask d) none = (by d, refl)
  where
    by : (d : AskDuty) → (writes (Duty.Ask d)).own.capable_asked ≡ false
    by AskDuty.JoinAgain = refl
    by _ = refl
asks_unwritten (Duty.Send d) none = (by d, refl)
  where
    by : (d : SendDuty) → (writes (Duty.Send d)).own.capable_asked ≡ false
    by (SendDuty.Syn s) = refl
    by _ = refl
asks_unwritten (Duty.Silent d) none = (by d, refl)
  where
    by : (d : SilentDuty) → (writes (Duty.Silent d)).own.capable_asked ≡ false
    by (SilentDuty.Timer s) = refl
    by _ = refl
asks_unwritten (Duty.Step StepDuty.Events) none = absurd (false≢true (sym none))
asks_unwritten (Duty.Step (StepDuty.Look s)) none = (refl, refl)
asks_unwritten (Duty.Step _) none = (refl, refl)
asks_unwritten Duty.End none = (refl, refl)

answered_asks : (d : Duty) (r : Reply) (p : PathState Carried) → is_event d ≡ false → Asks p (answered values d r p)
answered_asks d r p none = let un = asks_unwritten d none in asks_by (side_of d) (writes d) p (answered values d r p) un.0 un.1 (writes_no_more values d r p)

passed_asks : (d : Duty) (p : PathState Carried) → Asks p (passed d p)
passed_asks d p = by (is_event d) refl d refl
  where
    by : (b : Bool) → is_event d ≡ b → (e : Duty) → e ≡ d → Asks p (passed d p)
    by false none e same = let un = asks_unwritten d none in asks_by (side_of d) (writes d) p (passed d p) un.0 un.1 (passes_no_more d p)
    by true is (Duty.Step StepDuty.Events) same = subst (λ (x : Duty). Asks p (passed x p)) same (same_asks p)
    by true is e same = absurd (false≢true (ap is_event same ∙ is))

asks_last : Lasts Asks
asks_last = record {
  agenda = λ ds p. record { profile = refl; asked = refl };
  chains = λ p q r x y. record { profile = y.profile ∙ x.profile; asked = y.asked ∙ x.asked };
  passes = λ d p. passed_asks d p;
}

begun_asks : (r : Reply) (dead living : List Duty) (p : PathState Carried) → Asks p (join_begun r dead living p)
begun_asks r dead living p = by (is_never r)
  where
    by : (b : Bool) → Asks p (if b then goes_on A (never_joined r p.a) dead p else goes_on A (opened_by (keys_begun r) p.a) living p)
    by true = record { profile = refl; asked = refl }
    by false = record { profile = refl; asked = refl }

line_asks : (action : LineAction) (p : PathState Carried) → Asks p (after_line action p)
line_asks LineAction.Die p = record { profile = refl; asked = by (is_dead p.b.tcp.state) }
  where
    by : (b : Bool) → (if b then p.b else died p.b).modes.capable_asked ≡ p.b.modes.capable_asked
    by true = refl
    by false = refl
line_asks (LineAction.Prio A backup) p = record { profile = refl; asked = refl }
line_asks (LineAction.Prio B backup) p = record { profile = refl; asked = refl }
line_asks (LineAction.Announce s id) p = record { profile = refl; asked = refl }
line_asks (LineAction.Withdraw s id) p = record { profile = refl; asked = refl }

-- ---- paths

module _ (U T : Type 0) where
  abbrev pub HearsAsk : PathState Carried → Type 0
  HearsAsk p = is_joined p.profile ≡ false → p.b.modes.capable_asked ≡ true → U

  asks_so : (p q : PathState Carried) → Asks p q → HearsAsk p → HearsAsk q
  asks_so p q x h = λ first is. h (ap is_joined (sym x.profile) ∙ first) (sym x.asked ∙ is)

  abbrev pub BothHold : PathState Carried → Type 0
  BothHold p = PathLearns U T p × HearsAsk p

  -- ---- a copy that arrives

  module _ (carried : Carried) (p : PathState Carried) (h : PathLearns U T p) (asked : HearsAsk p) where
    abbrev sg : PlainSegment
    sg = carried.segment

    abbrev heard_by : PathEnd → HeardSegment
    heard_by e = options_heard e (meant (as_arrived carried))

    -- where its options show no key A hears none
    heard_none : (fell stripped joined : Bool) (window : ℕ) → (joined ≡ false → list_any shows_key sg.options ≡ false)
        → is_some (key_heard (flat_map (items_in joined A window) (if fell then [] else map meant_option (if stripped then [] else sg.options)))) ≡ false
    heard_none true stripped joined window none = refl
    heard_none false true joined window none = refl
    heard_none false false joined window none = says_none joined window sg.options none

    abbrev heard : HeardSegment
    heard = heard_by p.a

    items_none : (joined : Bool) → (joined ≡ false → list_any shows_key sg.options ≡ false) → is_some (key_heard (items_of joined A heard)) ≡ false
    items_none joined none = heard_none p.a.modes.identity carried.stripped joined heard.window none

    -- A asks for the key it heard where it takes an answer alone
    a_learns : (joined : Bool) → (joined ≡ false → Tells U T B sg) → Learns U T (template_of joined A (items_of joined A heard) (judged_in joined A heard p.a)) (items_of joined A heard)
    a_learns true tells = inr (inl (items_none true (λ is. absurd (false≢true (sym is)))))
    a_learns false tells = by (meaning_of (copy_of heard) p.a.tcp) refl
      where
        shown : (n : ℕ) → meaning_of (copy_of heard) p.a.tcp ≡ Meaning.Accepts n → (b : Bool) → list_any shows_key sg.options ≡ b → (is_some (key_heard (items_of false A heard)) ≡ false) ⊎ T
        shown n is true shows = inr (tells refl (answer_so sg p.a.tcp (copy_of heard) n refl refl h.next is shows))
        shown n is false none = inl (items_none false (λ first. none))

        by : (m : Meaning) → meaning_of (copy_of heard) p.a.tcp ≡ m → Learns U T (template_of false A (items_of false A heard) (Judged.As m)) (items_of false A heard)
        by (Meaning.Accepts n) is = inr (shown n is (list_any shows_key sg.options) refl)
        by Meaning.Ignored is = inl (a_template false (length (items_of false A heard)) (Judged.As Meaning.Ignored) (λ first. refl))
        by m is = inl (a_template false (length (items_of false A heard)) (Judged.As m) (λ first. refl))

    -- B hears that A asks by a SYN alone
    b_asks : (joined : Bool) → joined ≡ false → (joined ≡ false → Tells U T A sg) → (p.b.modes.capable_asked ≡ true → U) → (modes : Modes) → modes.capable_asked ≡ p.b.modes.capable_asked
        → (asked_in (taken_as (judged_in joined B (heard_by p.b) p.b)) (heard_by p.b).options modes).capable_asked ≡ true → U
    b_asks true first tells was modes same is = absurd (false≢true (sym first))
    b_asks false first tells was modes same is = by (meaning_of (copy_of (heard_by p.b)) p.b.tcp) refl is
      where
        by : (m : Meaning) → meaning_of (copy_of (heard_by p.b)) p.b.tcp ≡ m → (asked_in m (heard_by p.b).options modes).capable_asked ≡ true → U
        by Meaning.Opens means is = tells refl (alone_so sg p.b.tcp (copy_of (heard_by p.b)) refl refl refl means)
        by Meaning.Ignored means is = was (sym same ∙ is)
        by m means is = was (sym same ∙ is)

    waits_next : (s t : _) → Waits s t → (is_unborn s.state ≡ true → s.send.nxt ≡ 1) → is_unborn t.state ≡ true → t.send.nxt ≡ 1
    waits_next s t x h is = x.next ∙ h (x.unborn is)

    abbrev meant_by : Side → HeardSegment → PathEnd → Meaning
    meant_by s h e = taken_as (judged_in (is_joined p.profile) s h e)

    waits_by : (s : Side) (h : HeardSegment) (e : PathEnd) → Waits e.tcp (owing_if (owes_by (meant_by s h e) (items_of (is_joined p.profile) s h))
        (after_arrival (meant_by s h e) (hint_of (items_of (is_joined p.profile) s h)) p.clock (copy_of h) (with_payload (meant_by s h e) h.payload e.tcp)))
    waits_by s h e = copy_waits (owes_by (meant_by s h e) (items_of (is_joined p.profile) s h)) (meant_by s h e) (hint_of (items_of (is_joined p.profile) s h)) p.clock (copy_of h) h.payload e.tcp

    pub arrives_so : (s : Side) → (is_joined p.profile ≡ false → Tells U T (peer s) sg) → BothHold (told_at p.clock s (heard_by (end_at s p)) p)
    arrives_so A tells = (
      record {
        copies = h.copies;
        learns = a_learns (is_joined p.profile) tells;
        next = waits_next p.a.tcp _ (waits_by A heard p.a) h.next;
        born = h.born;
      },
      asked,
    )
    arrives_so B tells = (
      record {
        copies = h.copies;
        learns = inl (b_template (is_joined p.profile) _ (judged_in (is_joined p.profile) B (heard_by p.b) p.b)).0;
        next = h.next;
        born = still_false U T (is_unborn p.b.tcp.state) _ (waits_by B (heard_by p.b) p.b).unborn h.born;
      },
      λ first is. b_asks (is_joined p.profile) first tells (asked first) _ (modes_same _ (is_joined p.profile) first) is,
    )
      where
        modes_same : (other : Modes) (b : Bool) → b ≡ false → (if b then other else p.b.modes).capable_asked ≡ p.b.modes.capable_asked
        modes_same other true first = absurd (false≢true (sym first))
        modes_same other false first = refl

  -- ---- events

  found_so : (due : Due) (p : PathState Carried) (f : Flight Carried) → Every (FlightTells U T) p.link.under_way → arriving due p.link ≡ Some f → Tells U T (peer due.to) f.carried.segment
  found_so due p f copies is =
      let found = find_every (FlightTells U T) (is_due due) p.link.under_way f copies is in
      let same = one_side f.to due.to (and_parts _ (f.number == due.copy) (and_parts (f.tick == due.tick) _ found.1).1).0 in
      subst (λ (s : Side). Tells U T (peer s) f.carried.segment) same found.0

  left_copies : (o : Option ℕ) (fs : List (Flight Carried)) → Every (FlightTells U T) fs → Every (FlightTells U T) (without o fs)
  left_copies None fs h = h
  left_copies (Some place) fs h = record { each = λ k f at. let was = in_removed fs place k f at in h.each was.0 f was.1 }

  event_so : (o : Option Event) (r : Reply) (p : PathState Carried) → BothHold p → BothHold (happens_if values o r p)
  event_so None r p h = (agenda_so U T rest_of_turn p (λ c. refl) h.0, h.1)
  event_so (Some (Event.Joins tick)) r p h =
      let q : PathState Carried = record (at_tick tick p) { joined_at = None } in (
        join_so U T r q (record { copies = h.0.copies; learns = h.0.learns; next = h.0.next; born = h.0.born }) (leaves A) (emission A) (λ c. refl) (λ c. refl),
        asks_so q _ (begun_asks r (leaves A) (emission A) q) h.1,
      )
  event_so (Some (Event.Takes line)) r p h =
      let q : PathState Carried = record (at_tick line.tick p) { lines = _ } in
      (line_so U T r q (record { copies = h.0.copies; learns = h.0.learns; next = h.0.next; born = h.0.born }) line.action, asks_so q _ (line_asks line.action q) h.1)
  event_so (Some (Event.Arrives due)) r p h = by (arriving due p.link) refl
    where
      q : PathState Carried
      q = record (at_tick due.tick p) { link = after_delivery due p.link }

      copies : is_joined q.profile ≡ false → Every (FlightTells U T) q.link.under_way
      copies first = left_copies _ p.link.under_way (h.0.copies first)

      learns_q : PathLearns U T q
      learns_q = record { copies = copies; learns = h.0.learns; next = h.0.next; born = h.0.born }

      emits : (s : Side) → BothHold (with_agenda (emission s) q)
      emits A = (agenda_so U T (emission A) q (λ c. refl) learns_q, h.1)
      emits B = (agenda_so U T (emission B) q (λ c. refl) learns_q, h.1)

      by : (o : Option (Flight Carried)) → arriving due p.link ≡ o → BothHold (copy_heard due.to (heard_in values due.to o p) q)
      by None is = emits due.to
      by (Some f) is = arrives_so f.carried q learns_q h.1 due.to (λ first. found_so due p f (h.0.copies first) is)
  event_so (Some (Event.Fires s tick)) r p h =
      let q : PathState Carried = at_tick tick p in
      (fired_so U T r q (record { copies = h.0.copies; learns = h.0.learns; next = h.0.next; born = h.0.born }) s, by s)
    where
      by : (s : Side) → HearsAsk (happens_if values (Some (Event.Fires s tick)) r p)
      by A = h.1
      by B = h.1

  -- ---- replies

  answered_so : (d : Duty) (r : Reply) (p : PathState Carried) → stands d p ≡ true → SendsSo U T p (duty_sends d p) → BothHold p → BothHold (answered values d r p)
  answered_so (Duty.Ask d) r p stood says h = (ask_so U T r p h.0 d, asks_so p _ (answered_asks (Duty.Ask d) r p refl) h.1)
  answered_so (Duty.Send d) r p stood says h = (send_so U T r p h.0 d stood says, asks_so p _ (answered_asks (Duty.Send d) r p refl) h.1)
  answered_so (Duty.Step StepDuty.Events) r p stood says h = event_so (next_event p) r p h
  answered_so (Duty.Step (StepDuty.Look s)) r p stood says h =
      (step_so U T r p h.0 (StepDuty.Look s) refl stood says, asks_so p _ (answered_asks (Duty.Step (StepDuty.Look s)) r p refl) h.1)
  answered_so (Duty.Step (StepDuty.Data s)) r p stood says h =
      (step_so U T r p h.0 (StepDuty.Data s) refl stood says, asks_so p _ (answered_asks (Duty.Step (StepDuty.Data s)) r p refl) h.1)
  answered_so (Duty.Step d) r p stood says h =
      (step_so U T r p h.0 d refl stood says, asks_so p _ (answered_asks (Duty.Step d) r p refl) h.1)
  answered_so (Duty.Silent d) r p stood says h = (agenda_so U T (left p) p (λ c. left_so c) h.0, h.1)
    where
      left_so : is_calm p.agenda ≡ true → is_calm (left p) ≡ true
      left_so c = (tail_fewer p.agenda).calm c
  answered_so Duty.End r p stood says h = (agenda_so U T [] p (λ c. refl) h.0, h.1)

  settles_so : (p : PathState Carried) → BothHold p → BothHold (settled p.agenda p)
  settles_so p h = (settled_so U T p.agenda p h.0, asks_so p _ (settled_lasts Asks asks_last p.agenda p) h.1)

  pub takes_so : (r : Reply) (p : PathState Carried) → IsSettled p → SendsSo U T p (first_sends p.agenda p) → BothHold p → BothHold (takes values r p)
  takes_so r p settles says h = by p.agenda refl
    where
      by : (ds : List Duty) → p.agenda ≡ ds → BothHold (settled (answers values ds r p).agenda (answers values ds r p))
      by [] same = settles_so p h
      by (d ∷ ds) same =
          settles_so (answered values d r p)
          (answered_so d r p (subst (λ (xs : List Duty). FirstStands xs p) same settles) (subst (λ (xs : List Duty). SendsSo U T p (first_sends xs p)) same says) h)

  pub begins_so : (p : PathState Carried) → is_joined p.profile ≡ is_joined p.profile → LearnsAt U T start_of_turn p → HearsAsk p → BothHold (settled start_of_turn (with_agenda start_of_turn p))
  begins_so p same h asked = settles_so (with_agenda start_of_turn p) (record { copies = h.copies; learns = h.learns; next = h.next; born = h.born }, asked)

  pub next_so : (p : PathState Carried) → BothHold p → BothHold (next_round p)
  next_so p h =
      begins_so (record p { clock = p.until; until = p.until + 100 }) refl (record { copies = h.0.copies; learns = inl refl; next = h.0.next; born = h.0.born }) h.1

-- ---- what is asked

module _ (T : Type 0) where
  -- A's control book is told the peer's key alone
  abbrev pub CallTells : ControlCall → Type 0
  CallTells (ControlCall.PeerKey key) = T
  CallTells (ControlCall.Keys own other) = T
  CallTells _ = Unit {0}

  abbrev pub AskTells : Ask → Type 0
  AskTells (Ask.Control A call) = CallTells call
  AskTells _ = Unit {0}

  either_tells : (b : Bool) (c d e : Control) → d.keys.peer ≡ c.keys.peer → e.keys.peer ≡ c.keys.peer → is_some (if b then d else e).keys.peer ≡ true → is_some c.keys.peer ≡ true
  either_tells true c d e x y is = ap is_some (sym x) ∙ is
  either_tells false c d e x y is = ap is_some (sym y) ∙ is

  call_so : (c : Control) (call : ControlCall) → CallTells call → (is_some c.keys.peer ≡ true → T) → is_some (control.after c call).keys.peer ≡ true → T
  call_so c (ControlCall.Look path) told h is = h ((elim (reply.notice_on c path) as (λ n. is_some (control.after_notice n path c).keys.peer ≡ true → is_some c.keys.peer ≡ true)
      [ Notice.Withdraw id ↦ λ is. is | _ ↦ λ is. is ]) is)
  call_so c (ControlCall.PeerKey key) told h is = told
  call_so c (ControlCall.Keys own other) told h is = told
  call_so c (ControlCall.JoinBegin path) told h is = h (either_tells (reply.may_join c) c _ c refl refl is)
  call_so c (ControlCall.JoinHeard path token) told h is = h (either_tells _ c _ c refl refl is)
  call_so c (ControlCall.Withdraw id) told h is = h (either_tells (control.is_known id c) c _ c refl refl is)
  call_so c (ControlCall.Echoed id) told h is = h (either_tells (control.is_known id c) c _ c refl refl is)
  call_so c (ControlCall.Removed id) told h is = h (either_tells (control.is_known id c) c _ c refl refl is)
  call_so c (ControlCall.FastHeard key) told h is = h (either_tells (key == c.keys.own) c _ c refl refl is)
  call_so c _ told h is = h is

  abbrev pub BookTells : SixBooks → Type 0
  BookTells six = is_some six.control_a.keys.peer ≡ true → T

  pub book_so : (x : Ask) (six : SixBooks) → AskTells x → BookTells six → BookTells (after_ask x six)
  book_so (Ask.Control A call) six told h is = call_so six.control_a call told h is
  book_so (Ask.Control B call) six told h is = h is
  book_so (Ask.Send A call) six told h is = h is
  book_so (Ask.Send B call) six told h is = h is
  book_so (Ask.Reassembly A call) six told h is = h is
  book_so (Ask.Reassembly B call) six told h is = h is
  book_so (Ask.Local step) six told h is = h is

-- A's control book is told a key alone
abbrev pub is_key_told : Ask → Bool
is_key_told (Ask.Control A (ControlCall.PeerKey key)) = true
is_key_told _ = false

pub ask_tells : (T : Type 0) (six : SixBooks) (x : Ask) (key_a key_b : ℕ) → KeysAsk key_a key_b true six x → (is_key_told x ≡ true → T) → AskTells T x
ask_tells T six (Ask.Control A (ControlCall.PeerKey key)) key_a key_b is told = told refl
ask_tells T six (Ask.Control A (ControlCall.Keys own other)) key_a key_b is told = absurd is.2
ask_tells T six (Ask.Control A (ControlCall.Look path)) key_a key_b is told = tt
ask_tells T six (Ask.Control A _) key_a key_b is told = tt
ask_tells T six (Ask.Control B call) key_a key_b is told = tt
ask_tells T six (Ask.Send s call) key_a key_b is told = tt
ask_tells T six _ key_a key_b is told = tt

untold_by : (m : May) → m.keys ≡ false → (x : Ask) → may m x ≡ true → is_key_told x ≡ false
untold_by m none (Ask.Control A (ControlCall.PeerKey key)) is = absurd (false≢true (sym none ∙ is))
untold_by m none (Ask.Control A _) is = refl
untold_by m none (Ask.Control B call) is = refl
untold_by m none _ is = refl

untold_at_b : (x : Ask) → IsAt B x → is_key_told x ≡ false
untold_at_b (Ask.Control A call) at = cc
untold_at_b (Ask.Control B call) at = refl
untold_at_b _ at = refl

module _ (p : PathState Carried) where
  break_untold : (reason : ℕ) → is_key_told (break_ask values A reason p) ≡ false
  break_untold reason = by (end_at A p).treated.asked
    where
      by : (b : Bool) → is_key_told (if b then ack_out_ask A else sends values A (reset_of A (Some reason) p) p) ≡ false
      by true = refl
      by false = refl

  notice_untold : (notice : PeerNotice) → is_key_told (notice_ask A notice p) ≡ false
  notice_untold (PeerNotice.AddAddr id address port hmac) = refl
  notice_untold _ = refl

  clash_untold : (b : Bool) → is_key_told (if b then break_ask values A 1 p else fell_ask A FallEvent.MappingHeard p) ≡ false
  clash_untold true = break_untold 1
  clash_untold false = refl

  item_untold : (o : Option Heard) → is_key_told (item_ask values A o p) ≡ false
  item_untold (Some (Heard.Mapping fin)) = clash_untold (is_clash p.a)
  item_untold (Some (Heard.Notice notice)) = notice_untold notice
  item_untold (Some Heard.Fail) = fail_asks_so (λ x. is_key_told x ≡ false) A p refl refl
  item_untold _ = refl

  opened_untold : (o : Option KeyPair) → is_key_told (opened_ask A o p) ≡ false
  opened_untold None = refl
  opened_untold (Some keys) = refl

  -- A is to ask for the key that it heard, where it tells one
  key_tells : (T : Type 0) (o : Option ℕ) → is_some o ≡ false → is_key_told (peer_key_ask A o p) ≡ true → T
  key_tells T None none is = absurd (false≢true is)
  key_tells T (Some key) none is = absurd (false≢true (sym none))

  pub duty_tells : (U T : Type 0) (d : Duty) (ds : List Duty) → Learns U T (d ∷ ds) p.a.treated.items → is_key_told (ask_for values d p) ≡ true → T
  duty_tells U T (Duty.Ask (AskDuty.PeerKey A)) ds (inl calm) is = absurd (false≢true calm)
  duty_tells U T (Duty.Ask (AskDuty.PeerKey A)) ds (inr (inl none)) is = key_tells T (key_heard p.a.treated.items) none is
  duty_tells U T (Duty.Ask (AskDuty.PeerKey A)) ds (inr (inr shown)) is = shown
  duty_tells U T (Duty.Ask (AskDuty.PeerKey B)) ds h is =
      absurd (both_ways _ (untold_at_b (ask_for values (Duty.Ask (AskDuty.PeerKey B)) p) (asks_no_more values p (Duty.Ask (AskDuty.PeerKey B))).side) is)
  duty_tells U T (Duty.Ask (AskDuty.Opened A)) ds h is = absurd (both_ways _ (opened_untold (keys_heard p.a.treated.items)) is)
  duty_tells U T (Duty.Ask (AskDuty.Opened B)) ds h is =
      absurd (both_ways _ (untold_at_b (ask_for values (Duty.Ask (AskDuty.Opened B)) p) (asks_no_more values p (Duty.Ask (AskDuty.Opened B))).side) is)
  duty_tells U T (Duty.Step (StepDuty.Heard A index)) ds h is = absurd (both_ways _ (item_untold (item_of index p.a)) is)
  duty_tells U T (Duty.Step (StepDuty.Heard B index)) ds h is =
      absurd (both_ways _ (untold_at_b (ask_for values (Duty.Step (StepDuty.Heard B index)) p) (asks_no_more values p (Duty.Step (StepDuty.Heard B index))).side) is)
  duty_tells U T d ds h is = absurd (both_ways _ (untold_by (asking d) refl (ask_for values d p) (asks_no_more values p d).kind) is)

  path_tells : (U T : Type 0) (x : Ask) → asks_first values p.agenda p ≡ Some x → PathLearns U T p → is_key_told x ≡ true → T
  path_tells U T x asks h is = by p.agenda asks h.learns
    where
      by : (ds : List Duty) → asks_first values ds p ≡ Some x → Learns U T ds p.a.treated.items → T
      by [] asks learns = cc
      by (d ∷ ds) asks learns = duty_tells U T d ds learns (ap is_key_told (same_Some _ x asks) ∙ is)

stop_untold : (s : Side) → is_key_told (Ask.Control s ControlCall.FastClose) ≡ false
stop_untold A = refl
stop_untold B = refl

app_untold : (d : AppDuty) (a : AppState) → is_key_told (app_ask d a) ≡ false
app_untold AppDuty.FastClose a = stop_untold a.side
app_untold AppDuty.Write a = refl
app_untold _ a = refl

pub app_tells : (T : Type 0) (ds : List AppDuty) (a : AppState) (x : Ask) → app_asks_first ds a ≡ Some x → is_key_told x ≡ true → T
app_tells T [] a x asks is = cc
app_tells T (d ∷ ds) a x asks is = absurd (both_ways _ (app_untold d a) (ap is_key_told (same_Some _ x asks) ∙ is))

-- ---- a segment that is sent

-- the next one is of this side, and is so
abbrev pub SaysNext : Side → (PlainSegment → Type 0) → PathState Carried → Option ToSend → Type 0
SaysNext s P p None = ⊥
SaysNext s P p (Some t) = (t.from ≡ s) × P (segment_sent p t)

-- on the path that opens the connection
abbrev pub MemberSays : Side → (PlainSegment → Type 0) → Actor Carried → Type 0
MemberSays s P (App a) = ⊥
MemberSays s P (Path p) = (is_joined p.profile ≡ false) × SaysNext s P p (first_sends p.agenda p)

abbrev pub ActorSays : Side → (PlainSegment → Type 0) → Option (ActorCrew Carried) → Type 0
ActorSays s P None = ⊥
ActorSays s P (Some c) = MemberSays s P c.member

abbrev pub TurnSays : Side → (PlainSegment → Type 0) → Turn → WorldState Carried → Type 0
TurnSays s P (Turn.Step actor) w = ActorSays s P (slice_get w.crew actor)
TurnSays s P Turn.Round w = ⊥

-- ---- worlds

abbrev pub MemberLearns : Type 0 → Type 0 → Actor Carried → Type 0
MemberLearns U T (App a) = Unit {0}
MemberLearns U T (Path p) = BothHold U T p

module _ (U T V W : Type 0) (u : U → V) (t : T → W) where
  more_tells : (s : Side) (segment : PlainSegment) → Tells U T s segment → Tells V W s segment
  more_tells A segment tells = λ is. u (tells is)
  more_tells B segment tells = λ is. t (tells is)

  more_learns : (ds : List Duty) (items : List Heard) → Learns U T ds items → Learns V W ds items
  more_learns ds items (inl calm) = inl calm
  more_learns ds items (inr (inl none)) = inr (inl none)
  more_learns ds items (inr (inr shown)) = inr (inr (t shown))

  more_path : (p : PathState Carried) → BothHold U T p → BothHold V W p
  more_path p h = (
    record {
      copies = λ first. record { each = λ i f at. more_tells (peer f.to) f.carried.segment ((h.0.copies first).each i f at) };
      learns = more_learns p.agenda p.a.treated.items h.0.learns;
      next = h.0.next;
      born = h.0.born;
    },
    λ first is. u (h.1 first is),
  )

  pub more_member : (m : Actor Carried) → MemberLearns U T m → MemberLearns V W m
  more_member (App a) h = tt
  more_member (Path p) h = more_path p h

module _ (key_a key_b : ℕ) where
  pub record WorldLearns (U T : Type 0) (w : WorldState Carried) : Type 0 where
    pub met : WorldMet key_a key_b w
    pub crew : (actor : ℕ) (c : ActorCrew Carried) → slice_get w.crew actor ≡ Some c → MemberLearns U T c.member
    pub book : BookTells T (books_in w.books)

  module _ (U T : Type 0) (w : WorldState Carried) (h : WorldLearns U T w) where
    module _ (V W : Type 0) (u : U → V) (t : T → W) where
      -- what is sent tells what it does
      says_tell : (p : PathState Carried) → (MemberSays A IsAlone (Path p) → V) → (MemberSays B IsAnswer (Path p) → W) → SendsSo V W p (first_sends p.agenda p)
      says_tell p opens shows = by (first_sends p.agenda p) opens shows
        where
          tells : (s : Side) (x : ToSend) → x.from ≡ s → ((x.from ≡ A) × IsAlone (segment_sent p x) → V) → ((x.from ≡ B) × IsAnswer (segment_sent p x) → W) → Tells V W s (segment_sent p x)
          tells A x same opens shows = λ is. opens (same, is)
          tells B x same opens shows = λ is. shows (same, is)

          by : (o : Option ToSend) → ((is_joined p.profile ≡ false) × SaysNext A IsAlone p o → V) → ((is_joined p.profile ≡ false) × SaysNext B IsAnswer p o → W) → SendsSo V W p o
          by None opens shows = tt
          by (Some x) opens shows = λ first. tells x.from x refl (λ said. opens (first, said)) (λ said. shows (first, said))

      takes_member : (r : Reply) (m : Actor Carried) → MemberIs key_a key_b true (books_in w.books) m → (MemberSays A IsAlone m → V) → (MemberSays B IsAnswer m → W) → MemberLearns V W m
          → MemberLearns V W (member_takes values r m)
      takes_member r (App a) is opens shows learns = tt
      takes_member r (Path p) is opens shows learns = takes_so V W r p is.settled (says_tell p opens shows) learns

      member_tells : (m : Actor Carried) (x : Ask) → member_asks values m ≡ Some x → MemberLearns U T m → is_key_told x ≡ true → T
      member_tells (App a) x asks learns is = app_tells T a.agenda a x asks is
      member_tells (Path p) x asks learns is = path_tells p U T x asks learns.0 is

      abbrev Next : WorldState Carried → Type 0
      Next v = ((actor : ℕ) (c : ActorCrew Carried) → slice_get v.crew actor ≡ Some c → MemberLearns V W c.member) × BookTells W (books_in v.books)

      same_next : Next w
      same_next = (λ actor c at. more_member U T V W u t c.member (h.crew actor c at), λ is. t (h.book is))

      step_next : (actor : ℕ) (o : Option (ActorCrew Carried)) → slice_get w.crew actor ≡ o → (ActorSays A IsAlone o → V) → (ActorSays B IsAnswer o → W) → Next (stepped values actor o w)
      step_next actor None there opens shows = same_next
      step_next actor (Some c) there opens shows = by (member_asks values c.member) refl
        where
          six : SixBooks
          six = books_in w.books

          by : (o : Option Ask) → member_asks values c.member ≡ o → Next (asked values actor o c w)
          by None asks = same_next
          by (Some x) asks = (
            λ i d at. ⊎_elim
                (λ here. subst (λ (y : ActorCrew Carried). MemberLearns V W y.member) here.1
                (takes_member (reply_of six x) c.member (h.met.keys.crew.each actor c there) opens shows (more_member U T V W u t c.member (h.crew actor c there))))
                (λ other. more_member U T V W u t d.member (h.crew i d other.1))
                (in_set w.crew actor (crew_after values x w.books c) i d at),
            subst (BookTells W) (sym (books_after x c.pass w.books))
                (λ is. t (book_so T x six (ask_tells T six x key_a key_b (member_asks_are key_a key_b true six c.member x (h.met.keys.crew.each actor c there) asks)
                (member_tells c.member x asks (h.crew actor c there))) h.book is)),
          )

      next_member : (m : Actor Carried) → MemberLearns V W m → MemberLearns V W (member_next m)
      next_member (App a) learns = tt
      next_member (Path p) learns = next_so V W p learns

      turn_next : (turn : Turn) → (TurnSays A IsAlone turn w → V) → (TurnSays B IsAnswer turn w → W) → Next (after_turn values turn w)
      turn_next (Turn.Step actor) opens shows = step_next actor (slice_get w.crew actor) refl opens shows
      turn_next Turn.Round opens shows = by (all_over w.crew)
        where
          by : (b : Bool) → Next (if b then record w { crew = map (begins (greatest 0 w.crew)) w.crew } else w)
          by false = same_next
          by true = (
            λ i d at.
                let found = in_map (begins (greatest 0 w.crew)) w.crew i d at in
                subst (λ (y : ActorCrew Carried). MemberLearns V W y.member) found.2 (next_member found.0.member (more_member U T V W u t found.0.member (h.crew i found.0 found.1))),
            λ is. t (h.book is),
          )

    -- after a turn, with what that turn sent
    pub turn_learns : (turn : Turn) → WorldLearns (U ⊎ TurnSays A IsAlone turn w) (T ⊎ TurnSays B IsAnswer turn w) (after_turn values turn w)
    turn_learns turn =
        let next = turn_next (U ⊎ TurnSays A IsAlone turn w) (T ⊎ TurnSays B IsAnswer turn w) (λ was. inl was) (λ was. inl was) turn (λ said. inr said) (λ said. inr said) in
        record { met = turn_met key_a key_b turn w h.met; crew = next.0; book = next.1 }

-- as the connection opens, nothing was sent
pub opened_learns : (start : Start) → WorldLearns start.key_a start.key_b ⊥ ⊥ (opened_world start)
opened_learns start = record {
  met = opened_met start;
  crew = opened_actors (λ actor c. MemberLearns ⊥ ⊥ c.member) start tt tt (λ number plan there. path number plan);
  book = λ is. false≢true is;
}
  where
    path : (number : ℕ) (plan : PathPlan) → MemberLearns ⊥ ⊥ (new_path start number plan).member
    path number plan =
        begins_so ⊥ ⊥ (waiting_path (path_begins start number plan) start.lines) refl
        (record { copies = λ first. Every-nil (FlightTells ⊥ ⊥); learns = inl refl; next = λ is. refl; born = refl }) (λ first is. false≢true is)
