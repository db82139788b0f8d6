-- What each duty of a path keeps of how it opens: an end sends nothing but SYNs and resets before both SYNs are acknowledged, and those are where B's
-- SYN/ACK was sent, which acknowledges A's SYN.
use Rattle.std.proofs.Common.{◌≡◌, refl, sym, ap, ◌∙◌, subst, ℕ, ◌&&◌, ◌==◌, not, ⊎_elim, Bool, true, false, if◌then◌else◌, Option, Some, None, List, [], ◌∷◌}
use Rattle.std.specs.Option.{IfSome}
use Rattle.std.proofs.lemmas.Bool.{and_parts, false≢true, both_ways}
use Rattle.actor_desk.specs.declared.ask.Reply.{Reply}
use Rattle.join_handshake.specs.declared.hearing.JoinSyn.{JoinSyn}
use Rattle.link_model.specs.State.{LinkState}
use Rattle.link_model.specs.Steps.{changed, next_number}
use Rattle.link_model.specs.Fate.{is_altered, is_stripped}
use Rattle.link_model.specs.declared.flight.Flight.{Flight}
use Rattle.path_agenda.specs.Agenda.{announces, emission, leaves, resets, withdraws}
use Rattle.path_agenda.specs.declared.duty.AskDuty.{AskDuty}
use Rattle.path_agenda.specs.declared.duty.Duty.{Duty}
use Rattle.path_agenda.specs.declared.duty.SendDuty.{SendDuty}
use Rattle.path_agenda.specs.declared.duty.SilentDuty.{SilentDuty}
use Rattle.path_agenda.specs.declared.duty.StepDuty.{StepDuty}
use Rattle.path_agenda.specs.declared.heard.Heard.{Heard}
use Rattle.path_agenda.specs.declared.keys.KeyPair.{KeyPair}
use Rattle.path_core.specs.Breaking.{answered_break, died_unless_dead, reset_of, reset_on}
use Rattle.path_core.specs.DssIn.{counts, is_clash, with_data_fin, with_learned, with_skipped}
use Rattle.path_core.specs.Duties.{answered, passed, stands}
use Rattle.path_core.specs.Emission.{Grant, answer_occasion, answer_of, answered_data, answered_grant, data_stands, first_segment, first_unsent, grant_in, resend_occasion, resend_of, unsent_segment}
use Rattle.path_core.specs.End.{PathEnd, died}
use Rattle.path_core.specs.Events.{after_line}
use Rattle.path_core.specs.Deliver.{after_pieces}
use Rattle.path_core.specs.Fallback.{breaks_by_ack, fell_duties, with_plain_ack}
use Rattle.path_core.specs.Handover.{handed, having_sent, sent_on}
use Rattle.path_core.specs.Looking.{duty_sends, segment_sent, send_of, unsent_sends}
use Rattle.path_core.specs.MpCapable.{syn_ack_of}
use Rattle.path_core.specs.MpJoin.{asked_at, is_listening, is_never, join_begun, join_taken, joined_by, keys_begun, never_joined, opened_by, syn_of_window, with_keys}
use Rattle.path_core.specs.Standing.{is_connected}
use Rattle.path_core.specs.State.{PathState, end_at, goes_on, left, with_agenda, with_end}
use Rattle.path_core.specs.Steps.{settled}
use Rattle.path_core.specs.Timer.{after_firing, template_fired, timer_fired}
use Rattle.path_core.specs.Treating.{answered_heard, answered_item, item_of, item_passed}
use Rattle.path_core.specs.Values.{Carried, altered, carried_by, stripped, values}
use Rattle.path_segments.specs.Spelled.{PlainSegment}
use Rattle.path_store.specs.declared.lines.LineAction.{LineAction}
use Rattle.sides.specs.Side.{peer}
use Rattle.sides.specs.declared.side.Side.TheVariants.{A, B}
use Rattle.sides.specs.declared.side.Side.{Side}
use Rattle.stream_lanes.proofs.Lists.{Every-nil}
use Rattle.stream_lanes.specs.Words.{Every}
use Rattle.subflow_send.specs.Records.{Record, SendState}
use Rattle.subflow_send.specs.Rules.{after_resent}
use Rattle.subflow_tcp.specs.Closing.{after_passing_fin, is_fin_next}
use Rattle.subflow_tcp.specs.Expiring.{after_expiry, is_sixth}
use Rattle.subflow_tcp.specs.Opening.{after_begin}
use Rattle.subflow_tcp.specs.State.{has_records}
use Rattle.subflow_tcp.specs.States.{is_closed_to_segments, is_dead, is_waiting, may_finish}
use Rattle.subflow_tcp.specs.Taking.{after_death, after_syn, unkept}
use Rattle.subflow_tcp.specs.declared.dues.Due.{Due as Dues}
use Rattle.subflow_tcp.specs.declared.handshake.State.{State as EndPhase}
use Rattle.subflow_tcp.specs.declared.segments.Occasion.{Occasion}
use Rattle.subflow_tcp.specs.declared.segments.Outgoing.{Outgoing}
use Rattle.world_laws.proofs.Falls.FailedChecks.{fail_answered_so, infinite_came_so}
use Rattle.world_laws.proofs.Keys.WhatWakes.{is_up}
use Rattle.world_laws.proofs.Lanes.Saying.{handed_kept}
use Rattle.world_laws.proofs.Writes.Paths.{passes_no_more, writes_no_more}
use Rattle.world_laws.proofs.Writes.Steps.{both_ends, unwritten}
use Rattle.world_laws.specs.Writes.{EndView, EndWrites, Only, OnlyAt, PathView, Writes, copy_said, side_of, writes}
use Rattle.own_runs.proofs.DutiesFew.{is_events}
use Rattle.own_runs.proofs.InTime.{IsSynAck}
use Rattle.own_runs.proofs.Learning.{IsAlone, is_unborn}
use Rattle.own_runs.proofs.OpeningEnds.{EndGoes, Goes, IsReset, Parts, TcpStill, answers_goes, begun_goes, died_goes, ended_goes, expired_goes, fin_syn, finished_met, finishing_met, first_syn, is_passive, met_goes, parts_of, passed_goes, same_goes, sent_goes, timed_goes, unsent_syn, up_open}
use Rattle.own_runs.proofs.Speaking.{ToSend}

-- what is no part of it
abbrev pub spares : EndWrites → Bool
spares w = not w.phase && (not w.send && (not w.copy && (not w.due && not w.timing)))

un : (b : Bool) → not b ≡ true → b ≡ false
un true is = absurd (false≢true is)
un false is = refl

abbrev the_parts : EndPhase → SendState → Dues → Option ℕ → Option Outgoing → Parts
the_parts state send due timer answer = record { state = state; send = send; due = due; timer = timer; answer = answer }

same_parts : (a a2 : EndPhase) (b b2 : SendState) (c c2 : Dues) (d d2 : Option ℕ) (e e2 : Option Outgoing) → a2 ≡ a → b2 ≡ b → c2 ≡ c → d2 ≡ d → e2 ≡ e
    → the_parts a2 b2 c2 d2 e2 ≡ the_parts a b c d e
same_parts a a2 b b2 c c2 d d2 e e2 v w x y z = rw (v, w, x, y, z) refl

only_parts : (w : EndWrites) → spares w ≡ true → (e f : PathEnd) → Only w e f → parts_of f ≡ parts_of e
only_parts w is e f x =
    let phase = and_parts (not w.phase) _ is in
    let send = and_parts (not w.send) _ phase.1 in
    let copy = and_parts (not w.copy) _ send.1 in
    let last = and_parts (not w.due) (not w.timing) copy.1 in
    same_parts e.tcp.state f.tcp.state e.tcp.send f.tcp.send e.tcp.due f.tcp.due e.tcp.timing.timer f.tcp.timing.timer e.treated.answer f.treated.answer
    (unwritten w.phase e.tcp.state f.tcp.state (un w.phase phase.0) (ap (λ (v : EndView). v.phase) x.same))
    (unwritten w.send e.tcp.send f.tcp.send (un w.send send.0) (ap (λ (v : EndView). v.send) x.same))
    (unwritten w.due e.tcp.due f.tcp.due (un w.due last.0) (ap (λ (v : EndView). v.due) x.same))
    (ap (λ t. t.timer) (unwritten w.timing e.tcp.timing f.tcp.timing (un w.timing last.1) (ap (λ (v : EndView). v.timing) x.same)))
    (ap (λ t. t.answer) (unwritten w.copy (copy_said e.treated) (copy_said f.treated) (un w.copy copy.0) (ap (λ (v : EndView). v.copy) x.same)))

-- ---- segments: U, A's SYN was sent, and T, B's SYN/ACK

module _ (U T : Type 0) where
  -- what follows from a segment of a side
  abbrev pub Tells : Side → PlainSegment → Type 0
  Tells A sg = (IsAlone sg → U) × (sg.syn ≡ false → sg.rst ≡ false → T)
  Tells B sg = IsSynAck sg → T

  abbrev pub FlightTells : Flight Carried → Type 0
  FlightTells f = Tells (peer f.to) f.carried.segment

  turned_tells : (s : Side) (sg : PlainSegment) (payload : List ℕ) → Tells s sg → Tells s (record sg { payload = payload })
  turned_tells A sg payload tells = (λ is. tells.0 (record { syn = is.syn; rst = is.rst; none = is.none }), tells.1)
  turned_tells B sg payload tells = λ is. tells (record { syn = is.syn; acknowledged = is.acknowledged })

  changed_tells : (s : Side) (strips alters : Bool) (carried : Carried) → Tells s carried.segment → Tells s (changed stripped altered strips alters carried).segment
  changed_tells s true true carried tells = turned_tells s carried.segment _ tells
  changed_tells s false true carried tells = turned_tells s carried.segment _ tells
  changed_tells s true false carried tells = tells
  changed_tells s false false carried tells = tells

  twice_tells : (s : Side) (sg : PlainSegment) → Tells s sg → Tells (peer (peer s)) sg
  twice_tells A sg tells = tells
  twice_tells B sg tells = tells

  sent_copies : (s : Side) (sg : PlainSegment) (p : PathState Carried) → Tells s sg → Every FlightTells p.link.under_way → Every FlightTells (handed values s sg p).under_way
  sent_copies s sg p tells copies =
      let number = next_number s p.link in
      let made = carried_by p.profile.spelling s sg in
      let strips = is_stripped s number p.clock p.link.lines in
      let alters = is_altered s number p.link.lines in
      handed_kept FlightTells s sg p (λ tick. twice_tells s (changed stripped altered strips alters made).segment (changed_tells s strips alters made tells)) copies

  -- a reset tells nothing
  reset_tells : (s : Side) (sg : PlainSegment) → sg.syn ≡ false → sg.rst ≡ true → Tells s sg
  reset_tells A sg none is = (λ alone. absurd (both_ways sg.syn none alone.syn), λ syn rst. absurd (both_ways sg.rst rst is))
  reset_tells B sg none is = λ answer. absurd (both_ways sg.syn none answer.syn)

  -- the segment that is sent, if one is
  abbrev pub SendsSo : PathState Carried → Option ToSend → Type 0
  SendsSo p o = IfSome o (λ t. Tells t.from (segment_sent p t))

-- ---- paths: V, a SYN of B's was sent, and X, a reset of a side behind that

module _ (U T V : Type 0) (X : Side → Type 0) where
  abbrev Ends : PathEnd → PathEnd → Type 0
  Ends e f = EndGoes U T e f

  pub record PathOpens (p : PathState Carried) : Type 0 where
    pub copies : Every (FlightTells U T) p.link.under_way
    pub heard : is_connected p.a.tcp.state ≡ true → T
    pub active : is_passive p.a.tcp.state ≡ false
    pub next : is_unborn p.a.tcp.state ≡ true → p.a.tcp.send.nxt ≡ 1
    pub born : is_unborn p.b.tcp.state ≡ false
    pub asked : is_closed_to_segments p.b.tcp.state ≡ false → U
    pub answered : is_connected p.b.tcp.state ≡ true → T
    pub still_a : TcpStill p.a.tcp
    pub still_b : TcpStill p.b.tcp
    pub answer_a : IfSome p.a.treated.answer IsReset
    pub answer_b : IfSome p.b.treated.answer IsReset
    pub spoke : V → is_listening p.b.tcp.state ≡ false
    pub fell_a : X A → is_dead p.a.tcp.state ≡ true
    pub fell_b : X B → is_dead p.b.tcp.state ≡ true

  pub still_at : (s : Side) (p : PathState Carried) → PathOpens p → TcpStill (end_at s p).tcp
  still_at A p h = h.still_a
  still_at B p h = h.still_b

  pub answer_at : (s : Side) (p : PathState Carried) → PathOpens p → IfSome (end_at s p).treated.answer IsReset
  answer_at A p h = h.answer_a
  answer_at B p h = h.answer_b

  still_false : (x y : Bool) → (y ≡ true → x ≡ true) → x ≡ false → y ≡ false
  still_false x false more none = refl
  still_false x true more none = absurd (both_ways x none (more refl))

  -- both ends go on
  pub ends_so : (p q : PathState Carried) → Ends p.a q.a → Ends p.b q.b → Every (FlightTells U T) q.link.under_way → PathOpens p → PathOpens q
  ends_so p q a b copies h = record {
    copies = copies;
    heard = λ is. ⊎_elim (λ was. h.heard was) (λ t. t) (a.connected is);
    active = still_false (is_passive p.a.tcp.state) (is_passive q.a.tcp.state) a.passive h.active;
    next = λ is. let was = a.unborn is in was.1 ∙ h.next was.0;
    born = born;
    asked = λ is. ⊎_elim (λ was. h.asked was) (λ more. ⊎_elim (λ un. absurd (both_ways (is_unborn q.b.tcp.state) born un)) (λ u. u) more) (b.opened is);
    answered = λ is. ⊎_elim (λ was. h.answered was) (λ t. t) (b.connected is);
    still_a = a.still h.still_a;
    still_b = b.still h.still_b;
    answer_a = a.answer h.answer_a;
    answer_b = b.answer h.answer_b;
    spoke = λ v. still_false (is_listening p.b.tcp.state) (is_listening q.b.tcp.state) b.listens (h.spoke v);
    fell_a = λ x. a.dead (h.fell_a x);
    fell_b = λ x. b.dead (h.fell_b x);
  }
    where
      born : is_unborn q.b.tcp.state ≡ false
      born = still_false (is_unborn p.b.tcp.state) (is_unborn q.b.tcp.state) (λ is. (b.unborn is).0) h.born

  stays : (e : PathEnd) → Ends e e
  stays e = same_goes U T (parts_of e) (parts_of e) refl

  -- an end goes on
  put_so : (s : Side) (e : PathEnd) (p : PathState Carried) → Ends (end_at s p) e → PathOpens p → PathOpens (with_end s e p)
  put_so A e p g h = ends_so p (with_end A e p) g (stays p.b) h.copies h
  put_so B e p g h = ends_so p (with_end B e p) (stays p.a) g h.copies h

  pub agenda_so : (es : List Duty) (p : PathState Carried) → PathOpens p → PathOpens (with_agenda es p)
  agenda_so es p h = ends_so p (with_agenda es p) (stays p.a) (stays p.b) h.copies h

  pub goes_so : (s : Side) (e : PathEnd) (es : List Duty) (p : PathState Carried) → Ends (end_at s p) e → PathOpens p → PathOpens (goes_on s e es p)
  goes_so s e es p g h = agenda_so es (with_end s e p) (put_so s e p g h)

  -- ---- a segment is handed over

  sent_so : (s : Side) (sg : PlainSegment) (e : PathEnd) (es : List Duty) (p : PathState Carried) → Tells U T s sg → Ends (end_at s p) e → PathOpens p → PathOpens (sent_on values s sg e es p)
  sent_so A sg e es p tells g h = ends_so p (sent_on values A sg e es p) g (stays p.b) (sent_copies U T A sg p tells h.copies) h
  sent_so B sg e es p tells g h = ends_so p (sent_on values B sg e es p) (stays p.a) g (sent_copies U T B sg p tells h.copies) h

  occasion_goes : (o : Occasion) (now : ℕ) (sg : PlainSegment) (e : PathEnd) → Ends e (having_sent o now sg e)
  occasion_goes Occasion.Reset now sg e = sent_goes U T (parts_of e) e.tcp.send.records (record e.tcp.due { reset = false }) (λ h. h) (λ is. is) (λ is. is)
  occasion_goes Occasion.Answer now sg e = sent_goes U T (parts_of e) e.tcp.send.records (record e.tcp.due { answer = None }) (λ h. h) (λ is. is) (λ is. is)
  occasion_goes Occasion.SynAck now sg e = by (e.tcp.send.una == 0)
    where
      by : (b : Bool) → Goes U T (parts_of e) (record (parts_of e) { send = (if b then after_resent now e.tcp.send else e.tcp.send); due = record e.tcp.due { syn_ack = false } })
      by true = sent_goes U T (parts_of e) _ (record e.tcp.due { syn_ack = false }) (λ h. first_syn now e.tcp.send.records h) (λ is. is) (λ is. is)
      by false = sent_goes U T (parts_of e) e.tcp.send.records (record e.tcp.due { syn_ack = false }) (λ h. h) (λ is. is) (λ is. is)
  occasion_goes Occasion.Ack now sg e = sent_goes U T (parts_of e) e.tcp.send.records (record e.tcp.due { ack = false }) (λ h. h) (λ is. absurd (false≢true is)) (λ is. is)
  occasion_goes Occasion.Probe now sg e = sent_goes U T (parts_of e) e.tcp.send.records (record e.tcp.due { probe = false }) (λ h. h) (λ is. is) (λ is. is)
  occasion_goes Occasion.First now sg e =
      sent_goes U T (parts_of e) _ (record e.tcp.due { first = false }) (λ h. first_syn now e.tcp.send.records h) (λ is. is) (λ is. absurd (false≢true is))
  occasion_goes Occasion.Unsent now sg e = sent_goes U T (parts_of e) _ e.tcp.due (λ h. unsent_syn now e.tcp.send.records h) (λ is. is) (λ is. is)
  occasion_goes Occasion.Fin now sg e = sent_goes U T (parts_of e) _ e.tcp.due (λ h. fin_syn now e.tcp.send.records h) (λ is. is) (λ is. is)

  -- ---- where little is written

  kept_by : (s : Side) (w : Writes) (p q : PathState Carried) → spares w.own ≡ true → spares w.other ≡ true → w.link ≡ false → OnlyAt s w p q → PathOpens p → PathOpens q
  kept_by s w p q own other link x h =
      let linked : q.link ≡ p.link = unwritten w.link p.link q.link link (ap (λ (v : PathView Carried). v.link) x.same) in
      let both = both_ends Ends s w p q (λ e f only. same_goes U T (parts_of e) (parts_of f) (only_parts w.own own e f only)) (λ e f only. same_goes U T (parts_of e) (parts_of f) (only_parts w.other other e f only)) x in
      ends_so p q both.0 both.1 (subst (λ (l : LinkState Carried). Every (FlightTells U T) l.under_way) (sym linked) h.copies) h

  -- ---- what is passed

  same_end : (e f : PathEnd) → parts_of f ≡ parts_of e → Ends e f
  same_end e f same = same_goes U T (parts_of e) (parts_of f) same

  two_goes : (e : PathEnd) (b : Bool) (f g : PathEnd) → Ends e f → Ends e g → Ends e (if b then f else g)
  two_goes e true f g x y = x
  two_goes e false f g x y = y

  item_goes : (s : Side) (o : Option Heard) (e : PathEnd) → Ends e (item_passed s o e)
  item_goes s None e = stays e
  item_goes s (Some (Heard.Mapping fin)) e = two_goes e (counts e) (with_learned e) (with_skipped e) (same_end e (with_learned e) refl) (same_end e (with_skipped e) refl)
  item_goes s (Some (Heard.DataFin place)) e = two_goes e (counts e) (with_data_fin place e) e (same_end e (with_data_fin place e) refl) (stays e)
  item_goes s (Some item) e = same_end e (item_passed s (Some item) e) refl

  fin_goes : (b : Bool) (e : PathEnd) → Ends e (record e { tcp = (if b then after_passing_fin e.tcp else e.tcp) })
  fin_goes true e = passed_goes U T (parts_of e)
  fin_goes false e = stays e

  passed_so : (d : Duty) (p : PathState Carried) → PathOpens p → PathOpens (passed d p)
  passed_so (Duty.Step (StepDuty.Heard s index)) p h = put_so s _ p (item_goes s (item_of index (end_at s p)) (end_at s p)) h
  passed_so (Duty.Step (StepDuty.PlainAck s)) p h = put_so s (with_plain_ack (end_at s p)) p (same_end (end_at s p) (with_plain_ack (end_at s p)) refl) h
  passed_so (Duty.Step (StepDuty.Unmapped s)) p h = put_so s (after_pieces (end_at s p)) p (same_end (end_at s p) (after_pieces (end_at s p)) refl) h
  passed_so (Duty.Step _) p h = h
  passed_so (Duty.Ask (AskDuty.CheckFailed s)) p h =
      kept_by s (writes (Duty.Ask (AskDuty.CheckFailed s))) p _ refl refl refl (passes_no_more (Duty.Ask (AskDuty.CheckFailed s)) p) h
  passed_so (Duty.Ask _) p h = h
  passed_so (Duty.Send d) p h = h
  passed_so (Duty.Silent (SilentDuty.PassFin s)) p h = put_so s _ p (fin_goes (is_fin_next (end_at s p).tcp) (end_at s p)) h
  passed_so (Duty.Silent (SilentDuty.Timer s)) p h =
      let e : PathEnd = end_at s p in
      put_so s _ p (timed_goes U T (parts_of e) _ e.sending.news p.clock e.tcp.timing) h
  passed_so (Duty.Silent (SilentDuty.Keep s)) p h =
      kept_by s (writes (Duty.Silent (SilentDuty.Keep s))) p _ refl refl refl (passes_no_more (Duty.Silent (SilentDuty.Keep s)) p) h
  passed_so Duty.End p h = h

  pub settled_so : (ds : List Duty) (p : PathState Carried) → PathOpens p → PathOpens (settled ds p)
  settled_so [] p h = agenda_so [] p h
  settled_so (d ∷ ds) p h = by (stands d p) (settled_so ds (passed d p) (passed_so d p h))
    where
      by : (b : Bool) → PathOpens (settled ds (passed d p)) → PathOpens (if b then with_agenda (d ∷ ds) p else settled ds (passed d p))
      by true rest = agenda_so (d ∷ ds) p h
      by false rest = rest

  -- ---- replies

  -- where a join is answered, its SYN was sent
  abbrev pub JoinSent : PathState Carried → Duty → Type 0
  JoinSent p (Duty.Ask (AskDuty.JoinHeard s)) = is_listening (end_at s p).tcp.state ≡ true → U
  JoinSent p _ = Unit {0}

  either_so : (b : Bool) (q r : PathState Carried) → PathOpens q → PathOpens r → PathOpens (if b then q else r)
  either_so true q r x y = x
  either_so false q r x y = y

  module _ (r : Reply) (p : PathState Carried) (h : PathOpens p) where
    -- an end of which little changes goes on
    same_so : (s : Side) (e : PathEnd) (es : List Duty) → parts_of e ≡ parts_of (end_at s p) → PathOpens (goes_on s e es p)
    same_so s e es same = goes_so s e es p (same_end (end_at s p) e same) h

    reset_so : (s : Side) (reason : Option ℕ) (es : List Duty) → PathOpens (reset_on values s reason es p)
    reset_so s reason es = sent_so s (reset_of s reason p) (died (end_at s p)) es p (reset_tells U T s (reset_of s reason p) refl refl) (died_goes U T (end_at s p)) h

    break_so : (s : Side) (reason : ℕ) → PathOpens (answered_break values s reason r p)
    break_so s reason = either_so (end_at s p).treated.asked _ _ (same_so s _ (resets s reason) refl) (reset_so s (Some reason) (leaves s))

    told_so : (s : Side) (e : PathEnd) → parts_of e ≡ parts_of (end_at s p) → PathOpens (goes_on s e (fell_duties s r p) p)
    told_so s e same = same_so s e (fell_duties s r p) same

    thing_so : (s : Side) (item : Heard) → PathOpens (answered_heard values s item r p)
    thing_so s (Heard.DataAck next window) = same_so s _ _ refl
    thing_so s (Heard.Mapping fin) = either_so (is_clash (end_at s p)) _ _ (break_so s 1) (told_so s _ refl)
    thing_so s (Heard.DataFin place) = told_so s _ refl
    thing_so s (Heard.InfiniteMapping place position) = infinite_came_so (λ e. PathOpens (goes_on s e (fell_duties s r p) p)) place position r (end_at s p) (λ other. told_so s _ refl)
    thing_so s (Heard.Keys own other) = same_so s _ (left p) refl
    thing_so s (Heard.Notice notice) = same_so s _ (left p) refl
    thing_so s Heard.Fail = fail_answered_so PathOpens s r p (same_so s _ _ refl) (told_so s _ refl)
    thing_so s (Heard.FastClose key) = agenda_so _ p h
    thing_so s _ = agenda_so (left p) p h

    item_so : (s : Side) (o : Option Heard) → PathOpens (answered_item values s o r p)
    item_so s None = agenda_so (left p) p h
    item_so s (Some item) = thing_so s item

    -- bytes are granted to an end alone that may finish
    granted_so : (s : Side) (o : Option Grant) → may_finish (end_at s p).tcp.state ≡ true → PathOpens (answered_grant s o r p)
    granted_so s None may = same_so s _ (left p) refl
    granted_so s (Some grant) may =
        let met = finishing_met (end_at s p).tcp.state may in goes_so s _ p.agenda p (met_goes U T (parts_of (end_at s p)) _ met met refl) h

    data_so : (s : Side) (o : Option Record) → data_stands p.profile s (end_at s p) o ≡ true → SendsSo U T p (unsent_sends s o) → PathOpens (answered_data values s o r p)
    data_so s (Some unsent) stood says = sent_so s _ _ p.agenda p says (occasion_goes Occasion.Unsent p.clock (unsent_segment s p) (end_at s p)) h
    data_so s None stood says = granted_so s (grant_in r) (and_parts (may_finish (end_at s p).tcp.state) _ stood).0

    opened_goes : (o : Option KeyPair) (e : PathEnd) → Ends e (opened_by o e)
    opened_goes None e = stays e
    opened_goes (Some keys) e = by (is_waiting e.tcp.state) refl
      where
        by : (b : Bool) → is_waiting e.tcp.state ≡ b → Ends e (record e { tcp = (if b then after_begin e.tcp else e.tcp); modes = with_keys keys e.modes })
        by true is = begun_goes U T (parts_of e) is
        by false is = same_end e (record e { modes = with_keys keys e.modes }) refl

    pub join_so : (dead living : List Duty) → PathOpens (join_begun r dead living p)
    join_so dead living =
        either_so (is_never r) _ _ (goes_so A (never_joined r p.a) dead p (died_goes U T p.a) h) (goes_so A (opened_by (keys_begun r) p.a) living p (opened_goes (keys_begun r) p.a) h)

    -- B answers a join
    joined_goes : (e : PathEnd) (keys : KeyPair) (asked : JoinSyn) → (is_listening e.tcp.state ≡ true → U) → Ends e (joined_by keys asked e)
    joined_goes e keys asked sent = by (is_listening e.tcp.state) refl
      where
        by : (b : Bool) → is_listening e.tcp.state ≡ b → Ends e (record e { tcp = (if b then after_syn (unkept None) (syn_of_window e.treated.window) e.tcp else e.tcp); modes = record (with_keys keys e.modes) { peer_nonce = asked.nonce; backup_heard = asked.backup } })
        by true is = answers_goes U T (parts_of e) is (sent is)
        by false is = same_end e (record e { modes = record (with_keys keys e.modes) { peer_nonce = asked.nonce; backup_heard = asked.backup } }) refl

    joined_so : (s : Side) (o : Option KeyPair) (asked : Option JoinSyn) → (is_listening (end_at s p).tcp.state ≡ true → U) → PathOpens (join_taken s o asked r p)
    joined_so s (Some keys) (Some asked) sent = goes_so s _ _ p (joined_goes (end_at s p) keys asked sent) h
    joined_so s None (Some asked) sent = same_so s _ _ refl
    joined_so s (Some keys) None sent = agenda_so _ p h
    joined_so s None None sent = agenda_so _ p h

    pub ask_so : (d : AskDuty) → JoinSent p (Duty.Ask d) → PathOpens (answered values (Duty.Ask d) r p)
    ask_so AskDuty.JoinAgain sent = join_so _ (left p)
    ask_so (AskDuty.JoinHeard s) sent = joined_so s (keys_begun r) (asked_at s p) sent
    ask_so (AskDuty.LeaveNoted s) sent = goes_so s _ _ p (died_goes U T (end_at s p)) h
    ask_so d sent = kept_by (side_of (Duty.Ask d)) (writes (Duty.Ask d)) p _ refl refl refl (writes_no_more values (Duty.Ask d) r p) h

    pub step_so : (d : StepDuty) → is_events d ≡ false → stands (Duty.Step d) p ≡ true → SendsSo U T p (duty_sends (Duty.Step d) p) → PathOpens (answered values (Duty.Step d) r p)
    step_so (StepDuty.Look s) none stood says = kept_by s (writes (Duty.Step (StepDuty.Look s))) p _ refl refl refl (writes_no_more values (Duty.Step (StepDuty.Look s)) r p) h
    step_so (StepDuty.Data s) none stood says = data_so s (first_unsent (end_at s p)) stood says
    step_so StepDuty.Events none stood says = absurd (false≢true (sym none))
    step_so (StepDuty.Heard s index) none stood says = item_so s (item_of index (end_at s p))
    step_so (StepDuty.PlainAck s) none stood says = either_so (breaks_by_ack p.profile (end_at s p)) _ _ (break_so s 6) (told_so s _ refl)
    step_so (StepDuty.Unmapped s) none stood says = break_so s 6

    -- it goes out on an occasion
    on_so : (s : Side) (o : Occasion) (sg : PlainSegment) (es : List Duty) → Tells U T s sg → PathOpens (sent_on values s sg (having_sent o p.clock sg (end_at s p)) es p)
    on_so s o sg es says = sent_so s sg (having_sent o p.clock sg (end_at s p)) es p says (occasion_goes o p.clock sg (end_at s p)) h

    -- and more is noted
    more_so : (s : Side) (sg : PlainSegment) (e : PathEnd) (es : List Duty) → Tells U T s sg → parts_of e ≡ parts_of (having_sent Occasion.Ack p.clock sg (end_at s p)) → PathOpens (sent_on values s sg e es p)
    more_so s sg e es says same =
        sent_so s sg e es p says (subst (λ (x : Parts). Goes U T (parts_of (end_at s p)) x) (sym same) (occasion_goes Occasion.Ack p.clock sg (end_at s p))) h

    fin_so : (s : Side) (sg : PlainSegment) (e : PathEnd) (es : List Duty) → Tells U T s sg → is_connected (end_at s p).tcp.state ≡ true → is_connected e.tcp.state ≡ true
        → e.treated.answer ≡ (end_at s p).treated.answer → PathOpens (sent_on values s sg e es p)
    fin_so s sg e es says was is answer = sent_so s sg e es p says (met_goes U T (parts_of (end_at s p)) (parts_of e) was is answer) h

    pub send_so : (d : SendDuty) → stands (Duty.Send d) p ≡ true → SendsSo U T p (send_of d) → PathOpens (answered values (Duty.Send d) r p)
    send_so (SendDuty.Syn s) stood says = on_so s Occasion.Unsent (unsent_segment s p) (left p) says
    send_so (SendDuty.SynAck s) stood says = on_so s Occasion.SynAck (syn_ack_of s p) (left p) says
    send_so (SendDuty.Again s) stood says = on_so s Occasion.First (first_segment s p) (left p) says
    send_so (SendDuty.Answer s) stood says = on_so s (answer_occasion (end_at s p)) (answer_of s p) (left p) says
    send_so (SendDuty.Resend s) stood says = on_so s (resend_occasion (end_at s p)) (resend_of s p) (left p) says
    send_so (SendDuty.Fin s) stood says =
        let may = (and_parts (may_finish (end_at s p).tcp.state) _ stood).0 in
        fin_so s _ _ (left p) says (finishing_met (end_at s p).tcp.state may) (finished_met (end_at s p).tcp.state may) refl
    send_so (SendDuty.BreakReset s reason) stood says = reset_so s (Some reason) (leaves s)
    send_so (SendDuty.Reset s) stood says = reset_so s None _
    send_so (SendDuty.ResetNoted s) stood says = reset_so s None _
    send_so (SendDuty.Notice s) stood says = more_so s _ _ p.agenda says refl
    send_so (SendDuty.Update s) stood says = more_so s _ _ (left p) says refl
    send_so (SendDuty.FastClose s) stood says = more_so s _ _ (left p) says refl
    send_so (SendDuty.DataFin s) stood says = more_so s _ _ (left p) says refl
    send_so (SendDuty.Acknowledge s) stood says = more_so s _ _ (left p) says refl
    send_so (SendDuty.Refuse s) stood says = sent_so s _ (end_at s p) (left p) p says (stays (end_at s p)) h
    send_so (SendDuty.ResetAnswer s) stood says = sent_so s _ (end_at s p) (left p) p says (stays (end_at s p)) h

    -- ---- events that are no arrivals

    unless_goes : (e : PathEnd) → Ends e (died_unless_dead e)
    unless_goes e = two_goes e (is_dead e.tcp.state) e (died e) (stays e) (died_goes U T e)

    pub line_so : (action : LineAction) → PathOpens (after_line action p)
    line_so LineAction.Die = ends_so p (after_line LineAction.Die p) (unless_goes p.a) (unless_goes p.b) (Every-nil (FlightTells U T)) h
    line_so (LineAction.Prio s backup) = same_so s _ (emission s) refl
    line_so (LineAction.Announce s id) = agenda_so (announces s id) p h
    line_so (LineAction.Withdraw s id) = agenda_so (withdraws s id) p h

    pub fired_so : (s : Side) → is_up (end_at s p).tcp ≡ true → PathOpens (timer_fired s p)
    fired_so s up = goes_so s (after_firing p.clock (end_at s p)) (template_fired (is_sixth (end_at s p).tcp) s) p (fires (is_sixth (end_at s p).tcp)) h
      where
        e : PathEnd
        e = end_at s p

        fires : (b : Bool) → Ends e (record e { tcp = (if b then after_death true e.tcp else after_expiry p.clock e.tcp) })
        fires true = ended_goes U T (parts_of e) _ true e.treated.answer (λ is. is)
        fires false = expired_goes U T (parts_of e) _ (has_records e.tcp) (up_open e.tcp (still_at s p h) up)
