-- What a copy that arrives, and each other event, makes of how a path opens, and of what is to be done then.
use Rattle.std.proofs.Common.{◌≡◌, refl, sym, ap, ◌∙◌, subst, ℕ, suc, zero, ◌+◌, ◌&&◌, ◌==◌, nat_le, nat_lt, inl, inr, ◌⊎◌, ⊎_elim, Bool, true, false, if◌then◌else◌, Option, Some, None, List, [], length}
use Rattle.std.specs.Option.{IfSome}
use Rattle.std.proofs.lemmas.Bool.{and_parts, both_ways, false≢true}
use Rattle.actor_desk.specs.Words.{tail_of}
use Rattle.actor_desk.specs.declared.ask.Reply.{Reply}
use Rattle.link_model.specs.Steps.{after_delivery, arriving, is_due, without}
use Rattle.link_model.specs.declared.flight.Due.{Due}
use Rattle.link_model.specs.declared.flight.Flight.{Flight}
use Rattle.path_agenda.specs.Agenda.{emission, heard_and, join_answered, leaves, payload_came, rest_of_turn, syn_ack_came}
use Rattle.path_agenda.specs.declared.duty.AskDuty.{AskDuty}
use Rattle.path_agenda.specs.declared.duty.Duty.{Duty}
use Rattle.path_agenda.specs.declared.duty.SendDuty.{SendDuty}
use Rattle.path_agenda.specs.declared.heard.Heard.{Heard}
use Rattle.path_core.specs.Arrival.{after_judged, copy_heard, copy_of, heard_in, judged_in, owing_if, told_at, template_judged, with_payload}
use Rattle.path_core.specs.End.{PathEnd}
use Rattle.path_core.specs.Events.{happens_if, next_event}
use Rattle.path_core.specs.Judged.{taken_as}
use Rattle.path_core.specs.MpJoin.{is_joined, is_listening}
use Rattle.path_core.specs.OptionsIn.{hint_of, items_of, options_heard, owes_by}
use Rattle.path_core.specs.Standing.{is_connected}
use Rattle.path_core.specs.State.{PathState, at_tick, end_at, goes_on}
use Rattle.path_core.specs.Timer.{timer_fired}
use Rattle.path_core.specs.Values.{Carried, as_arrived, values}
use Rattle.path_core.specs.declared.events.Event.{Event}
use Rattle.path_core.specs.declared.judged.Judged.{Judged}
use Rattle.path_segments.specs.Heard.{HeardSegment}
use Rattle.path_segments.specs.Laws.{meant}
use Rattle.path_segments.specs.Spelled.{PlainSegment}
use Rattle.sides.specs.Side.{peer}
use Rattle.sides.specs.declared.side.Side.TheVariants.{A, B}
use Rattle.sides.specs.declared.side.Side.{Side}
use Rattle.stream_lanes.specs.Words.{Every}
use Rattle.subflow_tcp.specs.Judging.{is_acceptable, is_repeated_syn, is_syn_alone, meaning_acknowledging, meaning_answer, meaning_answering, meaning_at, meaning_connected, meaning_of, meaning_outside, meaning_placed, meaning_within}
use Rattle.subflow_tcp.specs.Segments.{Copy}
use Rattle.subflow_tcp.specs.State.{EndState, is_at_limit}
use Rattle.subflow_tcp.specs.States.{is_closed_to_segments, is_dead, is_half_open}
use Rattle.subflow_tcp.specs.Taking.{after_arrival, after_hearing}
use Rattle.subflow_tcp.specs.declared.handshake.State.{State as EndPhase}
use Rattle.subflow_tcp.specs.declared.verdicts.Meaning.{Meaning}
use Rattle.world_laws.proofs.Keys.Held.{in_removed}
use Rattle.world_laws.proofs.Keys.Meanings.{Means, means}
use Rattle.world_laws.proofs.Keys.WhatWakes.{is_up, next_happens}
use Rattle.world_laws.proofs.Worlds.Finding.{find_every, one_side}
use Rattle.own_runs.proofs.AgendaFits.{FitsAt, Owes, begun_owes, fired_owes, line_owes, none_weighty, put_holds, rest_owes_none}
use Rattle.own_runs.proofs.KeyHears.{Waits, alone_so, copy_waits}
use Rattle.own_runs.proofs.Learning.{is_unborn}
use Rattle.own_runs.proofs.Opening.{FlightTells, PathOpens, Tells, agenda_so, fired_so, goes_so, join_so, line_so, still_at}
use Rattle.own_runs.proofs.OpeningEnds.{EndGoes, IsReset, TcpStill, is_passive, listening_is, up_open}
use Rattle.own_runs.proofs.OpeningHears.{Comes, IsMeeting, answered_so, answering_due, copy_comes, half_passive, is_waited, past_cases, past_open, taken_accepts, taken_is, taken_means, taken_opens, waited_opens}

-- ---- an end that wants no segment is dead

abbrev is_unwanted : Meaning → Bool
is_unwanted Meaning.Unwanted = true
is_unwanted _ = false

either_wanted : (b : Bool) (x y : Meaning) → is_unwanted x ≡ false → is_unwanted y ≡ false → is_unwanted (if b then x else y) ≡ false
either_wanted true x y first other = first
either_wanted false x y first other = other

module _ (c : Copy) (s : EndState) where
  acknowledging_wanted : (o : Option ℕ) (pos : ℕ) → is_unwanted (meaning_acknowledging o pos s) ≡ false
  acknowledging_wanted None pos = refl
  acknowledging_wanted (Some n) pos =
      either_wanted (nat_lt s.send.nxt n) Meaning.Ahead (if is_half_open s.state && n == 0 then Meaning.Unacknowledging else Meaning.Taken pos n) refl
      (either_wanted (is_half_open s.state && n == 0) Meaning.Unacknowledging (Meaning.Taken pos n) refl refl)

  outside_wanted : is_unwanted (meaning_outside c) ≡ false
  outside_wanted = either_wanted c.rst Meaning.Ignored Meaning.Outside refl refl

  within_wanted : (pos : ℕ) → is_unwanted (meaning_within pos c s) ≡ false
  within_wanted pos =
      either_wanted c.rst (if pos == s.recv.edge then Meaning.Kills else Meaning.Challenged) (if c.syn then Meaning.Challenged else meaning_acknowledging c.acknowledged pos s)
      (either_wanted (pos == s.recv.edge) Meaning.Kills Meaning.Challenged refl refl)
      (either_wanted c.syn Meaning.Challenged (meaning_acknowledging c.acknowledged pos s) refl (acknowledging_wanted c.acknowledged pos))

  placed_wanted : (o : Option ℕ) → is_unwanted (meaning_placed o c s) ≡ false
  placed_wanted None = outside_wanted
  placed_wanted (Some pos) = either_wanted (is_acceptable s.recv.edge pos c) (meaning_within pos c s) (meaning_outside c) (within_wanted pos) outside_wanted

  connected_wanted : is_unwanted (meaning_connected c s) ≡ false
  connected_wanted =
      either_wanted (is_at_limit s) Meaning.Ignored (if is_repeated_syn c s then Meaning.RepeatedSyn else meaning_placed c.position c s) refl
      (either_wanted (is_repeated_syn c s) Meaning.RepeatedSyn (meaning_placed c.position c s) refl (placed_wanted c.position))

  answer_wanted : (n : ℕ) → is_unwanted (meaning_answer c n) ≡ false
  answer_wanted n = either_wanted c.rst Meaning.Kills (if c.syn then Meaning.Accepts n else Meaning.Ignored) refl (either_wanted c.syn (Meaning.Accepts n) Meaning.Ignored refl refl)

  answering_wanted : (o : Option ℕ) → is_unwanted (meaning_answering o c s) ≡ false
  answering_wanted None = refl
  answering_wanted (Some n) = either_wanted (nat_lt 0 n && nat_le n s.send.nxt) (meaning_answer c n) Meaning.Ignored (answer_wanted n) refl

  unwanted_state : (state : EndPhase) → is_unwanted (meaning_at state c s) ≡ true → is_dead state ≡ true
  unwanted_state EndPhase.Dead is = refl
  unwanted_state EndPhase.Waiting is = absurd (false≢true is)
  unwanted_state EndPhase.Listen is = absurd (both_ways (is_unwanted (if is_syn_alone c then Meaning.Opens else Meaning.Ignored)) (either_wanted (is_syn_alone c) Meaning.Opens Meaning.Ignored refl refl) is)
  unwanted_state EndPhase.SynSent is =
      absurd (both_ways (is_unwanted (if is_at_limit s then Meaning.Ignored else meaning_answering c.acknowledged c s)) (either_wanted (is_at_limit s) Meaning.Ignored (meaning_answering c.acknowledged c s) refl (answering_wanted c.acknowledged)) is)
  unwanted_state _ is = absurd (both_ways (is_unwanted (meaning_connected c s)) connected_wanted is)

  unwanted_dead : meaning_of c s ≡ Meaning.Unwanted → is_dead s.state ≡ true
  unwanted_dead is = unwanted_state s.state (ap is_unwanted is)

-- ---- templates

came_none : (s : Side) (from count : ℕ) (ds : List Duty) → none_weighty ds → none_weighty (heard_and s from count ds)
came_none s from zero ds h = h
came_none s from (suc count) ds h = came_none s (from + 1) count ds h

accepted_none : (joined : Bool) (s : Side) → none_weighty (if joined then join_answered s else syn_ack_came s)
accepted_none true s = refl
accepted_none false s = refl

-- ---- a copy that arrives

module _ (U T V : Type 0) (X : Side → Type 0) (carried : Carried) (p : PathState Carried) (h : PathOpens U T V X p) where
  abbrev sg : PlainSegment
  sg = carried.segment

  abbrev heard_by : PathEnd → HeardSegment
  heard_by e = options_heard e (meant (as_arrived carried))

  abbrev items_by : Side → PathEnd → List Heard
  items_by s e = items_of (is_joined p.profile) s (heard_by e)

  abbrev meant_by : Side → PathEnd → Meaning
  meant_by s e = taken_as (judged_in (is_joined p.profile) s (heard_by e) e)

  abbrev after_by : Side → PathEnd → EndState
  after_by s e = owing_if (owes_by (meant_by s e) (items_by s e))
      (after_arrival (meant_by s e) (hint_of (items_by s e)) p.clock (copy_of (heard_by e)) (with_payload (meant_by s e) (heard_by e).payload e.tcp))

  means_by : (s : Side) (e : PathEnd) → Means (copy_of (heard_by e)) e.tcp (meant_by s e)
  means_by s e = taken_means (is_joined p.profile) (heard_by e).rst (items_by s e) (copy_of (heard_by e)) e

  comes_by : (s : Side) (e : PathEnd) → Comes (meant_by s e) e.tcp (after_by s e)
  comes_by s e = copy_comes (meant_by s e) (items_by s e) (hint_of (items_by s e)) p.clock (copy_of (heard_by e)) (heard_by e).payload e.tcp (means_by s e)

  waits_by : (s : Side) (e : PathEnd) → Waits e.tcp (after_by s e)
  waits_by s e = copy_waits (owes_by (meant_by s e) (items_by s e)) (meant_by s e) (hint_of (items_by s e)) p.clock (copy_of (heard_by e)) (heard_by e).payload e.tcp

  abbrev told_end : Side → PathEnd → PathEnd
  told_end s e = after_judged p.profile s p.clock (heard_by e) (judged_in (is_joined p.profile) s (heard_by e) e) e

  goes_by : (s : Side) (e : PathEnd) → (IsMeeting (meant_by s e) → (is_connected e.tcp.state ≡ true) ⊎ T) → (meant_by s e ≡ Meaning.Opens → U) → EndGoes U T e (told_end s e)
  goes_by s e meets opens =
      let comes = comes_by s e in
      let waits = waits_by s e in
      record {
        unborn = λ is. (waits.unborn is, waits.next);
        connected = λ is. ⊎_elim (λ was. inl was) (λ new. meets new) (comes.connected is);
        passive = comes.passive;
        dead = comes.dead;
        listens = comes.listens;
        opened = λ is. ⊎_elim (λ was. inl was) (λ new. inr (inr (opens new))) (comes.opened is);
        still = comes.still;
        answer = λ was. (refl, refl);
      }

  opens_alone : (s : Side) (e : PathEnd) → meaning_of (copy_of (heard_by e)) e.tcp ≡ Meaning.Opens → is_listening e.tcp.state ≡ true
  opens_alone s e is = ap is_listening (subst (Means (copy_of (heard_by e)) e.tcp) is (means (copy_of (heard_by e)) e.tcp)).0

  -- A's SYN was sent
  asked_so : (s : Side) → Tells U T (peer s) sg → meaning_of (copy_of (heard_by (end_at s p))) (end_at s p).tcp ≡ Meaning.Opens → U
  asked_so A tells is = absurd (both_ways (is_passive p.a.tcp.state) h.active (ap is_passive (listening_is p.a.tcp.state (opens_alone A p.a is))))
  asked_so B tells is = tells.0 (alone_so sg p.b.tcp (copy_of (heard_by p.b)) refl refl refl is)

  meets_so : (s : Side) → Tells U T (peer s) sg → (m : Meaning) → meant_by s (end_at s p) ≡ m → IsMeeting m → (is_connected (end_at s p).tcp.state ≡ true) ⊎ T
  meets_so A tells (Meaning.Accepts n) is meets =
      inr (tells (answered_so sg p.a.tcp (copy_of (heard_by p.a)) n refl refl h.next
      (taken_accepts (is_joined p.profile) (heard_by p.a).rst (items_by A p.a) (meaning_of (copy_of (heard_by p.a)) p.a.tcp) p.a n is)))
  meets_so A tells (Meaning.Taken pos n) is meets =
      let told = subst (Means (copy_of (heard_by p.a)) p.a.tcp) is (means_by A p.a) in
      ⊎_elim (λ met. inl met) (λ half. absurd (both_ways (is_passive p.a.tcp.state) h.active (half_passive p.a.tcp.state half))) (past_cases p.a.tcp.state told.0)
  meets_so B tells (Meaning.Accepts n) is meets =
      let told = subst (Means (copy_of (heard_by p.b)) p.b.tcp) is (means_by B p.b) in absurd (both_ways (is_unborn p.b.tcp.state) h.born (ap is_unborn told.0))
  meets_so B tells (Meaning.Taken pos n) is meets =
      let told = subst (Means (copy_of (heard_by p.b)) p.b.tcp) is (means_by B p.b) in inr (tells.1 told.1.0 told.1.1.0)
  meets_so s tells Meaning.Ignored is meets = absurd meets
  meets_so s tells _ is meets = absurd meets

  pub arrives_so : (s : Side) → Tells U T (peer s) sg → PathOpens U T V X (told_at p.clock s (heard_by (end_at s p)) p)
  arrives_so s tells =
      goes_so U T V X s (told_end s (end_at s p)) _ p
      (goes_by s (end_at s p) (meets_so s tells (meant_by s (end_at s p)) refl)
      (λ is. asked_so s tells (taken_opens (is_joined p.profile) (heard_by (end_at s p)).rst (items_by s (end_at s p)) (meaning_of (copy_of (heard_by (end_at s p))) (end_at s p).tcp) (end_at s p) is))) h

  -- what is to be done then
  module _ (s : Side) (tells : Tells U T (peer s) sg) where
    abbrev e : PathEnd
    e = end_at s p

    abbrev judged : Judged
    judged = judged_in (is_joined p.profile) s (heard_by e) e

    abbrev told_path : Judged → PathState Carried
    told_path v = goes_on s (after_judged p.profile s p.clock (heard_by e) v e) (template_judged (is_joined p.profile) s (length (items_by s e)) v) p

    waited_listens : (v : Judged) → judged ≡ v → is_waited v ≡ true → meaning_of (copy_of (heard_by e)) e.tcp ≡ Meaning.Opens
    waited_listens v is waited = waited_opens (is_joined p.profile) (heard_by e).rst (items_by s e) (meaning_of (copy_of (heard_by e)) e.tcp) e (ap is_waited is ∙ waited)

    meant_owes : (m : Meaning) → Means (copy_of (heard_by e)) e.tcp m → (m ≡ Meaning.Unwanted → is_dead e.tcp.state ≡ true) → Owes U (told_path (Judged.As m))
    meant_owes Meaning.Ignored told dead = inl refl
    meant_owes Meaning.Unwanted told dead = inr (inl (put_holds s (λ t. is_dead t.state ≡ true) (after_judged p.profile s p.clock (heard_by e) (Judged.As Meaning.Unwanted) e) [] p (dead refl), refl))
    meant_owes Meaning.Opens told dead =
        inr (inr (refl, inr (refl, inl (put_holds s (λ t. is_closed_to_segments t.state ≡ false) (after_judged p.profile s p.clock (heard_by e) (Judged.As Meaning.Opens) e) [] p refl, refl))))
    meant_owes (Meaning.Accepts n) told dead = inl (accepted_none (is_joined p.profile) s)
    meant_owes Meaning.RepeatedSyn told dead =
        inr (inl (put_holds s (λ t. is_closed_to_segments t.state ≡ false) (after_judged p.profile s p.clock (heard_by e) (Judged.As Meaning.RepeatedSyn) e) [] p (past_open e.tcp.state told), refl))
    meant_owes Meaning.Outside told dead =
        inr (inl (put_holds s (FitsAt U (Duty.Send (SendDuty.Answer s))) (after_judged p.profile s p.clock (heard_by e) (Judged.As Meaning.Outside) e) [] p (past_open e.tcp.state told, answering_due e.tcp told), refl))
    meant_owes Meaning.Kills told dead = inl refl
    meant_owes Meaning.Challenged told dead =
        inr (inl (put_holds s (FitsAt U (Duty.Send (SendDuty.Answer s))) (after_judged p.profile s p.clock (heard_by e) (Judged.As Meaning.Challenged) e) [] p (past_open e.tcp.state told, answering_due (after_hearing e.tcp) told), refl))
    meant_owes Meaning.Unacknowledging told dead = inl refl
    meant_owes Meaning.Ahead told dead =
        inr (inl (put_holds s (FitsAt U (Duty.Send (SendDuty.Answer s))) (after_judged p.profile s p.clock (heard_by e) (Judged.As Meaning.Ahead) e) [] p (past_open e.tcp.state told, answering_due (after_hearing e.tcp) told), refl))
    meant_owes (Meaning.Taken pos n) told dead = inl (came_none s 0 (length (items_by s e)) (payload_came s) refl)

    judged_owes : (v : Judged) → judged ≡ v → Owes U (told_path v)
    judged_owes (Judged.As m) is =
        meant_owes m (subst (λ (v : Judged). Means (copy_of (heard_by e)) e.tcp (taken_as v)) is (means_by s e))
        (λ none. ⊎_elim (λ other. (let never : Meaning.Ignored ≡ Meaning.Unwanted = sym other ∙ ap taken_as is ∙ none in cc))
        (λ same. unwanted_dead (copy_of (heard_by e)) e.tcp (sym same ∙ ap taken_as is ∙ none))
        (taken_is (is_joined p.profile) (heard_by e).rst (items_by s e) (meaning_of (copy_of (heard_by e)) e.tcp) e))
    judged_owes Judged.Asks is =
        let opens = waited_listens Judged.Asks is refl in
        inr (inl (put_holds s (FitsAt U (Duty.Ask (AskDuty.JoinHeard s))) (after_judged p.profile s p.clock (heard_by e) Judged.Asks e) [] p (opens_alone s e opens, asked_so s tells opens), refl))
    judged_owes Judged.Lacks is =
        inr (inl (put_holds s (λ t. is_listening t.state ≡ true) (after_judged p.profile s p.clock (heard_by e) Judged.Lacks e) [] p (opens_alone s e (waited_listens Judged.Lacks is refl)), refl))
    judged_owes Judged.Forged is = inl refl

    pub arrives_owes : Owes U (told_at p.clock s (heard_by (end_at s p)) p)
    arrives_owes = judged_owes judged refl

-- ---- events

module _ (U T V : Type 0) (X : Side → Type 0) where
  found_so : (due : Due) (p : PathState Carried) (f : Flight Carried) → Every (FlightTells U T) p.link.under_way → arriving due p.link ≡ Some f → Tells U T (peer due.to) f.carried.segment
  found_so due p f copies is =
      let found = find_every (FlightTells U T) (is_due due) p.link.under_way f copies is in
      let same = one_side f.to due.to (and_parts _ (f.number == due.copy) (and_parts (f.tick == due.tick) _ found.1).1).0 in
      subst (λ (s : Side). Tells U T (peer s) f.carried.segment) same found.0

  left_copies : (o : Option ℕ) (fs : List (Flight Carried)) → Every (FlightTells U T) fs → Every (FlightTells U T) (without o fs)
  left_copies None fs h = h
  left_copies (Some place) fs h = record { each = λ k f at. let was = in_removed fs place k f at in h.each was.0 f was.1 }

  -- with other times, lines and copies
  pub alike_so : (p q : PathState Carried) → q.a ≡ p.a → q.b ≡ p.b → Every (FlightTells U T) q.link.under_way → PathOpens U T V X p → PathOpens U T V X q
  alike_so p q a b copies h = record {
    copies = copies;
    heard = subst (λ (e : PathEnd). is_connected e.tcp.state ≡ true → T) (sym a) h.heard;
    active = ap (λ (e : PathEnd). is_passive e.tcp.state) a ∙ h.active;
    next = subst (λ (e : PathEnd). is_unborn e.tcp.state ≡ true → e.tcp.send.nxt ≡ 1) (sym a) h.next;
    born = ap (λ (e : PathEnd). is_unborn e.tcp.state) b ∙ h.born;
    asked = subst (λ (e : PathEnd). is_closed_to_segments e.tcp.state ≡ false → U) (sym b) h.asked;
    answered = subst (λ (e : PathEnd). is_connected e.tcp.state ≡ true → T) (sym b) h.answered;
    still_a = subst (λ (e : PathEnd). TcpStill e.tcp) (sym a) h.still_a;
    still_b = subst (λ (e : PathEnd). TcpStill e.tcp) (sym b) h.still_b;
    answer_a = subst (λ (e : PathEnd). IfSome e.treated.answer IsReset) (sym a) h.answer_a;
    answer_b = subst (λ (e : PathEnd). IfSome e.treated.answer IsReset) (sym b) h.answer_b;
    spoke = λ v. ap (λ (e : PathEnd). is_listening e.tcp.state) b ∙ h.spoke v;
    fell_a = λ x. ap (λ (e : PathEnd). is_dead e.tcp.state) a ∙ h.fell_a x;
    fell_b = λ x. ap (λ (e : PathEnd). is_dead e.tcp.state) b ∙ h.fell_b x;
  }

  module _ (r : Reply) (p : PathState Carried) (h : PathOpens U T V X p) where
    -- a copy arrives
    module _ (due : Due) where
      abbrev q : PathState Carried
      q = record (at_tick due.tick p) { link = after_delivery due p.link }

      opens_q : PathOpens U T V X q
      opens_q = alike_so p q refl refl (left_copies _ p.link.under_way h.copies) h

      pub copy_so : (o : Option (Flight Carried)) → arriving due p.link ≡ o → PathOpens U T V X (copy_heard due.to (heard_in values due.to o p) q)
      copy_so None is = agenda_so U T V X (emission due.to) q opens_q
      copy_so (Some f) is = arrives_so U T V X f.carried q opens_q due.to (found_so due p f h.copies is)

      pub copy_owes : (o : Option (Flight Carried)) → arriving due p.link ≡ o → Owes U (copy_heard due.to (heard_in values due.to o p) q)
      copy_owes None is = inl refl
      copy_owes (Some f) is = arrives_owes U T V X f.carried q opens_q due.to (found_so due p f h.copies is)

    pub event_so : (o : Option Event) → next_event p ≡ o → PathOpens U T V X (happens_if values o r p)
    event_so None next = agenda_so U T V X rest_of_turn p h
    event_so (Some (Event.Joins tick)) next = let q : PathState Carried = record (at_tick tick p) { joined_at = None } in join_so U T V X r q (alike_so p q refl refl h.copies h) (leaves A) (emission A)
    event_so (Some (Event.Takes line)) next = let q : PathState Carried = record (at_tick line.tick p) { lines = tail_of p.lines } in line_so U T V X r q (alike_so p q refl refl h.copies h) line.action
    event_so (Some (Event.Arrives due)) next = copy_so due (arriving due p.link) refl
    event_so (Some (Event.Fires s tick)) next = fired_so U T V X r (at_tick tick p) (alike_so p (at_tick tick p) refl refl h.copies h) s (up s (next_happens p (Event.Fires s tick) next))
      where
        up : (s : Side) → is_up (end_at s p).tcp ≡ true → is_up (end_at s (at_tick tick p)).tcp ≡ true
        up A is = is
        up B is = is

    pub event_owes : (o : Option Event) → next_event p ≡ o → Owes U (happens_if values o r p)
    event_owes None next = rest_owes_none U p
    event_owes (Some (Event.Joins tick)) next = begun_owes U r (record (at_tick tick p) { joined_at = None })
    event_owes (Some (Event.Takes line)) next = line_owes U line.action (record (at_tick line.tick p) { lines = tail_of p.lines })
    event_owes (Some (Event.Arrives due)) next = copy_owes due (arriving due p.link) refl
    event_owes (Some (Event.Fires s tick)) next = fires s (next_happens p (Event.Fires s tick) next)
      where
        fires : (s : Side) → is_up (end_at s p).tcp ≡ true → Owes U (timer_fired s (at_tick tick p))
        fires s up = fired_owes U s (at_tick tick p) (up_open (end_at s p).tcp (still_at U T V X s p h) up)
