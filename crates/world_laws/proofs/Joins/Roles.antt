-- What the ends of a path that joins are, and its copies: A's end never has the peer's SYN before its own was answered, and B's never
-- opens; a SYN that shows options shows an MP_JOIN.
use Rattle.world_laws.proofs.Words.{◌≡◌, refl, sym, ◌∙◌, ap, subst, ℕ, ◌-◌, Bool, true, false, if◌then◌else◌, Option, Some, None, List, [], position}
use Rattle.world_laws.proofs.Words.{both_ways, false≢true, FallEvent, Side, A, B, peer, JoinSyn, KeptMapping, Record, is_dead, is_waiting}
use Rattle.world_laws.proofs.Words.{is_sixth, after_expiry, after_sending, EndState, has_records, EndPhase, Occasion, Outgoing, after_death}
use Rattle.world_laws.proofs.Words.{after_dropping_held, after_keeping_held, after_syn, unkept, after_begin, is_fin_next, after_passing_fin, is_due, arriving}
use Rattle.world_laws.proofs.Words.{changed, next_number, without, after_delivery, Flight, is_stripped, is_altered, LinkState, HeardSegment}
use Rattle.world_laws.proofs.Words.{PlainSegment, LineAction, rest_of_turn, emission, leaves, resets, stops, announces, withdraws, Duty, SendDuty, StepDuty}
use Rattle.world_laws.proofs.Words.{OwnNotice, AskDuty, SilentDuty, Heard, KeyPair, replaced, first_of, Reply, tail_of, passed, answered, PathEnd, died}
use Rattle.world_laws.proofs.Words.{answered_ack_out, after_ack_out, at_tick, PathState, end_at, goes_on, with_end, with_agenda, left, takes, begins_turn}
use Rattle.world_laws.proofs.Words.{Carried, as_arrived, carried_by, stripped, altered, values, hint_of, items_of, owes_by, options_heard, after_judged}
use Rattle.world_laws.proofs.Words.{copy_judged, copy_of, judged_in, reset_for, template_of, heard_in, copy_heard, heard_at, reset_of, reset_on, answered_break}
use Rattle.world_laws.proofs.Words.{refusal_of, died_unless_dead, answered_data, answered_grant, first_unsent, grant_in, answer_occasion, answer_of}
use Rattle.world_laws.proofs.Words.{dead_answer, resend_occasion, resend_of, first_record, Judged, next_event, after_line, happens_if, join_begun, never_joined}
use Rattle.world_laws.proofs.Words.{asked_at, is_listening, is_never, join_taken, joined_by, keys_begun, opened_by, syn_of_window, with_mode_refused, is_joined}
use Rattle.world_laws.proofs.Words.{with_timer_settled, template_fired, timer_fired, mapping_here, forgotten_by, after_keep, after_pieces, is_dropped}
use Rattle.world_laws.proofs.Words.{after_check, is_data_fin_owed, fin_segment_of, having_sent_fin, after_pass_fin, is_clash, with_learned, with_data_fin}
use Rattle.world_laws.proofs.Words.{with_skipped, held_of, with_acked, after_dss, with_data_ack, answered_heard, answered_item, item_of, item_passed}
use Rattle.world_laws.proofs.Words.{after_fell, fell_duties, answered_plain_ack, with_plain_ack, breaks_by_ack, answered_fell, with_infinite, after_keys}
use Rattle.world_laws.proofs.Words.{is_stopped_by, with_priority, after_peer_notice, reset_options, ack_said, carried_said, syn_ack_said, record_or_ack}
use Rattle.world_laws.proofs.Words.{noted_said, Profile, having_sent, sent_on, taken_as, Treated, Every-nil, Every, if_so, EndWrites, Only, Writes, OnlyAt}
use Rattle.world_laws.proofs.Words.{EndView, PathView, writes, side_of, copy_said}
use Rattle.path_core.specs.declared.events.Event.{Event}
use Rattle.path_core.specs.Emission.{Grant}
use Rattle.world_laws.proofs.Writes.Ends.{item_so}
use Rattle.world_laws.proofs.Keys.Held.{in_removed}
use Rattle.world_laws.proofs.Keys.WhatWakes.{WakesNone, joined_wakes_none}
use Rattle.world_laws.proofs.Keys.AnswerHeardFirst.{is_apart, finish_apart, passed_apart, apart_stays, arrived_state, TellsKey, no_syn, record_or_ack_tells, syn_ack_tells, IsNoSyn, reset_answers, outgoing_tells}
use Rattle.world_laws.proofs.Lanes.Saying.{handed_kept}
use Rattle.world_laws.proofs.Falls.FailedChecks.{forgets_so, infinite_came_so, fail_answered_so}
use Rattle.world_laws.proofs.Writes.Paths.{writes_no_more}
use Rattle.world_laws.proofs.Writes.Steps.{Lasts, both_ends, unwritten, takes_lasts, begins_lasts}

abbrev pub CopyTells : Bool → Flight Carried → Type 0
CopyTells joined f = TellsKey joined f.to f.carried.segment

pub record HasRoles (p : PathState Carried) : Type 0 where
  pub copies : Every (CopyTells (is_joined p.profile)) p.link.under_way
  pub role_a : is_joined p.profile ≡ true → is_apart A p.a.tcp.state ≡ false
  pub role_b : is_joined p.profile ≡ true → is_apart B p.b.tcp.state ≡ false
  pub answer_a : IsNoSyn p.a.treated.answer
  pub answer_b : IsNoSyn p.b.treated.answer

pub answer_at : (s : Side) (p : PathState Carried) → HasRoles p → IsNoSyn (end_at s p).treated.answer
answer_at = elim [ A ↦ λ p h. h.answer_a | B ↦ λ p h. h.answer_b ]

pub role_at : (s : Side) (p : PathState Carried) → HasRoles p → is_joined p.profile ≡ true → is_apart s (end_at s p).tcp.state ≡ false
role_at = elim [ A ↦ λ p h joins. h.role_a joins | B ↦ λ p h joins. h.role_b joins ]

stays_false : (x y : Bool) → (y ≡ true → x ≡ true) → x ≡ false → y ≡ false
stays_false x false more none = refl
stays_false x true more none = absurd (both_ways x none (more refl))

-- ---- an end goes on

-- an end is where it never is only where it was there, and answers with no SYN
pub record Goes (s : Side) (p : PathState Carried) (e : PathEnd) : Type 0 where
  pub role : is_joined p.profile ≡ true → is_apart s e.tcp.state ≡ true → is_apart s (end_at s p).tcp.state ≡ true
  pub answer : IsNoSyn e.treated.answer

goes_roles : (s : Side) (e : PathEnd) (ds : List Duty) (p : PathState Carried) → Goes s p e → HasRoles p → HasRoles (goes_on s e ds p)
goes_roles A e ds p g h =
    record { copies = h.copies; role_a = λ joins. stays_false _ _ (g.role joins) (h.role_a joins); role_b = h.role_b; answer_a = g.answer; answer_b = h.answer_b }
goes_roles B e ds p g h =
    record { copies = h.copies; role_a = h.role_a; role_b = λ joins. stays_false _ _ (g.role joins) (h.role_b joins); answer_a = h.answer_a; answer_b = g.answer }

with_roles : (s : Side) (e : PathEnd) (p : PathState Carried) → Goes s p e → HasRoles p → HasRoles (with_end s e p)
with_roles A e p g h =
    record { copies = h.copies; role_a = λ joins. stays_false _ _ (g.role joins) (h.role_a joins); role_b = h.role_b; answer_a = g.answer; answer_b = h.answer_b }
with_roles B e p g h =
    record { copies = h.copies; role_a = h.role_a; role_b = λ joins. stays_false _ _ (g.role joins) (h.role_b joins); answer_a = h.answer_a; answer_b = g.answer }

agenda_roles : (ds : List Duty) (p : PathState Carried) → HasRoles p → HasRoles (with_agenda ds p)
agenda_roles ds p h = record { copies = h.copies; role_a = h.role_a; role_b = h.role_b; answer_a = h.answer_a; answer_b = h.answer_b }

same_goes : (s : Side) (e : PathEnd) (p : PathState Carried) → e.tcp.state ≡ (end_at s p).tcp.state → e.treated.answer ≡ (end_at s p).treated.answer → HasRoles p → Goes s p e
same_goes s e p state answer h = record { role = λ joins is. ap (is_apart s) (sym state) ∙ is; answer = subst IsNoSyn (sym answer) (answer_at s p h) }

same_roles : (s : Side) (e : PathEnd) (ds : List Duty) (p : PathState Carried) → e.tcp.state ≡ (end_at s p).tcp.state → e.treated.answer ≡ (end_at s p).treated.answer → HasRoles p → HasRoles (goes_on s e ds p)
same_roles s e ds p state answer h = goes_roles s e ds p (same_goes s e p state answer h) h

-- ---- a segment is handed over

changed_tells : (joined : Bool) (to : Side) (strips alters : Bool) (carried : Carried) → TellsKey joined to carried.segment → TellsKey joined to (changed stripped altered strips alters carried).segment
changed_tells joined to true false carried tells = tells
changed_tells joined to false false carried tells = tells
changed_tells false to true true carried tells = tt
changed_tells false to false true carried tells = tt
changed_tells true A true true carried tells = tells
changed_tells true A false true carried tells = tells
changed_tells true B true true carried tells = tells
changed_tells true B false true carried tells = tells

-- what arrives shows no more
pub arrived_tells : (joined : Bool) (to : Side) (carried : Carried) → TellsKey joined to carried.segment → TellsKey joined to (as_arrived carried)
arrived_tells false to carried tells = tt
arrived_tells true A carried tells =
    if_so (λ z. TellsKey true A (record carried.segment { options = z })) carried.stripped [] carried.segment.options
    (λ some. absurd (false≢true (sym some))) tells
arrived_tells true B carried tells =
    if_so (λ z. TellsKey true B (record carried.segment { options = z })) carried.stripped [] carried.segment.options
    (λ some. absurd (false≢true (sym some))) tells

sent_copies : (s : Side) (sg : PlainSegment) (p : PathState Carried) → TellsKey (is_joined p.profile) (peer s) sg → Every (CopyTells (is_joined p.profile)) p.link.under_way
    → (e : PathEnd) (ds : List Duty) → Every (CopyTells (is_joined p.profile)) (sent_on values s sg e ds p).link.under_way
sent_copies s sg p tells copies e ds =
    let number = next_number s p.link in
    handed_kept (CopyTells (is_joined p.profile)) s sg p
    (λ tick. changed_tells (is_joined p.profile) (peer s) (is_stripped s number p.clock p.link.lines) (is_altered s number p.link.lines) (carried_by p.profile.spelling s sg) tells) copies

sent_roles : (s : Side) (sg : PlainSegment) (e : PathEnd) (ds : List Duty) (p : PathState Carried) → TellsKey (is_joined p.profile) (peer s) sg → Goes s p e → HasRoles p → HasRoles (sent_on values s sg e ds p)
sent_roles A sg e ds p tells g h =
    let n = goes_roles A e ds p g h in
    record { copies = sent_copies A sg p tells h.copies e ds; role_a = n.role_a; role_b = n.role_b; answer_a = n.answer_a; answer_b = n.answer_b }
sent_roles B sg e ds p tells g h =
    let n = goes_roles B e ds p g h in
    record { copies = sent_copies B sg p tells h.copies e ds; role_a = n.role_a; role_b = n.role_b; answer_a = n.answer_a; answer_b = n.answer_b }

same_sent : (s : Side) (sg : PlainSegment) (e : PathEnd) (ds : List Duty) (p : PathState Carried) → TellsKey (is_joined p.profile) (peer s) sg → e.tcp.state ≡ (end_at s p).tcp.state
    → e.treated.answer ≡ (end_at s p).treated.answer → HasRoles p → HasRoles (sent_on values s sg e ds p)
same_sent s sg e ds p tells state answer h = sent_roles s sg e ds p tells (same_goes s e p state answer h) h

ack_tells : (s : Side) (position : ℕ) (fin : Option ℕ) (p : PathState Carried) → TellsKey (is_joined p.profile) (peer s) (ack_said p.profile s position fin (end_at s p))
ack_tells s position fin p = no_syn (is_joined p.profile) s (ack_said p.profile s position fin (end_at s p)) refl

carried_tells : (s : Side) (o : Option ℕ) (p : PathState Carried) → TellsKey (is_joined p.profile) (peer s) (carried_said p.profile s o (end_at s p))
carried_tells s (Some key) p = no_syn (is_joined p.profile) s (carried_said p.profile s (Some key) (end_at s p)) refl
carried_tells s None p = ack_tells s (end_at s p).tcp.send.nxt None p

noted_tells : (s : Side) (o : Option OwnNotice) (p : PathState Carried) → TellsKey (is_joined p.profile) (peer s) (noted_said p.profile s o (end_at s p))
noted_tells s (Some notice) p = no_syn (is_joined p.profile) s (noted_said p.profile s (Some notice) (end_at s p)) refl
noted_tells s None p = ack_tells s (end_at s p).tcp.send.nxt None p

-- ---- in silence

item_goes : (s : Side) (o : Option Heard) (p : PathState Carried) → HasRoles p → Goes s p (item_passed s o (end_at s p))
item_goes s o p h =
    let e : PathEnd = end_at s p in
    item_so (Goes s p) s o e (same_goes s e p refl refl h) (same_goes s (after_dss s e) p refl refl h) (λ next. same_goes s (with_data_ack next e) p refl refl h)
    (same_goes s (with_learned e) p refl refl h) (same_goes s (with_skipped e) p refl refl h) (λ place. same_goes s (with_data_fin place e) p refl refl h)

edge_goes : (s : Side) (checksums : Bool) (o : Option KeptMapping) (p : PathState Carried) → HasRoles p → Goes s p (forgotten_by checksums o (end_at s p))
edge_goes s checksums o p h = let e : PathEnd = end_at s p in
    forgets_so (Goes s p) checksums o e (λ recv forgotten. same_goes s (record e { tcp = record e.tcp { recv = recv } }) p refl refl h)

keep_goes : (s : Side) (b : Bool) (held : Option ℕ) (p : PathState Carried) → HasRoles p
    → Goes s p (record (end_at s p) { tcp = (if b then after_dropping_held (end_at s p).tcp else after_keeping_held (end_at s p).tcp); treated = record (end_at s p).treated { held_edge = held } })
keep_goes s true held p h = same_goes s (record (end_at s p) { tcp = after_dropping_held (end_at s p).tcp; treated = record (end_at s p).treated { held_edge = held } }) p refl refl h
keep_goes s false held p h = same_goes s (record (end_at s p) { tcp = after_keeping_held (end_at s p).tcp; treated = record (end_at s p).treated { held_edge = held } }) p refl refl h

fin_goes : (s : Side) (b : Bool) (p : PathState Carried) → HasRoles p → Goes s p (record (end_at s p) { tcp = (if b then after_passing_fin (end_at s p).tcp else (end_at s p).tcp) })
fin_goes s true p h = record { role = λ joins is. sym (passed_apart s (end_at s p).tcp.state) ∙ is; answer = answer_at s p h }
fin_goes s false p h = same_goes s (end_at s p) p refl refl h

passed_roles : (d : Duty) (p : PathState Carried) → HasRoles p → HasRoles (passed d p)
passed_roles (Duty.Silent (SilentDuty.Timer s)) p h = with_roles s (with_timer_settled p.clock (end_at s p)) p (same_goes s (with_timer_settled p.clock (end_at s p)) p refl refl h) h
passed_roles (Duty.Step (StepDuty.Heard s index)) p h = with_roles s (item_passed s (item_of index (end_at s p)) (end_at s p)) p (item_goes s (item_of index (end_at s p)) p h) h
passed_roles (Duty.Silent (SilentDuty.Keep s)) p h = with_roles s (after_keep s (end_at s p)) p (keep_goes s (is_dropped s (end_at s p)) _ p h) h
passed_roles (Duty.Step (StepDuty.PlainAck s)) p h = with_roles s (with_plain_ack (end_at s p)) p (same_goes s (with_plain_ack (end_at s p)) p refl refl h) h
passed_roles (Duty.Step (StepDuty.Unmapped s)) p h = with_roles s (after_pieces (end_at s p)) p (same_goes s (after_pieces (end_at s p)) p refl refl h) h
passed_roles (Duty.Ask (AskDuty.CheckFailed s)) p h = with_roles s (after_check p.profile (end_at s p)) p (edge_goes s p.profile.spelling.checksums (mapping_here (end_at s p)) p h) h
passed_roles (Duty.Silent (SilentDuty.PassFin s)) p h = with_roles s (after_pass_fin (end_at s p)) p (fin_goes s (is_fin_next (end_at s p).tcp) p h) h
passed_roles _ p h = h

-- ---- events

died_goes : (s : Side) (p : PathState Carried) → Goes s p (died (end_at s p))
died_goes s p = record { role = λ joins is. absurd (false≢true is); answer = tt }

unless_dead_goes : (s : Side) (p : PathState Carried) → HasRoles p → Goes s p (died_unless_dead (end_at s p))
unless_dead_goes s p h = if_so (Goes s p) (is_dead (end_at s p).tcp.state) (end_at s p) (died (end_at s p)) (same_goes s (end_at s p) p refl refl h) (died_goes s p)

line_roles : (action : LineAction) (p : PathState Carried) → HasRoles p → HasRoles (after_line action p)
line_roles (LineAction.Prio s backup) p h = same_roles s (with_priority backup (end_at s p)) (emission s) p refl refl h
line_roles (LineAction.Announce s id) p h = agenda_roles (announces s id) p h
line_roles (LineAction.Withdraw s id) p h = agenda_roles (withdraws s id) p h
line_roles LineAction.Die p h =
    let a = unless_dead_goes A p h in
    let b = unless_dead_goes B p h in
    record {
      copies = Every-nil _;
      role_a = λ joins. stays_false _ _ (a.role joins) (h.role_a joins);
      role_b = λ joins. stays_false _ _ (b.role joins) (h.role_b joins);
      answer_a = a.answer;
      answer_b = b.answer;
    }

begun_roles : (r : Reply) (dead living : List Duty) (p : PathState Carried) → HasRoles p → HasRoles (join_begun r dead living p)
begun_roles r dead living p h = elim (is_never r) as (λ b. HasRoles (if b then goes_on A (never_joined r p.a) dead p else goes_on A (opened_by (keys_begun r) p.a) living p))
    [ true ↦ goes_roles A (never_joined r p.a) dead p (record { role = λ joins is. absurd (false≢true is); answer = tt }) h | false ↦ opens (keys_begun r) ]
  where
    begun : (b : Bool) → is_apart A (if b then after_begin p.a.tcp else p.a.tcp).state ≡ true → is_apart A p.a.tcp.state ≡ true
    begun = elim [ true ↦ λ is. absurd (false≢true is) | false ↦ λ is. is ]

    opens : (o : Option KeyPair) → HasRoles (goes_on A (opened_by o p.a) living p)
    opens None = same_roles A p.a living p refl refl h
    opens (Some keys) = goes_roles A (opened_by (Some keys) p.a) living p (record { role = λ joins. begun (is_waiting p.a.tcp.state); answer = h.answer_a }) h

fired_roles : (s : Side) (p : PathState Carried) → HasRoles p → HasRoles (timer_fired s p)
fired_roles s p h = elim (is_sixth (end_at s p).tcp) as (λ b. HasRoles (goes_on s (record e { tcp = (if b then after_death true e.tcp else after_expiry p.clock e.tcp) }) (template_fired b s) p)) [
  | true ↦ goes_roles s (record e { tcp = after_death true e.tcp }) (template_fired true s) p (record { role = λ joins is. absurd (false≢true is); answer = answer_at s p h }) h
  | false ↦ same_roles s (record e { tcp = after_expiry p.clock e.tcp }) (template_fired false s) p refl refl h
]
  where
    e : PathEnd
    e = end_at s p

-- ---- a copy

joined_role : (now : ℕ) (heard : HeardSegment) (s : Side) (told : List KeptMapping) (answer : Outgoing) (e : PathEnd) (joined : Bool) → joined ≡ true
    → is_apart s (copy_judged joined told answer s now heard (taken_as (judged_in joined s heard e)) e).tcp.state ≡ true → is_apart s e.tcp.state ≡ true
joined_role now heard s told answer e false joins is = absurd (false≢true joins)
joined_role now heard s told answer e true joins is =
    let items = items_of true s heard in
    let v : Judged = judged_in true s heard e in
    let none : WakesNone (taken_as v) e.tcp = joined_wakes_none heard.rst items e (copy_of heard) in
    apart_stays s (taken_as v) (hint_of items) now (copy_of heard) heard.payload e.tcp none.no_syn
    (ap (is_apart s) (sym (arrived_state (taken_as v) (owes_by (taken_as v) items) (hint_of items) now (copy_of heard) heard.payload e.tcp)) ∙ is)

heard_roles : (now : ℕ) (s : Side) (heard : HeardSegment) (p : PathState Carried) → HasRoles p → HasRoles (heard_at now s (Some heard) p)
heard_roles now s h p roles =
    let heard : HeardSegment = options_heard (end_at s p) h in
    let joined : Bool = is_joined p.profile in
    let v : Judged = judged_in joined s heard (end_at s p) in
    goes_roles s (after_judged p.profile s now heard v (end_at s p)) (template_of joined s (items_of joined s heard) v) p
    (record {
      role = λ joins is. joined_role now heard s (held_of p.profile s heard) (reset_for p.profile s heard) (end_at s p) joined joins is;
      answer = reset_answers p.profile s heard;
    }) roles

copy_roles : (s : Side) (o : Option HeardSegment) (p : PathState Carried) → HasRoles p → HasRoles (copy_heard s o p)
copy_roles s None p h = agenda_roles (emission s) p h
copy_roles s (Some heard) p h = heard_roles p.clock s heard p h

event_roles : (o : Option Event) (r : Reply) (p : PathState Carried) → HasRoles p → HasRoles (happens_if values o r p)
event_roles None r p h = agenda_roles rest_of_turn p h
event_roles (Some (Event.Joins tick)) r p h =
    begun_roles r (leaves A) (emission A) (record (at_tick tick p) { joined_at = None })
    (record { copies = h.copies; role_a = h.role_a; role_b = h.role_b; answer_a = h.answer_a; answer_b = h.answer_b })
event_roles (Some (Event.Takes line)) r p h =
    line_roles line.action (record (at_tick line.tick p) { lines = tail_of p.lines })
    (record { copies = h.copies; role_a = h.role_a; role_b = h.role_b; answer_a = h.answer_a; answer_b = h.answer_b })
event_roles (Some (Event.Arrives due)) r p h =
    copy_roles due.to (heard_in values due.to (arriving due p.link) p) (record (at_tick due.tick p) { link = after_delivery due p.link })
    (record { copies = rest (position (is_due due) p.link.under_way); role_a = h.role_a; role_b = h.role_b; answer_a = h.answer_a; answer_b = h.answer_b })
  where
    rest : (o : Option ℕ) → Every (CopyTells (is_joined p.profile)) (without o p.link.under_way)
    rest None = h.copies
    rest (Some place) = record { each = λ i f at. let there = in_removed p.link.under_way place i f at in h.copies.each there.0 f there.1 }
event_roles (Some (Event.Fires s tick)) r p h =
    fired_roles s (at_tick tick p) (record { copies = h.copies; role_a = h.role_a; role_b = h.role_b; answer_a = h.answer_a; answer_b = h.answer_b })

-- ---- replies

reset_roles : (s : Side) (reason : Option ℕ) (ds : List Duty) (p : PathState Carried) → HasRoles p → HasRoles (reset_on values s reason ds p)
reset_roles s reason ds p h = sent_roles s (reset_of s reason p) (died (end_at s p)) ds p (no_syn (is_joined p.profile) s (reset_of s reason p) refl) (died_goes s p) h

break_roles : (s : Side) (reason : ℕ) (r : Reply) (p : PathState Carried) → HasRoles p → HasRoles (answered_break values s reason r p)
break_roles s reason r p h =
    if_so HasRoles (end_at s p).treated.asked (answered_ack_out s r (resets s reason) p) (reset_on values s (Some reason) (leaves s) p)
    (same_roles s (after_ack_out r (end_at s p)) (resets s reason) p refl refl h) (reset_roles s (Some reason) (leaves s) p h)

told_roles : (s : Side) (event : FallEvent) (r : Reply) (p : PathState Carried) → HasRoles p → HasRoles (answered_fell s event r p)
told_roles s event r p h = same_roles s (after_fell event r (end_at s p)) (fell_duties s r p) p refl refl h

grant_roles : (s : Side) (o : Option Grant) (r : Reply) (p : PathState Carried) → HasRoles p → HasRoles (answered_grant s o r p)
grant_roles s None r p h = same_roles s _ (left p) p refl refl h
grant_roles s (Some grant) r p h = same_roles s _ p.agenda p refl refl h

data_roles : (s : Side) (o : Option Record) (r : Reply) (p : PathState Carried) → HasRoles p → HasRoles (answered_data values s o r p)
data_roles s (Some unsent) r p h = same_sent s _ _ p.agenda p (record_or_ack_tells p.profile s (end_at s p) (first_unsent (end_at s p))) refl refl h
data_roles s None r p h = grant_roles s (grant_in r) r p h

keys_roles : (s : Side) (r : Reply) (o : Option KeyPair) (p : PathState Carried) → HasRoles p → HasRoles (goes_on s (after_keys r o (end_at s p)) (left p) p)
keys_roles s r o p h = same_roles s (after_keys r o (end_at s p)) (left p) p refl refl h

heard_answered_roles : (s : Side) (item : Heard) (r : Reply) (p : PathState Carried) → HasRoles p → HasRoles (answered_heard values s item r p)
heard_answered_roles s (Heard.DataAck next window) r p h = same_roles s (with_acked next r (end_at s p)) _ p refl refl h
heard_answered_roles s (Heard.Mapping fin) r p h =
    if_so HasRoles (is_clash (end_at s p)) (answered_break values s 1 r p) (goes_on s (with_learned (after_fell FallEvent.MappingHeard r (end_at s p))) (fell_duties s r p) p)
    (break_roles s 1 r p h) (same_roles s (with_learned (after_fell FallEvent.MappingHeard r (end_at s p))) (fell_duties s r p) p refl refl h)
heard_answered_roles s (Heard.DataFin place) r p h = same_roles s (with_data_fin place (after_fell FallEvent.MappingHeard r (end_at s p))) (fell_duties s r p) p refl refl h
heard_answered_roles s (Heard.InfiniteMapping place position) r p h =
    infinite_came_so (λ e. HasRoles (goes_on s e (fell_duties s r p) p)) place position r (end_at s p) (λ other. same_roles s _ (fell_duties s r p) p refl refl h)
heard_answered_roles s (Heard.Keys mine other) r p h = keys_roles s r (Some (record { own = mine; peer = other })) p h
heard_answered_roles s Heard.Dss r p h = agenda_roles (left p) p h
heard_answered_roles s (Heard.PeerKey key) r p h = agenda_roles (left p) p h
heard_answered_roles s (Heard.Join form) r p h = agenda_roles (left p) p h
heard_answered_roles s (Heard.Notice notice) r p h = same_roles s (after_peer_notice notice r (end_at s p)) (left p) p refl refl h
heard_answered_roles s Heard.Fail r p h =
    fail_answered_so HasRoles s r p (same_roles s (with_infinite r (end_at s p)) (replaced (Duty.Ask (AskDuty.FailHeard s)) p.agenda) p refl refl h) (told_roles s (FallEvent.FailHeard false) r p h)
heard_answered_roles s (Heard.FastClose key) r p h = agenda_roles (if is_stopped_by r then stops s else left p) p h

item_answered_roles : (s : Side) (o : Option Heard) (r : Reply) (p : PathState Carried) → HasRoles p → HasRoles (answered_item values s o r p)
item_answered_roles s None r p h = agenda_roles (left p) p h
item_answered_roles s (Some item) r p h = heard_answered_roles s item r p h

plain_ack_roles : (s : Side) (r : Reply) (p : PathState Carried) → HasRoles p → HasRoles (answered_plain_ack values s r p)
plain_ack_roles s r p h =
    if_so HasRoles (breaks_by_ack p.profile (end_at s p)) (answered_break values s 6 r p) (goes_on s (with_plain_ack (after_fell FallEvent.PlainAck r (end_at s p))) (fell_duties s r p) p)
    (break_roles s 6 r p h) (same_roles s (with_plain_ack (after_fell FallEvent.PlainAck r (end_at s p))) (fell_duties s r p) p refl refl h)

answer_tells : (s : Side) (p : PathState Carried) → TellsKey (is_joined p.profile) (peer s) (answer_of s p)
answer_tells s p =
    if_so (TellsKey (is_joined p.profile) (peer s)) (end_at s p).tcp.due.syn_ack (syn_ack_said p.profile s (end_at s p)) (ack_said p.profile s (end_at s p).tcp.send.nxt None (end_at s p))
    (syn_ack_tells p.profile s (end_at s p)) (ack_tells s (end_at s p).tcp.send.nxt None p)

resend_tells : (s : Side) (p : PathState Carried) → TellsKey (is_joined p.profile) (peer s) (resend_of s p)
resend_tells s p = by (has_records e.tcp) e.modes.owes_third e.notices.fast_closed (is_data_fin_owed e)
  where
    e : PathEnd
    e = end_at s p

    by : (records third closed owes : Bool) → TellsKey (is_joined p.profile) (peer s) (if records then record_or_ack p.profile s (first_record e) e
        else (if third then ack_said p.profile s e.tcp.send.nxt None e
        else (if closed then carried_said p.profile s e.notices.carrier e
        else (if owes then ack_said p.profile s e.tcp.send.nxt e.sending.known_end e else ack_said p.profile s (e.tcp.send.una - 1) None e))))
    by true third closed owes = record_or_ack_tells p.profile s e (first_record e)
    by false true closed owes = ack_tells s e.tcp.send.nxt None p
    by false false true owes = carried_tells s e.notices.carrier p
    by false false false true = ack_tells s e.tcp.send.nxt e.sending.known_end p
    by false false false false = ack_tells s (e.tcp.send.una - 1) None p

-- a join is heard of
listening_apart : (state : EndPhase) → is_listening state ≡ true → is_apart A state ≡ true
listening_apart EndPhase.Listen is = refl
listening_apart EndPhase.Waiting is = absurd (false≢true is)
listening_apart _ is = absurd (false≢true is)

heard_apart : (s : Side) (b : Bool) (e : PathEnd) → is_listening e.tcp.state ≡ b → is_apart s (if b then after_syn (unkept None) (syn_of_window e.treated.window) e.tcp else e.tcp).state ≡ true
    → is_apart s e.tcp.state ≡ true
heard_apart A true e listens is = listening_apart e.tcp.state listens
heard_apart B true e listens is = absurd (false≢true is)
heard_apart s false e listens is = is

joined_roles : (s : Side) (o : Option KeyPair) (asked : Option JoinSyn) (r : Reply) (p : PathState Carried) → HasRoles p → HasRoles (join_taken s o asked r p)
joined_roles s None None r p h = agenda_roles _ p h
joined_roles s None (Some asked) r p h = same_roles s (with_mode_refused r (end_at s p)) (replaced (Duty.Send (SendDuty.Refuse s)) p.agenda) p refl refl h
joined_roles s (Some keys) None r p h = agenda_roles _ p h
joined_roles s (Some keys) (Some asked) r p h =
    goes_roles s (joined_by keys asked (end_at s p)) _ p
    (record { role = λ joins is. heard_apart s (is_listening (end_at s p).tcp.state) (end_at s p) refl is; answer = answer_at s p h }) h

occasion_goes : (s : Side) (o : Occasion) (sg : PlainSegment) (p : PathState Carried) → HasRoles p → Goes s p (having_sent o p.clock sg (end_at s p))
occasion_goes s o sg p h = same_goes s (having_sent o p.clock sg (end_at s p)) p (same o) refl h
  where
    tcp : EndState
    tcp = (end_at s p).tcp

    same : (o : Occasion) → (after_sending o p.clock tcp).state ≡ tcp.state
    same = elim [ Occasion.Reset ↦ refl | _ ↦ refl ]

-- where neither the phase nor what the copy said may be written, and no segment is sent
end_kept : (w : EndWrites) (e f : PathEnd) → w.phase ≡ false → w.copy ≡ false → Only w e f → (f.tcp.state ≡ e.tcp.state) × (f.treated.answer ≡ e.treated.answer)
end_kept w e f phase said x = (
  unwritten w.phase e.tcp.state f.tcp.state phase (ap (λ (v : EndView). v.phase) x.same),
  ap (λ (t : Treated). t.answer) (unwritten w.copy (copy_said e.treated) (copy_said f.treated) said (ap (λ (v : EndView). v.copy) x.same)),
)

kept_by : (s : Side) (w : Writes) (p q : PathState Carried) → w.own.phase ≡ false → w.own.copy ≡ false → w.other.phase ≡ false → w.other.copy ≡ false → w.link ≡ false
    → OnlyAt s w p q → HasRoles p → HasRoles q
kept_by s w p q own_phase own_copy other_phase other_copy link x h =
    let profile : q.profile ≡ p.profile = ap (λ (v : PathView Carried). v.profile) x.same in
    let linked : q.link ≡ p.link = unwritten w.link p.link q.link link (ap (λ (v : PathView Carried). v.link) x.same) in
    let both = both_ends (λ e f. (f.tcp.state ≡ e.tcp.state) × (f.treated.answer ≡ e.treated.answer)) s w p q
    (λ e f y. end_kept w.own e f own_phase own_copy y) (λ e f y. end_kept w.other e f other_phase other_copy y) x in
    record {
      copies = subst (λ (l : LinkState Carried). Every (CopyTells (is_joined q.profile)) l.under_way) (sym linked)
          (subst (λ (c : Profile). Every (CopyTells (is_joined c)) p.link.under_way) (sym profile) h.copies);
      role_a = λ joins. ap (is_apart A) both.0.0 ∙ h.role_a (ap is_joined (sym profile) ∙ joins);
      role_b = λ joins. ap (is_apart B) both.1.0 ∙ h.role_b (ap is_joined (sym profile) ∙ joins);
      answer_a = subst IsNoSyn (sym both.0.1) h.answer_a;
      answer_b = subst IsNoSyn (sym both.1.1) h.answer_b;
    }

answered_roles : (d : Duty) (r : Reply) (p : PathState Carried) → HasRoles p → HasRoles (answered values d r p)
answered_roles (Duty.Ask AskDuty.JoinAgain) r p h = begun_roles r (replaced (Duty.Ask (AskDuty.Leave A)) p.agenda) (left p) p h
answered_roles (Duty.Send (SendDuty.Update s)) r p h = same_sent s _ _ (left p) p (ack_tells s (end_at s p).tcp.send.nxt None p) refl refl h
answered_roles (Duty.Send (SendDuty.FastClose s)) r p h = same_sent s _ _ (left p) p (carried_tells s (end_at s p).notices.carrier p) refl refl h
answered_roles (Duty.Send (SendDuty.Notice s)) r p h = same_sent s _ _ p.agenda p (noted_tells s (first_of (end_at s p).notices.queue) p) refl refl h
answered_roles (Duty.Send (SendDuty.Syn s)) r p h = same_sent s _ _ (left p) p (record_or_ack_tells p.profile s (end_at s p) (first_unsent (end_at s p))) refl refl h
answered_roles (Duty.Step (StepDuty.Data s)) r p h = data_roles s (first_unsent (end_at s p)) r p h
answered_roles (Duty.Send (SendDuty.DataFin s)) r p h = same_sent s _ _ (left p) p (ack_tells s (end_at s p).tcp.send.nxt (end_at s p).sending.known_end p) refl refl h
answered_roles (Duty.Send (SendDuty.Fin s)) r p h =
    sent_roles s (fin_segment_of s p) (having_sent_fin s p) (left p) p (no_syn (is_joined p.profile) s (fin_segment_of s p) refl)
    (record { role = λ joins apart. sym (finish_apart s (end_at s p).tcp.state) ∙ apart; answer = answer_at s p h }) h
answered_roles (Duty.Step StepDuty.Events) r p h = event_roles (next_event p) r p h
answered_roles (Duty.Send (SendDuty.SynAck s)) r p h = same_sent s _ _ (left p) p (syn_ack_tells p.profile s (end_at s p)) refl refl h
answered_roles (Duty.Ask (AskDuty.JoinHeard s)) r p h = joined_roles s (keys_begun r) (asked_at s p) r p h
answered_roles (Duty.Send (SendDuty.Refuse s)) r p h =
    same_sent s (refusal_of s p) (end_at s p) (left p) p (outgoing_tells p.profile s (end_at s p) (end_at s p).treated.answer (reset_options (Some 1)) (answer_at s p h)) refl refl h
answered_roles (Duty.Step (StepDuty.Heard s index)) r p h = item_answered_roles s (item_of index (end_at s p)) r p h
answered_roles (Duty.Step (StepDuty.PlainAck s)) r p h = plain_ack_roles s r p h
answered_roles (Duty.Step (StepDuty.Unmapped s)) r p h = break_roles s 6 r p h
answered_roles (Duty.Send (SendDuty.Acknowledge s)) r p h = same_sent s _ _ (left p) p (ack_tells s (end_at s p).tcp.send.nxt None p) refl refl h
answered_roles (Duty.Send (SendDuty.Again s)) r p h = same_sent s _ _ (left p) p (record_or_ack_tells p.profile s (end_at s p) (first_record (end_at s p))) refl refl h
answered_roles (Duty.Send (SendDuty.Answer s)) r p h = sent_roles s (answer_of s p) _ (left p) p (answer_tells s p) (occasion_goes s (answer_occasion (end_at s p)) (answer_of s p) p h) h
answered_roles (Duty.Send (SendDuty.ResetAnswer s)) r p h =
    same_sent s (dead_answer s p) (end_at s p) (left p) p (outgoing_tells p.profile s (end_at s p) (end_at s p).treated.answer [] (answer_at s p h)) refl refl h
answered_roles (Duty.Send (SendDuty.Resend s)) r p h = sent_roles s (resend_of s p) _ (left p) p (resend_tells s p) (occasion_goes s (resend_occasion (end_at s p)) (resend_of s p) p h) h
answered_roles (Duty.Send (SendDuty.BreakReset s reason)) r p h = reset_roles s (Some reason) (leaves s) p h
answered_roles (Duty.Send (SendDuty.Reset s)) r p h = reset_roles s None (replaced (Duty.Ask (AskDuty.Leave s)) p.agenda) p h
answered_roles (Duty.Send (SendDuty.ResetNoted s)) r p h = reset_roles s None (replaced (Duty.Ask (AskDuty.Leave s)) p.agenda) p h
answered_roles (Duty.Ask (AskDuty.LeaveNoted s)) r p h = goes_roles s (died (end_at s p)) _ p (record { role = λ joins is. absurd (false≢true is); answer = tt }) h
answered_roles (Duty.Silent d) r p h = agenda_roles (left p) p h
answered_roles d r p h = kept_by (side_of d) (writes d) p _ refl refl refl refl refl (writes_no_more values d r p) h

roles_last : Lasts (λ (p q : PathState Carried). HasRoles p → HasRoles q)
roles_last = record { agenda = λ ds p h. agenda_roles ds p h; chains = λ p q r x y h. y (x h); passes = λ d p h. passed_roles d p h }

pub takes_roles : (r : Reply) (p : PathState Carried) → HasRoles p → HasRoles (takes values r p)
takes_roles r p h = takes_lasts (λ p q. HasRoles p → HasRoles q) roles_last values r p (λ d h. answered_roles d r p h) h

pub begins_roles : (p : PathState Carried) → HasRoles p → HasRoles (begins_turn p)
begins_roles p h = begins_lasts (λ p q. HasRoles p → HasRoles q) roles_last p h
