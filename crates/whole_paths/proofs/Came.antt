-- Nothing is acknowledged that didn't come: each copy acknowledges what had come to its sender at most, and so does SND.UNA.
use Rattle.std.proofs.Common.{◌≡◌, refl, sym, subst, ap, ◌∙◌, ◌⊎◌, inl, inr, ⊎_elim, ℕ, ◌+◌, ◌≤◌, arith, nat_lt, nat_le, ◌==◌, Bool, true, false, true≢false, ◌&&◌, ◌||◌, if◌then◌else◌, Option, Some, None, is_some, List, [], ◌∷◌, le_refl}
use Rattle.std.specs.Prelude.{IfSome}
use Rattle.std.specs.Option.{option_map}
use Rattle.std.specs.List.{position, slice_get}
use Rattle.std.proofs.lemmas.Bool.{and_parts, or_parts}
use Rattle.std.proofs.lemmas.Option.{same_Some}
use Rattle.path_segments.specs.declared.position.HeardPosition.TheVariants.{At}
use Rattle.path_segments.specs.Heard.{HeardSegment}
use Rattle.path_segments.specs.Laws.{meant}
use Rattle.path_segments.specs.Spelled.{PlainSegment}
use Rattle.sides.specs.declared.side.Side.{Side}
use Rattle.sides.specs.declared.side.Side.TheVariants.{A, B}
use Rattle.sides.specs.Side.{peer}
use Rattle.fallback_state.specs.declared.fall.Event.TheVariants as events
use Rattle.link_script.specs.Places.{same_side}
use Rattle.link_model.specs.Fate.{is_stripped, is_altered}
use Rattle.link_model.specs.State.{LinkState}
use Rattle.link_model.specs.Steps.{arriving, after_delivery, without, is_due, changed, next_number}
use Rattle.link_model.specs.declared.flight.Due.{Due}
use Rattle.link_model.specs.declared.flight.Flight.{Flight}
use Rattle.stream_lanes.specs.Words.{Every}
use Rattle.subflow_send.specs.Records.{Record, SendState}
use Rattle.subflow_send.specs.Rules.{ack_kind, after_acknowledge, sample_of, after_resent, uncovered}
use Rattle.subflow_send.specs.declared.record.AckKind.TheVariants.{New, Duplicate, Old, Future}
use Rattle.subflow_tcp.specs.declared.handshake.State.TheVariants as phase
use Rattle.subflow_tcp.specs.declared.segments.Hint.{Hint}
use Rattle.subflow_tcp.specs.declared.segments.Occasion.{Occasion}
use Rattle.subflow_tcp.specs.declared.segments.Occasion.TheVariants as occasions
use Rattle.subflow_tcp.specs.declared.segments.Outgoing.{Outgoing}
use Rattle.subflow_tcp.specs.declared.verdicts.Meaning.{Meaning}
use Rattle.subflow_tcp.specs.declared.verdicts.Meaning.TheVariants as means
use Rattle.subflow_tcp.specs.Emitting.{after_sending}
use Rattle.subflow_tcp.specs.Expiring.{after_expiry, is_sixth}
use Rattle.subflow_tcp.specs.Judging.{meaning_of, meaning_at, meaning_opening, meaning_answering}
use Rattle.subflow_tcp.specs.Opening.{after_begin}
use Rattle.subflow_tcp.specs.Segments.{Copy}
use Rattle.subflow_tcp.specs.State.{EndState, is_at_limit}
use Rattle.subflow_tcp.specs.States.{is_dead, is_waiting}
use Rattle.subflow_tcp.specs.Taking.{after_death, after_dropping_held, after_keeping_held, after_payload, after_ack_kind, after_acknowledgement, is_duplicate, after_duplicate, after_interruption, told_by, after_telling, after_heard_ack, after_established, after_hearing, after_taken, after_holding}
use Rattle.actor_desk.specs.declared.ask.Reply.{Reply}
use Rattle.actor_desk.specs.Words.{tail_of, is_nil, pick}
use Rattle.path_agenda.specs.Agenda.{start_of_turn, leaves, resets, emission}
use Rattle.path_agenda.specs.declared.duty.Duty.{Duty}
use Rattle.path_agenda.specs.declared.duty.Duty.TheVariants as duties
use Rattle.path_agenda.specs.declared.duty.AskDuty.TheVariants as ask_duties
use Rattle.path_agenda.specs.declared.duty.SendDuty.{SendDuty}
use Rattle.path_agenda.specs.declared.duty.SendDuty.TheVariants as send_duties
use Rattle.path_agenda.specs.declared.duty.SilentDuty.TheVariants as silent_duties
use Rattle.path_agenda.specs.declared.duty.StepDuty.TheVariants as step_duties
use Rattle.path_agenda.specs.declared.heard.Heard.{Heard}
use Rattle.path_agenda.specs.declared.heard.Heard.TheVariants as says
use Rattle.path_agenda.specs.declared.keys.KeyPair.{KeyPair}
use Rattle.path_store.specs.declared.lines.LineAction.{LineAction}
use Rattle.path_store.specs.declared.lines.LineAction.TheVariants as actions
use Rattle.path_core.specs.Addresses.{with_priority}
use Rattle.path_core.specs.Arrival.{acknowledged_in, judged_in, after_judged, copy_heard, heard_in, copy_of, copy_judged, reset_for, owing_if, with_payload}
use Rattle.path_core.specs.Breaking.{answered_break, reset_on, died_unless_dead}
use Rattle.path_core.specs.Codec.{Codec}
use Rattle.path_core.specs.Deliver.{after_keep, is_dropped, is_not_kept}
use Rattle.path_core.specs.DssIn.{counts, is_clash, held_of, with_learned, with_skipped, with_data_fin}
use Rattle.path_core.specs.Duties.{passed, sent_for, answered}
use Rattle.path_core.specs.Emission.{answer_occasion, answered_data, answered_grant, first_unsent, Grant, grant_in, resend_occasion}
use Rattle.path_core.specs.End.{PathEnd, died}
use Rattle.path_core.specs.Events.{next_event, after_line, happens_if}
use Rattle.path_core.specs.Fallback.{breaks_by_ack, after_fell, fell_duties, with_plain_ack}
use Rattle.path_core.specs.Handover.{handed}
use Rattle.path_core.specs.Judged.{taken_as}
use Rattle.path_core.specs.Looking.{duty_sends, segment_sent, send_of, unsent_sends, heard_sends, broken_by, Hands, HandsOrTellsNone}
use Rattle.path_core.specs.MpJoin.{join_begun, is_joined, is_never, never_joined, keys_begun, opened_by, with_keys}
use Rattle.path_core.specs.OptionsIn.{items_of, options_heard, hint_of, owes_by}
use Rattle.path_core.specs.Profile.{Profile}
use Rattle.path_core.specs.Standing.{answered_ack_out, after_ack_out}
use Rattle.path_core.specs.Start.{waiting_path}
use Rattle.path_core.specs.State.{PathState, at_tick, end_at, goes_on, with_agenda}
use Rattle.path_core.specs.Steps.{settled, takes, begins_turn}
use Rattle.path_core.specs.Timer.{after_firing, timer_fired}
use Rattle.path_core.specs.Treated.{Treated, nothing_treated}
use Rattle.path_core.specs.Treating.{item_passed, answered_heard, answered_item, item_of}
use Rattle.path_core.specs.Values.{Carried, values, as_arrived, carried_by, stripped, altered}
use Rattle.path_core.specs.declared.events.Event.{Event}
use Rattle.path_core.specs.declared.events.Event.TheVariants as happenings
use Rattle.path_core.proofs.Judgements.{judged_taken}
use Rattle.path_core.proofs.SegmentsTold.{each_segment_is_told}
use Rattle.world_laws.specs.declared.member.Member.TheVariants.{App, Path}
use Rattle.world_laws.specs.Actors.{Actor, ActorCrew, member_takes, member_next}
use Rattle.world_laws.specs.Laws.{Always}
use Rattle.world_laws.specs.Members.{HoldsOfKind}
use Rattle.world_laws.specs.Openings.{PathPlan, Start, path_begins, opened_world}
use Rattle.world_laws.specs.StampedBooks.{answer_to}
use Rattle.world_laws.specs.Worlds.{Turn, world_run}
use Rattle.world_laws.specs.Writes.{EndWrites, EndView, Writes, PathView, Only, OnlyAt, nothing, writes, side_of, copy_said}
use Rattle.world_laws.proofs.Falls.FailedChecks.{infinite_came_so, fail_answered_so}
use Rattle.world_laws.proofs.Keys.Held.{in_removed}
use Rattle.world_laws.proofs.Lanes.Saying.{handed_kept}
use Rattle.world_laws.proofs.Rounds.Lifting.{run_lifted, opened_lifted}
use Rattle.world_laws.proofs.Whole.Ends.{MeansIs, means_so}
use Rattle.world_laws.proofs.Worlds.Finding.{find_every, one_side}
use Rattle.world_laws.proofs.Writes.Paths.{writes_no_more, passes_no_more}
use Rattle.world_laws.proofs.Writes.Steps.{Lasts, unwritten, both_ends, settled_lasts}
use Rattle.whole_paths.specs.AgendaSteps.{is_gone}
use Rattle.whole_paths.specs.Came.{AcksUpTo, AcksWhatCame, HasCome, WhatIsAcknowledgedCame}
use Rattle.whole_paths.specs.EndSteps.{PathStep}
use Rattle.whole_paths.specs.Saying.{SaysWhatCame}
use Rattle.whole_paths.specs.Saying.{SaysWhatCame as say}
use Rattle.whole_paths.proofs.Agendas.{own_end}
use Rattle.whole_paths.proofs.Copies.{LinkStays, links_last}
use Rattle.whole_paths.proofs.Duties.{passed_steps, answered_steps}
use Rattle.whole_paths.proofs.Pieces.{is_event}
use Rattle.whole_paths.proofs.Saying.{ToSend, AllSay, duty_so}
use Rattle.whole_paths.proofs.Settling.{sides}
use Rattle.whole_paths.proofs.Waiting.{Far, far_then, same_far, gone_stays, path_far}

-- ---- copies

acks_higher : (low high : ℕ) (x : PlainSegment) → low ≤ high → AcksUpTo low x → AcksUpTo high x
acks_higher low high x up (inl reset) = inl reset
acks_higher low high x up (inr acks) = inr (by x.acknowledged acks)
  where
    by : (o : Option ℕ) → IfSome o (λ n. n ≤ low) → IfSome o (λ n. n ≤ high)
    by None is = tt
    by (Some n) is = omega (arith, is, up)

-- as each segment says what came
says_up : (e : PathEnd) (x : PlainSegment) → IfSome e.treated.answer (λ (o : Outgoing). o.rst ≡ true) → SaysWhatCame e x → AcksUpTo e.tcp.recv.edge x
says_up e x answers (say.acknowledges is still) = inr (subst (λ o. IfSome o (λ n. n ≤ e.tcp.recv.edge)) (sym is) (le_refl e.tcp.recv.edge))
says_up e x answers (say.opens state is) = inr (subst (λ o. IfSome o (λ n. n ≤ e.tcp.recv.edge)) (sym is) tt)
says_up e x answers (say.resets is) = inl is
says_up e x answers (say.refuses answer is reset) = inl (reset ∙ subst (λ (o : Option Outgoing). IfSome o (λ (o : Outgoing). o.rst ≡ true)) is answers)

-- the link's changes leave what it acknowledges
changed_up : (strips alters : Bool) (edge : ℕ) (carried : Carried) → AcksUpTo edge carried.segment → AcksUpTo edge (changed stripped altered strips alters carried).segment
changed_up true true edge carried h = h
changed_up true false edge carried h = h
changed_up false true edge carried h = h
changed_up false false edge carried h = h

-- ---- what a copy makes of SND.UNA

-- the one that it acknowledges is new, or SND.UNA stays
acknowledged_una : (pos : ℕ) (v : SendState) → ((after_acknowledge pos v).una ≡ v.una) ⊎ ((after_acknowledge pos v).una ≡ pos)
acknowledged_una pos v = elim (nat_lt v.una pos && nat_le pos v.nxt) as (λ b. ((if b then record v { una = pos; records = uncovered pos v.records } else v).una ≡ v.una) ⊎ ((if b then record v { una = pos; records = uncovered pos v.records } else v).una ≡ pos))
    [ true ↦ inr refl | false ↦ inl refl ]

ack_una : (pos now : ℕ) (s : EndState) → ((after_acknowledgement pos now s).send.una ≡ s.send.una) ⊎ ((after_acknowledgement pos now s).send.una ≡ pos)
ack_una pos now s = subst (λ n. (n ≡ s.send.una) ⊎ (n ≡ pos)) (sym same) (acknowledged_una pos s.send)
  where
    same : (after_acknowledgement pos now s).send.una ≡ (after_acknowledge pos s.send).una
    same = elim (ack_kind pos s.send) as (λ kind. (after_ack_kind kind (sample_of pos s.send) now (record s { send = after_acknowledge pos s.send })).send.una ≡ (after_acknowledge pos s.send).una)
        [ New octets ↦ refl | Duplicate ↦ refl | Old ↦ refl | Future ↦ refl ]

-- a segment that is sent leaves it
sent_una : (occasion : Occasion) (now : ℕ) (s : EndState) → (after_sending occasion now s).send.una ≡ s.send.una
sent_una occasions.SynAck now s = elim (s.send.una == 0) as (λ b. (if b then after_resent now s.send else s.send).una ≡ s.send.una) [ true ↦ refl | false ↦ refl ]
sent_una _ now s = refl

-- ---- what a duty makes of an end

-- what a copy said that is treated, and which byte of it is held
abbrev pub said_of : Treated → Treated
said_of t = record (copy_said t) { held_edge = t.held_edge }

-- nothing of a copy is treated, or what it said stays, and the byte that is held, or that is held no more
abbrev pub Recalls : Treated → Treated → Type 0
Recalls t u = (said_of u ≡ nothing_treated) ⊎ ((copy_said u ≡ copy_said t) × ((u.held_edge ≡ None) ⊎ (u.held_edge ≡ t.held_edge)))

recalls_then : (t u v : Treated) → Recalls t u → Recalls u v → Recalls t v
recalls_then t u v x (inl none) = inl none
recalls_then t u v (inr same) (inr more) = inr (more.0 ∙ same.0, ⊎_elim (λ none. inl none) (λ held. ⊎_elim (λ none. inl (held ∙ none)) (λ still. inr (held ∙ still)) same.1) more.1)
recalls_then t u v (inl none) (inr more) = inl (by (copy_said nothing_treated) (more.0 ∙ ap copy_said none) None (⊎_elim (λ free. free) (λ held. held ∙ ap (λ (w : Treated). w.held_edge) none) more.1))
  where
    by : (c : Treated) → copy_said v ≡ c → (o : Option ℕ) → v.held_edge ≡ o → said_of v ≡ record c { held_edge = o }
    by c is o held = ap (λ (w : Treated). record w { held_edge = v.held_edge }) is ∙ ap (λ o. record c { held_edge = o }) held

-- SND.UNA and what the copy said stay, or the end is dead
pub record Rests (e f : PathEnd) : Type 0 where
  pub una : (is_gone f ≡ true) ⊎ (f.tcp.send.una ≡ e.tcp.send.una)
  pub said : Recalls e.treated f.treated

-- the reset that answers the copy
answer_rests : (e f : PathEnd) → Rests e f → (f.treated.answer ≡ None) ⊎ (f.treated.answer ≡ e.treated.answer)
answer_rests e f x = ⊎_elim (λ none. inl (ap (λ (t : Treated). t.answer) none)) (λ same. inr (ap (λ (t : Treated). t.answer) same.0)) x.said

rests : (e f : PathEnd) → f.tcp.send.una ≡ e.tcp.send.una → said_of f.treated ≡ said_of e.treated → Rests e f
rests e f una said = record { una = inr una; said = inr (ap copy_said said, inr (ap (λ (t : Treated). t.held_edge) said)) }

only_rests : (w : EndWrites) (e f : PathEnd) → w.send ≡ false → (w.copy || w.held_edge) ≡ false → Only w e f → Rests e f
only_rests w e f send copy x =
    let parts = or_parts w.copy w.held_edge copy in record {
      una = inr (ap (λ (v : SendState). v.una) (unwritten w.send e.tcp.send f.tcp.send send (ap (λ (v : EndView). v.send) x.same)));
      said = inr (
        unwritten w.copy (copy_said e.treated) (copy_said f.treated) parts.0 (ap (λ (v : EndView). v.copy) x.same),
        inr (unwritten w.held_edge e.treated.held_edge f.treated.held_edge parts.1 (ap (λ (v : EndView). v.held_edge) x.same)),
      );
    }

item_rests : (s : Side) (o : Option Heard) (e : PathEnd) → Rests e (item_passed s o e)
item_rests s None e = rests e e refl refl
item_rests s (Some (says.Mapping fin)) e = elim (counts e) as (λ b. Rests e (if b then with_learned e else with_skipped e)) [ true ↦ rests e (with_learned e) refl refl | false ↦ rests e (with_skipped e) refl refl ]
item_rests s (Some (says.DataFin place)) e = elim (counts e) as (λ b. Rests e (if b then with_data_fin place e else e)) [ true ↦ rests e (with_data_fin place e) refl refl | false ↦ rests e e refl refl ]
item_rests s (Some _) e = rests e _ refl refl

keep_rests : (s : Side) (e : PathEnd) → Rests e (after_keep s e)
keep_rests s e = record { una = inr (by (is_dropped s e)); said = inr (refl, held (is_not_kept s e)) }
  where
    by : (b : Bool) → (if b then after_dropping_held e.tcp else after_keeping_held e.tcp).send.una ≡ e.tcp.send.una
    by true = refl
    by false = refl

    held : (b : Bool) → ((if b then None else e.treated.held_edge) ≡ None) ⊎ ((if b then None else e.treated.held_edge) ≡ e.treated.held_edge)
    held true = inl refl
    held false = inr refl

opened_rests : (keys : Option KeyPair) (e : PathEnd) → Rests e (opened_by keys e)
opened_rests None e = rests e e refl refl
opened_rests (Some keys) e = elim (is_waiting e.tcp.state) as (λ b. Rests e (record e { tcp = if b then after_begin e.tcp else e.tcp; modes = with_keys keys e.modes }))
    [ true ↦ rests e _ refl refl | false ↦ rests e _ refl refl ]

send_some : (d : SendDuty) → send_of d ≡ None → ⊥
send_some (send_duties.Update s) is = true≢false (ap is_some is)
send_some d is = true≢false (ap is_some is)

module _ {C : Type 0} where
  pub record AllRest (p q : PathState C) : Type 0 where
    pub a : Rests p.a q.a
    pub b : Rests p.b q.b

  pub at_end : {p q : PathState C} → AllRest p q → (t : Side) → Rests (end_at t p) (end_at t q)
  at_end x A = x.a
  at_end x B = x.b

  -- the end of this side becomes that one
  pub side : (s : Side) (f : PathEnd) (p q : PathState C) → Rests (end_at s p) f → q.a ≡ pick s f p.a → q.b ≡ pick s p.b f → AllRest p q
  side A f p q x a b = record { a = subst (λ g. Rests p.a g) (sym a) x; b = subst (λ g. Rests p.b g) (sym b) (rests p.b p.b refl refl) }
  side B f p q x a b = record { a = subst (λ g. Rests p.a g) (sym a) (rests p.a p.a refl refl); b = subst (λ g. Rests p.b g) (sym b) x }

  pub calm : (s : Side) (f : PathEnd) (p q : PathState C) → f.tcp.send.una ≡ (end_at s p).tcp.send.una → said_of f.treated ≡ said_of (end_at s p).treated → q.a ≡ pick s f p.a → q.b ≡ pick s p.b f → AllRest p q
  calm s f p q una said a b = side s f p q (rests (end_at s p) f una said) a b

  dying : (s : Side) (f : PathEnd) (p q : PathState C) → is_gone f ≡ true → said_of f.treated ≡ nothing_treated → q.a ≡ pick s f p.a → q.b ≡ pick s p.b f → AllRest p q
  dying s f p q dead none a b = side s f p q (record { una = inl dead; said = inl none }) a b

  sent : (occasion : Occasion) (s : Side) (f : PathEnd) (p q : PathState C) → f.tcp ≡ after_sending occasion p.clock (end_at s p).tcp → f.treated ≡ (end_at s p).treated → q.a ≡ pick s f p.a → q.b ≡ pick s p.b f
      → AllRest p q
  sent occasion s f p q tcp treated a b =
      calm s f p q (ap (λ (t : EndState). t.send.una) tcp ∙ sent_una occasion p.clock (end_at s p).tcp) (ap said_of treated) a b

  either : (b : Bool) (p q r : PathState C) → AllRest p q → AllRest p r → AllRest p (if b then q else r)
  either true p q r x y = x
  either false p q r x y = y

  pub stay : (p q : PathState C) → q.a ≡ p.a → q.b ≡ p.b → AllRest p q
  stay p q a b = record { a = subst (λ g. Rests p.a g) (sym a) (rests p.a p.a refl refl); b = subst (λ g. Rests p.b g) (sym b) (rests p.b p.b refl refl) }

  plain : (s : Side) (w : Writes) (p q : PathState C) → w.own.send ≡ false → (w.own.copy || w.own.held_edge) ≡ false → w.other ≡ nothing → OnlyAt s w p q → AllRest p q
  plain s w p q send copy none x = record { a = h.0; b = h.1 }
    where
      h : Rests p.a q.a × Rests p.b q.b
      h = both_ends (λ e f. Rests e f) s w p q (λ e f only. only_rests w.own e f send copy only) (λ e f only. only_rests nothing e f refl refl (subst (λ v. Only v e f) none only)) x

  break_rests : (k : Codec C) (s : Side) (reason : ℕ) (r : Reply) (p : PathState C) → AllRest p (answered_break k s reason r p)
  break_rests k s reason r p = either (end_at s p).treated.asked p (answered_ack_out s r (resets s reason) p) (reset_on k s (Some reason) (leaves s) p)
      (calm s (after_ack_out r (end_at s p)) p _ refl refl refl refl) (dying s (died (end_at s p)) p _ refl refl refl refl)

  thing_rests : (k : Codec C) (s : Side) (item : Heard) (r : Reply) (p : PathState C) → AllRest p (answered_heard k s item r p)
  thing_rests k s (says.DataAck next window) r p = calm s _ p _ refl refl refl refl
  thing_rests k s (says.Mapping fin) r p = either (is_clash (end_at s p)) p _ _ (break_rests k s 1 r p) (calm s _ p _ refl refl refl refl)
  thing_rests k s (says.DataFin place) r p = calm s _ p _ refl refl refl refl
  thing_rests k s (says.InfiniteMapping place position) r p =
      let e = end_at s p in side s _ p _ (infinite_came_so (λ f. Rests e f) place position r e (λ other. rests e _ refl refl)) refl refl
  thing_rests k s (says.Keys own peer) r p = calm s _ p _ refl refl refl refl
  thing_rests k s (says.Notice notice) r p = calm s _ p _ refl refl refl refl
  thing_rests k s says.Fail r p = fail_answered_so (AllRest p) s r p (calm s _ p _ refl refl refl refl) (calm s _ p _ refl refl refl refl)
  thing_rests k s _ r p = stay p _ refl refl

  things_rest : (k : Codec C) (s : Side) (item : Option Heard) (r : Reply) (p : PathState C) → AllRest p (answered_item k s item r p)
  things_rest k s None r p = stay p _ refl refl
  things_rest k s (Some item) r p = thing_rests k s item r p

  grant_rests : (s : Side) (o : Option Grant) (r : Reply) (p : PathState C) → AllRest p (answered_grant s o r p)
  grant_rests s (Some grant) r p = calm s _ p _ refl refl refl refl
  grant_rests s None r p = calm s _ p _ refl refl refl refl

  data_rests : (k : Codec C) (s : Side) (o : Option Record) (r : Reply) (p : PathState C) → AllRest p (answered_data k s o r p)
  data_rests k s (Some unsent) r p = sent occasions.Unsent s _ p _ refl refl refl refl
  data_rests k s None r p = grant_rests s (grant_in r) r p

  send_rests : (k : Codec C) (d : SendDuty) (p : PathState C) → AllRest p (sent_for k d p)
  send_rests k (send_duties.Syn s) p = sent occasions.Unsent s _ p _ refl refl refl refl
  send_rests k (send_duties.SynAck s) p = sent occasions.SynAck s _ p _ refl refl refl refl
  send_rests k (send_duties.Again s) p = sent occasions.First s _ p _ refl refl refl refl
  send_rests k (send_duties.Answer s) p = sent (answer_occasion (end_at s p)) s _ p _ refl refl refl refl
  send_rests k (send_duties.Resend s) p = sent (resend_occasion (end_at s p)) s _ p _ refl refl refl refl
  send_rests k (send_duties.Fin s) p = calm s _ p _ refl refl refl refl
  send_rests k (send_duties.Refuse s) p = calm s _ p _ refl refl refl refl
  send_rests k (send_duties.ResetAnswer s) p = calm s _ p _ refl refl refl refl
  send_rests k (send_duties.BreakReset s reason) p = dying s _ p _ refl refl refl refl
  send_rests k (send_duties.Reset s) p = dying s _ p _ refl refl refl refl
  send_rests k (send_duties.ResetNoted s) p = dying s _ p _ refl refl refl refl
  send_rests k (send_duties.Update s) p = sent occasions.Ack s _ p _ refl refl refl refl
  send_rests k (send_duties.FastClose s) p = sent occasions.Ack s _ p _ refl refl refl refl
  send_rests k (send_duties.Notice s) p = sent occasions.Ack s _ p _ refl refl refl refl
  send_rests k (send_duties.Acknowledge s) p = sent occasions.Ack s _ p _ refl refl refl refl
  send_rests k (send_duties.DataFin s) p = sent occasions.Ack s _ p _ refl refl refl refl

  pub begun_rests : (r : Reply) (dead living : List Duty) (p : PathState C) → AllRest p (join_begun r dead living p)
  begun_rests r dead living p = either (is_never r) p (goes_on A (never_joined r p.a) dead p) (goes_on A (opened_by (keys_begun r) p.a) living p)
      (dying A (never_joined r p.a) p _ refl refl refl refl) (side A (opened_by (keys_begun r) p.a) p _ (opened_rests (keys_begun r) p.a) refl refl)

  -- of any duty but an event
  pub answered_rest : (k : Codec C) (d : Duty) (r : Reply) (p : PathState C) → is_event d ≡ false → AllRest p (answered k d r p)
  answered_rest k (duties.Step step_duties.Events) r p other = absurd (true≢false other)
  answered_rest k (duties.Ask ask_duties.JoinAgain) r p other = begun_rests r _ _ p
  answered_rest k (duties.Ask (ask_duties.LeaveNoted s)) r p other = dying s _ p _ refl refl refl refl
  answered_rest k (duties.Step (step_duties.Heard s index)) r p other = things_rest k s (item_of index (end_at s p)) r p
  answered_rest k (duties.Step (step_duties.PlainAck s)) r p other = either (breaks_by_ack p.profile (end_at s p)) p _ _ (break_rests k s 6 r p) (calm s _ p _ refl refl refl refl)
  answered_rest k (duties.Step (step_duties.Unmapped s)) r p other = break_rests k s 6 r p
  answered_rest k (duties.Step (step_duties.Data s)) r p other = data_rests k s (first_unsent (end_at s p)) r p
  answered_rest k (duties.Send d) r p other = send_rests k d p
  answered_rest k (duties.Silent d) r p other = stay p _ refl refl
  answered_rest k d r p other = plain (side_of d) (writes d) p _ refl refl refl (writes_no_more k d r p)

  pub passed_rest : (d : Duty) (p : PathState C) → AllRest p (passed d p)
  passed_rest (duties.Ask ask_duties.JoinAgain) p = stay p p refl refl
  passed_rest (duties.Ask (ask_duties.LeaveNoted s)) p = stay p p refl refl
  passed_rest (duties.Step step_duties.Events) p = stay p p refl refl
  passed_rest (duties.Step (step_duties.Data s)) p = stay p p refl refl
  passed_rest (duties.Step (step_duties.Heard s index)) p = side s _ p _ (item_rests s (item_of index (end_at s p)) (end_at s p)) refl refl
  passed_rest (duties.Step (step_duties.PlainAck s)) p = calm s _ p _ refl refl refl refl
  passed_rest (duties.Step (step_duties.Unmapped s)) p = calm s _ p _ refl refl refl refl
  passed_rest (duties.Send d) p = stay p p refl refl
  passed_rest (duties.Silent (silent_duties.Timer s)) p = plain s (writes (duties.Silent (silent_duties.Timer s))) p _ refl refl refl (passes_no_more (duties.Silent (silent_duties.Timer s)) p)
  passed_rest (duties.Silent (silent_duties.Keep s)) p = side s _ p _ (keep_rests s (end_at s p)) refl refl
  passed_rest (duties.Silent (silent_duties.PassFin s)) p = plain s (writes (duties.Silent (silent_duties.PassFin s))) p _ refl refl refl (passes_no_more (duties.Silent (silent_duties.PassFin s)) p)
  passed_rest d p = plain (side_of d) (writes d) p (passed d p) refl refl refl (passes_no_more d p)

  -- ---- its link, where it sends nothing

  break_quiet : (k : Codec C) (s : Side) (reason : ℕ) (r : Reply) (p : PathState C) → broken_by s reason p ≡ None → (answered_break k s reason r p).link ≡ p.link
  break_quiet k s reason r p = elim (end_at s p).treated.asked as
      (λ b. (if b then None else send_of (send_duties.BreakReset s reason)) ≡ None → (if b then answered_ack_out s r (resets s reason) p else reset_on k s (Some reason) (leaves s) p).link ≡ p.link)
      [ true ↦ λ is. refl | false ↦ λ is. absurd (true≢false (ap is_some is)) ]

  item_quiet : (k : Codec C) (s : Side) (o : Option Heard) (r : Reply) (p : PathState C) → heard_sends s o p ≡ None → (answered_item k s o r p).link ≡ p.link
  item_quiet k s (Some (says.Mapping fin)) r p = elim (is_clash (end_at s p)) as
      (λ b. (if b then broken_by s 1 p else None) ≡ None
      → (if b then answered_break k s 1 r p else goes_on s (with_learned (after_fell events.MappingHeard r (end_at s p))) (fell_duties s r p) p).link ≡ p.link)
      [ true ↦ λ is. break_quiet k s 1 r p is | false ↦ λ is. refl ]
  item_quiet k s (Some says.Fail) r p = λ is. fail_answered_so (λ q. q.link ≡ p.link) s r p refl refl
  item_quiet k s None r p = λ is. refl
  item_quiet k s (Some _) r p = λ is. refl

  data_quiet : (k : Codec C) (s : Side) (o : Option Record) (r : Reply) (p : PathState C) → unsent_sends s o ≡ None → (answered_data k s o r p).link ≡ p.link
  data_quiet k s (Some unsent) r p is = absurd (true≢false (ap is_some is))
  data_quiet k s None r p is = elim (grant_in r) as (λ o. (answered_grant s o r p).link ≡ p.link) [ Some grant ↦ refl | None ↦ refl ]

  pub quiet_link : (k : Codec C) (d : Duty) (r : Reply) (p : PathState C) → is_event d ≡ false → duty_sends d p ≡ None → (answered k d r p).link ≡ p.link
  quiet_link k (duties.Step step_duties.Events) r p other is = absurd (true≢false other)
  quiet_link k (duties.Step (step_duties.Data s)) r p other is = data_quiet k s (first_unsent (end_at s p)) r p is
  quiet_link k (duties.Step (step_duties.Heard s index)) r p other is = item_quiet k s (item_of index (end_at s p)) r p is
  quiet_link k (duties.Step (step_duties.PlainAck s)) r p other is = (elim (breaks_by_ack p.profile (end_at s p)) as
      (λ b. (if b then broken_by s 6 p else None) ≡ None
      → (if b then answered_break k s 6 r p else goes_on s (with_plain_ack (after_fell events.PlainAck r (end_at s p))) (fell_duties s r p) p).link ≡ p.link)
      [ true ↦ λ is. break_quiet k s 6 r p is | false ↦ λ is. refl ]) is
  quiet_link k (duties.Step (step_duties.Unmapped s)) r p other is = break_quiet k s 6 r p is
  quiet_link k (duties.Send d) r p other is = absurd (send_some d is)
  quiet_link k d r p other is =
      unwritten (writes d).link p.link (answered k d r p).link refl (ap (λ (v : PathView C). v.link) (writes_no_more k d r p).same)

-- ---- a path

record PathCame (p : PathState Carried) : Type 0 where
  ends : (s : Side) → is_gone (end_at s p) ≡ false → (end_at s p).tcp.send.una ≤ (end_at (peer s) p).tcp.recv.edge
  copies : Every (AcksWhatCame p) p.link.under_way
  answers : (s : Side) → IfSome (end_at s p).treated.answer (λ (o : Outgoing). o.rst ≡ true)

abbrev AllFar : PathState Carried → PathState Carried → Type 0
AllFar p q = (t : Side) → Far (end_at t p) (end_at t q)

copies_later : (p q : PathState Carried) (fs : List (Flight Carried)) → AllFar p q → Every (AcksWhatCame p) fs → Every (AcksWhatCame q) fs
copies_later p q fs far h = record { each = λ i f there. acks_higher _ _ f.carried.segment (far (peer f.to)).subflow.received (h.each i f there) }

living_then : (e f : PathEnd) → Far e f → is_gone f ≡ false → is_gone e ≡ false
living_then e f far living = by (is_gone e) refl
  where
    by : (b : Bool) → is_gone e ≡ b → b ≡ false
    by true dead = absurd (true≢false (sym (gone_stays e f far dead) ∙ living))
    by false is = refl

rest_came : (p q : PathState Carried) → AllRest p q → AllFar p q → Every (AcksWhatCame p) q.link.under_way → PathCame p → PathCame q
rest_came p q rest far copies h = record {
  ends = λ t living. ⊎_elim
      (λ dead. absurd (true≢false (sym dead ∙ living)))
      (λ same. (let low = h.ends t (living_then (end_at t p) (end_at t q) (far t) living) in let up = (far (peer t)).subflow.received in omega (arith, same, low, up)))
      (at_end rest t).una;
  copies = copies_later p q q.link.under_way far copies;
  answers = λ t. ⊎_elim
      (λ none. subst (λ (o : Option Outgoing). IfSome o (λ (x : Outgoing). x.rst ≡ true)) (sym none) tt)
      (λ same. subst (λ (o : Option Outgoing). IfSome o (λ (x : Outgoing). x.rst ≡ true)) (sym same) (h.answers t))
      (answer_rests (end_at t p) (end_at t q) (at_end rest t));
}

same_copies : (p q : PathState Carried) → q.link ≡ p.link → PathCame p → Every (AcksWhatCame p) q.link.under_way
same_copies p q is h = subst (λ (l : LinkState Carried). Every (AcksWhatCame p) l.under_way) (sym is) h.copies

-- a segment that is sent
handed_copies : (t : ToSend) (p : PathState Carried) → AllSay (Some t) p → PathCame p → Every (AcksWhatCame p) (handed values t.from (segment_sent p t) p).under_way
handed_copies t p said h = by t.from (says_up (end_at t.from p) (segment_sent p t) (h.answers t.from) said)
  where
    x : PlainSegment
    x = segment_sent p t

    by : (from : Side) → AcksUpTo (end_at from p).tcp.recv.edge x → Every (AcksWhatCame p) (handed values from x p).under_way
    by A up =
        let carried = carried_by p.profile.spelling A x in let strips = is_stripped A (next_number A p.link) p.clock p.link.lines in let alters = is_altered A (next_number A p.link) p.link.lines in
        handed_kept (AcksWhatCame p) A x p (λ tick. changed_up strips alters p.a.tcp.recv.edge carried up) h.copies
    by B up =
        let carried = carried_by p.profile.spelling B x in let strips = is_stripped B (next_number B p.link) p.clock p.link.lines in let alters = is_altered B (next_number B p.link) p.link.lines in
        handed_kept (AcksWhatCame p) B x p (λ tick. changed_up strips alters p.b.tcp.recv.edge carried up) h.copies

-- ---- a copy that arrives

-- what a copy is taken to acknowledge it acknowledges, and it is no reset
abbrev pub Acks : Copy → Meaning → Type 0
Acks c (means.Accepts n) = (c.acknowledged ≡ Some n) × (c.rst ≡ false)
Acks c (means.Taken pos n) = (c.acknowledged ≡ Some n) × (c.rst ≡ false)
Acks c _ = Unit {0}

accepts_acks : (c : Copy) (s : EndState) (n : ℕ) → means.Accepts n ≡ meaning_opening c s → c.acknowledged ≡ Some n
accepts_acks c s n is = opened (is_at_limit s) c.acknowledged refl is
  where
    by : (a : ℕ) → c.acknowledged ≡ Some a → (within rst syn : Bool) → means.Accepts n ≡ (if within then (if rst then means.Kills else (if syn then means.Accepts a else means.Ignored)) else means.Ignored)
        → c.acknowledged ≡ Some n
    by a acks true false true is = cc
    by a acks true true syn is = cc
    by a acks true false false is = cc
    by a acks false rst syn is = cc

    opened : (limit : Bool) (o : Option ℕ) → c.acknowledged ≡ o → means.Accepts n ≡ (if limit then means.Ignored else meaning_answering o c s) → c.acknowledged ≡ Some n
    opened true o acks is = cc
    opened false None acks is = cc
    opened false (Some a) acks is = by a acks (nat_lt 0 a && nat_le a s.send.nxt) c.rst c.syn is

pub acks_of : (c : Copy) (s : EndState) (m : Meaning) → m ≡ meaning_of c s → Acks c m
acks_of c s (means.Accepts n) is =
    let fits : MeansIs c s (means.Accepts n) = subst (λ m. MeansIs c s m) (sym is) (means_so c s) in
    (accepts_acks c s n (is ∙ ap (λ state. meaning_at state c s) fits.0), fits.1.1)
acks_of c s (means.Taken pos n) is =
    let fits : MeansIs c s (means.Taken pos n) = subst (λ m. MeansIs c s m) (sym is) (means_so c s) in (fits.1.1.1.1, fits.1.1.0)
acks_of c s _ is = tt

-- the copy is taken, or accepted
abbrev pub IsHeardAs : ℕ → Meaning → Type 0
IsHeardAs n m = ((pos : ℕ) × (m ≡ means.Taken pos n)) ⊎ (m ≡ means.Accepts n)

-- SND.UNA stays, is what the copy acknowledges that means this, or the end is dead
pub data Unas (c : Copy) (m : Meaning) (e f : PathEnd) : Type 0 where
  unmoved : f.tcp.send.una ≡ e.tcp.send.una → Unas c m e f
  acked : (n : ℕ) → c.acknowledged ≡ Some n → c.rst ≡ false → f.tcp.send.una ≡ n → IsHeardAs n m → Unas c m e f
  killed : is_gone f ≡ true → Unas c m e f

acked_so : (n now : ℕ) (c : Copy) (m : Meaning) (s : EndState) (e f : PathEnd) → c.acknowledged ≡ Some n → c.rst ≡ false → IsHeardAs n m → s.send ≡ e.tcp.send → f.tcp.send ≡ (after_acknowledgement n now s).send → Unas c m e f
acked_so n now c m s e f acks rst as_one from is = ⊎_elim
    (λ stays. unmoved (ap (λ (v : SendState). v.una) is ∙ stays ∙ ap (λ (v : SendState). v.una) from))
    (λ rises. acked n acks rst (ap (λ (v : SendState). v.una) is ∙ rises) as_one)
    (ack_una n now s)

pub held_send : (m : Meaning) (octets : List ℕ) (s : EndState) → (with_payload m octets s).send ≡ s.send
held_send (means.Taken pos n) octets s = elim (is_nil octets) as (λ b. (if b then s else after_holding pos octets s).send ≡ s.send) [ true ↦ refl | false ↦ refl ]
held_send _ octets s = refl

pub owing_send : (b : Bool) (t : EndState) → (owing_if b t).send ≡ t.send
owing_send = elim [ true ↦ λ t. refl | false ↦ λ t. refl ]

pub heard_send : (n : ℕ) (hint : Hint) (now : ℕ) (c : Copy) (s : EndState) → (after_heard_ack n hint now c s).send ≡ (after_acknowledgement n now s).send
heard_send n hint now c s = elim (is_duplicate (ack_kind n s.send) (told_by hint c) c x) as (λ b. (after_telling (told_by hint c) (if b then after_duplicate x else after_interruption x)).send ≡ x.send)
    [ true ↦ refl | false ↦ refl ]
  where
    x : EndState
    x = after_acknowledgement n now s

module _ (c : Profile) (s : Side) (now : ℕ) (x : HeardSegment) (e : PathEnd) where
  abbrev heard_as : Meaning → PathEnd
  heard_as m = copy_judged (is_joined c) (held_of c s x) (reset_for c s x) s now x m e

  pub heard_una : (m : Meaning) → Acks (copy_of x) m → Unas (copy_of x) m e (heard_as m)
  heard_una (means.Accepts n) acks =
      acked_so n now (copy_of x) (means.Accepts n) (record (after_hearing (after_payload 1 (hint_of (items_of (is_joined c) s x)) (copy_of x) e.tcp)) { state = phase.Established }) e (heard_as (means.Accepts n)) acks.0 acks.1
      (inr refl) refl refl
  heard_una (means.Taken pos n) acks =
      let m = means.Taken pos n in let hint = hint_of (items_of (is_joined c) s x) in
      let held = with_payload m x.payload e.tcp in let ready = after_established (after_hearing (after_payload pos hint (copy_of x) held)) in
      acked_so n now (copy_of x) m ready e (heard_as m) acks.0 acks.1 (inl (pos, refl)) (held_send m x.payload e.tcp)
      (owing_send (owes_by m (items_of (is_joined c) s x)) (after_taken pos n hint now (copy_of x) held) ∙ heard_send n hint now (copy_of x) ready)
  heard_una means.Kills acks = killed refl
  heard_una _ acks = unmoved refl

-- the end that hears it
own_came : (s : Side) (f : Flight Carried) (p : PathState Carried) → AcksUpTo (end_at (peer s) p).tcp.recv.edge f.carried.segment → PathCame p
    → let e = end_at s p in let x = options_heard e (meant (as_arrived f.carried)) in (m : Meaning) (g : PathEnd) → Unas (copy_of x) m e g → is_gone g ≡ false → Far e g → g.tcp.send.una ≤ (end_at (peer s) p).tcp.recv.edge
own_came s f p up h m g (unmoved is) living far = (let low = h.ends s (living_then (end_at s p) g far living) in omega (arith, is, low))
own_came s f p up h m g (killed dead) living far = absurd (true≢false (sym dead ∙ living))
own_came s f p up h m g (acked n acks rst is as_one) living far = ⊎_elim
    (λ reset. absurd (true≢false (sym reset ∙ rst)))
    (λ low. (let few = by f.carried.segment.acknowledged low acks in omega (arith, is, few)))
    up
  where
    by : (o : Option ℕ) → IfSome o (λ n. n ≤ (end_at (peer s) p).tcp.recv.edge) → acknowledged_in (option_map (λ n. At n) o) ≡ Some n → n ≤ (end_at (peer s) p).tcp.recv.edge
    by None low is = cc
    by (Some a) low is = (let equal = same_Some a n is in omega (arith, low, equal))

-- ---- an event

pub died_rests : (e : PathEnd) → Rests e (died_unless_dead e)
died_rests e = (elim (is_dead e.tcp.state) as (λ b. is_dead e.tcp.state ≡ b → Rests e (if b then e else died e))
    [ true ↦ λ dead. rests e e refl refl | false ↦ λ living. record { una = inl refl; said = inl refl } ]) refl

pub fired_rests : (now : ℕ) (e : PathEnd) → Rests e (after_firing now e)
fired_rests now e = elim (is_sixth e.tcp) as (λ b. Rests e (record e { tcp = if b then after_death true e.tcp else after_expiry now e.tcp }))
    [ true ↦ record { una = inl refl; said = inr (refl, inr refl) } | false ↦ rests e _ refl refl ]

line_came : (action : LineAction) (p : PathState Carried) → AllFar p (after_line action p) → PathCame p → PathCame (after_line action p)
line_came actions.Die p far h = rest_came p (after_line actions.Die p) (record { a = died_rests p.a; b = died_rests p.b }) far (record { each = λ i f there. cc }) h
line_came (actions.Prio s backup) p far h = rest_came p (after_line (actions.Prio s backup) p) (calm s (with_priority backup (end_at s p)) p _ refl refl refl refl) far h.copies h
line_came (actions.Announce s id) p far h = rest_came p (after_line (actions.Announce s id) p) (stay p _ refl refl) far h.copies h
line_came (actions.Withdraw s id) p far h = rest_came p (after_line (actions.Withdraw s id) p) (stay p _ refl refl) far h.copies h

-- a path without the copy that was delivered
delivered_came : (due : Due) (p : PathState Carried) → PathCame p → PathCame (record (at_tick due.tick p) { link = after_delivery due p.link })
delivered_came due p h = record { ends = h.ends; copies = rest (position (is_due due) p.link.under_way); answers = h.answers }
  where
    rest : (o : Option ℕ) → Every (AcksWhatCame p) (without o p.link.under_way)
    rest None = h.copies
    rest (Some place) = record { each = λ i f at. let there = in_removed p.link.under_way place i f at in h.copies.each there.0 f there.1 }

copy_came : (s : Side) (f : Flight Carried) (p : PathState Carried) → AcksUpTo (end_at (peer s) p).tcp.recv.edge f.carried.segment → PathCame p
    → let q = copy_heard s (Some (meant (as_arrived f.carried))) p in AllFar p q → PathCame q
copy_came s f p up h far = record { ends = ends; copies = copies_later p q p.link.under_way far h.copies; answers = answers }
  where
    q : PathState Carried
    q = copy_heard s (Some (meant (as_arrived f.carried))) p

    x : HeardSegment
    x = options_heard (end_at s p) (meant (as_arrived f.carried))

    g : PathEnd
    g = after_judged p.profile s p.clock x (judged_in (is_joined p.profile) s x (end_at s p)) (end_at s p)

    m : Meaning
    m = taken_as (judged_in (is_joined p.profile) s x (end_at s p))

    acks : Acks (copy_of x) m
    acks = judged_taken x.rst (items_of (is_joined p.profile) s x) (end_at s p) (λ n. Acks (copy_of x) n) tt (is_joined p.profile) (meaning_of (copy_of x) (end_at s p).tcp) (acks_of (copy_of x) (end_at s p).tcp _ refl)

    unas : Unas (copy_of x) m (end_at s p) g
    unas = heard_una p.profile s p.clock x (end_at s p) m acks

    edge : (u : Side) → (end_at u p).tcp.recv.edge ≤ (end_at u q).tcp.recv.edge
    edge u = (far u).subflow.received

    -- at the other end SND.UNA stays
    other : (s t : Side) (a b g : PathEnd) → peer s ≡ t → pick t (pick s g a) (pick s b g) ≡ pick t a b
    other A A a b g is = cc
    other A B a b g is = refl
    other B A a b g is = refl
    other B B a b g is = cc

    ends : (t : Side) → is_gone (end_at t q) ≡ false → (end_at t q).tcp.send.una ≤ (end_at (peer t) q).tcp.recv.edge
    ends t living = by (sides t s)
      where
        by : (s ≡ t) ⊎ (peer s ≡ t) → (end_at t q).tcp.send.una ≤ (end_at (peer t) q).tcp.recv.edge
        by (inl own) = subst (λ t. is_gone (end_at t q) ≡ false → (end_at t q).tcp.send.una ≤ (end_at (peer t) q).tcp.recv.edge) own (λ living.
            (let is = own_end s g p.a p.b in
            let low = own_came s f p up h m g unas (sym (ap is_gone is) ∙ living) (subst (λ y. Far (end_at s p) y) is (far s)) in
            let same = ap (λ (y : PathEnd). y.tcp.send.una) is in let more = edge (peer s) in omega (arith, low, same, more))) living
        by (inr away) =
            let is = other s t p.a p.b g away in
            let low = h.ends t (sym (ap is_gone is) ∙ living) in
            let same = ap (λ (y : PathEnd). y.tcp.send.una) is in let more = edge (peer t) in omega (arith, low, same, more)

    answers : (t : Side) → IfSome (end_at t q).treated.answer (λ (o : Outgoing). o.rst ≡ true)
    answers t = ⊎_elim
        (λ own. subst (λ t. IfSome (end_at t q).treated.answer (λ (o : Outgoing). o.rst ≡ true)) own (subst (λ (y : PathEnd). IfSome y.treated.answer (λ (o : Outgoing). o.rst ≡ true)) (sym (own_end s g p.a p.b)) refl))
        (λ away. subst (λ (y : PathEnd). IfSome y.treated.answer (λ (o : Outgoing). o.rst ≡ true)) (sym (other s t p.a p.b g away)) (h.answers t))
        (sides t s)

event_came : (o : Option Event) (r : Reply) (p : PathState Carried) → AllFar p (happens_if values o r p) → PathCame p → PathCame (happens_if values o r p)
event_came None r p far h = rest_came p (happens_if values None r p) (stay p _ refl refl) far h.copies h
event_came (Some (happenings.Joins tick)) r p far h =
    let begun = begun_rests r (leaves A) (emission A) (record (at_tick tick p) { joined_at = None }) in
    rest_came p (happens_if values (Some (happenings.Joins tick)) r p) (record { a = begun.a; b = begun.b }) far
    (same_copies p (happens_if values (Some (happenings.Joins tick)) r p) (elim (is_never r) as (λ b. let x = record (at_tick tick p) { joined_at = None } in
    (if b then goes_on A (never_joined r x.a) (leaves A) x else goes_on A (opened_by (keys_begun r) x.a) (emission A) x).link ≡ p.link) [ true ↦ refl | false ↦ refl ]) h) h
event_came (Some (happenings.Takes line)) r p far h =
    line_came line.action (record (at_tick line.tick p) { lines = tail_of p.lines }) far (record { ends = h.ends; copies = h.copies; answers = h.answers })
event_came (Some (happenings.Arrives due)) r p far h = by (arriving due p.link) refl far
  where
    x : PathState Carried
    x = record (at_tick due.tick p) { link = after_delivery due p.link }

    by : (o : Option (Flight Carried)) → arriving due p.link ≡ o → AllFar p (copy_heard due.to (heard_in values due.to o p) x) → PathCame (copy_heard due.to (heard_in values due.to o p) x)
    by None is far = rest_came x (copy_heard due.to None x) (stay x _ refl refl) far (delivered_came due p h).copies (delivered_came due p h)
    by (Some f) is far =
        let found = find_every (AcksWhatCame p) (is_due due) p.link.under_way f h.copies is in
        let parts = and_parts (f.tick == due.tick) (same_side f.to due.to && f.number == due.copy) found.1 in
        let to = one_side f.to due.to (and_parts (same_side f.to due.to) (f.number == due.copy) parts.1).0 in
        copy_came due.to f x (subst (λ s. AcksUpTo (end_at (peer s) p).tcp.recv.edge f.carried.segment) to found.0) (delivered_came due p h) far
event_came (Some (happenings.Fires s tick)) r p far h =
    rest_came p (timer_fired s (at_tick tick p)) (side s (after_firing (at_tick tick p).clock (end_at s p)) p _ (fired_rests (at_tick tick p).clock (end_at s p)) refl refl) far h.copies h

-- ---- a turn

far_at : (p q : PathState Carried) → PathStep p q → AllFar p q
far_at p q x t = path_far p q x t

module _ (d : Duty) (ds : List Duty) (r : Reply) (p : PathState Carried) where
  abbrev x : PathState Carried
  x = with_agenda (d ∷ ds) p

  abbrev q : PathState Carried
  q = answered values d r x

  duty_copies : is_event d ≡ false → PathCame x → (o : Option ToSend) → duty_sends d x ≡ o → Every (AcksWhatCame x) q.link.under_way
  duty_copies other h None is = same_copies x q (quiet_link values d r x other is) h
  duty_copies other h (Some t) is =
      let hands : Hands values x t = subst (HandsOrTellsNone values x) is (each_segment_is_told values x) in
      let link : q.link ≡ handed values t.from (segment_sent x t) x = sym (settled_lasts LinkStays links_last q.agenda q) ∙ hands.taken r in
      subst (λ (l : LinkState Carried). Every (AcksWhatCame x) l.under_way) (sym link) (handed_copies t x (subst (λ o. AllSay o x) is (duty_so d x)) h)

  other_came : is_event d ≡ false → PathCame x → PathCame q
  other_came other h = rest_came x q (answered_rest values d r x other) (far_at x q (answered_steps values d r x)) (duty_copies other h (duty_sends d x) refl) h

duty_came : (d : Duty) (ds : List Duty) (r : Reply) (p : PathState Carried) → PathCame (with_agenda (d ∷ ds) p) → PathCame (answered values d r (with_agenda (d ∷ ds) p))
duty_came (duties.Step step_duties.Events) ds r p h =
    let x : PathState Carried = with_agenda (duties.Step step_duties.Events ∷ ds) p in
    event_came (next_event x) r x (far_at x (answered values (duties.Step step_duties.Events) r x) (answered_steps values (duties.Step step_duties.Events) r x)) h
duty_came d ds r p h = other_came d ds r p refl h

-- duties that are passed
pub record Both (e f : PathEnd) : Type 0 where
  pub rest : Rests e f
  pub far : Far e f

both_then : (e f g : PathEnd) → Both e f → Both f g → Both e g
both_then e f g x y = record {
  rest = record {
    una = ⊎_elim (λ dead. inl (gone_stays f g y.far dead)) (λ same. ⊎_elim (λ dead. inl dead) (λ more. inr (more ∙ same)) y.rest.una) x.rest.una;
    said = recalls_then e.treated f.treated g.treated x.rest.said y.rest.said;
  };
  far = far_then e f g x.far y.far;
}

abbrev pub AllBoth : PathState Carried → PathState Carried → Type 0
AllBoth p q = (t : Side) → Both (end_at t p) (end_at t q)

pub both_last : Lasts AllBoth
both_last = record {
  agenda = λ ds p t. record { rest = rests (end_at t p) (end_at t p) refl refl; far = same_far (end_at t p) };
  chains = λ p q r x y t. both_then (end_at t p) (end_at t q) (end_at t r) (x t) (y t);
  passes = λ d p t. record { rest = at_end (passed_rest d p) t; far = path_far p (passed d p) (passed_steps d p) t };
}

settled_came : (ds : List Duty) (p : PathState Carried) → PathCame p → PathCame (settled ds p)
settled_came ds p h =
    let x : AllBoth p (settled ds p) = settled_lasts AllBoth both_last ds p in
    rest_came p (settled ds p) (record { a = (x A).rest; b = (x B).rest }) (λ t. (x t).far) (same_copies p (settled ds p) (settled_lasts LinkStays links_last ds p) h) h

takes_came : (r : Reply) (p : PathState Carried) → PathCame p → PathCame (takes values r p)
takes_came r p h = by p.agenda h
  where
    by : (ds : List Duty) → PathCame (with_agenda ds p) → PathCame (takes values r (with_agenda ds p))
    by [] h = h
    by (d ∷ ds) h = let q : PathState Carried = answered values d r (with_agenda (d ∷ ds) p) in settled_came q.agenda q (duty_came d ds r p h)

begins_came : (p : PathState Carried) → PathCame p → PathCame (begins_turn p)
begins_came p h = settled_came start_of_turn (with_agenda start_of_turn p) (record { ends = h.ends; copies = h.copies; answers = h.answers })

-- ---- the world

abbrev CameMember : Actor Carried → Type 0
CameMember = HoldsOfKind (λ app. Unit {0}) PathCame

member_takes_came : (r : Reply) (m : Actor Carried) → CameMember m → CameMember (member_takes values r m)
member_takes_came r (App a) h = tt
member_takes_came r (Path p) h = takes_came r p h

member_begins : (m : Actor Carried) → CameMember m → CameMember (member_next m)
member_begins (App a) h = tt
member_begins (Path p) h = begins_came (record p { clock = p.until; until = p.until + 100 }) (record { ends = h.ends; copies = h.copies; answers = h.answers })

member_so : (m : Actor Carried) → CameMember m → HoldsOfKind (λ app. Unit {0}) HasCome m
member_so (App a) h = tt
member_so (Path p) h = record { una = h.ends; copies = h.copies }

first_came : (number : ℕ) (start : Start) (plan : PathPlan) → PathCame (waiting_path (path_begins start number plan) start.lines)
first_came number start plan = record { ends = λ s living. low s; copies = record { each = λ i f there. cc }; answers = λ s. none s }
  where
    p : PathState Carried
    p = waiting_path (path_begins start number plan) start.lines

    low : (s : Side) → (end_at s p).tcp.send.una ≤ (end_at (peer s) p).tcp.recv.edge
    low A = omega arith
    low B = omega arith

    none : (s : Side) → IfSome (end_at s p).treated.answer (λ (o : Outgoing). o.rst ≡ true)
    none A = tt
    none B = tt

each_came : (start : Start) (turns : List Turn) → Every (λ (c : ActorCrew Carried). CameMember c.member) (world_run values turns (opened_world start)).crew
each_came start turns = run_lifted values (λ c. CameMember c.member) (λ books c x asks h. member_takes_came (answer_to books x) c.member h) (λ stamp c over h. member_begins c.member h) turns (opened_world start)
    (opened_lifted (λ c. CameMember c.member) start tt tt (λ number plan there. begins_came (waiting_path (path_begins start number plan) start.lines) (first_came number start plan)))

pub what_is_acknowledged_came : Always values (λ start w. WhatIsAcknowledgedCame w)
what_is_acknowledged_came start turns = record { each = λ actor c there. member_so c.member ((each_came start turns).each actor c there) }

-- what an end answers a copy by, where it is dead, is a reset
abbrev pub AnswersReset : PathState Carried → Type 0
AnswersReset p = (s : Side) → IfSome (end_at s p).treated.answer (λ (o : Outgoing). o.rst ≡ true)

pub answers_reset : (start : Start) (turns : List Turn) (actor : ℕ) (c : ActorCrew Carried) → slice_get (world_run values turns (opened_world start)).crew actor ≡ Some c → HoldsOfKind (λ app. Unit {0}) AnswersReset c.member
answers_reset start turns actor c there = by c.member ((each_came start turns).each actor c there)
  where
    by : (m : Actor Carried) → CameMember m → HoldsOfKind (λ app. Unit {0}) AnswersReset m
    by (App a) h = tt
    by (Path p) h = h.answers
