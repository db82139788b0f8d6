-- What each duty makes of SND.NXT: but for a grant and the FIN it stays.
use Rattle.std.proofs.Common.{◌≡◌, refl, sym, subst, ap, ◌∙◌, ℕ, ◌==◌, ◌&&◌, nat_lt, nat_le, Bool, true, false, true≢false, if◌then◌else◌, Option, Some, None, List}
use Rattle.sides.specs.declared.side.Side.{Side}
use Rattle.sides.specs.declared.side.Side.TheVariants.{A, B}
use Rattle.path_segments.specs.Heard.{HeardSegment}
use Rattle.link_model.specs.Steps.{after_delivery, arriving}
use Rattle.subflow_send.specs.declared.record.AckKind.TheVariants.{New, Duplicate, Old, Future}
use Rattle.subflow_send.specs.Records.{Record, SendState}
use Rattle.subflow_send.specs.Rules.{ack_kind, after_acknowledge, after_resent, sample_of, uncovered}
use Rattle.subflow_tcp.specs.declared.handshake.State.TheVariants as phase
use Rattle.subflow_tcp.specs.declared.segments.Hint.{Hint}
use Rattle.subflow_tcp.specs.declared.segments.Occasion.{Occasion}
use Rattle.subflow_tcp.specs.declared.segments.Occasion.TheVariants as occasions
use Rattle.subflow_tcp.specs.declared.verdicts.Meaning.{Meaning}
use Rattle.subflow_tcp.specs.declared.verdicts.Meaning.TheVariants as means
use Rattle.subflow_tcp.specs.Emitting.{after_sending}
use Rattle.subflow_tcp.specs.Expiring.{after_expiry, is_sixth}
use Rattle.subflow_tcp.specs.Opening.{after_begin}
use Rattle.subflow_tcp.specs.Segments.{Copy}
use Rattle.subflow_tcp.specs.State.{EndState}
use Rattle.subflow_tcp.specs.States.{is_dead, is_waiting}
use Rattle.subflow_tcp.specs.Taking.{after_ack_kind, after_acknowledgement, after_arrival, after_death, after_established, after_hearing, after_payload}
use Rattle.actor_desk.specs.declared.ask.Reply.{Reply}
use Rattle.actor_desk.specs.Words.{pick, tail_of}
use Rattle.path_agenda.specs.Agenda.{emission, leaves, resets}
use Rattle.path_agenda.specs.declared.duty.Duty.{Duty}
use Rattle.path_agenda.specs.declared.duty.Duty.TheVariants as duties
use Rattle.path_agenda.specs.declared.duty.AskDuty.TheVariants as ask_duties
use Rattle.path_agenda.specs.declared.duty.SendDuty.{SendDuty}
use Rattle.path_agenda.specs.declared.duty.SendDuty.TheVariants as send_duties
use Rattle.path_agenda.specs.declared.duty.SilentDuty.TheVariants as silent_duties
use Rattle.path_agenda.specs.declared.duty.StepDuty.TheVariants as step_duties
use Rattle.path_agenda.specs.declared.heard.Heard.{Heard}
use Rattle.path_agenda.specs.declared.heard.Heard.TheVariants as says
use Rattle.path_agenda.specs.declared.keys.KeyPair.{KeyPair}
use Rattle.path_store.specs.declared.lines.LineAction.{LineAction}
use Rattle.path_store.specs.declared.lines.LineAction.TheVariants as actions
use Rattle.path_core.specs.Addresses.{with_priority}
use Rattle.path_core.specs.Arrival.{after_judged, copy_heard, copy_of, heard_in, judged_in, with_payload}
use Rattle.path_core.specs.Breaking.{answered_break, died_unless_dead, reset_on}
use Rattle.path_core.specs.Codec.{Codec}
use Rattle.path_core.specs.DssIn.{counts, is_clash, with_data_fin, with_learned, with_skipped}
use Rattle.path_core.specs.Duties.{answered, passed, sent_for}
use Rattle.path_core.specs.Emission.{answer_occasion, answered_data, answered_grant, resend_occasion}
use Rattle.path_core.specs.End.{PathEnd, died}
use Rattle.path_core.specs.Events.{after_line, happens_if}
use Rattle.path_core.specs.Fallback.{breaks_by_ack}
use Rattle.path_core.specs.Judged.{taken_as}
use Rattle.path_core.specs.MpJoin.{is_joined, is_never, join_begun, keys_begun, never_joined, opened_by, with_keys}
use Rattle.path_core.specs.OptionsIn.{hint_of, items_of, options_heard, owes_by}
use Rattle.path_core.specs.Profile.{Profile}
use Rattle.path_core.specs.Standing.{after_ack_out, answered_ack_out}
use Rattle.path_core.specs.State.{PathState, at_tick, end_at, goes_on}
use Rattle.path_core.specs.Timer.{after_firing}
use Rattle.path_core.specs.Treating.{answered_heard, answered_item, item_of, item_passed}
use Rattle.path_core.specs.declared.events.Event.{Event}
use Rattle.path_core.specs.declared.events.Event.TheVariants as happenings
use Rattle.world_laws.specs.Writes.{EndView, EndWrites, Only, OnlyAt, Writes, nothing, side_of, writes}
use Rattle.world_laws.proofs.Falls.FailedChecks.{fail_answered_so, infinite_came_so}
use Rattle.world_laws.proofs.Writes.Paths.{passes_no_more, writes_no_more}
use Rattle.world_laws.proofs.Writes.Steps.{both_ends, unwritten}
use Rattle.whole_paths.proofs.Came.{heard_send, held_send, owing_send}
use Rattle.whole_paths.proofs.Pieces.{is_event}

-- ---- acknowledgements

acked_same : (pos : ℕ) (v : SendState) → (after_acknowledge pos v).nxt ≡ v.nxt
acked_same pos v = elim (nat_lt v.una pos && nat_le pos v.nxt) as (λ b. (if b then record v { una = pos; records = uncovered pos v.records } else v).nxt ≡ v.nxt) [ true ↦ refl | false ↦ refl ]

ack_same : (pos now : ℕ) (s : EndState) → (after_acknowledgement pos now s).send.nxt ≡ s.send.nxt
ack_same pos now s = elim (ack_kind pos s.send) as (λ kind. (after_ack_kind kind (sample_of pos s.send) now (record s { send = after_acknowledge pos s.send })).send.nxt ≡ s.send.nxt)
    [ New octets ↦ acked_same pos s.send | Duplicate ↦ acked_same pos s.send | Old ↦ acked_same pos s.send | Future ↦ acked_same pos s.send ]

arrival_same : (m : Meaning) (hint : Hint) (now : ℕ) (c : Copy) (s : EndState) → (after_arrival m hint now c s).send.nxt ≡ s.send.nxt
arrival_same (means.Accepts pos) hint now c s = ack_same pos now (record (after_hearing (after_payload 1 hint c s)) { state = phase.Established })
arrival_same means.Kills hint now c s = acked_same s.send.nxt s.send
arrival_same (means.Taken pos acknowledged) hint now c s =
    let ready : EndState = after_established (after_hearing (after_payload pos hint c s)) in
    ap (λ (v : SendState). v.nxt) (heard_send acknowledged hint now c ready) ∙ ack_same acknowledged now ready
arrival_same _ hint now c s = refl

sending_same : (occasion : Occasion) (now : ℕ) (s : EndState) → (after_sending occasion now s).send.nxt ≡ s.send.nxt
sending_same occasions.SynAck now s = elim (s.send.una == 0) as (λ b. (if b then after_resent now s.send else s.send).nxt ≡ s.send.nxt) [ true ↦ refl | false ↦ refl ]
sending_same _ now s = refl

-- ---- an end

abbrev pub NextStays : PathEnd → PathEnd → Type 0
NextStays e f = f.tcp.send.nxt ≡ e.tcp.send.nxt

died_next : (e f : PathEnd) → f.tcp ≡ (died e).tcp → NextStays e f
died_next e f same = (ap (λ (t : EndState). t.send.nxt) same ∙ acked_same e.tcp.send.nxt e.tcp.send)

unless_dead : (e : PathEnd) → NextStays e (died_unless_dead e)
unless_dead e = elim (is_dead e.tcp.state) as (λ b. NextStays e (if b then e else died e)) [ true ↦ refl | false ↦ died_next e (died e) refl ]

fired_next : (now : ℕ) (e : PathEnd) → NextStays e (after_firing now e)
fired_next now e = elim (is_sixth e.tcp) as (λ b. NextStays e (record e { tcp = if b then after_death true e.tcp else after_expiry now e.tcp }))
    [ true ↦ acked_same e.tcp.send.nxt e.tcp.send | false ↦ refl ]

only_next : (w : EndWrites) (e f : PathEnd) → w.send ≡ false → Only w e f → NextStays e f
only_next w e f send x = (ap (λ (v : SendState). v.nxt) (unwritten w.send e.tcp.send f.tcp.send send (ap (λ (v : EndView). v.send) x.same)))

passed_item : (s : Side) (o : Option Heard) (e : PathEnd) → NextStays e (item_passed s o e)
passed_item s None e = refl
passed_item s (Some (says.Mapping fin)) e = elim (counts e) as (λ b. NextStays e (if b then with_learned e else with_skipped e)) [ true ↦ refl | false ↦ refl ]
passed_item s (Some (says.DataFin place)) e = elim (counts e) as (λ b. NextStays e (if b then with_data_fin place e else e)) [ true ↦ refl | false ↦ refl ]
passed_item s (Some _) e = refl

opened_next : (keys : Option KeyPair) (e : PathEnd) → NextStays e (opened_by keys e)
opened_next None e = refl
opened_next (Some keys) e = elim (is_waiting e.tcp.state) as (λ b. NextStays e (record e { tcp = if b then after_begin e.tcp else e.tcp; modes = with_keys keys e.modes })) [ true ↦ refl | false ↦ refl ]

judged_next : (c : Profile) (s : Side) (now : ℕ) (x : HeardSegment) (e : PathEnd) → NextStays e (after_judged c s now x (judged_in (is_joined c) s x e) e)
judged_next c s now x e =
    let items = items_of (is_joined c) s x in
    let m : Meaning = taken_as (judged_in (is_joined c) s x e) in
    let arrived : EndState = after_arrival m (hint_of items) now (copy_of x) (with_payload m x.payload e.tcp) in
    (ap (λ (v : SendState). v.nxt) (owing_send (owes_by m items) arrived) ∙ arrival_same m (hint_of items) now (copy_of x) (with_payload m x.payload e.tcp)
    ∙ ap (λ (v : SendState). v.nxt) (held_send m x.payload e.tcp))

-- ---- a path

-- bytes are asked for, or the FIN is sent
abbrev pub adds_more : Duty → Bool
adds_more (duties.Step (step_duties.Data s)) = true
adds_more (duties.Send (send_duties.Fin s)) = true
adds_more _ = false

module _ {C : Type 0} where
  pub record AllStay (p q : PathState C) : Type 0 where
    pub a : NextStays p.a q.a
    pub b : NextStays p.b q.b

  -- the end of this side becomes that one
  side : (s : Side) (f : PathEnd) (p q : PathState C) → NextStays (end_at s p) f → q.a ≡ pick s f p.a → q.b ≡ pick s p.b f → AllStay p q
  side A f p q x a b = record { a = subst (λ g. NextStays p.a g) (sym a) x; b = subst (λ g. NextStays p.b g) (sym b) (refl) }
  side B f p q x a b = record { a = subst (λ g. NextStays p.a g) (sym a) (refl); b = subst (λ g. NextStays p.b g) (sym b) x }

  calm : (s : Side) (f : PathEnd) (p q : PathState C) → f.tcp.send.nxt ≡ (end_at s p).tcp.send.nxt → q.a ≡ pick s f p.a → q.b ≡ pick s p.b f → AllStay p q
  calm s f p q nxt a b = side s f p q nxt a b

  dying : (s : Side) (f : PathEnd) (p q : PathState C) → f.tcp ≡ (died (end_at s p)).tcp → q.a ≡ pick s f p.a → q.b ≡ pick s p.b f → AllStay p q
  dying s f p q tcp a b = side s f p q (died_next (end_at s p) f tcp) a b

  sent : (occasion : Occasion) (s : Side) (f : PathEnd) (p q : PathState C) → f.tcp ≡ after_sending occasion p.clock (end_at s p).tcp → q.a ≡ pick s f p.a → q.b ≡ pick s p.b f → AllStay p q
  sent occasion s f p q tcp a b = calm s f p q (ap (λ (t : EndState). t.send.nxt) tcp ∙ sending_same occasion p.clock (end_at s p).tcp) a b

  either : (b : Bool) (p q r : PathState C) → AllStay p q → AllStay p r → AllStay p (if b then q else r)
  either true p q r x y = x
  either false p q r x y = y

  stay : (p q : PathState C) → q.a ≡ p.a → q.b ≡ p.b → AllStay p q
  stay p q a b = record { a = subst (λ g. NextStays p.a g) (sym a) (refl); b = subst (λ g. NextStays p.b g) (sym b) (refl) }

  plain : (s : Side) (w : Writes) (p q : PathState C) → w.own.send ≡ false → w.other ≡ nothing → OnlyAt s w p q → AllStay p q
  plain s w p q send none x = record { a = h.0; b = h.1 }
    where
      h : NextStays p.a q.a × NextStays p.b q.b
      h = both_ends (λ e f. NextStays e f) s w p q (λ e f only. only_next w.own e f send only) (λ e f only. only_next nothing e f refl (subst (λ v. Only v e f) none only)) x

  break_next : (k : Codec C) (s : Side) (reason : ℕ) (r : Reply) (p : PathState C) → AllStay p (answered_break k s reason r p)
  break_next k s reason r p = either (end_at s p).treated.asked p (answered_ack_out s r (resets s reason) p) (reset_on k s (Some reason) (leaves s) p)
      (calm s (after_ack_out r (end_at s p)) p _ refl refl refl) (dying s (died (end_at s p)) p _ refl refl refl)

  thing_next : (k : Codec C) (s : Side) (item : Heard) (r : Reply) (p : PathState C) → AllStay p (answered_heard k s item r p)
  thing_next k s (says.DataAck next window) r p = calm s _ p _ refl refl refl
  thing_next k s (says.Mapping fin) r p = either (is_clash (end_at s p)) p _ _ (break_next k s 1 r p) (calm s _ p _ refl refl refl)
  thing_next k s (says.DataFin place) r p = calm s _ p _ refl refl refl
  thing_next k s (says.InfiniteMapping place position) r p =
      let e = end_at s p in side s _ p _ (infinite_came_so (λ f. NextStays e f) place position r e (λ other. refl)) refl refl
  thing_next k s (says.Keys own peer) r p = calm s _ p _ refl refl refl
  thing_next k s (says.Notice notice) r p = calm s _ p _ refl refl refl
  thing_next k s says.Fail r p = fail_answered_so (AllStay p) s r p (calm s _ p _ refl refl refl) (calm s _ p _ refl refl refl)
  thing_next k s _ r p = stay p _ refl refl

  things_next : (k : Codec C) (s : Side) (item : Option Heard) (r : Reply) (p : PathState C) → AllStay p (answered_item k s item r p)
  things_next k s None r p = stay p _ refl refl
  things_next k s (Some item) r p = thing_next k s item r p

  -- a record that is sent, or a grant that is refused
  pub unsent_next : (k : Codec C) (s : Side) (r : Record) (reply : Reply) (p : PathState C) → AllStay p (answered_data k s (Some r) reply p)
  unsent_next k s r reply p = sent occasions.Unsent s _ p _ refl refl refl

  pub refused_next : (s : Side) (r : Reply) (p : PathState C) → AllStay p (answered_grant s None r p)
  refused_next s r p = calm s _ p _ refl refl refl

  send_next : (k : Codec C) (d : SendDuty) (p : PathState C) → adds_more (duties.Send d) ≡ false → AllStay p (sent_for k d p)
  send_next k (send_duties.Syn s) p none = sent occasions.Unsent s _ p _ refl refl refl
  send_next k (send_duties.SynAck s) p none = sent occasions.SynAck s _ p _ refl refl refl
  send_next k (send_duties.Again s) p none = sent occasions.First s _ p _ refl refl refl
  send_next k (send_duties.Answer s) p none = sent (answer_occasion (end_at s p)) s _ p _ refl refl refl
  send_next k (send_duties.Resend s) p none = sent (resend_occasion (end_at s p)) s _ p _ refl refl refl
  send_next k (send_duties.Fin s) p none = absurd (true≢false none)
  send_next k (send_duties.Refuse s) p none = calm s _ p _ refl refl refl
  send_next k (send_duties.ResetAnswer s) p none = calm s _ p _ refl refl refl
  send_next k (send_duties.BreakReset s reason) p none = dying s _ p _ refl refl refl
  send_next k (send_duties.Reset s) p none = dying s _ p _ refl refl refl
  send_next k (send_duties.ResetNoted s) p none = dying s _ p _ refl refl refl
  send_next k (send_duties.Update s) p none = sent occasions.Ack s _ p _ refl refl refl
  send_next k (send_duties.FastClose s) p none = sent occasions.Ack s _ p _ refl refl refl
  send_next k (send_duties.Notice s) p none = sent occasions.Ack s _ p _ refl refl refl
  send_next k (send_duties.Acknowledge s) p none = sent occasions.Ack s _ p _ refl refl refl
  send_next k (send_duties.DataFin s) p none = sent occasions.Ack s _ p _ refl refl refl

  begun_next : (r : Reply) (dead living : List Duty) (p : PathState C) → AllStay p (join_begun r dead living p)
  begun_next r dead living p = either (is_never r) p (goes_on A (never_joined r p.a) dead p) (goes_on A (opened_by (keys_begun r) p.a) living p)
      (dying A (never_joined r p.a) p _ refl refl refl) (side A (opened_by (keys_begun r) p.a) p _ (opened_next (keys_begun r) p.a) refl refl)

  -- of any other duty but an event
  pub answered_next : (k : Codec C) (d : Duty) (r : Reply) (p : PathState C) → is_event d ≡ false → adds_more d ≡ false → AllStay p (answered k d r p)
  answered_next k (duties.Step step_duties.Events) r p other none = absurd (true≢false other)
  answered_next k (duties.Step (step_duties.Data s)) r p other none = absurd (true≢false none)
  answered_next k (duties.Ask ask_duties.JoinAgain) r p other none = begun_next r _ _ p
  answered_next k (duties.Ask (ask_duties.LeaveNoted s)) r p other none = dying s _ p _ refl refl refl
  answered_next k (duties.Step (step_duties.Heard s index)) r p other none = things_next k s (item_of index (end_at s p)) r p
  answered_next k (duties.Step (step_duties.PlainAck s)) r p other none = either (breaks_by_ack p.profile (end_at s p)) p _ _ (break_next k s 6 r p) (calm s _ p _ refl refl refl)
  answered_next k (duties.Step (step_duties.Unmapped s)) r p other none = break_next k s 6 r p
  answered_next k (duties.Send d) r p other none = send_next k d p none
  answered_next k (duties.Silent d) r p other none = stay p _ refl refl
  answered_next k d r p other none = plain (side_of d) (writes d) p _ refl refl (writes_no_more k d r p)

  pub passed_next : (d : Duty) (p : PathState C) → AllStay p (passed d p)
  passed_next (duties.Ask ask_duties.JoinAgain) p = stay p p refl refl
  passed_next (duties.Ask (ask_duties.LeaveNoted s)) p = stay p p refl refl
  passed_next (duties.Step step_duties.Events) p = stay p p refl refl
  passed_next (duties.Step (step_duties.Data s)) p = stay p p refl refl
  passed_next (duties.Step (step_duties.Heard s index)) p = side s _ p _ (passed_item s (item_of index (end_at s p)) (end_at s p)) refl refl
  passed_next (duties.Step (step_duties.PlainAck s)) p = calm s _ p _ refl refl refl
  passed_next (duties.Step (step_duties.Unmapped s)) p = calm s _ p _ refl refl refl
  passed_next (duties.Send d) p = stay p p refl refl
  passed_next (duties.Silent (silent_duties.Timer s)) p = plain s (writes (duties.Silent (silent_duties.Timer s))) p _ refl refl (passes_no_more (duties.Silent (silent_duties.Timer s)) p)
  passed_next (duties.Silent (silent_duties.Keep s)) p = plain s (writes (duties.Silent (silent_duties.Keep s))) p _ refl refl (passes_no_more (duties.Silent (silent_duties.Keep s)) p)
  passed_next (duties.Silent (silent_duties.PassFin s)) p = plain s (writes (duties.Silent (silent_duties.PassFin s))) p _ refl refl (passes_no_more (duties.Silent (silent_duties.PassFin s)) p)
  passed_next d p = plain (side_of d) (writes d) p (passed d p) refl refl (passes_no_more d p)

  -- ---- an event

  line_next : (action : LineAction) (p : PathState C) → AllStay p (after_line action p)
  line_next actions.Die p = record { a = unless_dead p.a; b = unless_dead p.b }
  line_next (actions.Prio s backup) p = calm s (with_priority backup (end_at s p)) p _ refl refl refl
  line_next (actions.Announce s id) p = stay p _ refl refl
  line_next (actions.Withdraw s id) p = stay p _ refl refl

  heard_next : (s : Side) (heard : Option HeardSegment) (p : PathState C) → AllStay p (copy_heard s heard p)
  heard_next s None p = stay p _ refl refl
  heard_next s (Some heard) p = side s _ p _ (judged_next p.profile s p.clock (options_heard (end_at s p) heard) (end_at s p)) refl refl

  pub event_next : (k : Codec C) (o : Option Event) (r : Reply) (p : PathState C) → AllStay p (happens_if k o r p)
  event_next k None r p = stay p _ refl refl
  event_next k (Some (happenings.Joins tick)) r p = let h = begun_next r (leaves A) (emission A) (record (at_tick tick p) { joined_at = None }) in record { a = h.a; b = h.b }
  event_next k (Some (happenings.Takes line)) r p = let h = line_next line.action (record (at_tick line.tick p) { lines = tail_of p.lines }) in record { a = h.a; b = h.b }
  event_next k (Some (happenings.Arrives due)) r p =
      let h = heard_next due.to (heard_in k due.to (arriving due p.link) p) (record (at_tick due.tick p) { link = after_delivery due p.link }) in record { a = h.a; b = h.b }
  event_next k (Some (happenings.Fires s tick)) r p = side s (after_firing (at_tick tick p).clock (end_at s p)) p _ (fired_next (at_tick tick p).clock (end_at s p)) refl refl
