-- What a copy asks for is answered in the same turn.
use Rattle.std.proofs.Common.{◌≡◌, refl, sym, subst, ap, ◌∙◌, ◌⊎◌, inl, inr, ⊎_elim, ℕ, zero, suc, ◌+◌, nat_lt, Bool, true, false, true≢false, ◌&&◌, if◌then◌else◌, Option, Some, None, IfSome, List, [], ◌∷◌, length}
use Rattle.path_segments.specs.Heard.{HeardSegment}
use Rattle.sides.specs.declared.side.Side.{Side}
use Rattle.sides.specs.declared.side.Side.TheVariants.{A, B}
use Rattle.sides.specs.Side.{peer}
use Rattle.link_model.specs.Steps.{arriving, after_delivery}
use Rattle.subflow_send.specs.Rules.{ack_kind, after_acknowledge, sample_of}
use Rattle.subflow_send.specs.Records.{Record}
use Rattle.subflow_send.specs.declared.record.AckKind.TheVariants.{New, Duplicate, Old, Future}
use Rattle.stream_lanes.specs.Words.{Every}
use Rattle.subflow_tcp.specs.declared.dues.Due.{Due}
use Rattle.subflow_tcp.specs.declared.handshake.State.TheVariants.{Established}
use Rattle.subflow_tcp.specs.declared.segments.Hint.{Hint}
use Rattle.subflow_tcp.specs.declared.segments.Occasion.{Occasion}
use Rattle.subflow_tcp.specs.declared.segments.Occasion.TheVariants as to_send
use Rattle.subflow_tcp.specs.declared.verdicts.Meaning.{Meaning}
use Rattle.subflow_tcp.specs.declared.verdicts.Meaning.TheVariants as means
use Rattle.subflow_tcp.specs.Dues.{owing_ack, owing_first, owing_answer}
use Rattle.subflow_tcp.specs.Emitting.{after_sending}
use Rattle.subflow_tcp.specs.Expiring.{after_expiry, is_sixth}
use Rattle.subflow_tcp.specs.Segments.{Copy, occupied}
use Rattle.subflow_tcp.specs.State.{EndState, is_some_record}
use Rattle.subflow_tcp.specs.States.{is_dead, is_half_open, is_waiting}
use Rattle.loss_recovery.specs.Windows.{is_third}
use Rattle.subflow_tcp.specs.Opening.{after_begin}
use Rattle.subflow_tcp.specs.Taking.{after_death, after_payload, after_ack_kind, after_acknowledgement, is_duplicate, after_duplicate, after_interruption, told_by, after_telling, after_heard_ack, after_established, after_hearing, after_taken, after_syn_ack, after_holding}
use Rattle.actor_desk.specs.declared.ask.Reply.{Reply}
use Rattle.actor_desk.specs.Words.{tail_of, is_nil}
use Rattle.path_agenda.specs.Agenda.{start_of_turn, payload_came, heard_and, join_answered, syn_ack_came, leaves, emission}
use Rattle.path_agenda.specs.declared.duty.Duty.{Duty}
use Rattle.path_agenda.specs.declared.duty.Duty.TheVariants as duties
use Rattle.path_agenda.specs.declared.duty.AskDuty.TheVariants as ask_duties
use Rattle.path_agenda.specs.declared.duty.SendDuty.{SendDuty}
use Rattle.path_agenda.specs.declared.duty.SendDuty.TheVariants as send_duties
use Rattle.path_agenda.specs.declared.duty.SilentDuty.{SilentDuty}
use Rattle.path_agenda.specs.declared.duty.SilentDuty.TheVariants as silent_duties
use Rattle.path_agenda.specs.declared.duty.StepDuty.TheVariants as step_duties
use Rattle.path_agenda.specs.declared.heard.Heard.{Heard}
use Rattle.path_agenda.specs.declared.heard.Heard.TheVariants as says
use Rattle.path_agenda.specs.declared.keys.KeyPair.{KeyPair}
use Rattle.path_store.specs.declared.lines.LineAction.{LineAction}
use Rattle.path_store.specs.declared.lines.LineAction.TheVariants as actions
use Rattle.path_core.specs.Arrival.{judged_in, after_judged, copy_heard, heard_in, copy_of, copy_judged, reset_for, owing_if, with_payload, template_by, template_judged}
use Rattle.path_core.specs.Breaking.{answered_break, died_unless_dead}
use Rattle.path_core.specs.Codec.{Codec}
use Rattle.path_core.specs.DssIn.{counts, is_clash, held_of, with_learned, with_skipped, with_data_fin}
use Rattle.path_core.specs.Duties.{stands, sent_for, passed, answered}
use Rattle.path_core.specs.Emission.{answer_occasion, answer_of, answered_data, answered_grant, first_unsent, Grant, grant_in, resend_occasion}
use Rattle.path_core.specs.End.{PathEnd, died}
use Rattle.path_core.specs.Events.{next_event, after_line, happens_if}
use Rattle.path_core.specs.Fallback.{breaks_by_ack}
use Rattle.path_core.specs.Handover.{having_sent}
use Rattle.path_core.specs.Judged.{taken_as}
use Rattle.path_core.specs.MpCapable.{syn_ack_of}
use Rattle.path_core.specs.MpJoin.{join_begun, is_joined, is_never, never_joined, keys_begun, opened_by, with_keys}
use Rattle.path_core.specs.OptionsIn.{items_of, options_heard, hint_of, owes_by}
use Rattle.path_core.specs.Profile.{Profile}
use Rattle.path_core.specs.Standing.{ack_segment}
use Rattle.path_core.specs.Start.{waiting_path}
use Rattle.path_core.specs.Looking.{duty_sends, first_sends, segment_sent}
use Rattle.path_core.specs.OptionsOut.{ack_said, syn_ack_said}
use Rattle.path_core.specs.State.{PathState, at_tick, end_at, goes_on, with_agenda}
use Rattle.path_core.specs.Steps.{settled, takes, begins_turn}
use Rattle.path_core.specs.Timer.{after_firing, timer_fired}
use Rattle.path_core.specs.Treating.{item_passed, answered_heard, answered_item, item_of}
use Rattle.path_core.specs.declared.events.Event.{Event}
use Rattle.path_core.specs.declared.events.Event.TheVariants as happenings
use Rattle.path_core.specs.declared.judged.Judged.{Judged}
use Rattle.path_core.specs.declared.judged.Judged.TheVariants as judged
use Rattle.world_laws.specs.declared.member.Member.TheVariants.{App, Path}
use Rattle.world_laws.specs.Actors.{Actor, member_takes, member_next, is_over}
use Rattle.world_laws.specs.Laws.{Always}
use Rattle.world_laws.specs.Members.{HoldsOfKind}
use Rattle.world_laws.specs.Openings.{PathPlan, Start, path_begins, opened_world}
use Rattle.world_laws.specs.StampedBooks.{answer_to}
use Rattle.world_laws.specs.Worlds.{Turn, world_run}
use Rattle.world_laws.specs.Writes.{EndWrites, EndView, Writes, Only, OnlyAt, nothing, writes, side_of}
use Rattle.world_laws.proofs.Falls.FailedChecks.{fail_answered_so, infinite_came_so}
use Rattle.world_laws.proofs.Rounds.Lifting.{run_lifted, opened_lifted}
use Rattle.world_laws.proofs.Writes.Paths.{writes_no_more, passes_no_more}
use Rattle.world_laws.proofs.Writes.Steps.{unwritten, both_ends}
use Rattle.whole_paths.specs.AgendaSteps.{hears_join, is_of_both, is_gone, is_silent, Follows}
use Rattle.whole_paths.specs.AgendaSteps.{Follows as follow}
use Rattle.whole_paths.specs.Answered.{OwesNone, IsDone, HasAnswered, IsBareAck, AcksGoFirst, CopiesAreAnswered}
use Rattle.whole_paths.specs.Answered.{IsBareAck as bare_by}
use Rattle.whole_paths.specs.Answered.{IsDone as idle_by}
use Rattle.whole_paths.specs.EndSteps.{PathStep}
use Rattle.whole_paths.proofs.Agendas.{own_end, gone_end, answered_follows}
use Rattle.whole_paths.proofs.Duties.{passed_steps, answered_steps}
use Rattle.whole_paths.proofs.Passing.{Resets, silent_resets}
use Rattle.whole_paths.proofs.Saying.{ToSend}
use Rattle.whole_paths.proofs.Settling.{sides}
use Rattle.whole_paths.proofs.Waiting.{path_far, gone_stays}

-- ---- what a duty makes of it

-- nothing more is owed
record Fewer (e f : PathEnd) : Type 0 where
  ack : e.tcp.due.ack ≡ false → f.tcp.due.ack ≡ false
  syn_ack : e.tcp.due.syn_ack ≡ false → f.tcp.due.syn_ack ≡ false

data Lets (e f : PathEnd) : Type 0 where
  fewer : Fewer e f → Lets e f
  dies : is_gone f ≡ true → Lets e f

same_due : (e f : PathEnd) → f.tcp.due ≡ e.tcp.due → Lets e f
same_due e f is = fewer (record { ack = λ h. ap (λ (d : Due). d.ack) is ∙ h; syn_ack = λ h. ap (λ (d : Due). d.syn_ack) is ∙ h })

-- a segment that is sent
sent_fewer : (occasion : Occasion) (now : ℕ) (s : EndState) → let d = (after_sending occasion now s).due in (s.due.ack ≡ false → d.ack ≡ false) × (s.due.syn_ack ≡ false → d.syn_ack ≡ false)
sent_fewer to_send.SynAck now s = (λ h. h, λ h. refl)
sent_fewer to_send.Ack now s = (λ h. refl, λ h. h)
sent_fewer _ now s = (λ h. h, λ h. h)

sent_lets : (occasion : Occasion) (now : ℕ) (e f : PathEnd) → f.tcp ≡ after_sending occasion now e.tcp → Lets e f
sent_lets occasion now e f is =
    let x = sent_fewer occasion now e.tcp in
    fewer (record { ack = λ h. ap (λ (t : EndState). t.due.ack) is ∙ x.0 h; syn_ack = λ h. ap (λ (t : EndState). t.due.syn_ack) is ∙ x.1 h })

only_lets : (w : EndWrites) (e f : PathEnd) → w.due ≡ false → Only w e f → Lets e f
only_lets w e f due x = same_due e f (unwritten w.due e.tcp.due f.tcp.due due (ap (λ (v : EndView). v.due) x.same))

item_lets : (s : Side) (o : Option Heard) (e : PathEnd) → Lets e (item_passed s o e)
item_lets s None e = same_due e e refl
item_lets s (Some (says.Mapping fin)) e = elim (counts e) as (λ b. Lets e (if b then with_learned e else with_skipped e)) [ true ↦ same_due e (with_learned e) refl | false ↦ same_due e (with_skipped e) refl ]
item_lets s (Some (says.DataFin place)) e = elim (counts e) as (λ b. Lets e (if b then with_data_fin place e else e)) [ true ↦ same_due e (with_data_fin place e) refl | false ↦ same_due e e refl ]
item_lets s (Some _) e = same_due e _ refl

-- of any duty but an event
abbrev is_event : Duty → Bool
is_event (duties.Step step_duties.Events) = true
is_event _ = false

-- ---- a path

module _ {C : Type 0} where
  record BothLet (p q : PathState C) : Type 0 where
    a : Lets p.a q.a
    b : Lets p.b q.b

  side : (s : Side) (e : PathEnd) (p q : PathState C) → Lets (end_at s p) e → q.a ≡ (goes_on s e [] p).a → q.b ≡ (goes_on s e [] p).b → BothLet p q
  side A e p q x same_a same_b = record { a = subst (Lets p.a) (sym same_a) x; b = subst (Lets p.b) (sym same_b) (same_due p.b p.b refl) }
  side B e p q x same_a same_b = record { a = subst (Lets p.a) (sym same_a) (same_due p.a p.a refl); b = subst (Lets p.b) (sym same_b) x }

  -- its end owes the same
  calm : (s : Side) (e : PathEnd) (p q : PathState C) → e.tcp.due ≡ (end_at s p).tcp.due → q.a ≡ (goes_on s e [] p).a → q.b ≡ (goes_on s e [] p).b → BothLet p q
  calm s e p q due same_a same_b = side s e p q (same_due (end_at s p) e due) same_a same_b

  dying : (s : Side) (e : PathEnd) (p q : PathState C) → is_gone e ≡ true → q.a ≡ (goes_on s e [] p).a → q.b ≡ (goes_on s e [] p).b → BothLet p q
  dying s e p q dead same_a same_b = side s e p q (dies dead) same_a same_b

  sent : (occasion : Occasion) (s : Side) (e : PathEnd) (p q : PathState C) → e.tcp ≡ after_sending occasion p.clock (end_at s p).tcp → q.a ≡ (goes_on s e [] p).a → q.b ≡ (goes_on s e [] p).b → BothLet p q
  sent occasion s e p q is same_a same_b = side s e p q (sent_lets occasion p.clock (end_at s p) e is) same_a same_b

  both_rest : (p q : PathState C) → q.a ≡ p.a → q.b ≡ p.b → BothLet p q
  both_rest p q same_a same_b = record { a = same_due p.a q.a (ap (λ e. e.tcp.due) same_a); b = same_due p.b q.b (ap (λ e. e.tcp.due) same_b) }

  either : (b : Bool) (q r p : PathState C) → BothLet p q → BothLet p r → BothLet p (if b then q else r)
  either true q r p x y = x
  either false q r p x y = y

  from_there : (p q r : PathState C) → q.a ≡ p.a → q.b ≡ p.b → BothLet q r → BothLet p r
  from_there p q r a b x = record { a = subst (λ e. Lets e r.a) a x.a; b = subst (λ e. Lets e r.b) b x.b }

  plain : (s : Side) (w : Writes) (p q : PathState C) → w.own.due ≡ false → w.other ≡ nothing → OnlyAt s w p q → BothLet p q
  plain s w p q due none x = record { a = h.0; b = h.1 }
    where
      h : Lets p.a q.a × Lets p.b q.b
      h = both_ends (λ e f. Lets e f) s w p q (λ e f only. only_lets w.own e f due only) (λ e f only. only_lets nothing e f refl (subst (λ v. Only v e f) none only)) x

  break_lets : (k : Codec C) (s : Side) (reason : ℕ) (r : Reply) (p : PathState C) → BothLet p (answered_break k s reason r p)
  break_lets k s reason r p = either (end_at s p).treated.asked _ _ p (calm s _ p _ refl refl refl) (dying s _ p _ refl refl refl)

  thing_lets : (k : Codec C) (s : Side) (item : Heard) (r : Reply) (p : PathState C) → BothLet p (answered_heard k s item r p)
  thing_lets k s (says.DataAck next window) r p = calm s _ p _ refl refl refl
  thing_lets k s (says.Mapping fin) r p = either (is_clash (end_at s p)) _ _ p (break_lets k s 1 r p) (calm s _ p _ refl refl refl)
  thing_lets k s (says.DataFin place) r p = calm s _ p _ refl refl refl
  thing_lets k s (says.InfiniteMapping place position) r p =
      let e = end_at s p in side s _ p _ (infinite_came_so (λ f. Lets e f) place position r e (λ other. same_due e _ refl)) refl refl
  thing_lets k s (says.Keys own peer) r p = calm s _ p _ refl refl refl
  thing_lets k s (says.Notice notice) r p = calm s _ p _ refl refl refl
  thing_lets k s says.Fail r p = fail_answered_so (BothLet p) s r p (calm s _ p _ refl refl refl) (calm s _ p _ refl refl refl)
  thing_lets k s _ r p = both_rest p _ refl refl

  things_let : (k : Codec C) (s : Side) (item : Option Heard) (r : Reply) (p : PathState C) → BothLet p (answered_item k s item r p)
  things_let k s None r p = both_rest p _ refl refl
  things_let k s (Some item) r p = thing_lets k s item r p

  data_lets : (k : Codec C) (s : Side) (o : Option Record) (r : Reply) (p : PathState C) → BothLet p (answered_data k s o r p)
  data_lets k s (Some unsent) r p = sent to_send.Unsent s _ p _ refl refl refl
  data_lets k s None r p = by (grant_in r)
    where
      by : (o : Option Grant) → BothLet p (answered_grant s o r p)
      by (Some grant) = calm s _ p _ refl refl refl
      by None = calm s _ p _ refl refl refl

  send_lets : (k : Codec C) (d : SendDuty) (p : PathState C) → BothLet p (sent_for k d p)
  send_lets k (send_duties.Syn s) p = sent to_send.Unsent s _ p _ refl refl refl
  send_lets k (send_duties.SynAck s) p = sent to_send.SynAck s _ p _ refl refl refl
  send_lets k (send_duties.Again s) p = sent to_send.First s _ p _ refl refl refl
  send_lets k (send_duties.Answer s) p = sent (answer_occasion (end_at s p)) s _ p _ refl refl refl
  send_lets k (send_duties.Resend s) p = sent (resend_occasion (end_at s p)) s _ p _ refl refl refl
  send_lets k (send_duties.Fin s) p = calm s _ p _ refl refl refl
  send_lets k (send_duties.Refuse s) p = calm s _ p _ refl refl refl
  send_lets k (send_duties.ResetAnswer s) p = calm s _ p _ refl refl refl
  send_lets k (send_duties.BreakReset s reason) p = dying s _ p _ refl refl refl
  send_lets k (send_duties.Reset s) p = dying s _ p _ refl refl refl
  send_lets k (send_duties.ResetNoted s) p = dying s _ p _ refl refl refl
  send_lets k (send_duties.Update s) p = sent to_send.Ack s _ p _ refl refl refl
  send_lets k (send_duties.FastClose s) p = sent to_send.Ack s _ p _ refl refl refl
  send_lets k (send_duties.Notice s) p = sent to_send.Ack s _ p _ refl refl refl
  send_lets k (send_duties.Acknowledge s) p = sent to_send.Ack s _ p _ refl refl refl
  send_lets k (send_duties.DataFin s) p = sent to_send.Ack s _ p _ refl refl refl

  begun_lets : (r : Reply) (dead living : List Duty) (p : PathState C) → BothLet p (join_begun r dead living p)
  begun_lets r dead living p =
      either (is_never r) (goes_on A (never_joined r (end_at A p)) dead p) (goes_on A (opened_by (keys_begun r) (end_at A p)) living p) p
      (dying A _ p _ refl refl refl) (side A _ p _ (opens_lets (keys_begun r)) refl refl)
    where
      opens_lets : (keys : Option KeyPair) → Lets p.a (opened_by keys p.a)
      opens_lets None = same_due p.a p.a refl
      opens_lets (Some keys) = elim (is_waiting p.a.tcp.state) as (λ b. Lets p.a (record p.a { tcp = if b then after_begin p.a.tcp else p.a.tcp; modes = with_keys keys p.a.modes }))
          [ true ↦ same_due _ _ refl | false ↦ same_due _ _ refl ]

  answered_lets : (k : Codec C) (d : Duty) (r : Reply) (p : PathState C) → is_event d ≡ false → BothLet p (answered k d r p)
  answered_lets k (duties.Step step_duties.Events) r p other = absurd (true≢false other)
  answered_lets k (duties.Ask ask_duties.JoinAgain) r p other = begun_lets r _ _ p
  answered_lets k (duties.Ask (ask_duties.LeaveNoted s)) r p other = dying s _ p _ refl refl refl
  answered_lets k (duties.Step (step_duties.Heard s index)) r p other = things_let k s (item_of index (end_at s p)) r p
  answered_lets k (duties.Step (step_duties.PlainAck s)) r p other = either (breaks_by_ack p.profile (end_at s p)) _ _ p (break_lets k s 6 r p) (calm s _ p _ refl refl refl)
  answered_lets k (duties.Step (step_duties.Unmapped s)) r p other = break_lets k s 6 r p
  answered_lets k (duties.Step (step_duties.Data s)) r p other = data_lets k s (first_unsent (end_at s p)) r p
  answered_lets k (duties.Send d) r p other = send_lets k d p
  answered_lets k (duties.Silent d) r p other = both_rest p _ refl refl
  answered_lets k d r p other = plain (side_of d) (writes d) p _ refl refl (writes_no_more k d r p)

  silent_lets : (d : SilentDuty) (p : PathState C) → BothLet p (passed (duties.Silent d) p)
  silent_lets (silent_duties.Timer s) p = plain s (writes (duties.Silent (silent_duties.Timer s))) p _ refl refl (passes_no_more (duties.Silent (silent_duties.Timer s)) p)
  silent_lets (silent_duties.Keep s) p = plain s (writes (duties.Silent (silent_duties.Keep s))) p _ refl refl (passes_no_more (duties.Silent (silent_duties.Keep s)) p)
  silent_lets (silent_duties.PassFin s) p = plain s (writes (duties.Silent (silent_duties.PassFin s))) p _ refl refl (passes_no_more (duties.Silent (silent_duties.PassFin s)) p)

  passed_lets : (d : Duty) (p : PathState C) → BothLet p (passed d p)
  passed_lets (duties.Ask ask_duties.JoinAgain) p = both_rest p p refl refl
  passed_lets (duties.Ask (ask_duties.LeaveNoted s)) p = both_rest p p refl refl
  passed_lets (duties.Step step_duties.Events) p = both_rest p p refl refl
  passed_lets (duties.Step (step_duties.Data s)) p = both_rest p p refl refl
  passed_lets (duties.Step (step_duties.Heard s index)) p = side s _ p _ (item_lets s (item_of index (end_at s p)) (end_at s p)) refl refl
  passed_lets (duties.Step (step_duties.PlainAck s)) p = calm s _ p _ refl refl refl
  passed_lets (duties.Step (step_duties.Unmapped s)) p = calm s _ p _ refl refl refl
  passed_lets (duties.Send d) p = both_rest p p refl refl
  passed_lets (duties.Silent d) p = silent_lets d p
  passed_lets d p = plain (side_of d) (writes d) p (passed d p) refl refl (passes_no_more d p)

  let_at : (s : Side) (p q : PathState C) → BothLet p q → Lets (end_at s p) (end_at s q)
  let_at A p q x = x.a
  let_at B p q x = x.b

-- ---- what a copy makes of it

first_same : (b : Bool) (d : Due) → (if b then owing_first d else d).syn_ack ≡ d.syn_ack
first_same = elim [ true ↦ λ d. refl | false ↦ λ d. refl ]

ack_same : (b : Bool) (d : Due) → (if b then owing_ack d else d).syn_ack ≡ d.syn_ack
ack_same = elim [ true ↦ λ d. refl | false ↦ λ d. refl ]

owing_same : (b : Bool) (t : EndState) → (owing_if b t).due.syn_ack ≡ t.due.syn_ack
owing_same = elim [ true ↦ λ t. refl | false ↦ λ t. refl ]

ack_due : (pos now : ℕ) (s : EndState) → (after_acknowledgement pos now s).due ≡ s.due
ack_due pos now s = elim (ack_kind pos s.send) as (λ kind. (after_ack_kind kind (sample_of pos s.send) now (record s { send = after_acknowledge pos s.send })).due ≡ s.due)
    [ New octets ↦ refl | Duplicate ↦ refl | Old ↦ refl | Future ↦ refl ]

heard_ack_due : (pos : ℕ) (hint : Hint) (now : ℕ) (c : Copy) (s : EndState) → (after_heard_ack pos hint now c s).due.syn_ack ≡ s.due.syn_ack
heard_ack_due pos hint now c s = elim (is_duplicate (ack_kind pos s.send) (told_by hint c) c acked) as (λ b. (after_telling (told_by hint c) (if b then after_duplicate acked else after_interruption acked)).due.syn_ack ≡ s.due.syn_ack) [
  | true ↦ first_same (is_third acked.congestion) acked.due ∙ ap (λ (d : Due). d.syn_ack) (ack_due pos now s)
  | false ↦ ap (λ (d : Due). d.syn_ack) (ack_due pos now s)
]
  where
    acked : EndState
    acked = after_acknowledgement pos now s

taken_due : (pos acknowledged : ℕ) (hint : Hint) (now : ℕ) (c : Copy) (s : EndState) → (after_taken pos acknowledged hint now c s).due.syn_ack ≡ s.due.syn_ack
taken_due pos acknowledged hint now c s =
    let ready : EndState = after_established (after_hearing (after_payload pos hint c s)) in
    ack_same (nat_lt 0 (occupied c)) (after_heard_ack acknowledged hint now c ready).due ∙ heard_ack_due acknowledged hint now c ready

accepted_due : (pos : ℕ) (hint : Hint) (now : ℕ) (c : Copy) (s : EndState) → (after_syn_ack pos hint now c s).due.syn_ack ≡ s.due.syn_ack
accepted_due pos hint now c s =
    let ready : EndState = record (after_hearing (after_payload 1 hint c s)) { state = Established } in
    ack_same (nat_lt 0 (occupied c)) (after_acknowledgement pos now ready).due ∙ ap (λ (d : Due). d.syn_ack) (ack_due pos now ready)

held_due : (m : Meaning) (octets : List ℕ) (s : EndState) → (with_payload m octets s).due.syn_ack ≡ s.due.syn_ack
held_due (means.Taken pos acknowledged) octets s = elim (is_nil octets) as (λ b. (if b then s else after_holding pos octets s).due.syn_ack ≡ s.due.syn_ack) [ true ↦ refl | false ↦ refl ]
held_due _ octets s = refl

-- an answer is an acknowledgement or a SYN/ACK
answer_one : (b : Bool) (d : Due) → d.ack ≡ false → d.syn_ack ≡ false → ((owing_answer b d).ack && (owing_answer b d).syn_ack) ≡ false
answer_one true d ack syn = ap (λ b. b && true) ack
answer_one false d ack syn = syn

fire_lets : (now : ℕ) (e : PathEnd) → Lets e (after_firing now e)
fire_lets now e = elim (is_sixth e.tcp) as (λ b. Lets e (record e { tcp = if b then after_death true e.tcp else after_expiry now e.tcp })) [ true ↦ dies refl | false ↦ fewer (owed (is_some_record e.tcp.send.records)) ]
  where
    owed : (b : Bool) → Fewer e (record e { tcp = record (after_expiry now e.tcp) { due = if b then owing_first e.tcp.due else e.tcp.due } })
    owed true = record { ack = λ h. h; syn_ack = λ h. h }
    owed false = record { ack = λ h. h; syn_ack = λ h. h }

died_lets : (e : PathEnd) → Lets e (died_unless_dead e)
died_lets e = elim (is_dead e.tcp.state) as (λ b. Lets e (if b then e else died e)) [ true ↦ same_due e e refl | false ↦ dies refl ]

-- ---- what is still to be done

-- the duty answers what this end owes, or the end is dead then
abbrev pub Sends : Side → PathEnd → Duty → Type 0
Sends s e (duties.Send (send_duties.Acknowledge t)) = (t ≡ s) × (e.tcp.due.syn_ack ≡ false)
Sends s e (duties.Send (send_duties.Answer t)) = (t ≡ s) × ((e.tcp.due.ack && e.tcp.due.syn_ack) ≡ false)
Sends s e (duties.Send (send_duties.SynAck t)) = (t ≡ s) × (e.tcp.due.ack ≡ false)
Sends s e (duties.Ask (ask_duties.BreakAck t reason)) = t ≡ s
Sends s e (duties.Send (send_duties.BreakReset t reason)) = t ≡ s
Sends s e (duties.Send (send_duties.Reset t)) = t ≡ s
Sends s e _ = ⊥

-- such a duty stands behind others of the same side, by which no segment goes but a reset
abbrev pub Ahead : Side → PathEnd → List Duty → Type 0
Ahead s e [] = ⊥
Ahead s e (d ∷ ds) = Sends s e d ⊎ ((side_of d ≡ s) × ((is_of_both d ≡ false) × ((is_silent d ≡ true) × Ahead s e ds)))

-- a path that joins is asked for by no such duty
no_join : (d : Duty) → hears_join d ≡ true → is_silent d ≡ true → ⊥
no_join (duties.Ask (ask_duties.JoinHeard s)) joins silent = true≢false (sym silent)
no_join d joins silent = true≢false (sym joins)

-- the end is dead, owes nothing, or will answer
pub data Ready (s : Side) (ds : List Duty) (e : PathEnd) : Type 0 where
  is_dead_now : is_gone e ≡ true → Ready s ds e
  is_quiet : OwesNone e → Ready s ds e
  answers : Ahead s e ds → Ready s ds e

not_both : (a b c d : Bool) → (a ≡ false → c ≡ false) → (b ≡ false → d ≡ false) → (a && b) ≡ false → (c && d) ≡ false
not_both false b c d first second is = subst (λ x. (x && d) ≡ false) (sym (first refl)) refl
not_both true false c d first second is = by c
  where
    by : (x : Bool) → (x && d) ≡ false
    by true = second refl
    by false = refl
not_both true true c d first second is = absurd (true≢false is)

fewer_sends : (s : Side) (e f : PathEnd) (d : Duty) → Fewer e f → Sends s e d → Sends s f d
fewer_sends s e f (duties.Send (send_duties.Acknowledge t)) x is = (is.0, x.syn_ack is.1)
fewer_sends s e f (duties.Send (send_duties.Answer t)) x is = (is.0, not_both e.tcp.due.ack e.tcp.due.syn_ack f.tcp.due.ack f.tcp.due.syn_ack x.ack x.syn_ack is.1)
fewer_sends s e f (duties.Send (send_duties.SynAck t)) x is = (is.0, x.ack is.1)
fewer_sends s e f (duties.Ask (ask_duties.BreakAck t reason)) x is = is
fewer_sends s e f (duties.Send (send_duties.BreakReset t reason)) x is = is
fewer_sends s e f (duties.Send (send_duties.Reset t)) x is = is
fewer_sends s e f _ x is = absurd is

fewer_ahead : (s : Side) (e f : PathEnd) → Fewer e f → (ds : List Duty) → Ahead s e ds → Ahead s f ds
fewer_ahead s e f x [] a = absurd a
fewer_ahead s e f x (d ∷ ds) a = ⊎_elim (λ is. inl (fewer_sends s e f d x is)) (λ rest. inr (rest.0, (rest.1.0, (rest.1.1.0, fewer_ahead s e f x ds rest.1.1.1)))) a

-- what follows a duty that others stand behind
follows_ready : (s : Side) (f : PathEnd) (d : Duty) (ds next : List Duty) → Follows s (is_gone f) d ds next → side_of d ≡ s → is_of_both d ≡ false → is_silent d ≡ true → Ahead s f ds → Ready s next f
follows_ready s f d ds next follows own one quiet a = by next follows
  where
    by : (next : List Duty) → Follows s (is_gone f) d ds next → Ready s next f
    by next follow.goes_on = answers a
    by next follow.again = answers (inr (own, (one, (quiet, a))))
    by next (follow.told treats e side alone named (inl silent)) = answers (inr (side, (alone, (silent, a))))
    by next (follow.told treats e side alone named (inr joins)) = absurd (no_join d joins quiet)
    by next (follow.left dead) = is_dead_now dead
    by next follow.noted = answers (inr (refl, (refl, (refl, a))))
    by next (follow.broken may reason) = answers (inl refl)
    by next (follow.is_reset may reason) = answers (inl refl)
    by next (follow.dead may gone) = is_dead_now gone
    by next (follow.stopped may) = answers (inr (refl, (refl, (refl, inr (refl, (refl, (refl, inl refl)))))))
    by next (follow.over both) = absurd (true≢false (sym both ∙ one))

-- ---- the templates of a copy

heard_ahead : (s : Side) (f : PathEnd) (from count : ℕ) (ds : List Duty) → Ahead s f ds → Ahead s f (heard_and s from count ds)
heard_ahead s f from zero ds a = a
heard_ahead s f from (suc count) ds a = inr (refl, (refl, (refl, heard_ahead s f (from + 1) count ds a)))

payload_ahead : (s : Side) (f : PathEnd) → f.tcp.due.syn_ack ≡ false → Ahead s f (payload_came s)
payload_ahead s f syn =
    inr (refl, (refl, (refl, inr (refl, (refl, (refl, inr (refl, (refl, (refl, inr (refl, (refl, (refl, inr (refl, (refl, (refl, inr (refl, (refl, (refl, inr (refl, (refl, (refl, inr (refl, (refl, (refl, inr (refl, (refl, (refl, inr (refl, (refl, (refl, inr (refl, (refl, (refl, inr (refl, (refl, (refl, inr (refl, (refl, (refl, inr (refl, (refl, (refl, inl (refl, syn)))))))))))))))))))))))))))))))))))))))))))

module _ (c : Profile) (s : Side) (now : ℕ) (x : HeardSegment) (count : ℕ) (e : PathEnd) (h : OwesNone e) where
  abbrev heard_as : Meaning → PathEnd
  heard_as m = copy_judged (is_joined c) (held_of c s x) (reset_for c s x) s now x m e

  -- the end owes nothing more
  quiet : (ds : List Duty) (m : Meaning) → (heard_as m).tcp.due ≡ e.tcp.due → Ready s ds (heard_as m)
  quiet ds m is = is_quiet (record { ack = ap (λ (d : Due). d.ack) is ∙ h.ack; syn_ack = ap (λ (d : Due). d.syn_ack) is ∙ h.syn_ack })

  meant : (m : Meaning) → Ready s (template_by (is_joined c) s count m) (heard_as m)
  meant (means.Accepts pos) = by (is_joined c)
    where
      syn : (heard_as (means.Accepts pos)).tcp.due.syn_ack ≡ false
      syn = accepted_due pos (hint_of (items_of (is_joined c) s x)) now (copy_of x) e.tcp ∙ h.syn_ack

      by : (b : Bool) → Ready s (if b then join_answered s else syn_ack_came s) (heard_as (means.Accepts pos))
      by true = answers (inr (refl, (refl, (refl, inl (refl, syn)))))
      by false = answers (inr (refl, (refl, (refl, inr (refl, (refl, (refl, inr (refl, (refl, (refl, inl (refl, syn)))))))))))
  meant means.RepeatedSyn = answers (inl (refl, h.ack))
  meant means.Outside = answers (inl (refl, answer_one (is_half_open e.tcp.state) e.tcp.due h.ack h.syn_ack))
  meant means.Challenged = answers (inl (refl, answer_one (is_half_open e.tcp.state) e.tcp.due h.ack h.syn_ack))
  meant means.Ahead = answers (inl (refl, answer_one (is_half_open e.tcp.state) e.tcp.due h.ack h.syn_ack))
  meant means.Kills = is_dead_now refl
  meant (means.Taken pos acknowledged) =
      let m : Meaning = means.Taken pos acknowledged in
      let items : List Heard = items_of (is_joined c) s x in
      let held : EndState = with_payload m x.payload e.tcp in
      let syn : (heard_as m).tcp.due.syn_ack ≡ false =
      owing_same (owes_by m items) (after_taken pos acknowledged (hint_of items) now (copy_of x) held) ∙ taken_due pos acknowledged (hint_of items) now (copy_of x) held ∙ held_due m x.payload e.tcp ∙ h.syn_ack in
      answers (inr (refl, (refl, (refl, inr (refl, (refl, (refl, heard_ahead s (heard_as m) 0 count (payload_came s) (payload_ahead s (heard_as m) syn))))))))
  meant means.Ignored = quiet _ means.Ignored refl
  meant means.Unwanted = quiet _ means.Unwanted refl
  meant means.Opens = quiet _ means.Opens refl
  meant means.Unacknowledging = quiet _ means.Unacknowledging refl

  judged_ready : (verdict : Judged) → Ready s (template_judged (is_joined c) s count verdict) (heard_as (taken_as verdict))
  judged_ready (judged.As m) = meant m
  judged_ready judged.Asks = quiet _ means.Ignored refl
  judged_ready judged.Lacks = quiet _ means.Ignored refl
  judged_ready judged.Forged = quiet _ means.Ignored refl

-- an end that owes nothing goes on to, or dies
quiet_lets : (s : Side) (ds : List Duty) (e f : PathEnd) → Lets e f → OwesNone e → Ready s ds f
quiet_lets s ds e f (fewer x) h = is_quiet (record { ack = x.ack h.ack; syn_ack = x.syn_ack h.syn_ack })
quiet_lets s ds e f (dies gone) h = is_dead_now gone

answer_paid : (now : ℕ) (t : EndState) → (t.due.ack && t.due.syn_ack) ≡ false → let d = (after_sending (if t.due.syn_ack then to_send.SynAck else to_send.Ack) now t).due in (d.ack ≡ false) × (d.syn_ack ≡ false)
answer_paid now t is = by t.due.syn_ack refl
  where
    one : (a b : Bool) → b ≡ true → (a && b) ≡ false → a ≡ false
    one false b syn both = refl
    one true true syn both = absurd (true≢false both)
    one true false syn both = absurd (true≢false (sym syn))

    by : (b : Bool) → t.due.syn_ack ≡ b → let d = (after_sending (if b then to_send.SynAck else to_send.Ack) now t).due in (d.ack ≡ false) × (d.syn_ack ≡ false)
    by true syn = (one t.due.ack t.due.syn_ack syn is, refl)
    by false syn = (refl, syn)

nil_so : (ds : List Duty) → is_nil ds ≡ true → ds ≡ []
nil_so [] is = refl
nil_so (d ∷ ds) is = absurd (true≢false (sym is))

first_quiet : (C : Type 0) (number : ℕ) (start : Start) (plan : PathPlan) (s : Side) → OwesNone (end_at s (waiting_path {C = C} (path_begins start number plan) start.lines))
first_quiet C number start plan A = record { ack = refl; syn_ack = refl }
first_quiet C number start plan B = record { ack = refl; syn_ack = refl }

-- ---- the duties of a turn

module _ {C : Type 0} where
  far_gone : (s : Side) (p q : PathState C) → PathStep p q → is_gone (end_at s p) ≡ true → is_gone (end_at s q) ≡ true
  far_gone s p q x = gone_stays (end_at s p) (end_at s q) (path_far p q x s)

  -- of a duty that is passed
  pass_sends : (s : Side) (d : Duty) (p : PathState C) → stands d p ≡ false → Sends s (end_at s p) d → OwesNone (end_at s p)
  pass_sends s (duties.Send (send_duties.Acknowledge t)) p passes is = record { ack = subst (λ u. (end_at u p).tcp.due.ack ≡ false) is.0 passes; syn_ack = is.1 }
  pass_sends s (duties.Send (send_duties.Answer t)) p passes is = absurd (true≢false passes)
  pass_sends s (duties.Send (send_duties.SynAck t)) p passes is = absurd (true≢false passes)
  pass_sends s (duties.Ask (ask_duties.BreakAck t reason)) p passes is = absurd (true≢false passes)
  pass_sends s (duties.Send (send_duties.BreakReset t reason)) p passes is = absurd (true≢false passes)
  pass_sends s (duties.Send (send_duties.Reset t)) p passes is = absurd (true≢false passes)
  pass_sends s _ p passes is = absurd is

  pass_ready : (s : Side) (d : Duty) (ds : List Duty) (p : PathState C) → stands d p ≡ false → Ready s (d ∷ ds) (end_at s p) → Ready s ds (end_at s (passed d p))
  pass_ready s d ds p passes (is_dead_now gone) = is_dead_now (far_gone s p (passed d p) (passed_steps d p) gone)
  pass_ready s d ds p passes (is_quiet h) = quiet_lets s ds (end_at s p) (end_at s (passed d p)) (let_at s p (passed d p) (passed_lets d p)) h
  pass_ready s d ds p passes (answers a) = ⊎_elim
      (λ is. quiet_lets s ds (end_at s p) (end_at s (passed d p)) (let_at s p (passed d p) (passed_lets d p)) (pass_sends s d p passes is))
      (λ rest. by (let_at s p (passed d p) (passed_lets d p)) rest.1.1.1)
      a
    where
      by : Lets (end_at s p) (end_at s (passed d p)) → Ahead s (end_at s p) ds → Ready s ds (end_at s (passed d p))
      by (fewer x) b = answers (fewer_ahead s (end_at s p) (end_at s (passed d p)) x ds b)
      by (dies gone) b = is_dead_now gone

  abbrev pub Stands : Side → PathState C → Type 0
  Stands s p = Ready s p.agenda (end_at s p)

  settled_ready : (s : Side) (ds : List Duty) (p : PathState C) → Ready s ds (end_at s p) → Stands s (settled ds p)
  settled_ready s [] p h = h
  settled_ready s (d ∷ ds) p h = by (stands d p) refl (λ passes. settled_ready s ds (passed d p) (pass_ready s d ds p passes h))
    where
      by : (b : Bool) → stands d p ≡ b → (stands d p ≡ false → Stands s (settled ds (passed d p))) → Stands s (if b then with_agenda (d ∷ ds) p else settled ds (passed d p))
      by true is rest = h
      by false is rest = rest is

  -- of one that is answered, and whose sending is known
  answer_on : (s : Side) (d : Duty) (ds : List Duty) (x q : PathState C) → (Sends s (end_at s x) d → Stands s q) → Lets (end_at s x) (end_at s q)
      → (is_gone (end_at s x) ≡ true → is_gone (end_at s q) ≡ true) → (t : Side) → side_of d ≡ t → Follows t (is_gone (end_at t q)) d ds q.agenda → Ready s (d ∷ ds) (end_at s x) → Stands s q
  answer_on s d ds x q sends lets stays t own follows (is_dead_now gone) = is_dead_now (stays gone)
  answer_on s d ds x q sends lets stays t own follows (is_quiet h) = quiet_lets s q.agenda (end_at s x) (end_at s q) lets h
  answer_on s d ds x q sends lets stays t own follows (answers a) = ⊎_elim sends (λ rest. by lets rest.0 rest.1.0 rest.1.1.0 rest.1.1.1) a
    where
      by : Lets (end_at s x) (end_at s q) → side_of d ≡ s → is_of_both d ≡ false → is_silent d ≡ true → Ahead s (end_at s x) ds → Stands s q
      by (dies gone) side one quiet b = is_dead_now gone
      by (fewer y) side one quiet b =
          follows_ready s (end_at s q) d ds q.agenda (subst (λ u. Follows u (is_gone (end_at u q)) d ds q.agenda) (sym own ∙ side) follows) side one quiet (fewer_ahead s (end_at s x) (end_at s q) y ds b)

  -- the sending of an acknowledgement, and of an answer
  paid : (s t : Side) (f : PathEnd) (x q : PathState C) → t ≡ s → end_at t q ≡ f → f.tcp.due.ack ≡ false → f.tcp.due.syn_ack ≡ false → Stands s q
  paid s t f x q own is ack syn_ack = is_quiet (subst (λ u. OwesNone (end_at u q)) own (subst OwesNone (sym is) (record { ack = ack; syn_ack = syn_ack })))

  -- ---- an event

  line_lets : (action : LineAction) (p : PathState C) → BothLet p (after_line action p)
  line_lets actions.Die p = record { a = died_lets p.a; b = died_lets p.b }
  line_lets (actions.Prio s backup) p = calm s _ p _ refl refl refl
  line_lets (actions.Announce s id) p = both_rest p _ refl refl
  line_lets (actions.Withdraw s id) p = both_rest p _ refl refl

  heard_ready : (s : Side) (o : Option HeardSegment) (p : PathState C) → OwesNone (end_at s p) → Stands s (copy_heard s o p)
  heard_ready s None p h = is_quiet (record { ack = h.ack; syn_ack = h.syn_ack })
  heard_ready s (Some segment) p h =
      let e : PathEnd = end_at s p in
      let x : HeardSegment = options_heard e segment in
      let joined : Bool = is_joined p.profile in
      let verdict : Judged = judged_in joined s x e in
      let count : ℕ = length (items_of joined s x) in
      let f : PathEnd = after_judged p.profile s p.clock x verdict e in
      subst (Ready s (template_judged joined s count verdict)) (sym (own_end s f p.a p.b)) (judged_ready p.profile s p.clock x count e h verdict)

  heard_other : (s : Side) (o : Option HeardSegment) (p : PathState C) → end_at (peer s) (copy_heard s o p) ≡ end_at (peer s) p
  heard_other A None p = refl
  heard_other B None p = refl
  heard_other A (Some segment) p = refl
  heard_other B (Some segment) p = refl

  -- a copy comes to this side or to the other one
  arrives_ready : (s t : Side) (o : Option HeardSegment) (p : PathState C) → OwesNone (end_at t p) → Stands t (copy_heard s o p)
  arrives_ready s t o p h = ⊎_elim
      (λ is. subst (λ u. OwesNone (end_at u p) → Stands u (copy_heard s o p)) is (heard_ready s o p) h)
      (λ is. subst (λ u. OwesNone (end_at u p) → Stands u (copy_heard s o p)) is (λ k. is_quiet (subst OwesNone (sym (heard_other s o p)) k)) h)
      (sides t s)

  quiet_at : (t : Side) (p q : PathState C) → BothLet p q → OwesNone (end_at t p) → Stands t q
  quiet_at t p q x h = quiet_lets t q.agenda (end_at t p) (end_at t q) (let_at t p q x) h

  event_ready : (k : Codec C) (o : Option Event) (r : Reply) (p : PathState C) (t : Side) → OwesNone (end_at t p) → Stands t (happens_if k o r p)
  event_ready k None r p t h = quiet_at t p (happens_if k None r p) (both_rest p _ refl refl) h
  event_ready k (Some (happenings.Joins tick)) r p t h =
      let q : PathState C = record (at_tick tick p) { joined_at = None } in
      quiet_at t p (happens_if k (Some (happenings.Joins tick)) r p) (from_there p q _ refl refl (begun_lets r (leaves A) (emission A) q)) h
  event_ready k (Some (happenings.Takes line)) r p t h =
      let q : PathState C = record (at_tick line.tick p) { lines = tail_of p.lines } in
      quiet_at t p (happens_if k (Some (happenings.Takes line)) r p) (from_there p q _ refl refl (line_lets line.action q)) h
  event_ready k (Some (happenings.Arrives due)) r p t h =
      let q : PathState C = record (at_tick due.tick p) { link = after_delivery due p.link } in
      arrives_ready due.to t (heard_in k due.to (arriving due p.link) p) q h
  event_ready k (Some (happenings.Fires s tick)) r p t h =
      let q : PathState C = at_tick tick p in
      quiet_at t p (timer_fired s q) (from_there p q _ refl refl (side s _ q _ (fire_lets q.clock (end_at s q)) refl refl)) h

  -- ---- any duty

  answer_ready : (k : Codec C) (s : Side) (d : Duty) (ds : List Duty) (r : Reply) (p : PathState C) → let x = with_agenda (d ∷ ds) p in Ready s (d ∷ ds) (end_at s x) → Stands s (answered k d r x)
  answer_ready k s (duties.Step step_duties.Events) ds r p h = by h
    where
      x : PathState C
      x = with_agenda (duties.Step step_duties.Events ∷ ds) p

      by : Ready s (duties.Step step_duties.Events ∷ ds) (end_at s x) → Stands s (answered k (duties.Step step_duties.Events) r x)
      by (is_dead_now gone) = is_dead_now (far_gone s x (answered k (duties.Step step_duties.Events) r x) (answered_steps k (duties.Step step_duties.Events) r x) gone)
      by (is_quiet h) = event_ready k (next_event x) r x s h
      by (answers a) = ⊎_elim (λ is. absurd is) (λ rest. absurd (true≢false rest.1.0)) a
  answer_ready k s duties.End ds r p h = by h
    where
      by : Ready s (duties.End ∷ ds) (end_at s p) → Ready s [] (end_at s p)
      by (is_dead_now gone) = is_dead_now gone
      by (is_quiet h) = is_quiet h
      by (answers a) = ⊎_elim (λ is. absurd is) (λ rest. absurd (true≢false rest.1.0)) a
  answer_ready k s (duties.Send (send_duties.Acknowledge t)) ds r p h =
      let d : Duty = duties.Send (send_duties.Acknowledge t) in let x : PathState C = with_agenda (d ∷ ds) p in let q : PathState C = answered k d r x in
      let f : PathEnd = having_sent to_send.Ack x.clock (ack_segment t x) (end_at t x) in
      answer_on s d ds x q (λ is. paid s t f x q is.0 (own_end t f p.a p.b) refl (subst (λ u. (end_at u x).tcp.due.syn_ack ≡ false) (sym is.0) is.1))
      (let_at s x q (answered_lets k d r x refl)) (far_gone s x q (answered_steps k d r x)) t refl (answered_follows k d ds r p) h
  answer_ready k s (duties.Send (send_duties.Answer t)) ds r p h =
      let d : Duty = duties.Send (send_duties.Answer t) in let x : PathState C = with_agenda (d ∷ ds) p in let q : PathState C = answered k d r x in
      let e : PathEnd = end_at t x in
      let f : PathEnd = having_sent (answer_occasion e) x.clock (answer_of t x) e in
      answer_on s d ds x q
      (λ is. (let both = answer_paid x.clock e.tcp (subst (λ u. ((end_at u x).tcp.due.ack && (end_at u x).tcp.due.syn_ack) ≡ false) (sym is.0) is.1) in paid s t f x q is.0 (own_end t f p.a p.b) both.0 both.1))
      (let_at s x q (answered_lets k d r x refl)) (far_gone s x q (answered_steps k d r x)) t refl (answered_follows k d ds r p) h
  answer_ready k s (duties.Send (send_duties.SynAck t)) ds r p h =
      let d : Duty = duties.Send (send_duties.SynAck t) in let x : PathState C = with_agenda (d ∷ ds) p in let q : PathState C = answered k d r x in
      let f : PathEnd = having_sent to_send.SynAck x.clock (syn_ack_of t x) (end_at t x) in
      answer_on s d ds x q (λ is. paid s t f x q is.0 (own_end t f p.a p.b) (subst (λ u. (end_at u x).tcp.due.ack ≡ false) (sym is.0) is.1) refl)
      (let_at s x q (answered_lets k d r x refl)) (far_gone s x q (answered_steps k d r x)) t refl (answered_follows k d ds r p) h
  answer_ready k s (duties.Ask (ask_duties.BreakAck t reason)) ds r p h =
      let d : Duty = duties.Ask (ask_duties.BreakAck t reason) in let x : PathState C = with_agenda (d ∷ ds) p in let q : PathState C = answered k d r x in
      answer_on s d ds x q (λ is. answers (inl is)) (let_at s x q (answered_lets k d r x refl)) (far_gone s x q (answered_steps k d r x)) t refl (answered_follows k d ds r p) h
  answer_ready k s (duties.Send (send_duties.BreakReset t reason)) ds r p h =
      let d : Duty = duties.Send (send_duties.BreakReset t reason) in let x : PathState C = with_agenda (d ∷ ds) p in let q : PathState C = answered k d r x in
      answer_on s d ds x q (λ is. is_dead_now (subst (λ u. is_gone (end_at u q) ≡ true) is (gone_end t (died (end_at t p)) p.a p.b refl)))
      (let_at s x q (answered_lets k d r x refl)) (far_gone s x q (answered_steps k d r x)) t refl (answered_follows k d ds r p) h
  answer_ready k s (duties.Send (send_duties.Reset t)) ds r p h =
      let d : Duty = duties.Send (send_duties.Reset t) in let x : PathState C = with_agenda (d ∷ ds) p in let q : PathState C = answered k d r x in
      answer_on s d ds x q (λ is. is_dead_now (subst (λ u. is_gone (end_at u q) ≡ true) is (gone_end t (died (end_at t p)) p.a p.b refl)))
      (let_at s x q (answered_lets k d r x refl)) (far_gone s x q (answered_steps k d r x)) t refl (answered_follows k d ds r p) h
  answer_ready k s d ds r p h =
      let x : PathState C = with_agenda (d ∷ ds) p in let q : PathState C = answered k d r x in
      answer_on s d ds x q (λ is. absurd is) (let_at s x q (answered_lets k d r x refl)) (far_gone s x q (answered_steps k d r x)) (side_of d) refl (answered_follows k d ds r p) h

  -- ---- the world

  takes_ready : (k : Codec C) (r : Reply) (p : PathState C) (s : Side) → Stands s p → Stands s (takes k r p)
  takes_ready k r p s h = by p.agenda h
    where
      by : (ds : List Duty) → Ready s ds (end_at s p) → Stands s (takes k r (with_agenda ds p))
      by [] h = settled_ready s [] (with_agenda [] p) h
      by (d ∷ ds) h = let q : PathState C = answered k d r (with_agenda (d ∷ ds) p) in settled_ready s q.agenda q (answer_ready k s d ds r p h)

  -- at the end of a turn and before an event it is so, and as a round begins nothing is owed
  done_so : (s : Side) (p : PathState C) → Stands s p → IsDone p → is_gone (end_at s p) ≡ false → OwesNone (end_at s p)
  done_so s p (is_dead_now gone) is living = absurd (true≢false (sym gone ∙ living))
  done_so s p (is_quiet h) is living = h
  done_so s p (answers a) (idle_by.over none) living = absurd (subst (Ahead s (end_at s p)) none a)
  done_so s p (answers a) (idle_by.next others first) living = ⊎_elim (λ is. absurd is) (λ rest. absurd (true≢false rest.1.0)) (subst (Ahead s (end_at s p)) first a)

  -- while an acknowledgement is owed none but this one goes, or a reset
  abbrev Bare : Side → PathState C → ToSend → Type 0
  Bare s p t = IsBareAck p.profile s (end_at s p) (segment_sent p t)

  answer_bare : (s : Side) (p : PathState C) → (b : Bool) → (end_at s p).tcp.due.syn_ack ≡ b → (end_at s p).tcp.due.ack ≡ true → ((end_at s p).tcp.due.ack && b) ≡ false
      → IsBareAck p.profile s (end_at s p) (if b then syn_ack_said p.profile s (end_at s p) else ack_said p.profile s (end_at s p).tcp.send.nxt None (end_at s p))
  answer_bare s p true is due both = absurd (true≢false (sym (ap (λ b. b && true) due) ∙ both))
  answer_bare s p false is due both = bare_by.acks refl

  sends_bare : (s : Side) (d : Duty) (p : PathState C) → Sends s (end_at s p) d → (end_at s p).tcp.due.ack ≡ true → IfSome (duty_sends d p) (Bare s p)
  sends_bare s (duties.Send (send_duties.Acknowledge t)) p is due = subst (λ u. IsBareAck p.profile s (end_at s p) (ack_said p.profile u (end_at u p).tcp.send.nxt None (end_at u p))) (sym is.0) (bare_by.acks refl)
  sends_bare s (duties.Send (send_duties.Answer t)) p is due =
      subst (λ u. IsBareAck p.profile s (end_at s p) (if (end_at u p).tcp.due.syn_ack then syn_ack_said p.profile u (end_at u p) else ack_said p.profile u (end_at u p).tcp.send.nxt None (end_at u p))) (sym is.0)
      (answer_bare s p (end_at s p).tcp.due.syn_ack refl due is.1)
  sends_bare s (duties.Send (send_duties.SynAck t)) p is due = absurd (true≢false (sym due ∙ is.1))
  sends_bare s (duties.Ask (ask_duties.BreakAck t reason)) p is due = tt
  sends_bare s (duties.Send (send_duties.BreakReset t reason)) p is due = bare_by.resets refl
  sends_bare s (duties.Send (send_duties.Reset t)) p is due = bare_by.resets refl
  sends_bare s _ p is due = absurd is

  ahead_bare : (s : Side) (ds : List Duty) (p : PathState C) → Ahead s (end_at s p) ds → (end_at s p).tcp.due.ack ≡ true → IfSome (first_sends ds p) (Bare s p)
  ahead_bare s [] p a due = tt
  ahead_bare s (d ∷ ds) p a due = ⊎_elim
      (λ is. sends_bare s d p is due)
      (λ rest. (elim (duty_sends d p) as (λ o. IfSome o (Resets p) → IfSome o (Bare s p)) [ Some t ↦ λ reset. bare_by.resets reset | None ↦ λ none. tt ]) (silent_resets d p rest.1.1.0))
      a

  first_bare : (s : Side) (p : PathState C) → Stands s p → is_gone (end_at s p) ≡ false → (end_at s p).tcp.due.ack ≡ true → IfSome (first_sends p.agenda p) (λ t. t.from ≡ s → Bare s p t)
  first_bare s p (is_dead_now gone) living due = absurd (true≢false (sym gone ∙ living))
  first_bare s p (is_quiet h) living due = absurd (true≢false (sym due ∙ h.ack))
  first_bare s p (answers a) living due = (elim (first_sends p.agenda p) as (λ o. IfSome o (Bare s p) → IfSome o (λ t. t.from ≡ s → Bare s p t))
      [ Some t ↦ λ bare own. bare | None ↦ λ none. tt ]) (ahead_bare s p.agenda p a due)

  idle : (s : Side) (p : PathState C) → Stands s p → p.agenda ≡ [] → (ds : List Duty) → Ready s ds (end_at s p)
  idle s p (is_dead_now gone) over ds = is_dead_now gone
  idle s p (is_quiet h) over ds = is_quiet h
  idle s p (answers a) over ds = absurd (subst (Ahead s (end_at s p)) over a)

  begins_ready : (p : PathState C) (s : Side) → Ready s start_of_turn (end_at s p) → Stands s (begins_turn p)
  begins_ready p s h = settled_ready s start_of_turn (with_agenda start_of_turn p) h

  abbrev pub StandingMember : Actor C → Type 0
  StandingMember = HoldsOfKind (λ app. Unit {0}) (λ p. (s : Side) → Stands s p)

  member_stands : (k : Codec C) (r : Reply) (m : Actor C) → StandingMember m → StandingMember (member_takes k r m)
  member_stands k r (App a) h = tt
  member_stands k r (Path p) h = λ s. takes_ready k r p s (h s)

  member_begins : (m : Actor C) → is_over m ≡ true → StandingMember m → StandingMember (member_next m)
  member_begins (App a) over h = tt
  member_begins (Path p) over h = λ s. begins_ready (record p { clock = p.until; until = p.until + 100 }) s (idle s p (h s) (nil_so p.agenda over) start_of_turn)

  member_so : (m : Actor C) → StandingMember m → HoldsOfKind (λ app. Unit {0}) HasAnswered m
  member_so (App a) h = tt
  member_so (Path p) h = λ is s living. done_so s p (h s) is living

  member_first : (m : Actor C) → StandingMember m → HoldsOfKind (λ app. Unit {0}) AcksGoFirst m
  member_first (App a) h = tt
  member_first (Path p) h = λ s living due. first_bare s p (h s) living due

  pub each_stands : (k : Codec C) (start : Start) (turns : List Turn) → Every (λ c. StandingMember c.member) (world_run k turns (opened_world start)).crew
  each_stands k start turns = run_lifted k (λ c. StandingMember c.member) (λ books c x asks h. member_stands k (answer_to books x) c.member h)
      (λ stamp c over h. member_begins c.member over h) turns (opened_world start)
      (opened_lifted (λ c. StandingMember c.member) start tt tt (λ number plan there. λ s. begins_ready (waiting_path (path_begins start number plan) start.lines) s (is_quiet (first_quiet C number start plan s))))

  pub copies_are_answered : (k : Codec C) → Always k (λ start w. CopiesAreAnswered w)
  copies_are_answered k start turns = record {
    each = λ actor c there. member_so c.member ((each_stands k start turns).each actor c there);
    first = λ actor c there. member_first c.member ((each_stands k start turns).each actor c there);
  }
