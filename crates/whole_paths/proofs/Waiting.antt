-- The timer of an end with a record that isn't acknowledged is put off by news alone.
use Rattle.std.proofs.Common.{◌≡◌, refl, sym, subst, ap, ◌∙◌, ◌⊎◌, inl, inr, ⊎_elim, ℕ, ◌+◌, ◌<◌, ◌≤◌, max, nat_lt, nat_le, ◌==◌, arith, Bool, true, false, true≢false, not, ◌&&◌, ◌||◌, is_none, if◌then◌else◌, Option, Some, None, List, [], ◌∷◌, le_refl}
use Rattle.std.specs.List.{list_any}
use Rattle.std.proofs.lemmas.Bool.{or_cases, ltb-true, ltb-false, le-leb}
use Rattle.std.proofs.lemmas.Option.{same_Some}
use Rattle.path_segments.specs.Heard.{HeardSegment}
use Rattle.sides.specs.declared.side.Side.{Side}
use Rattle.sides.specs.declared.side.Side.TheVariants.{A, B}
use Rattle.fallback_state.specs.declared.fall.Verdict.TheVariants as verdicts
use Rattle.fallback_state.specs.declared.fall.Event.{Event as Fall}
use Rattle.fallback_state.specs.declared.fall.Event.TheVariants as falls
use Rattle.control_book.specs.declared.call.ControlReply.TheVariants as control_replies
use Rattle.link_model.specs.Steps.{arriving, after_delivery}
use Rattle.loss_recovery.specs.declared.timers.Timing.{Timing}
use Rattle.subflow_send.specs.Records.{Record, end_of}
use Rattle.subflow_send.specs.declared.record.AckKind.TheVariants.{New, Duplicate, Old, Future}
use Rattle.subflow_send.specs.Rules.{ack_kind, sample_of, newly_acknowledged, uncovered}
use Rattle.subflow_tcp.specs.declared.handshake.State.{State as EndPhase}
use Rattle.subflow_tcp.specs.declared.handshake.State.TheVariants as phase
use Rattle.subflow_tcp.specs.declared.segments.Hint.{Hint}
use Rattle.subflow_tcp.specs.declared.verdicts.Meaning.{Meaning}
use Rattle.subflow_tcp.specs.declared.verdicts.Meaning.TheVariants as means
use Rattle.subflow_tcp.specs.Judging.{meaning_of}
use Rattle.subflow_tcp.specs.Opening.{after_begin}
use Rattle.subflow_tcp.specs.Segments.{Copy}
use Rattle.subflow_tcp.specs.State.{EndState, is_some_record}
use Rattle.subflow_tcp.specs.States.{is_closed_to_segments, is_dead, is_waiting}
use Rattle.subflow_tcp.specs.Taking.{after_payload, after_ack_kind, after_acknowledgement, is_duplicate, after_duplicate, after_interruption, told_by, after_telling, after_heard_ack, after_established, after_hearing, after_arrival, after_holding}
use Rattle.actor_desk.specs.declared.ask.Reply.{Reply}
use Rattle.actor_desk.specs.declared.ask.Reply.TheVariants as replies
use Rattle.actor_desk.specs.Words.{tail_of, is_nil}
use Rattle.path_agenda.specs.Agenda.{leaves, emission}
use Rattle.path_agenda.specs.declared.duty.Duty.{Duty}
use Rattle.path_agenda.specs.declared.duty.Duty.TheVariants as duties
use Rattle.path_agenda.specs.declared.duty.AskDuty.TheVariants as ask_duties
use Rattle.path_agenda.specs.declared.duty.SendDuty.TheVariants as send_duties
use Rattle.path_agenda.specs.declared.duty.SilentDuty.TheVariants as silent_duties
use Rattle.path_agenda.specs.declared.duty.StepDuty.TheVariants as step_duties
use Rattle.path_agenda.specs.declared.heard.Heard.{Heard}
use Rattle.path_agenda.specs.declared.heard.Heard.TheVariants as says
use Rattle.path_agenda.specs.declared.keys.KeyPair.{KeyPair}
use Rattle.path_store.specs.Granted.{is_newly_heard}
use Rattle.path_store.specs.declared.granted_piece.GrantedPiece.{GrantedPiece}
use Rattle.path_store.specs.declared.lines.LineAction.{LineAction}
use Rattle.path_store.specs.declared.lines.LineAction.TheVariants as actions
use Rattle.path_core.specs.Arrival.{IsTakenAs, judged_in, after_judged, copy_heard, heard_in, copy_of, copy_judged, reset_for, owing_if, with_payload, asked_in}
use Rattle.path_core.specs.OptionsIn.{items_of, options_heard, hint_of, owes_by}
use Rattle.path_core.specs.Judged.{taken_as, cleared_in, answered_in}
use Rattle.path_core.specs.Breaking.{answered_break, died_unless_dead}
use Rattle.path_core.specs.Codec.{Codec}
use Rattle.path_core.specs.DataFin.{acked_in, after_acked, is_news, is_data_fin_news}
use Rattle.path_core.specs.Deliver.{after_pieces}
use Rattle.path_core.specs.DssIn.{counts, is_clash, covered_by, held_of, after_dss, HeardOption, with_learned, with_skipped, with_data_fin}
use Rattle.path_core.specs.Duties.{passed, answered}
use Rattle.path_core.specs.End.{PathEnd, died}
use Rattle.path_core.specs.Events.{next_event, after_line, happens_if}
use Rattle.path_core.specs.Fallback.{breaks_by_ack, fell_in, mode_in, plain_next, plainly_acked, with_plain_ack}
use Rattle.path_core.specs.MpCapable.{keys_in}
use Rattle.path_core.specs.MpJoin.{join_begun, is_joined, is_never, never_joined, keys_begun, opened_by, with_keys}
use Rattle.path_core.specs.Profile.{Profile}
use Rattle.path_core.specs.Sending.{Sending}
use Rattle.path_core.specs.State.{PathState, at_tick, end_at, goes_on, with_end}
use Rattle.path_core.specs.Steps.{takes, next_round}
use Rattle.path_core.specs.Timer.{with_timer_settled}
use Rattle.path_core.specs.Treating.{item_passed, answered_heard, answered_item, item_of}
use Rattle.path_core.specs.declared.events.Event.{Event}
use Rattle.path_core.specs.declared.events.Event.TheVariants as happenings
use Rattle.path_core.specs.declared.modes.Modes.{Modes}
use Rattle.path_core.proofs.Judgements.{judged_taken}
use Rattle.world_laws.specs.declared.member.Member.TheVariants.{App, Path}
use Rattle.world_laws.specs.Actors.{Actor, member_takes, member_next}
use Rattle.world_laws.specs.Members.{HoldsOfKind}
use Rattle.world_laws.specs.StampedBooks.{answer_to}
use Rattle.world_laws.specs.Writes.{EndWrites, EndView, Writes, Only, OnlyAt, end_view, nothing, writes, side_of}
use Rattle.world_laws.proofs.Falls.FailedChecks.{infinite_came_so, fail_answered_so}
use Rattle.world_laws.proofs.Whole.Ends.{MeansIs, means_so}
use Rattle.world_laws.proofs.Writes.Ends.{acked_so}
use Rattle.world_laws.proofs.Writes.Paths.{writes_no_more, passes_no_more}
use Rattle.world_laws.proofs.Writes.Steps.{Lasts, unwritten, both_ends, settled_lasts, begins_lasts}
use Rattle.whole_paths.specs.AgendaSteps.{IsStill, is_gone}
use Rattle.whole_paths.specs.AsFar.{stage, IsSubflowAsFar, IsStreamAsFar}
use Rattle.whole_paths.specs.EndSteps.{EndStep, PathStep}
use Rattle.whole_paths.specs.Kept.{AreKept, IsSameRecord, KeepsWhatWaits}
use Rattle.whole_paths.specs.Waits.{IsSettled, RunsTo, IsNews, WaitsOn, TimersWaitOn, IsSettledAtTheEnd, NoTimerIsPutOff}
use Rattle.whole_paths.specs.Waits.IsNews.{on_subflow, on_stream, data_fin, opened, third}
use Rattle.whole_paths.specs.Waits.{WaitsOn as wait}
use Rattle.whole_paths.proofs.Duties.{passed_steps, answered_steps}
use Rattle.whole_paths.proofs.Keeping.{end_keeps, keeps_then, same_keeps}
use Rattle.whole_paths.proofs.Settling as settling
use Rattle.whole_paths.proofs.Subflows as subflow
use Rattle.whole_paths.proofs.Subflows.{ack_up, steps_up, stream_up, stream_stays, stream_then}
use Rattle.whole_paths.proofs.Turns.{turn_each}

-- ---- at the end of a turn

abbrev IsReady : PathEnd → Type 0
IsReady e = is_gone e ≡ false → IsSettled e

ready_seen : (e f : PathEnd) → end_view nothing f ≡ end_view nothing e → IsReady e → IsReady f
ready_seen e f same ready living =
    let timing = same_Some f.tcp.timing e.tcp.timing (ap (λ (v : EndView). v.timing) same) in
    let h : IsSettled e = ready (ap is_dead (sym (same_Some f.tcp.state e.tcp.state (ap (λ (v : EndView). v.phase) same))) ∙ living) in
    record { subflow = ap (λ (t : Timing). t.news) timing ∙ h.subflow; stream = same_Some f.sending.news e.sending.news (ap (λ (v : EndView). v.news) same) ∙ h.stream }

ready_still : (e f : PathEnd) → IsStill e f → IsReady e → IsReady f
ready_still e f still ready living =
    let h : IsSettled e = ready (ap (λ (t : EndState). is_dead t.state) (sym still.tcp) ∙ living) in
    record { subflow = ap (λ (t : EndState). t.timing.news) still.tcp ∙ h.subflow; stream = ap (λ (v : Sending). v.news) still.sending ∙ h.stream }

ready_settles : settling.IsSettled IsReady
ready_settles = record {
  seen = ready_seen;
  still = ready_still;
  gone = λ e dead living. absurd (true≢false (sym dead ∙ living));
  timer = λ now e living. record { subflow = refl; stream = refl };
}

-- ---- what each duty makes of it

-- timer and news stay, and no third MP_JOIN is owed anew
pub record Calm (e f : PathEnd) : Type 0 where
  pub timer : f.tcp.timing.timer ≡ e.tcp.timing.timer
  pub subflow : f.tcp.timing.news ≡ e.tcp.timing.news
  pub stream : f.sending.news ≡ e.sending.news
  pub third : f.modes.owes_third ≡ true → e.modes.owes_third ≡ true

pub data Timed (e f : PathEnd) : Type 0 where
  calm : Calm e f → Timed e f
  changed : IsNews e f → Timed e f
  gone : is_gone f ≡ true → Timed e f

same_calm : (e f : PathEnd) → f.tcp.timing ≡ e.tcp.timing → f.sending.news ≡ e.sending.news → f.modes.owes_third ≡ e.modes.owes_third → Calm e f
same_calm e f timing news owes = record { timer = ap (λ (t : Timing). t.timer) timing; subflow = ap (λ (t : Timing). t.news) timing; stream = news; third = λ is. sym owes ∙ is }

pub calmly : (e f : PathEnd) → f.tcp.timing ≡ e.tcp.timing → f.sending.news ≡ e.sending.news → f.modes.owes_third ≡ e.modes.owes_third → Timed e f
calmly e f timing news owes = calm (same_calm e f timing news owes)

stays : (e : PathEnd) → Timed e e
stays e = calmly e e refl refl refl

either_timed : (b : Bool) (e f g : PathEnd) → Timed e f → Timed e g → Timed e (if b then f else g)
either_timed true e f g x y = x
either_timed false e f g x y = y

-- a verdict changes nothing of it
pub mode_third : (r : Reply) (m : Modes) → (mode_in r m).owes_third ≡ m.owes_third
mode_third (replies.Control (control_replies.Verdict (verdicts.Went mode))) m = refl
mode_third _ m = refl

pub fell_third : (event : Fall) (r : Reply) (m : Modes) → (fell_in event r m).owes_third ≡ m.owes_third
fell_third falls.PlainData r m = mode_third r m
fell_third falls.PlainAck r m = mode_third r m
fell_third _ r m = mode_third r m

pub keys_third : (r : Reply) (keys : Option KeyPair) (m : Modes) → (keys_in r keys m).owes_third ≡ m.owes_third
keys_third (replies.Control control_replies.Noted) (Some keys) m = refl
keys_third _ keys m = refl

-- a Data ACK
newly_more : (heard next : ℕ) (pieces : List GrantedPiece) → list_any (is_newly_heard heard next) pieces ≡ true → heard < next
newly_more heard next [] is = absurd (true≢false (sym is))
newly_more heard next (x ∷ pieces) is = ⊎_elim
    (λ first. (let more = ltb-true (max x.from heard) next first in omega (arith, more)))
    (λ rest. newly_more heard next pieces rest)
    (or_cases (is_newly_heard heard next x) (list_any (is_newly_heard heard next) pieces) is)

acked_timed : (next : ℕ) (fin : Bool) (e f : PathEnd) → f.tcp.timing ≡ e.tcp.timing → f.modes.owes_third ≡ e.modes.owes_third → f.sending ≡ after_acked next fin e.sending → Timed e f
acked_timed next fin e f timing owes sending = by (is_news next fin e.sending) refl
  where
    v : Sending
    v = e.sending

    same_news : (b : Bool) → (b || false) ≡ b
    same_news true = refl
    same_news false = refl

    on_data_fin : (fin sent acked : Bool) → (fin && (sent && not acked)) ≡ true → (acked ≡ false) × ((acked || fin) ≡ true)
    on_data_fin true true false is = (refl, refl)
    on_data_fin true true true is = absurd (true≢false (sym is))
    on_data_fin true false acked is = absurd (true≢false (sym is))
    on_data_fin false sent acked is = absurd (true≢false (sym is))

    by : (b : Bool) → is_news next fin v ≡ b → Timed e f
    by false is = calmly e f timing (ap (λ (w : Sending). w.news) sending ∙ ap (λ b. v.news || b) is ∙ same_news v.news) owes
    by true is = ⊎_elim
        (λ bytes. (let more = newly_more v.heard next v.granted bytes in
        changed (on_stream (subst (λ (w : Sending). v.heard < w.heard) (sym sending) (omega (arith, more))))))
        (λ end. (let parts = on_data_fin fin v.fin_sent v.close.own_acked end in changed (data_fin parts.0 (ap (λ (w : Sending). w.close.own_acked) sending ∙ parts.1))))
        (or_cases (list_any (is_newly_heard v.heard next) v.granted) (is_data_fin_news fin v) is)

data_ack_timed : (next : ℕ) (r : Reply) (e : PathEnd) (f : Sending → PathEnd) → ((v : Sending) → (f v).tcp.timing ≡ e.tcp.timing)
    → ((v : Sending) → (f v).modes.owes_third ≡ e.modes.owes_third) → ((v : Sending) → (f v).sending ≡ v) → Timed e (f (acked_in next r e.sending))
data_ack_timed next r e f timing owes sending = acked_so (λ v. Timed e (f v)) next r e.sending
    (λ fin. acked_timed next fin e (f (after_acked next fin e.sending)) (timing (after_acked next fin e.sending)) (owes (after_acked next fin e.sending)) (sending (after_acked next fin e.sending)))
    (calmly e (f e.sending) (timing e.sending) (ap (λ (v : Sending). v.news) (sending e.sending)) (owes e.sending))

-- ---- a copy

-- an acknowledgement lets SND.UNA rise, or changes nothing of it
abbrev AckTimed : EndState → EndState → Type 0
AckTimed s t = (s.send.una < t.send.una) ⊎ (t.timing ≡ s.timing)

ack_timed : (pos now : ℕ) (s : EndState) → AckTimed s (after_acknowledgement pos now s)
ack_timed pos now s = by (nat_lt s.send.nxt pos) (nat_lt s.send.una pos) (nat_le pos s.send.nxt) (pos == s.send.una) refl refl refl
  where
    by : (past above within same : Bool) → nat_lt s.send.nxt pos ≡ past → nat_lt s.send.una pos ≡ above → nat_le pos s.send.nxt ≡ within
        → AckTimed s (after_ack_kind (if past then Future else (if above then New (newly_acknowledged pos s.send) else (if same then Duplicate else Old))) (sample_of pos s.send) now
        (record s { send = if above && within then record s.send { una = pos; records = uncovered pos s.send.records } else s.send }))
    by true above within same is high low = inr refl
    by false true true same is high low = inl (ltb-true s.send.una pos high)
    by false true false same is high low = absurd (true≢false (sym (le-leb pos s.send.nxt (ltb-false s.send.nxt pos is)) ∙ low))
    by false false within true is high low = inr refl
    by false false within false is high low = inr refl

heard_ack_timed : (pos : ℕ) (hint : Hint) (now : ℕ) (c : Copy) (s : EndState) → AckTimed s (after_heard_ack pos hint now c s)
heard_ack_timed pos hint now c s = elim (is_duplicate (ack_kind pos s.send) (told_by hint c) c acked) as (λ b. AckTimed s (after_telling (told_by hint c) (if b then after_duplicate acked else after_interruption acked)))
    [ true ↦ ack_timed pos now s | false ↦ ack_timed pos now s ]
  where
    acked : EndState
    acked = after_acknowledgement pos now s

-- the subflow, whatever came but a SYN/ACK
data Arrived (s t : EndState) : Type 0 where
  idle : t.timing.timer ≡ s.timing.timer → t.timing.news ≡ s.timing.news → Arrived s t
  rises : s.send.una < t.send.una → Arrived s t
  kills : is_dead t.state ≡ true → Arrived s t

abbrev is_accepted : Meaning → Bool
is_accepted (means.Accepts pos) = true
is_accepted _ = false

arrived : (m : Meaning) (hint : Hint) (now : ℕ) (c : Copy) (s : EndState) → is_accepted m ≡ false → Arrived s (after_arrival m hint now c s)
arrived (means.Accepts pos) hint now c s other = absurd (true≢false other)
arrived means.Kills hint now c s other = kills refl
arrived (means.Taken pos acknowledged) hint now c s other = ⊎_elim
    (λ more. rises more)
    (λ same. idle (ap (λ (t : Timing). t.timer) same) (ap (λ (t : Timing). t.news) same))
    (heard_ack_timed acknowledged hint now c (after_established (after_hearing (after_payload pos hint c s))))
arrived _ hint now c s other = idle refl refl

-- an acknowledgement may be owed besides, and the payload was held before
owing_arrived : (b : Bool) (s t : EndState) → Arrived s t → Arrived s (owing_if b t)
owing_arrived false s t x = x
owing_arrived true s t (idle timer news) = idle timer news
owing_arrived true s t (rises more) = rises more
owing_arrived true s t (kills dead) = kills dead

held_arrived : (m n : Meaning) (octets : List ℕ) (hint : Hint) (now : ℕ) (c : Copy) (s : EndState) → is_accepted n ≡ false → Arrived s (after_arrival n hint now c (with_payload m octets s))
held_arrived (means.Taken pos acknowledged) n octets hint now c s other = by (is_nil octets)
  where
    same : (x t : EndState) → x.timing ≡ s.timing → x.send ≡ s.send → Arrived x t → Arrived s t
    same x t timing send (idle timer news) = idle (timer ∙ ap (λ (u : Timing). u.timer) timing) (news ∙ ap (λ (u : Timing). u.news) timing)
    same x t timing send (rises more) = rises (subst (λ v. v.una < t.send.una) send more)
    same x t timing send (kills dead) = kills dead

    by : (b : Bool) → Arrived s (after_arrival n hint now c (if b then s else after_holding pos octets s))
    by true = arrived n hint now c s other
    by false = let x : EndState = after_holding pos octets s in same x (after_arrival n hint now c x) refl refl (arrived n hint now c x other)
held_arrived _ n octets hint now c s other = arrived n hint now c s other

arrived_timed : (e f : PathEnd) → f.sending.news ≡ e.sending.news → f.modes.owes_third ≡ e.modes.owes_third → Arrived e.tcp f.tcp → Timed e f
arrived_timed e f news owes (idle timer quiet) = calm (record { timer = timer; subflow = quiet; stream = news; third = λ is. sym owes ∙ is })
arrived_timed e f news owes (rises more) = changed (on_subflow more)
arrived_timed e f news owes (kills dead) = gone dead

-- a SYN/ACK alone lets the third MP_JOIN be owed
pub owes_same : (joined : Bool) (items : List Heard) (m : Meaning) (options : List HeardOption) (state : EndPhase) (mods : Modes) → is_accepted m ≡ false
    → (asked_in m options (if joined then cleared_in m state (answered_in m items mods) else mods)).owes_third ≡ mods.owes_third
owes_same joined items (means.Accepts pos) options state mods other = absurd (true≢false other)
owes_same true items (means.Taken pos acknowledged) options state mods other = refl
owes_same true items means.Opens options state mods other = refl
owes_same true items _ options state mods other = refl
owes_same false items means.Opens options state mods other = refl
owes_same false items _ options state mods other = refl

module _ (c : Profile) (s : Side) (now : ℕ) (h : HeardSegment) (e : PathEnd) where
  abbrev heard_as : Meaning → PathEnd
  heard_as m = copy_judged (is_joined c) (held_of c s h) (reset_for c s h) s now h m e

  other_copy : (m : Meaning) → is_accepted m ≡ false → Timed e (heard_as m)
  other_copy m other =
      let items : List Heard = items_of (is_joined c) s h in
      arrived_timed e (heard_as m) refl (owes_same (is_joined c) items m h.options (with_payload m h.payload e.tcp).state e.modes other)
      (owing_arrived (owes_by m items) e.tcp (after_arrival m (hint_of items) now (copy_of h) (with_payload m h.payload e.tcp))
      (held_arrived m m h.payload (hint_of items) now (copy_of h) e.tcp other))

  copy_timed : (m : Meaning) → ((pos : ℕ) → m ≡ means.Accepts pos → e.tcp.state ≡ phase.SynSent) → Timed e (heard_as m)
  copy_timed (means.Accepts pos) syn =
      let ready : EndState = record (after_hearing (after_payload 1 (hint_of (items_of (is_joined c) s h)) (copy_of h) e.tcp)) { state = phase.Established } in
      let up = ack_up pos now ready in changed (opened (subst (λ x. stage x ≤ 1) (sym (syn pos refl)) (le_refl 1)) up.state)
  copy_timed m syn = other_copy m refl

-- a thing that was heard, and passed in silence
third_rest : (b : Bool) → (b || false) ≡ b
third_rest true = refl
third_rest false = refl

pub record Passed (e f : PathEnd) : Type 0 where
  pub timed : Timed e f
  pub third : f.modes.owes_third ≡ true → e.modes.owes_third ≡ true

calmly_passed : (e f : PathEnd) → f.tcp.timing ≡ e.tcp.timing → f.sending.news ≡ e.sending.news → f.modes.owes_third ≡ e.modes.owes_third → Passed e f
calmly_passed e f timing news owes = record { timed = calmly e f timing news owes; third = λ is. sym owes ∙ is }

dss_passed : (s : Side) (e : PathEnd) → Passed e (after_dss s e)
dss_passed s e = record { timed = by e.modes.owes_third refl; third = λ is. absurd (true≢false (sym is)) }
  where
    by : (b : Bool) → e.modes.owes_third ≡ b → Timed e (after_dss s e)
    by true is = changed (third is refl)
    by false is = calm (record { timer = refl; subflow = refl; stream = ap (λ b. e.sending.news || b) is ∙ third_rest e.sending.news; third = λ owed. absurd (true≢false (sym owed)) })

pub item_timed : (s : Side) (o : Option Heard) (e : PathEnd) → Passed e (item_passed s o e)
item_timed s None e = calmly_passed e e refl refl refl
item_timed s (Some says.Dss) e = dss_passed s e
item_timed s (Some (says.Mapping fin)) e = elim (counts e) as (λ b. Passed e (if b then with_learned e else with_skipped e))
    [ true ↦ calmly_passed e (with_learned e) refl refl refl | false ↦ calmly_passed e (with_skipped e) refl refl refl ]
item_timed s (Some (says.DataFin place)) e = elim (counts e) as (λ b. Passed e (if b then with_data_fin place e else e))
    [ true ↦ calmly_passed e (with_data_fin place e) refl refl refl | false ↦ calmly_passed e e refl refl refl ]
item_timed s (Some _) e = calmly_passed e _ refl refl refl

-- ---- an end that may not write it

only_calm : (w : EndWrites) (e f : PathEnd) → w.timing ≡ false → w.news ≡ false → w.owes_third ≡ false → Only w e f → Calm e f
only_calm w e f timing news owes x = same_calm e f
    (unwritten w.timing e.tcp.timing f.tcp.timing timing (ap (λ (v : EndView). v.timing) x.same))
    (unwritten w.news e.sending.news f.sending.news news (ap (λ (v : EndView). v.news) x.same))
    (unwritten w.owes_third e.modes.owes_third f.modes.owes_third owes (ap (λ (v : EndView). v.owes_third) x.same))

plainly_timed : (o : Option ℕ) (r : Reply) (e : PathEnd) → Timed e (record e { sending = plainly_acked o r e.sending })
plainly_timed None r e = stays e
plainly_timed (Some next) r e = data_ack_timed next r e (λ v. record e { sending = v }) (λ v. refl) (λ v. refl) (λ v. refl)

died_timed : (e : PathEnd) → Timed e (died_unless_dead e)
died_timed e = either_timed (is_dead e.tcp.state) e e (died e) (stays e) (gone refl)

pub syn_so : (c : Copy) (t : EndState) (m : Meaning) (pos : ℕ) → IsTakenAs m c t → m ≡ means.Accepts pos → t.state ≡ phase.SynSent
syn_so c t m pos (inl ignored) is = absurd (true≢false (ap is_accepted (sym is ∙ ignored)))
syn_so c t m pos (inr same) is = (subst (λ n. MeansIs c t n) (sym same ∙ is) (means_so c t)).0

-- ---- what a timer does, and what goes with it

-- the end is as far as it was, and keeps what waits
pub record Far (e f : PathEnd) : Type 0 where
  pub subflow : IsSubflowAsFar e.tcp f.tcp
  pub stream : IsStreamAsFar e.sending f.sending
  pub kept : KeepsWhatWaits e f

pub same_far : (e : PathEnd) → Far e e
same_far e = record { subflow = subflow.stays e.tcp; stream = stream_stays e.sending; kept = same_keeps e }

pub far_then : (e f g : PathEnd) → Far e f → Far f g → Far e g
far_then e f g x y = record {
  subflow = subflow.goes_on e.tcp f.tcp g.tcp x.subflow y.subflow;
  stream = stream_then e.sending f.sending g.sending x.stream y.stream;
  kept = keeps_then e f g x.kept y.kept;
}

end_far : (now : ℕ) (e f : PathEnd) → EndStep now e f → Far e f
end_far now e f x = record { subflow = steps_up now e.tcp f.tcp x.subflow; stream = stream_up e.sending f.sending x.stream; kept = end_keeps now e f x }

pub path_far : {C : Type 0} (p q : PathState C) → PathStep p q → (s : Side) → Far (end_at s p) (end_at s q)
path_far p q x A = end_far q.clock p.a q.a x.a
path_far p q x B = end_far q.clock p.b q.b x.b

pub data Goes (tick : ℕ) (e f : PathEnd) : Type 0 where
  on : RunsTo tick f → (f.modes.owes_third ≡ true → e.modes.owes_third ≡ true) → Goes tick e f
  changes : IsNews e f → Goes tick e f
  leaves_it : is_gone f ≡ true → Goes tick e f

-- an end that isn't closed to segments is closed to them only as it dies
pub closed_gone : (state : EndPhase) → 1 ≤ stage state → is_closed_to_segments state ≡ true → is_dead state ≡ true
closed_gone phase.Waiting low closed = absurd (omega (arith, low))
closed_gone phase.Listen low closed = absurd (omega (arith, low))
closed_gone phase.Dead low closed = refl
closed_gone _ low closed = absurd (true≢false (sym closed))

pub living_stage : (state : EndPhase) → is_closed_to_segments state ≡ false → 1 ≤ stage state
living_stage phase.Waiting living = absurd (true≢false living)
living_stage phase.Listen living = absurd (true≢false living)
living_stage phase.Dead living = absurd (true≢false living)
living_stage _ living = omega arith

runs_on : (tick : ℕ) (e f : PathEnd) → f.tcp.timing.timer ≡ Some tick → IsSettled f → (f.modes.owes_third ≡ true → e.modes.owes_third ≡ true) → Far e f → RunsTo tick e → Goes tick e f
runs_on tick e f timer settled owes far h =
    by (is_closed_to_segments f.tcp.state) refl f.tcp.send.records refl
    (subst (λ rs. AreKept (λ (r : Record). (e.tcp.send.una < f.tcp.send.una) × (end_of r ≤ f.tcp.send.una)) IsSameRecord rs f.tcp.send.records) h.records far.kept.records)
  where
    by : (b : Bool) → is_closed_to_segments f.tcp.state ≡ b → (rs : List Record) → f.tcp.send.records ≡ rs
        → AreKept (λ (r : Record). (e.tcp.send.una < f.tcp.send.una) × (end_of r ≤ f.tcp.send.una)) IsSameRecord (h.first ∷ h.others) rs → Goes tick e f
    by true closed rs is kept =
        let low = living_stage e.tcp.state h.living in let up = far.subflow.state in leaves_it (closed_gone f.tcp.state (omega (arith, low, up)) closed)
    by false living [] is kept = changes (on_subflow kept.0.0)
    by false living (r ∷ rs) is kept = on (record { timer = timer; settled = settled; first = r; others = rs; records = is; living = living }) owes

goes_so : (tick : ℕ) (e f : PathEnd) → Timed e f → Far e f → RunsTo tick e → Goes tick e f
goes_so tick e f (calm x) far h =
    runs_on tick e f (x.timer ∙ h.timer) (record { subflow = x.subflow ∙ h.settled.subflow; stream = x.stream ∙ h.settled.stream }) x.third far h
goes_so tick e f (changed x) far h = changes x
goes_so tick e f (gone x) far h = leaves_it x

-- ---- duties that are passed

pub record Passes (e f : PathEnd) : Type 0 where
  pub far : Far e f
  pub third : f.modes.owes_third ≡ true → e.modes.owes_third ≡ true
  pub goes : (tick : ℕ) → RunsTo tick e → Goes tick e f

passes_by : (e f : PathEnd) → Passed e f → Far e f → Passes e f
passes_by e f x far = record { far = far; third = x.third; goes = λ tick h. goes_so tick e f x.timed far h }

-- the timer goes on where it is settled without news
timer_stays : (closed asked has news restart : Bool) (o : Option ℕ) (now rto tick : ℕ) → closed ≡ false → has ≡ true → o ≡ Some tick → news ≡ false → restart ≡ false
    → (if not closed && (asked || has) then (if is_none o || (news || restart) then Some (now + rto) else o) else None) ≡ Some tick
timer_stays closed true has news restart o now rto tick living some is quiet still = rw (living, is, quiet, still) refl
timer_stays closed false has news restart o now rto tick living some is quiet still = rw (living, some, is, quiet, still) refl

timer_goes : (tick now : ℕ) (e : PathEnd) → Far e (with_timer_settled now e) → RunsTo tick e → Goes tick e (with_timer_settled now e)
timer_goes tick now e far h = runs_on tick e (with_timer_settled now e)
    (timer_stays (is_closed_to_segments e.tcp.state) _ (is_some_record e.tcp.send.records) e.tcp.timing.news e.sending.news e.tcp.timing.timer now e.tcp.timing.rtt.rto tick
    h.living (ap is_some_record h.records) h.timer h.settled.subflow h.settled.stream)
    (record { subflow = refl; stream = refl }) (λ is. is) far h

same_passes : (e : PathEnd) → Passes e e
same_passes e = passes_by e e (calmly_passed e e refl refl refl) (same_far e)

-- ---- one after the other

pub news_up : (e f g : PathEnd) → Far e f → (f.modes.owes_third ≡ true → e.modes.owes_third ≡ true) → IsNews f g → IsNews e g
news_up e f g far owes (on_subflow more) = let up = far.subflow.acknowledged in on_subflow (omega (arith, up, more))
news_up e f g far owes (on_stream more) = let up = far.stream.heard in on_stream (omega (arith, up, more))
news_up e f g far owes (data_fin none some) = data_fin (not_before e.sending.close.own_acked refl) some
  where
    not_before : (b : Bool) → e.sending.close.own_acked ≡ b → b ≡ false
    not_before true is = absurd (true≢false (sym (far.stream.fin_acknowledged is) ∙ none))
    not_before false is = refl
news_up e f g far owes (opened low high) = let up = far.subflow.state in opened (omega (arith, up, low)) high
news_up e f g far owes (third owed answered) = third (owes owed) answered

pub news_stays : (e f g : PathEnd) → Far f g → (g.modes.owes_third ≡ true → f.modes.owes_third ≡ true) → IsNews e f → IsNews e g
news_stays e f g far owes (on_subflow more) = let up = far.subflow.acknowledged in on_subflow (omega (arith, up, more))
news_stays e f g far owes (on_stream more) = let up = far.stream.heard in on_stream (omega (arith, up, more))
news_stays e f g far owes (data_fin none some) = data_fin none (far.stream.fin_acknowledged some)
news_stays e f g far owes (opened low high) = let up = far.subflow.state in opened low (omega (arith, up, high))
news_stays e f g far owes (third owed answered) = third owed (not_then g.modes.owes_third refl)
  where
    not_then : (b : Bool) → g.modes.owes_third ≡ b → g.modes.owes_third ≡ false
    not_then true is = absurd (true≢false (sym (owes is) ∙ answered))
    not_then false is = is

pub gone_stays : (f g : PathEnd) → Far f g → is_gone f ≡ true → is_gone g ≡ true
gone_stays f g far dead = by g.tcp.state (let low = dead_stage f.tcp.state dead in let up = far.subflow.state in omega (arith, low, up))
  where
    dead_stage : (state : EndPhase) → is_dead state ≡ true → 7 ≤ stage state
    dead_stage phase.Dead dead = omega arith
    dead_stage _ dead = absurd (true≢false (sym dead))

    by : (state : EndPhase) → 7 ≤ stage state → is_dead state ≡ true
    by phase.Dead low = refl
    by _ low = absurd (omega (arith, low))

goes_then : (tick : ℕ) (e f g : PathEnd) → Far e f → Goes tick e f → Passes f g → Goes tick e g
goes_then tick e f g far (changes x) y = changes (news_stays e f g y.far y.third x)
goes_then tick e f g far (leaves_it x) y = leaves_it (gone_stays f g y.far x)
goes_then tick e f g far (on h owes) y = by (y.goes tick h)
  where
    by : Goes tick f g → Goes tick e g
    by (on k owed) = on k (λ is. owes (owed is))
    by (changes x) = changes (news_up e f g far owes x)
    by (leaves_it x) = leaves_it x

passes_then : (e f g : PathEnd) → Passes e f → Passes f g → Passes e g
passes_then e f g x y = record {
  far = far_then e f g x.far y.far;
  third = λ is. x.third (y.third is);
  goes = λ tick h. goes_then tick e f g x.far (x.goes tick h) y;
}

-- an event
abbrev by_event : Duty
by_event = duties.Step step_duties.Events

-- ---- a path

module _ {C : Type 0} where
  -- both ends
  record BothTimed (p q : PathState C) : Type 0 where
    a : Timed p.a q.a
    b : Timed p.b q.b

  -- the end of this side becomes that one
  side : (s : Side) (e : PathEnd) (p q : PathState C) → Timed (end_at s p) e → q.a ≡ (goes_on s e [] p).a → q.b ≡ (goes_on s e [] p).b → BothTimed p q
  side A e p q x same_a same_b = record { a = subst (Timed p.a) (sym same_a) x; b = subst (Timed p.b) (sym same_b) (stays p.b) }
  side B e p q x same_a same_b = record { a = subst (Timed p.a) (sym same_a) (stays p.a); b = subst (Timed p.b) (sym same_b) x }

  both_rest : (p q : PathState C) → q.a ≡ p.a → q.b ≡ p.b → BothTimed p q
  both_rest p q same_a same_b = record { a = subst (Timed p.a) (sym same_a) (stays p.a); b = subst (Timed p.b) (sym same_b) (stays p.b) }

  dying : (s : Side) (e : PathEnd) (p q : PathState C) → is_gone e ≡ true → q.a ≡ (goes_on s e [] p).a → q.b ≡ (goes_on s e [] p).b → BothTimed p q
  dying s e p q dead same_a same_b = side s e p q (gone dead) same_a same_b

  either : (b : Bool) (q r p : PathState C) → BothTimed p q → BothTimed p r → BothTimed p (if b then q else r)
  either true q r p x y = x
  either false q r p x y = y

  -- from a path with another clock and another link
  from_there : (p q r : PathState C) → q.a ≡ p.a → q.b ≡ p.b → BothTimed q r → BothTimed p r
  from_there p q r a b x = record { a = subst (λ e. Timed e r.a) a x.a; b = subst (λ e. Timed e r.b) b x.b }

  -- where none of it may be written
  record BothCalm (p q : PathState C) : Type 0 where
    a : Calm p.a q.a
    b : Calm p.b q.b

  plain : (s : Side) (w : Writes) (p q : PathState C) → w.own.timing ≡ false → w.own.news ≡ false → w.own.owes_third ≡ false → w.other ≡ nothing → OnlyAt s w p q → BothCalm p q
  plain s w p q timing news owes none x = record { a = h.0; b = h.1 }
    where
      h : Calm p.a q.a × Calm p.b q.b
      h = both_ends (λ e f. Calm e f) s w p q (λ e f only. only_calm w.own e f timing news owes only)
          (λ e f only. only_calm nothing e f refl refl refl (subst (λ v. Only v e f) none only)) x

  calm_ends : (p q : PathState C) → BothCalm p q → BothTimed p q
  calm_ends p q x = record { a = calm x.a; b = calm x.b }

  -- ---- replies

  break_timed : (k : Codec C) (s : Side) (reason : ℕ) (r : Reply) (p : PathState C) → BothTimed p (answered_break k s reason r p)
  break_timed k s reason r p = either (end_at s p).treated.asked _ _ p (side s _ p _ (calmly _ _ refl refl refl) refl refl) (dying s _ p _ refl refl refl)

  thing_timed : (k : Codec C) (s : Side) (item : Heard) (r : Reply) (p : PathState C) → BothTimed p (answered_heard k s item r p)
  thing_timed k s (says.DataAck next window) r p =
      let e = end_at s p in
      side s _ p _ (data_ack_timed next r e (λ v. record e { sending = v; modes = covered_by next e.modes; treated = record e.treated { data_ack_taken = true } }) (λ v. refl) (λ v. refl) (λ v. refl)) refl refl
  thing_timed k s (says.Mapping fin) r p =
      either (is_clash (end_at s p)) _ _ p (break_timed k s 1 r p) (side s _ p _ (calmly _ _ refl refl (fell_third falls.MappingHeard r (end_at s p).modes)) refl refl)
  thing_timed k s (says.DataFin place) r p = side s _ p _ (calmly _ _ refl refl (fell_third falls.MappingHeard r (end_at s p).modes)) refl refl
  thing_timed k s (says.InfiniteMapping place position) r p =
      let e = end_at s p in side s _ p _ (infinite_came_so (λ f. Timed e f) place position r e (λ other. calmly e _ refl refl (mode_third r e.modes))) refl refl
  thing_timed k s (says.Keys own peer) r p = side s _ p _ (calmly _ _ refl refl (keys_third r _ (end_at s p).modes)) refl refl
  thing_timed k s (says.Notice notice) r p = side s _ p _ (calmly _ _ refl refl refl) refl refl
  thing_timed k s says.Fail r p = fail_answered_so (BothTimed p) s r p
      (side s _ p _ (calmly _ _ refl refl refl) refl refl) (side s _ p _ (calmly _ _ refl refl (fell_third (falls.FailHeard false) r (end_at s p).modes)) refl refl)
  thing_timed k s _ r p = both_rest p _ refl refl

  things_timed : (k : Codec C) (s : Side) (item : Option Heard) (r : Reply) (p : PathState C) → BothTimed p (answered_item k s item r p)
  things_timed k s None r p = both_rest p _ refl refl
  things_timed k s (Some item) r p = thing_timed k s item r p

  -- ---- events

  begun_timed : (r : Reply) (dead living : List Duty) (p : PathState C) → BothTimed p (join_begun r dead living p)
  begun_timed r dead living p =
      either (is_never r) (goes_on A (never_joined r (end_at A p)) dead p) (goes_on A (opened_by (keys_begun r) (end_at A p)) living p) p
      (dying A _ p _ refl refl refl) (side A _ p _ (opens_timed (keys_begun r)) refl refl)
    where
      opens_timed : (keys : Option KeyPair) → Timed p.a (opened_by keys p.a)
      opens_timed None = stays p.a
      opens_timed (Some keys) = elim (is_waiting p.a.tcp.state) as (λ b. Timed p.a (record p.a { tcp = if b then after_begin p.a.tcp else p.a.tcp; modes = with_keys keys p.a.modes }))
          [ true ↦ calmly _ _ refl refl refl | false ↦ calmly _ _ refl refl refl ]

  line_timed : (action : LineAction) (p : PathState C) → BothTimed p (after_line action p)
  line_timed actions.Die p = record { a = died_timed p.a; b = died_timed p.b }
  line_timed (actions.Prio s backup) p = side s _ p _ (calmly _ _ refl refl refl) refl refl
  line_timed (actions.Announce s id) p = both_rest p _ refl refl
  line_timed (actions.Withdraw s id) p = both_rest p _ refl refl

  heard_timed : (s : Side) (o : Option HeardSegment) (p : PathState C) → BothTimed p (copy_heard s o p)
  heard_timed s None p = both_rest p _ refl refl
  heard_timed s (Some heard) p =
      let e : PathEnd = end_at s p in
      let h : HeardSegment = options_heard e heard in
      let joined : Bool = is_joined p.profile in
      let m : Meaning = taken_as (judged_in joined s h e) in
      let taken : IsTakenAs m (copy_of h) e.tcp = judged_taken h.rst (items_of joined s h) e (λ n. IsTakenAs n (copy_of h) e.tcp) (inl refl) joined (meaning_of (copy_of h) e.tcp) (inr refl) in
      let x : Timed e (after_judged p.profile s p.clock h (judged_in joined s h e) e) = copy_timed p.profile s p.clock h e m (λ pos is. syn_so (copy_of h) e.tcp m pos taken is) in
      side s _ p (copy_heard s (Some heard) p) x refl refl

  -- an end whose timer runs out by an event, or what becomes of it by the duty
  pub data TimedAt (d : Duty) (s : Side) (p q : PathState C) : Type 0 where
    at_end : Timed (end_at s p) (end_at s q) → TimedAt d s p q
    out : (at : ℕ) → d ≡ duties.Step step_duties.Events → next_event p ≡ Some (happenings.Fires s at) → TimedAt d s p q

  abbrev pub AllTimed : Duty → PathState C → PathState C → Type 0
  AllTimed d p q = (t : Side) → TimedAt d t p q

  ends : (d : Duty) (p q : PathState C) → BothTimed p q → AllTimed d p q
  ends d p q x A = at_end x.a
  ends d p q x B = at_end x.b

  fires_timed : (k : Codec C) (s : Side) (tick : ℕ) (r : Reply) (p : PathState C) → next_event p ≡ Some (happenings.Fires s tick) → AllTimed by_event p (happens_if k (Some (happenings.Fires s tick)) r p)
  fires_timed k A tick r p next A = out tick refl next
  fires_timed k A tick r p next B = at_end (stays p.b)
  fires_timed k B tick r p next A = at_end (stays p.a)
  fires_timed k B tick r p next B = out tick refl next

  event_timed : (k : Codec C) (o : Option Event) (r : Reply) (p : PathState C) → next_event p ≡ o → AllTimed by_event p (happens_if k o r p)
  event_timed k None r p next = ends by_event p _ (both_rest p _ refl refl)
  event_timed k (Some (happenings.Joins tick)) r p next =
      let q : PathState C = record (at_tick tick p) { joined_at = None } in ends by_event p _ (from_there p q _ refl refl (begun_timed r (leaves A) (emission A) q))
  event_timed k (Some (happenings.Takes line)) r p next =
      let q : PathState C = record (at_tick line.tick p) { lines = tail_of p.lines } in ends by_event p _ (from_there p q _ refl refl (line_timed line.action q))
  event_timed k (Some (happenings.Arrives due)) r p next =
      let q : PathState C = record (at_tick due.tick p) { link = after_delivery due p.link } in
      ends by_event p _ (from_there p q _ refl refl (heard_timed due.to (heard_in k due.to (arriving due p.link) p) q))
  event_timed k (Some (happenings.Fires s tick)) r p next = fires_timed k s tick r p next

  -- ---- any duty

  pub answered_timed : (k : Codec C) (d : Duty) (r : Reply) (p : PathState C) → AllTimed d p (answered k d r p)
  answered_timed k (duties.Step step_duties.Events) r p = event_timed k (next_event p) r p refl
  answered_timed k (duties.Ask ask_duties.JoinAgain) r p = ends _ p _ (begun_timed r _ _ p)
  answered_timed k (duties.Ask (ask_duties.LeaveNoted s)) r p = ends _ p _ (dying s _ p _ refl refl refl)
  answered_timed k (duties.Ask (ask_duties.SubflowAck s)) r p = let e = end_at s p in ends _ p _ (side s _ p _ (plainly_timed (plain_next e) r e) refl refl)
  answered_timed k (duties.Step (step_duties.Heard s index)) r p = ends _ p _ (things_timed k s (item_of index (end_at s p)) r p)
  answered_timed k (duties.Step (step_duties.PlainAck s)) r p =
      ends _ p _ (either (breaks_by_ack p.profile (end_at s p)) _ _ p (break_timed k s 6 r p) (side s _ p _ (calmly _ _ refl refl (fell_third falls.PlainAck r (end_at s p).modes)) refl refl))
  answered_timed k (duties.Step (step_duties.Unmapped s)) r p = ends _ p _ (break_timed k s 6 r p)
  answered_timed k (duties.Send (send_duties.Update s)) r p = ends _ p _ (side s _ p _ (calmly _ _ refl refl refl) refl refl)
  answered_timed k (duties.Send (send_duties.BreakReset s reason)) r p = ends _ p _ (dying s _ p _ refl refl refl)
  answered_timed k (duties.Send (send_duties.Reset s)) r p = ends _ p _ (dying s _ p _ refl refl refl)
  answered_timed k (duties.Send (send_duties.ResetNoted s)) r p = ends _ p _ (dying s _ p _ refl refl refl)
  answered_timed k (duties.Silent d) r p = ends _ p _ (both_rest p _ refl refl)
  answered_timed k d r p =
      let q : PathState C = answered k d r p in ends d p q (calm_ends p q (plain (side_of d) (writes d) p q refl refl refl refl (writes_no_more k d r p)))

  abbrev pub BothPass : PathState C → PathState C → Type 0
  BothPass p q = (s : Side) → Passes (end_at s p) (end_at s q)

  -- the end of this side passes a duty
  side_passes : (s : Side) (e : PathEnd) (p : PathState C) → Passes (end_at s p) e → BothPass p (with_end s e p)
  side_passes A e p x A = x
  side_passes A e p x B = same_passes p.b
  side_passes B e p x A = same_passes p.a
  side_passes B e p x B = x

  own_far : (s : Side) (e : PathEnd) (p : PathState C) → PathStep p (with_end s e p) → Far (end_at s p) e
  own_far A e p x = end_far p.clock p.a e x.a
  own_far B e p x = end_far p.clock p.b e x.b

  calm_passes : (p q : PathState C) → PathStep p q → BothCalm p q → BothPass p q
  calm_passes p q x h A = passes_by p.a q.a (record { timed = calm h.a; third = h.a.third }) (end_far q.clock p.a q.a x.a)
  calm_passes p q x h B = passes_by p.b q.b (record { timed = calm h.b; third = h.b.third }) (end_far q.clock p.b q.b x.b)

  rest_passes : (p : PathState C) → BothPass p p
  rest_passes p t = same_passes (end_at t p)

  pub duty_passes : (d : Duty) (p : PathState C) → PathStep p (passed d p) → BothPass p (passed d p)
  duty_passes (duties.Silent (silent_duties.Timer s)) p x =
      let e : PathEnd = end_at s p in
      let far : Far e (with_timer_settled p.clock e) = own_far s (with_timer_settled p.clock e) p x in
      side_passes s (with_timer_settled p.clock e) p (record { far = far; third = λ is. is; goes = λ tick h. timer_goes tick p.clock e far h })
  duty_passes (duties.Step (step_duties.Heard s index)) p x =
      let e : PathEnd = end_at s p in
      let f : PathEnd = item_passed s (item_of index e) e in
      side_passes s f p (passes_by e f (item_timed s (item_of index e) e) (own_far s f p x))
  duty_passes (duties.Step (step_duties.PlainAck s)) p x =
      let e : PathEnd = end_at s p in
      side_passes s (with_plain_ack e) p (passes_by e (with_plain_ack e) (calmly_passed e (with_plain_ack e) refl refl refl) (own_far s (with_plain_ack e) p x))
  duty_passes (duties.Step (step_duties.Unmapped s)) p x =
      let e : PathEnd = end_at s p in
      side_passes s (after_pieces e) p (passes_by e (after_pieces e) (calmly_passed e (after_pieces e) refl refl refl) (own_far s (after_pieces e) p x))
  duty_passes (duties.Ask ask_duties.JoinAgain) p x = rest_passes p
  duty_passes (duties.Ask (ask_duties.SubflowAck s)) p x = rest_passes p
  duty_passes (duties.Ask (ask_duties.LeaveNoted s)) p x = rest_passes p
  duty_passes (duties.Step step_duties.Events) p x = rest_passes p
  duty_passes (duties.Send (send_duties.Update s)) p x = rest_passes p
  duty_passes (duties.Send (send_duties.BreakReset s reason)) p x = rest_passes p
  duty_passes (duties.Send (send_duties.Reset s)) p x = rest_passes p
  duty_passes (duties.Send (send_duties.ResetNoted s)) p x = rest_passes p
  duty_passes d p x = calm_passes p (passed d p) x (plain (side_of d) (writes d) p (passed d p) refl refl refl refl (passes_no_more d p))

  passes_last : Lasts BothPass
  passes_last = record {
    agenda = λ ds p s. same_passes (end_at s p);
    chains = λ p q r x y s. passes_then (end_at s p) (end_at s q) (end_at s r) (x s) (y s);
    passes = λ d p. duty_passes d p (passed_steps d p);
  }

  -- ---- a path

  waits_by : (s : Side) (tick : ℕ) (p q : PathState C) → Goes tick (end_at s p) (end_at s q) → WaitsOn s tick p q
  waits_by s tick p q (on h owes) = wait.runs h
  waits_by s tick p q (changes x) = wait.news x
  waits_by s tick p q (leaves_it x) = wait.gone x

  answer_waits : (d : Duty) (ds : List Duty) (s : Side) (tick : ℕ) (p q r : PathState C) → p.agenda ≡ d ∷ ds → TimedAt d s p q → Far (end_at s p) (end_at s q) → Passes (end_at s q) (end_at s r)
      → RunsTo tick (end_at s p) → WaitsOn s tick p r
  answer_waits d ds s tick p q r first (out at is next) far y h = wait.runs_out at (record { next = next; others = ds; first = first ∙ ap (λ x. x ∷ ds) is })
  answer_waits d ds s tick p q r first (at_end x) far y h =
      waits_by s tick p r (goes_then tick (end_at s p) (end_at s q) (end_at s r) far (goes_so tick (end_at s p) (end_at s q) x far h) y)

  takes_waits : (k : Codec C) (r : Reply) (p : PathState C) (s : Side) (tick : ℕ) → RunsTo tick (end_at s p) → WaitsOn s tick p (takes k r p)
  takes_waits k r p s tick h = by p.agenda h
    where
      by : (ds : List Duty) → RunsTo tick (end_at s p) → let x = record p { agenda = ds } in WaitsOn s tick x (takes k r x)
      by [] h = wait.runs h
      by (d ∷ ds) h =
          let x : PathState C = record p { agenda = d ∷ ds } in
          let q : PathState C = answered k d r x in
          answer_waits d ds s tick x q (takes k r x) refl (answered_timed k d r x s) (path_far x q (answered_steps k d r x) s) (settled_lasts BothPass passes_last q.agenda q s) h

  next_waits : (p : PathState C) (s : Side) (tick : ℕ) → RunsTo tick (end_at s p) → WaitsOn s tick p (next_round p)
  next_waits p s tick h =
      let q : PathState C = record p { clock = p.until; until = p.until + 100 } in
      waits_by s tick p (next_round p) ((begins_lasts BothPass passes_last q s).goes tick h)

  -- ---- the world

  member_waits : (k : Codec C) (r : Reply) (m : Actor C) → TimersWaitOn m (member_takes k r m)
  member_waits k r (App a) = tt
  member_waits k r (Path p) = takes_waits k r p

  member_begins : (m : Actor C) → TimersWaitOn m (member_next m)
  member_begins (App a) = tt
  member_begins (Path p) = next_waits p

  member_stays : (m : Actor C) → TimersWaitOn m m
  member_stays (App a) = tt
  member_stays (Path p) = λ s tick h. wait.runs h

  member_settled : (m : Actor C) → HoldsOfKind (λ app. Unit {0}) (settling.HoldsAtTheEnd IsReady ready_settles) m → HoldsOfKind (λ app. Unit {0}) IsSettledAtTheEnd m
  member_settled (App a) h = tt
  member_settled (Path p) h = λ over s. h over s

  pub no_timer_is_put_off : (k : Codec C) → NoTimerIsPutOff k
  no_timer_is_put_off k = record {
    settled = λ start turns. record { each = λ actor c there. member_settled c.member (settling.each_turn_settles IsReady ready_settles k start turns actor c there) };
    waits = λ w turn. turn_each k (λ c d. TimersWaitOn c.member d.member) (λ c. member_stays c.member)
        (λ ask books c. member_waits k (answer_to books ask) c.member) (λ stamp c over. member_begins c.member) turn w;
  }
