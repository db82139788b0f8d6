-- Each duty that comes to something is answered, or never comes to it.
use Rattle.clean_finish.proofs.Words.{◌≡◌, refl, sym, ap, ◌∙◌, ℕ, ◌-◌, nat_lt, Bool, true, false, not, ◌&&◌, ◌||◌, if◌then◌else◌, Option, None, List, ◌∷◌, Some}
use Rattle.clean_finish.proofs.Words.{suc, zero, is_some, find, is_none, both_ways, Side, A, B, is_unsent, State, has_records, is_closed_to_segments, Due}
use Rattle.clean_finish.proofs.Words.{nothing_due, window_told, InfiniteMapping, fin_under, Duty, SendDuty, StepDuty, AskDuty, Heard, is_nil, SixBooks}
use Rattle.clean_finish.proofs.Words.{reply_of, after_ask, AppState, Carried, values, PathEnd, place_passed, place_of_fin, is_connected, may_note, PathState}
use Rattle.clean_finish.proofs.Words.{with_agenda, stands, ask_for, answered, is_syn_due, fin_place, item_of, item_stands, Setting, Lane, all_left, Going}
use Rattle.clean_finish.proofs.Words.{PathPlan, Start, IsPhase, IsMapping, NoticesAre, Keys, heard_by, IsSetting, Runs, keys_in, Opening, Listening, HalfOpen}
use Rattle.clean_finish.proofs.Words.{Open}
use Rattle.subflow_tcp.specs.States.{is_opening, is_waiting}
use Rattle.path_agenda.specs.declared.notice.OwnNotice.{OwnNotice}
use Rattle.path_core.specs.Addresses.{is_note_due}
use Rattle.path_core.specs.FastClose.{is_fast_close_due, is_silent, leaves_silently, resets_noted}
use Rattle.clean_finish.proofs.AnswerTreated.{answers_peer_key, answers_syn_answered}
use Rattle.clean_finish.proofs.CopyKinds.{third_shows}
use Rattle.clean_finish.proofs.DataAnswered.{data_a, data_b}
use Rattle.clean_finish.proofs.EdgePlacing.{answers_edge_a, answers_edge_b, stays_right_a, stays_right_b}
use Rattle.clean_finish.proofs.EndAnswered.{end_a, end_b}
use Rattle.clean_finish.proofs.EndPassing.{answers_heard_fin_a, answers_heard_fin_b, stays_mapped_a, stays_mapped_b}
use Rattle.clean_finish.proofs.EventsAnswered.{answers_events}
use Rattle.clean_finish.proofs.FinAnswered.{fin_a, fin_b}
use Rattle.clean_finish.proofs.FirstAtB.{answers_first_b}
use Rattle.clean_finish.proofs.HeardFirst.{answers_live_a, answers_live_b, no_keys}
use Rattle.clean_finish.proofs.HeardLast.{answers_last_a, answers_last_b}
use Rattle.clean_finish.proofs.HeardNext.{dss_first, item_is}
use Rattle.clean_finish.proofs.HeardSecond.{answers_second_a, answers_second_b}
use Rattle.clean_finish.proofs.KeepPassing.{stays_plain_ack_a, stays_plain_ack_b, stays_plain_data_a, stays_plain_data_b, stays_subflow_ack_a, stays_subflow_ack_b}
use Rattle.clean_finish.proofs.Lasting.{answers_ack_out_a, answers_ack_out_b, answers_acknowledge_a, answers_acknowledge_b, answers_rate_a, answers_rate_b}
use Rattle.clean_finish.proofs.OpenedTold.{answers_opened_b, opened_is}
use Rattle.clean_finish.proofs.SureTold.{answers_ack_heard_a, answers_ack_heard_b}
use Rattle.clean_finish.proofs.SynAnswers.{answers_syn_ack, answers_syn_heard, asks_capable}
use Rattle.clean_finish.proofs.SynGoes.{syn_goes}
use Rattle.clean_finish.proofs.SynPassed.{ends}
use Rattle.clean_finish.proofs.TurnBegun.{look_a, look_b, window_a, window_b}
use Rattle.clean_finish.proofs.UpdateAnswered.{update_a, update_b}

not_b : A ≡ B → ⊥
not_b e = cc

not_a : B ≡ A → ⊥
not_a e = cc

-- a duty that comes to nothing
never : {X : Type 0} → false ≡ true → X
never on = absurd (both_ways false refl on)

-- ---- what never stands

and_false : (b : Bool) → (b && false) ≡ false
and_false true = refl
and_false false = refl

-- an end that waits takes no segment
waiting_is_closed : (state : State) → is_waiting state ≡ true → is_closed_to_segments state ≡ true
waiting_is_closed State.Waiting e = refl
waiting_is_closed _ e = never e

none_waits : (q : Side) (came una : ℕ) (finished : Bool) (state : State) → IsPhase q came una finished state → is_waiting state ≡ true → ⊥
none_waits q came una finished state (Opening side none low is) on = both_ways _ (ap is_waiting is) on
none_waits q came una finished state (Listening side none low is) on = both_ways _ (ap is_waiting is) on
none_waits q came una finished state (HalfOpen side one low is) on = both_ways _ (ap is_waiting is) on
none_waits q came una finished state (Open some high is) on = both_ways _ is.closed (waiting_is_closed state on)

first_true : (x y : Bool) → (x && y) ≡ true → x ≡ true
first_true true y e = refl
first_true false y e = never e

-- B opens nothing
none_opens : (came una : ℕ) (finished : Bool) (state : State) → IsPhase B came una finished state → is_opening state ≡ false
none_opens came una finished state (Opening side none low is) = absurd (not_a side)
none_opens came una finished state (Listening side none low is) = ap is_opening is
none_opens came una finished state (HalfOpen side one low is) = ap is_opening is
none_opens came una finished state (Open some high is) = is.opening

no_leave : (e : PathEnd) → NoticesAre e.notices → leaves_silently e ≡ false
no_leave e is = ap (λ (b : Bool). is_silent e.tcp.state && b) is.reset ∙ and_false (is_silent e.tcp.state)

no_reset : (e : PathEnd) → NoticesAre e.notices → resets_noted e ≡ false
no_reset e is = ap (λ (b : Bool). not (is_closed_to_segments e.tcp.state) && b) is.reset ∙ and_false (not (is_closed_to_segments e.tcp.state))

no_fast_close : (e : PathEnd) → NoticesAre e.notices → is_fast_close_due e ≡ false
no_fast_close e is =
    ap (λ (o : Option ℕ). is_connected e.tcp.state && ((is_some o && not e.notices.fast_closed) && (e.modes.clear || e.modes.identity))) is.carrier
    ∙ and_false (is_connected e.tcp.state)

no_note : (e : PathEnd) → NoticesAre e.notices → is_note_due e ≡ false
no_note e is = ap (λ (ns : List OwnNotice). may_note e && not (is_nil ns)) is.queue ∙ and_false (may_note e)

no_plain_fin : (e : PathEnd) → IsMapping e.modes → is_some (place_of_fin e) ≡ false
no_plain_fin e mptcp = by e.receiving.fin_told e.tcp.fin_at
  where
    passed : (position : ℕ) (b : Bool) → is_some (if b then fin_place e.modes position else None) ≡ false
    passed position true = ap (λ (b : Bool). is_some (if b then Some (position - 1) else fin_under e.modes.peer_infinite position)) mptcp.0
        ∙ ap (λ (o : Option InfiniteMapping). is_some (fin_under o position)) mptcp.2
    passed position false = refl

    by : (told : Bool) (o : Option ℕ) → is_some (if told then None else place_passed e.modes o e.tcp.recv.edge) ≡ false
    by true o = refl
    by false None = refl
    by false (Some position) = passed position (nat_lt position e.tcp.recv.edge)

module _ (start : Start) (plan : PathPlan) (k j : Setting) (s v : Lane) (t0 u0 : ℕ)
    (going : Going k s t0 all_left s) (going_back : Going j v u0 all_left v)
  where
    abbrev keys : Keys
    keys = keys_in start

    module _ (a b : AppState) (books : SixBooks) (p : PathState Carried)
        (k_is : IsSetting p.profile plan.delay k) (j_is : IsSetting p.profile plan.delay j)
      where
        abbrev Relation : PathState Carried → Type 0
        Relation q = Runs start plan k j s v a b books q

        abbrev Answered : Duty → List Duty → Type 0
        Answered d ds = stands d (with_agenda (d ∷ ds) p) ≡ true → Relation (with_agenda (d ∷ ds) p)
            → let ask = ask_for values d (with_agenda (d ∷ ds) p) in
            Runs start plan k j s v a b (after_ask ask books) (answered values d (reply_of books ask) (with_agenda (d ∷ ds) p))

        -- A hears a DSS first
        first_stays_a : (ds : List Duty) → Relation (with_agenda (Duty.Step (StepDuty.Heard A 0) ∷ ds) p) → item_stands (item_of 0 p.a) p.a ≡ false
        first_stays_a ds h =
            let t = h.treats in
            let f = t.1 in
            ap (λ (o : Option Heard). item_stands o p.a)
            (item_is 0 p.a (heard_by keys f.sent.telling.next (window_told false f.sent.window) t.0) h.faces.own.modes.mapping.0 f.items
            ∙ dss_first keys f.sent.telling.next (window_told false f.sent.window) t.0 f.kind (no_keys t.0 f.keyed))

        -- ---- duties that ask

        ask_answered : (d : AskDuty) (ds : List Duty) → Answered (Duty.Ask d) ds
        ask_answered AskDuty.JoinAgain ds on h =
            absurd (none_waits A h.faces.back.control_came p.a.tcp.send.una p.a.tcp.send.finished p.a.tcp.state h.faces.own.subflow.phase
            (first_true (is_waiting p.a.tcp.state) (is_none p.joined_at) on))
        ask_answered (AskDuty.Window A) ds on h = window_a start plan k j s v t0 u0 going going_back a b books p ds k_is j_is h
        ask_answered (AskDuty.Window B) ds on h = window_b start plan k j s v t0 u0 going going_back a b books p ds k_is j_is h
        ask_answered (AskDuty.SynHeard A) ds on h = absurd (not_b h.treats.0.side)
        ask_answered (AskDuty.SynHeard B) ds on h = answers_syn_heard start plan k j s v t0 u0 going going_back a b books p ds k_is j_is h
        ask_answered (AskDuty.SynAnswered A) ds on h = answers_syn_answered start plan k j s v t0 u0 going going_back a b books p ds k_is j_is h
        ask_answered (AskDuty.SynAnswered B) ds on h = absurd (not_a h.treats.0.side)
        ask_answered (AskDuty.PlainHandshake A) ds on h = absurd (not_b h.treats.0.side)
        ask_answered (AskDuty.PlainHandshake B) ds on h = absurd (both_ways _ (asks_capable start plan k j s v t0 u0 going going_back a b books p ds k_is j_is h) on)
        ask_answered (AskDuty.PeerKey A) ds on h = answers_peer_key start plan k j s v t0 u0 going going_back a b books p ds k_is j_is h
        ask_answered (AskDuty.PeerKey B) ds on h = absurd (not_a h.treats.0.side)
        ask_answered (AskDuty.Opened A) ds on h = absurd (not_b (h.treats.1.keyed (third_shows h.treats.0 (sym h.treats.1.opened ∙ opened_is p.a on))))
        ask_answered (AskDuty.Opened B) ds on h = answers_opened_b start plan k j s v t0 u0 going going_back a b books p k_is j_is ds on h
        ask_answered (AskDuty.Live A) ds on h = answers_live_a start plan k j s v t0 u0 going going_back a b books p k_is j_is ds h
        ask_answered (AskDuty.Live B) ds on h = answers_live_b start plan k j s v t0 u0 going going_back a b books p k_is j_is ds h
        ask_answered (AskDuty.AckHeard A) ds on h = answers_ack_heard_a start plan k j s v t0 u0 going going_back a b books p k_is j_is ds h
        ask_answered (AskDuty.AckHeard B) ds on h = answers_ack_heard_b start plan k j s v t0 u0 going going_back a b books p k_is j_is ds h
        ask_answered (AskDuty.SubflowAck A) ds on h = absurd (both_ways _ (stays_subflow_ack_a start plan k j s v t0 u0 going going_back a b books p k_is j_is ds h) on)
        ask_answered (AskDuty.SubflowAck B) ds on h = absurd (both_ways _ (stays_subflow_ack_b start plan k j s v t0 u0 going going_back a b books p k_is j_is ds h) on)
        ask_answered (AskDuty.PlainData A) ds on h = absurd (both_ways _ (stays_plain_data_a start plan k j s v t0 u0 going going_back a b books p k_is j_is ds h) on)
        ask_answered (AskDuty.PlainData B) ds on h = absurd (both_ways _ (stays_plain_data_b start plan k j s v t0 u0 going going_back a b books p k_is j_is ds h) on)
        ask_answered (AskDuty.Edge A) ds on h = answers_edge_a start plan k j s v t0 u0 going going_back a b books p k_is j_is ds on h
        ask_answered (AskDuty.Edge B) ds on h = answers_edge_b start plan k j s v t0 u0 going going_back a b books p k_is j_is ds on h
        ask_answered (AskDuty.CheckFailed A) ds on h = absurd (both_ways _ (stays_right_a start plan k j s v t0 u0 going going_back a b books p k_is j_is ds h) on)
        ask_answered (AskDuty.CheckFailed B) ds on h = absurd (both_ways _ (stays_right_b start plan k j s v t0 u0 going going_back a b books p k_is j_is ds h) on)
        ask_answered (AskDuty.HeardFin A zero) ds on h = answers_heard_fin_a start plan k j s v t0 u0 going going_back a b books p k_is j_is ds on h
        ask_answered (AskDuty.HeardFin B zero) ds on h = answers_heard_fin_b start plan k j s v t0 u0 going going_back a b books p k_is j_is ds on h
        ask_answered (AskDuty.HeardFin A (suc zero)) ds on h = absurd (both_ways _ (ap (λ (o : Option ℕ). is_some o) (h.treats.0.1 0)) on)
        ask_answered (AskDuty.HeardFin B (suc zero)) ds on h = absurd (both_ways _ (ap (λ (o : Option ℕ). is_some o) (h.treats.0.1 0)) on)
        ask_answered (AskDuty.HeardFin A (suc (suc i))) ds on h = absurd (both_ways _ (ap (λ (o : Option ℕ). is_some o) (h.treats.0.1 (suc i))) on)
        ask_answered (AskDuty.HeardFin B (suc (suc i))) ds on h = absurd (both_ways _ (ap (λ (o : Option ℕ). is_some o) (h.treats.0.1 (suc i))) on)
        ask_answered (AskDuty.SubflowFin A) ds on h = absurd (both_ways _ (no_plain_fin p.a h.faces.own.modes.mapping) on)
        ask_answered (AskDuty.SubflowFin B) ds on h = absurd (both_ways _ (no_plain_fin p.b h.faces.other.modes.mapping) on)
        ask_answered (AskDuty.AckOut A) ds on h = answers_ack_out_a start plan k j s v t0 u0 going going_back a b books p k_is j_is ds h
        ask_answered (AskDuty.AckOut B) ds on h = answers_ack_out_b start plan k j s v t0 u0 going going_back a b books p k_is j_is ds h
        ask_answered (AskDuty.Rate A) ds on h = answers_rate_a start plan k j s v t0 u0 going going_back a b books p k_is j_is ds on h
        ask_answered (AskDuty.Rate B) ds on h = answers_rate_b start plan k j s v t0 u0 going going_back a b books p k_is j_is ds on h
        ask_answered (AskDuty.LeaveNoted A) ds on h = absurd (both_ways _ (no_leave p.a h.faces.own.notices) on)
        ask_answered (AskDuty.LeaveNoted B) ds on h = absurd (both_ways _ (no_leave p.b h.faces.other.notices) on)
        ask_answered _ ds on h = absurd (both_ways _ refl h.treats.3)

        -- ---- duties that ask, send or take an event

        step_answered : (d : StepDuty) (ds : List Duty) → Answered (Duty.Step d) ds
        step_answered (StepDuty.Look A) ds on h = look_a start plan k j s v t0 u0 going going_back a b books p ds k_is j_is h
        step_answered (StepDuty.Look B) ds on h = look_b start plan k j s v t0 u0 going going_back a b books p ds k_is j_is h
        step_answered (StepDuty.Data A) ds on h = data_a start plan k j s v t0 u0 going going_back a b books p ds k_is j_is on h
        step_answered (StepDuty.Data B) ds on h = data_b start plan k j s v t0 u0 going going_back a b books p ds k_is j_is on h
        step_answered StepDuty.Events ds on h = answers_events start plan k j s v t0 u0 going going_back a b books p k_is j_is ds on h
        step_answered (StepDuty.Heard A zero) ds on h = absurd (both_ways _ (first_stays_a ds h) on)
        step_answered (StepDuty.Heard B zero) ds on h = answers_first_b start plan k j s v t0 u0 going going_back a b books p k_is j_is ds on h
        step_answered (StepDuty.Heard A (suc zero)) ds on h = answers_second_a start plan k j s v t0 u0 going going_back a b books p k_is j_is ds on h
        step_answered (StepDuty.Heard B (suc zero)) ds on h = answers_second_b start plan k j s v t0 u0 going going_back a b books p k_is j_is ds on h
        step_answered (StepDuty.Heard A (suc (suc zero))) ds on h = answers_last_a start plan k j s v t0 u0 going going_back a b books p k_is j_is ds on h
        step_answered (StepDuty.Heard B (suc (suc zero))) ds on h = answers_last_b start plan k j s v t0 u0 going going_back a b books p k_is j_is ds on h
        step_answered (StepDuty.Heard q (suc (suc (suc i)))) ds on h = absurd h.treats
        step_answered (StepDuty.PlainAck A) ds on h = absurd (both_ways _ (stays_plain_ack_a start plan k j s v t0 u0 going going_back a b books p k_is j_is ds h) on)
        step_answered (StepDuty.PlainAck B) ds on h = absurd (both_ways _ (stays_plain_ack_b start plan k j s v t0 u0 going going_back a b books p k_is j_is ds h) on)
        step_answered (StepDuty.Unmapped A) ds on h = absurd (both_ways _ (stays_mapped_a start plan k j s v t0 u0 going going_back a b books p k_is j_is ds h) on)
        step_answered (StepDuty.Unmapped B) ds on h = absurd (both_ways _ (stays_mapped_b start plan k j s v t0 u0 going going_back a b books p k_is j_is ds h) on)

        -- ---- duties that send

        -- B's SYN goes out by its answer
        syn_b_waits : (ds : List Duty) → Relation (with_agenda (Duty.Send (SendDuty.Syn B) ∷ ds) p) → is_syn_due p.b ≡ false
        syn_b_waits ds h = ap (λ (x : Bool). x && is_some (find is_unsent p.b.tcp.send.records))
            (none_opens h.faces.out.control_came p.b.tcp.send.una p.b.tcp.send.finished p.b.tcp.state h.faces.other.subflow.phase)

        -- nothing is sent again
        again_waits : (d : Due) (some owes : Bool) → d ≡ record nothing_due { ack = owes } → (d.first && some) ≡ false
        again_waits d some owes is = ap (λ (x : Due). x.first && some) is

        send_answered : (d : SendDuty) (ds : List Duty) → Answered (Duty.Send d) ds
        send_answered (SendDuty.Update A) ds on h = update_a start plan k j s v t0 u0 going going_back a b books p ds k_is j_is on h
        send_answered (SendDuty.Update B) ds on h = update_b start plan k j s v t0 u0 going going_back a b books p ds k_is j_is on h
        send_answered (SendDuty.Syn A) ds on h = syn_goes start plan k j s v t0 u0 going going_back a b books p ds k_is j_is on h
        send_answered (SendDuty.Syn B) ds on h = absurd (both_ways _ (syn_b_waits ds h) on)
        send_answered (SendDuty.FastClose A) ds on h = absurd (both_ways _ (no_fast_close p.a h.faces.own.notices) on)
        send_answered (SendDuty.FastClose B) ds on h = absurd (both_ways _ (no_fast_close p.b h.faces.other.notices) on)
        send_answered (SendDuty.Notice A) ds on h = absurd (both_ways _ (no_note p.a h.faces.own.notices) on)
        send_answered (SendDuty.Notice B) ds on h = absurd (both_ways _ (no_note p.b h.faces.other.notices) on)
        send_answered (SendDuty.DataFin A) ds on h = end_a start plan k j s v t0 u0 going going_back a b books p ds k_is j_is on h
        send_answered (SendDuty.DataFin B) ds on h = end_b start plan k j s v t0 u0 going going_back a b books p ds k_is j_is on h
        send_answered (SendDuty.Fin A) ds on h = fin_a start plan k j s v t0 u0 going going_back a b books p ds k_is j_is on h
        send_answered (SendDuty.Fin B) ds on h = fin_b start plan k j s v t0 u0 going going_back a b books p ds k_is j_is on h
        send_answered (SendDuty.SynAck A) ds on h = absurd (not_b h.treats.0.side)
        send_answered (SendDuty.SynAck B) ds on h = answers_syn_ack start plan k j s v t0 u0 going going_back a b books p ds k_is j_is h
        send_answered (SendDuty.Acknowledge A) ds on h = answers_acknowledge_a start plan k j s v t0 u0 going going_back a b books p k_is j_is ds on h
        send_answered (SendDuty.Acknowledge B) ds on h = answers_acknowledge_b start plan k j s v t0 u0 going going_back a b books p k_is j_is ds on h
        send_answered (SendDuty.Again A) ds on h = absurd (both_ways _ (again_waits p.a.tcp.due (has_records p.a.tcp) h.faces.owes h.faces.own.subflow.due) on)
        send_answered (SendDuty.Again B) ds on h = absurd (both_ways _ (again_waits p.b.tcp.due (has_records p.b.tcp) h.faces.owes_back h.faces.other.subflow.due) on)
        send_answered (SendDuty.ResetNoted A) ds on h = absurd (both_ways _ (no_reset p.a h.faces.own.notices) on)
        send_answered (SendDuty.ResetNoted B) ds on h = absurd (both_ways _ (no_reset p.b h.faces.other.notices) on)
        send_answered _ ds on h = absurd (both_ways _ refl h.treats.3)

        pub duty_answered : (d : Duty) (ds : List Duty) → Answered d ds
        duty_answered (Duty.Ask d) ds on h = ask_answered d ds on h
        duty_answered (Duty.Step d) ds on h = step_answered d ds on h
        duty_answered (Duty.Send d) ds on h = send_answered d ds on h
        duty_answered (Duty.Silent d) ds on h = never on
        duty_answered Duty.End ds on h = ends start plan k j s v a b books p ds h
