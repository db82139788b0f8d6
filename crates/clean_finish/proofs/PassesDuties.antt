-- Each duty that comes to nothing is passed.
--
-- All duties stand in two tables, a line a duty (`proofs/PassesDuties`, `AnswersDuties`). What can't come is told by
-- the relation: by its side, by `is_plain`, or by a field that makes its test false; a duty by a number that no
-- template has is `⊥` in `Treats`, or the lemma before it would owe the same again.
use Rattle.clean_finish.proofs.Words.{◌≡◌, refl, sym, subst, ap, ℕ, true, false, ◌||◌, Option, List, ◌∷◌, suc, zero, is_some, both_ways, is_starting, A, B}
use Rattle.clean_finish.proofs.Words.{Duty, SendDuty, StepDuty, AskDuty, SilentDuty, SixBooks, AppState, Carried, PathState, with_agenda, stands, passed}
use Rattle.clean_finish.proofs.Words.{Setting, Lane, all_left, Going, PathPlan, Start, Keys, IsSetting, Runs, keys_in, fin_duties}
use Rattle.clean_finish.proofs.EdgePlacing.{passes_checked_a, passes_checked_b, passes_edge_a, passes_edge_b}
use Rattle.clean_finish.proofs.EndPassing.{passes_fin_one_a, passes_fin_one_b, passes_heard_fin_a, passes_heard_fin_b, passes_unmapped_a, passes_unmapped_b}
use Rattle.clean_finish.proofs.FinPassing.{passes_pass_fin_a, passes_pass_fin_b, passes_subflow_fin_a, passes_subflow_fin_b}
use Rattle.clean_finish.proofs.FirstAtB.{passes_first_b}
use Rattle.clean_finish.proofs.HeardFirst.{passes_ack_heard_a, passes_ack_heard_b, passes_first_a, passes_live_a, passes_live_b, passes_opened_a, passes_opened_b}
use Rattle.clean_finish.proofs.HeardLast.{passes_last_a, passes_last_b}
use Rattle.clean_finish.proofs.HeardSecond.{passes_second_a, passes_second_b}
use Rattle.clean_finish.proofs.KeepPassing.{passes_keep_a, passes_keep_b, passes_plain_ack_a, passes_plain_ack_b, passes_plain_data_a, passes_plain_data_b, passes_subflow_ack_a, passes_subflow_ack_b}
use Rattle.clean_finish.proofs.Lasting.{passes_ack_out_a, passes_ack_out_b, passes_acknowledge_a, passes_acknowledge_b, passes_rate_a, passes_rate_b}
use Rattle.clean_finish.proofs.Passing.{free_drops}
use Rattle.clean_finish.proofs.Plainly.{passes_again, passes_data_a, passes_data_b, passes_end_a, passes_end_b, passes_fast_close, passes_fin, passes_free, passes_join, passes_leave_noted, passes_reset_noted, passes_update_a, passes_update_b}
use Rattle.clean_finish.proofs.SynAnswers.{passes_handshake}
use Rattle.clean_finish.proofs.SynPassed.{passes_syn_a, passes_syn_b}
use Rattle.clean_finish.proofs.Timed.{passes_timer_a, passes_timer_b}
use Rattle.clean_finish.proofs.Waited.{passes_events}

not_b : A ≡ B → ⊥
not_b e = cc

not_a : B ≡ A → ⊥
not_a e = cc

-- a duty that would come to something
always : {X : Type 0} → true ≡ false → X
always off = absurd (both_ways true off refl)

module _ (start : Start) (plan : PathPlan) (k j : Setting) (s v : Lane) (t0 u0 : ℕ)
    (going : Going k s t0 all_left s) (going_back : Going j v u0 all_left v)
  where
    abbrev keys : Keys
    keys = keys_in start

    module _ (a b : AppState) (books : SixBooks) (p : PathState Carried)
        (k_is : IsSetting p.profile plan.delay k) (j_is : IsSetting p.profile plan.delay j)
      where
        abbrev Relation : PathState Carried → Type 0
        Relation q = Runs start plan k j s v a b books q

        abbrev Passed : Duty → List Duty → Type 0
        Passed d ds = stands d p ≡ false → Relation (with_agenda (d ∷ ds) p) → Relation (with_agenda ds (passed d p))

        -- no third end of the stream is told
        fin_late_a : (i : ℕ) → Relation (with_agenda (Duty.Ask (AskDuty.HeardFin A (suc (suc i))) ∷ fin_duties A) p) → Relation (with_agenda (fin_duties A) p)
        fin_late_a i h =
            let t = h.treats in
            record {
              path = h.path;
              link = h.link;
              faces = free_drops (Duty.Ask (AskDuty.HeardFin A (suc (suc i)))) (fin_duties A) refl h.faces;
              treats = (t.0.0, t.1.0, t.1.1, refl);
            }

        passes_fin_late_a : (i : ℕ) (ds : List Duty) → Relation (with_agenda (Duty.Ask (AskDuty.HeardFin A (suc (suc i))) ∷ ds) p) → Relation (with_agenda ds p)
        passes_fin_late_a i ds h =
            subst (λ (es : List Duty). Relation (with_agenda es p)) (sym h.treats.1.2)
            (fin_late_a i (subst (λ (es : List Duty). Relation (with_agenda (Duty.Ask (AskDuty.HeardFin A (suc (suc i))) ∷ es) p)) h.treats.1.2 h))

        fin_late_b : (i : ℕ) → Relation (with_agenda (Duty.Ask (AskDuty.HeardFin B (suc (suc i))) ∷ fin_duties B) p) → Relation (with_agenda (fin_duties B) p)
        fin_late_b i h =
            let t = h.treats in
            record {
              path = h.path;
              link = h.link;
              faces = free_drops (Duty.Ask (AskDuty.HeardFin B (suc (suc i)))) (fin_duties B) refl h.faces;
              treats = (t.0.0, t.1.0, t.1.1, refl);
            }

        passes_fin_late_b : (i : ℕ) (ds : List Duty) → Relation (with_agenda (Duty.Ask (AskDuty.HeardFin B (suc (suc i))) ∷ ds) p) → Relation (with_agenda ds p)
        passes_fin_late_b i ds h =
            subst (λ (es : List Duty). Relation (with_agenda es p)) (sym h.treats.1.2)
            (fin_late_b i (subst (λ (es : List Duty). Relation (with_agenda (Duty.Ask (AskDuty.HeardFin B (suc (suc i))) ∷ es) p)) h.treats.1.2 h))

        -- ---- duties that ask

        ask_passes : (d : AskDuty) (ds : List Duty) → Passed (Duty.Ask d) ds
        ask_passes AskDuty.JoinAgain ds off h = passes_join start plan k j s v t0 u0 going going_back a b books p ds k_is j_is h
        ask_passes (AskDuty.Window q) ds off h = always off
        ask_passes (AskDuty.SynHeard q) ds off h = always off
        ask_passes (AskDuty.SynAnswered q) ds off h = always off
        ask_passes (AskDuty.PlainHandshake A) ds off h = absurd (not_b h.treats.0.side)
        ask_passes (AskDuty.PlainHandshake B) ds off h = passes_handshake start plan k j s v t0 u0 going going_back a b books p ds k_is j_is h
        ask_passes (AskDuty.PeerKey A) ds off h =
            absurd (both_ways _ off (ap (λ (o : Option ℕ). is_some o || is_starting p.a.modes.mode) (h.treats.0.key refl)))
        ask_passes (AskDuty.PeerKey B) ds off h = absurd (not_a h.treats.0.side)
        ask_passes (AskDuty.JoinHeard q) ds off h = absurd (both_ways _ refl h.treats.3)
        ask_passes (AskDuty.Opened A) ds off h = passes_opened_a start plan k j s v t0 u0 going going_back a b books p k_is j_is ds off h
        ask_passes (AskDuty.Opened B) ds off h = passes_opened_b start plan k j s v t0 u0 going going_back a b books p k_is j_is ds off h
        ask_passes (AskDuty.Live A) ds off h = passes_live_a start plan k j s v t0 u0 going going_back a b books p k_is j_is ds off h
        ask_passes (AskDuty.Live B) ds off h = passes_live_b start plan k j s v t0 u0 going going_back a b books p k_is j_is ds off h
        ask_passes (AskDuty.AckHeard A) ds off h = passes_ack_heard_a start plan k j s v t0 u0 going going_back a b books p k_is j_is ds h
        ask_passes (AskDuty.AckHeard B) ds off h = passes_ack_heard_b start plan k j s v t0 u0 going going_back a b books p k_is j_is ds h
        ask_passes (AskDuty.SubflowAck A) ds off h = passes_subflow_ack_a start plan k j s v t0 u0 going going_back a b books p k_is j_is ds h
        ask_passes (AskDuty.SubflowAck B) ds off h = passes_subflow_ack_b start plan k j s v t0 u0 going going_back a b books p k_is j_is ds h
        ask_passes (AskDuty.PlainData A) ds off h = passes_plain_data_a start plan k j s v t0 u0 going going_back a b books p k_is j_is ds h
        ask_passes (AskDuty.PlainData B) ds off h = passes_plain_data_b start plan k j s v t0 u0 going going_back a b books p k_is j_is ds h
        ask_passes (AskDuty.Edge A) ds off h = passes_edge_a start plan k j s v t0 u0 going going_back a b books p k_is j_is ds off h
        ask_passes (AskDuty.Edge B) ds off h = passes_edge_b start plan k j s v t0 u0 going going_back a b books p k_is j_is ds off h
        ask_passes (AskDuty.CheckFailed A) ds off h = passes_checked_a start plan k j s v t0 u0 going going_back a b books p k_is j_is ds h
        ask_passes (AskDuty.CheckFailed B) ds off h = passes_checked_b start plan k j s v t0 u0 going going_back a b books p k_is j_is ds h
        ask_passes (AskDuty.HeardFin A zero) ds off h = passes_heard_fin_a start plan k j s v t0 u0 going going_back a b books p k_is j_is ds off h
        ask_passes (AskDuty.HeardFin B zero) ds off h = passes_heard_fin_b start plan k j s v t0 u0 going going_back a b books p k_is j_is ds off h
        ask_passes (AskDuty.HeardFin A (suc zero)) ds off h = passes_fin_one_a start plan k j s v t0 u0 going going_back a b books p k_is j_is ds h
        ask_passes (AskDuty.HeardFin B (suc zero)) ds off h = passes_fin_one_b start plan k j s v t0 u0 going going_back a b books p k_is j_is ds h
        ask_passes (AskDuty.HeardFin A (suc (suc i))) ds off h = passes_fin_late_a i ds h
        ask_passes (AskDuty.HeardFin B (suc (suc i))) ds off h = passes_fin_late_b i ds h
        ask_passes (AskDuty.SubflowFin A) ds off h = passes_subflow_fin_a start plan k j s v t0 u0 going going_back a b books p k_is j_is ds h
        ask_passes (AskDuty.SubflowFin B) ds off h = passes_subflow_fin_b start plan k j s v t0 u0 going going_back a b books p k_is j_is ds h
        ask_passes (AskDuty.AckOut A) ds off h = passes_ack_out_a start plan k j s v t0 u0 going going_back a b books p k_is j_is ds off h
        ask_passes (AskDuty.AckOut B) ds off h = passes_ack_out_b start plan k j s v t0 u0 going going_back a b books p k_is j_is ds off h
        ask_passes (AskDuty.Rate A) ds off h = passes_rate_a start plan k j s v t0 u0 going going_back a b books p k_is j_is ds h
        ask_passes (AskDuty.Rate B) ds off h = passes_rate_b start plan k j s v t0 u0 going going_back a b books p k_is j_is ds h
        ask_passes (AskDuty.Return q) ds off h = absurd (both_ways _ refl h.treats.3)
        ask_passes (AskDuty.LeaveNoted q) ds off h = passes_leave_noted start plan k j s v t0 u0 going going_back a b books p ds k_is j_is q h
        ask_passes _ ds off h = always off

        -- ---- duties that ask, send or take an event

        step_passes : (d : StepDuty) (ds : List Duty) → Passed (Duty.Step d) ds
        step_passes (StepDuty.Look q) ds off h = always off
        step_passes (StepDuty.Data A) ds off h = passes_data_a start plan k j s v t0 u0 going going_back a b books p ds k_is j_is off h
        step_passes (StepDuty.Data B) ds off h = passes_data_b start plan k j s v t0 u0 going going_back a b books p ds k_is j_is off h
        step_passes StepDuty.Events ds off h = passes_events start plan k j s v a b books p ds off h
        step_passes (StepDuty.Heard A zero) ds off h = passes_first_a start plan k j s v t0 u0 going going_back a b books p k_is j_is ds h
        step_passes (StepDuty.Heard B zero) ds off h = passes_first_b start plan k j s v t0 u0 going going_back a b books p k_is j_is ds off h
        step_passes (StepDuty.Heard A (suc zero)) ds off h = passes_second_a start plan k j s v t0 u0 going going_back a b books p k_is j_is ds off h
        step_passes (StepDuty.Heard B (suc zero)) ds off h = passes_second_b start plan k j s v t0 u0 going going_back a b books p k_is j_is ds off h
        step_passes (StepDuty.Heard A (suc (suc zero))) ds off h = passes_last_a start plan k j s v t0 u0 going going_back a b books p k_is j_is ds off h
        step_passes (StepDuty.Heard B (suc (suc zero))) ds off h = passes_last_b start plan k j s v t0 u0 going going_back a b books p k_is j_is ds off h
        step_passes (StepDuty.Heard q (suc (suc (suc i)))) ds off h = absurd h.treats
        step_passes (StepDuty.PlainAck A) ds off h = passes_plain_ack_a start plan k j s v t0 u0 going going_back a b books p k_is j_is ds h
        step_passes (StepDuty.PlainAck B) ds off h = passes_plain_ack_b start plan k j s v t0 u0 going going_back a b books p k_is j_is ds h
        step_passes (StepDuty.Unmapped A) ds off h = passes_unmapped_a start plan k j s v t0 u0 going going_back a b books p k_is j_is ds h
        step_passes (StepDuty.Unmapped B) ds off h = passes_unmapped_b start plan k j s v t0 u0 going going_back a b books p k_is j_is ds h

        -- ---- duties that send

        send_passes : (d : SendDuty) (ds : List Duty) → Passed (Duty.Send d) ds
        send_passes (SendDuty.Update A) ds off h = passes_update_a start plan k j s v t0 u0 going going_back a b books p ds k_is j_is off h
        send_passes (SendDuty.Update B) ds off h = passes_update_b start plan k j s v t0 u0 going going_back a b books p ds k_is j_is off h
        send_passes (SendDuty.Syn A) ds off h = passes_syn_a start plan k j s v a b books p ds off h
        send_passes (SendDuty.Syn B) ds off h = passes_syn_b start plan k j s v a b books p ds off h
        send_passes (SendDuty.FastClose q) ds off h = passes_fast_close start plan k j s v t0 u0 going going_back a b books p ds k_is j_is q h
        send_passes (SendDuty.Notice q) ds off h =
            passes_free start plan k j s v t0 u0 going going_back a b books p ds k_is j_is (Duty.Send (SendDuty.Notice q)) refl (λ x y t. (t.0, t.1, t.2, t.5)) h
        send_passes (SendDuty.DataFin A) ds off h = passes_end_a start plan k j s v t0 u0 going going_back a b books p ds k_is j_is off h
        send_passes (SendDuty.DataFin B) ds off h = passes_end_b start plan k j s v t0 u0 going going_back a b books p ds k_is j_is off h
        send_passes (SendDuty.Fin q) ds off h = passes_fin start plan k j s v t0 u0 going going_back a b books p ds k_is j_is q h
        send_passes (SendDuty.Acknowledge A) ds off h = passes_acknowledge_a start plan k j s v t0 u0 going going_back a b books p k_is j_is ds off h
        send_passes (SendDuty.Acknowledge B) ds off h = passes_acknowledge_b start plan k j s v t0 u0 going going_back a b books p k_is j_is ds off h
        send_passes (SendDuty.Again q) ds off h = passes_again start plan k j s v t0 u0 going going_back a b books p ds k_is j_is q h
        send_passes (SendDuty.ResetNoted q) ds off h = passes_reset_noted start plan k j s v t0 u0 going going_back a b books p ds k_is j_is q h
        send_passes _ ds off h = always off

        -- ---- duties that are silent

        silent_passes : (d : SilentDuty) (ds : List Duty) → Passed (Duty.Silent d) ds
        silent_passes (SilentDuty.Timer A) ds off h = passes_timer_a start plan k j s v t0 u0 going going_back a b books p ds k_is j_is h
        silent_passes (SilentDuty.Timer B) ds off h = passes_timer_b start plan k j s v t0 u0 going going_back a b books p ds k_is j_is h
        silent_passes (SilentDuty.Keep A) ds off h = passes_keep_a start plan k j s v t0 u0 going going_back a b books p k_is j_is ds h
        silent_passes (SilentDuty.Keep B) ds off h = passes_keep_b start plan k j s v t0 u0 going going_back a b books p k_is j_is ds h
        silent_passes (SilentDuty.PassFin A) ds off h = passes_pass_fin_a start plan k j s v t0 u0 going going_back a b books p k_is j_is ds h
        silent_passes (SilentDuty.PassFin B) ds off h = passes_pass_fin_b start plan k j s v t0 u0 going going_back a b books p k_is j_is ds h

        pub duty_passes : (d : Duty) (ds : List Duty) → Passed d ds
        duty_passes (Duty.Ask d) ds off h = ask_passes d ds off h
        duty_passes (Duty.Step d) ds off h = step_passes d ds off h
        duty_passes (Duty.Send d) ds off h = send_passes d ds off h
        duty_passes (Duty.Silent d) ds off h = silent_passes d ds off h
        duty_passes Duty.End ds off h = always off
