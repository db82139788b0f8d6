-- Duties that come to nothing are passed, as long as no copy is treated.
use Rattle.clean_finish.proofs.Words.{◌≡◌, refl, ℕ, Bool, false, ◌⊎◌, inl, inr, List, [], ◌∷◌, arith, both_ways, Side, A, B, Duty, SendDuty, StepDuty, AskDuty}
use Rattle.clean_finish.proofs.Words.{SilentDuty, pick, SixBooks, AppState, Carried, is_data_fin_due, is_update_due, PathState, with_agenda, first_unsent}
use Rattle.clean_finish.proofs.Words.{data_stands, Setting, Lane, all_left, Going, PathPlan, Start, Keys, Treats, own_bench, other_bench, IsSetting, Runs}
use Rattle.clean_finish.proofs.Words.{keys_in, Has, Bench, any_duty, ArePlain, is_window, AreBetween, IsMapped}
use Rattle.clean_finish.proofs.Dropping.{is_waited, differ}
use Rattle.clean_finish.proofs.Passing.{free_drops, update_passes, data_passes, end_passes}
use Rattle.clean_finish.proofs.Quiet.{is_quiet, is_finished, no_window}
use Rattle.clean_finish.proofs.Emitted.{has_emitted_all}
use Rattle.clean_finish.proofs.Turned.{from_a, from_b}

waits_none : (q : Side) (a b : Bench) → a.waiting ≡ 0 → b.waiting ≡ 0 → pick q b.waiting a.waiting ≡ 0
waits_none A a b none none_b = none_b
waits_none B a b none none_b = none

unmapped : (q : Side) (a b : Bench) → a.waiting ≡ 0 → b.waiting ≡ 0 → IsMapped q (pick q a b)
unmapped A a b none none_b one = absurd (omega (arith, none, one))
unmapped B a b none none_b one = absurd (omega (arith, none_b, one))

-- what is left of a turn in which no copy is treated
pub plain_on : (keys : Keys) (a b : Bench) (ds : List Duty) → AreBetween a b → a.waiting ≡ 0 → b.waiting ≡ 0 → ArePlain ds
    → Treats keys a b ds
plain_on keys a b [] between none none_b plain = (between, none, none_b)
plain_on keys a b ((Duty.Ask AskDuty.JoinAgain) ∷ ds) between none none_b plain = (between, none, none_b, plain.0, plain.1, plain.2)
plain_on keys a b (Duty.Step (StepDuty.Look s) ∷ ds) between none none_b plain = (between, none, none_b, plain.0, plain.1, plain.2)
plain_on keys a b (Duty.Ask (AskDuty.Window s) ∷ ds) between none none_b plain = (between, none, none_b, plain.0, plain.1, plain.2)
plain_on keys a b (Duty.Send (SendDuty.Update s) ∷ ds) between none none_b plain = (between, none, none_b, plain.0, plain.1, plain.2)
plain_on keys a b (Duty.Send (SendDuty.Syn s) ∷ ds) between none none_b plain = (between, none, none_b, plain.0, plain.1, plain.2)
plain_on keys a b (Duty.Send (SendDuty.FastClose s) ∷ ds) between none none_b plain = (between, none, none_b, plain.0, plain.1, plain.2)
plain_on keys a b (Duty.Send (SendDuty.Notice s) ∷ ds) between none none_b plain = (between, none, none_b, plain.0, plain.1, plain.2)
plain_on keys a b (Duty.Send (SendDuty.ResetNoted s) ∷ ds) between none none_b plain = (between, none, none_b, plain.0, plain.1, plain.2)
plain_on keys a b (Duty.Ask (AskDuty.LeaveNoted s) ∷ ds) between none none_b plain = (between, none, none_b, plain.0, plain.1, plain.2)
plain_on keys a b (Duty.Step (StepDuty.Data q) ∷ ds) between none none_b plain = (between, waits_none q a b none none_b, unmapped q a b none none_b, plain.1, plain.2)
plain_on keys a b (Duty.Send (SendDuty.DataFin s) ∷ ds) between none none_b plain = (between, none, none_b, plain.0, plain.1, plain.2)
plain_on keys a b (Duty.Send (SendDuty.Fin s) ∷ ds) between none none_b plain = (between, none, none_b, plain.0, plain.1, plain.2)
plain_on keys a b (Duty.Silent (SilentDuty.Timer s) ∷ ds) between none none_b plain = (between, none, none_b, plain.0, plain.1, plain.2)
plain_on keys a b ((Duty.Step StepDuty.Events) ∷ ds) between none none_b plain = (between, none, none_b, plain.0, plain.1, plain.2)
plain_on keys a b (Duty.End ∷ ds) between none none_b plain = (between, none, none_b, plain.0, plain.1, plain.2)
plain_on keys a b (Duty.Ask (AskDuty.JoinHeard s) ∷ ds) between none none_b plain = absurd (both_ways _ refl plain.0)
plain_on keys a b (Duty.Send (SendDuty.Refuse s) ∷ ds) between none none_b plain = absurd (both_ways _ refl plain.0)
plain_on keys a b (Duty.Ask (AskDuty.Opened s) ∷ ds) between none none_b plain = absurd (both_ways _ refl plain.0)
plain_on keys a b (Duty.Step (StepDuty.Heard s i) ∷ ds) between none none_b plain = absurd (both_ways _ refl plain.0)
plain_on keys a b (Duty.Ask (AskDuty.AckHeard s) ∷ ds) between none none_b plain = absurd (both_ways _ refl plain.0)
plain_on keys a b (Duty.Ask (AskDuty.FailHeard s) ∷ ds) between none none_b plain = absurd (both_ways _ refl plain.0)
plain_on keys a b (Duty.Step (StepDuty.PlainAck s) ∷ ds) between none none_b plain = absurd (both_ways _ refl plain.0)
plain_on keys a b (Duty.Ask (AskDuty.SubflowAck s) ∷ ds) between none none_b plain = absurd (both_ways _ refl plain.0)
plain_on keys a b (Duty.Ask (AskDuty.PlainData s) ∷ ds) between none none_b plain = absurd (both_ways _ refl plain.0)
plain_on keys a b (Duty.Ask (AskDuty.GoIdentity s) ∷ ds) between none none_b plain = absurd (both_ways _ refl plain.0)
plain_on keys a b (Duty.Silent (SilentDuty.Keep s) ∷ ds) between none none_b plain = absurd (both_ways _ refl plain.0)
plain_on keys a b (Duty.Ask (AskDuty.Edge s) ∷ ds) between none none_b plain = absurd (both_ways _ refl plain.0)
plain_on keys a b (Duty.Ask (AskDuty.CheckFailed s) ∷ ds) between none none_b plain = absurd (both_ways _ refl plain.0)
plain_on keys a b (Duty.Step (StepDuty.Unmapped s) ∷ ds) between none none_b plain = absurd (both_ways _ refl plain.0)
plain_on keys a b (Duty.Ask (AskDuty.HeardFin s i) ∷ ds) between none none_b plain = absurd (both_ways _ refl plain.0)
plain_on keys a b (Duty.Silent (SilentDuty.PassFin s) ∷ ds) between none none_b plain = absurd (both_ways _ refl plain.0)
plain_on keys a b (Duty.Ask (AskDuty.SubflowFin s) ∷ ds) between none none_b plain = absurd (both_ways _ refl plain.0)
plain_on keys a b (Duty.Ask (AskDuty.AckOut s) ∷ ds) between none none_b plain = absurd (both_ways _ refl plain.0)
plain_on keys a b (Duty.Ask (AskDuty.Rate s) ∷ ds) between none none_b plain = absurd (both_ways _ refl plain.0)
plain_on keys a b (Duty.Send (SendDuty.Again s) ∷ ds) between none none_b plain = (between, none, none_b, plain.0, plain.1, plain.2)
plain_on keys a b (Duty.Send (SendDuty.Answer s) ∷ ds) between none none_b plain = absurd (both_ways _ refl plain.0)
plain_on keys a b (Duty.Send (SendDuty.ResetAnswer s) ∷ ds) between none none_b plain = absurd (both_ways _ refl plain.0)
plain_on keys a b (Duty.Ask (AskDuty.Return s) ∷ ds) between none none_b plain = absurd (both_ways _ refl plain.0)
plain_on keys a b (Duty.Ask (AskDuty.AbortSend s) ∷ ds) between none none_b plain = absurd (both_ways _ refl plain.0)
plain_on keys a b (Duty.Ask (AskDuty.AbortReceive s) ∷ ds) between none none_b plain = absurd (both_ways _ refl plain.0)
plain_on keys a b (Duty.Ask (AskDuty.Announce s id) ∷ ds) between none none_b plain = absurd (both_ways _ refl plain.0)
plain_on keys a b (Duty.Ask (AskDuty.Withdraw s id) ∷ ds) between none none_b plain = absurd (both_ways _ refl plain.0)
plain_on keys a b (Duty.Send (SendDuty.Resend s) ∷ ds) between none none_b plain = absurd (both_ways _ refl plain.0)
plain_on keys a b (Duty.Ask (AskDuty.BreakAck s i) ∷ ds) between none none_b plain = absurd (both_ways _ refl plain.0)
plain_on keys a b (Duty.Send (SendDuty.BreakReset s i) ∷ ds) between none none_b plain = absurd (both_ways _ refl plain.0)
plain_on keys a b (Duty.Send (SendDuty.Reset s) ∷ ds) between none none_b plain = absurd (both_ways _ refl plain.0)
plain_on keys a b (Duty.Ask (AskDuty.Leave s) ∷ ds) between none none_b plain = absurd (both_ways _ refl plain.0)
plain_on keys a b (Duty.Ask (AskDuty.Dead s) ∷ ds) between none none_b plain = absurd (both_ways _ refl plain.0)
plain_on keys a b (Duty.Ask (AskDuty.SynHeard s) ∷ ds) between none none_b plain = absurd (both_ways _ refl plain.0)
plain_on keys a b (Duty.Ask (AskDuty.SynAnswered s) ∷ ds) between none none_b plain = absurd (both_ways _ refl plain.0)
plain_on keys a b (Duty.Ask (AskDuty.PlainHandshake s) ∷ ds) between none none_b plain = absurd (both_ways _ refl plain.0)
plain_on keys a b (Duty.Ask (AskDuty.PeerKey s) ∷ ds) between none none_b plain = absurd (both_ways _ refl plain.0)
plain_on keys a b (Duty.Send (SendDuty.SynAck s) ∷ ds) between none none_b plain = absurd (both_ways _ refl plain.0)
plain_on keys a b (Duty.Ask (AskDuty.Live s) ∷ ds) between none none_b plain = absurd (both_ways _ refl plain.0)
plain_on keys a b (Duty.Send (SendDuty.Acknowledge s) ∷ ds) between none none_b plain = absurd (both_ways _ refl plain.0)

asked : (q : Side) (ds : List Duty) (b : Bool) → (b ≡ false) ⊎ Has (Duty.Ask (AskDuty.Window q)) (Duty.Send (SendDuty.Update q) ∷ ds)
    → any_duty (is_window q) ds ≡ false → b ≡ false
asked q ds b (inl is) none = is
asked q ds b (inr (inl same)) none = absurd (differ refl same)
asked q ds b (inr (inr there)) none = absurd (no_window q ds none there)

module _ (start : Start) (plan : PathPlan) (k j : Setting) (s v : Lane) (t0 u0 : ℕ)
    (going : Going k s t0 all_left s) (going_back : Going j v u0 all_left v)
  where
    abbrev keys : Keys
    keys = keys_in start

    module _ (a b : AppState) (books : SixBooks) (p : PathState Carried) (ds : List Duty)
        (k_is : IsSetting p.profile plan.delay k) (j_is : IsSetting p.profile plan.delay j)
      where
        abbrev Relation : List Duty → Type 0
        Relation es = Runs start plan k j s v a b books (with_agenda es p)

        -- nothing waits for it
        pub passes_free : (d : Duty) → is_waited d ≡ false
            → ((x y : Bench) → Treats keys x y (d ∷ ds) → AreBetween x y × (x.waiting ≡ 0) × (y.waiting ≡ 0) × ArePlain ds)
            → Relation (d ∷ ds) → Relation ds
        passes_free d free plain h =
            let t = plain (own_bench h.faces) (other_bench h.faces) h.treats in
            record { path = h.path; link = h.link; faces = free_drops d ds free h.faces; treats = plain_on keys _ _ ds t.0 t.1 t.2 t.3 }

        pub passes_join : Relation ((Duty.Ask AskDuty.JoinAgain) ∷ ds) → Relation ds
        passes_join h = passes_free (Duty.Ask AskDuty.JoinAgain) refl (λ x y t. (t.0, t.1, t.2, t.5)) h

        pub passes_leave_noted : (q : Side) → Relation (Duty.Ask (AskDuty.LeaveNoted q) ∷ ds) → Relation ds
        passes_leave_noted q h = passes_free (Duty.Ask (AskDuty.LeaveNoted q)) refl (λ x y t. (t.0, t.1, t.2, t.5)) h

        pub passes_reset_noted : (q : Side) → Relation (Duty.Send (SendDuty.ResetNoted q) ∷ ds) → Relation ds
        passes_reset_noted q h = passes_free (Duty.Send (SendDuty.ResetNoted q)) refl (λ x y t. (t.0, t.1, t.2, t.5)) h

        pub passes_fast_close : (q : Side) → Relation (Duty.Send (SendDuty.FastClose q) ∷ ds) → Relation ds
        passes_fast_close q h = passes_free (Duty.Send (SendDuty.FastClose q)) refl (λ x y t. (t.0, t.1, t.2, t.5)) h

        pub passes_again : (q : Side) → Relation (Duty.Send (SendDuty.Again q) ∷ ds) → Relation ds
        passes_again q h = passes_free (Duty.Send (SendDuty.Again q)) refl (λ x y t. (t.0, t.1, t.2, t.5)) h

        pub passes_fin : (q : Side) → Relation (Duty.Send (SendDuty.Fin q) ∷ ds) → Relation ds
        passes_fin q h = passes_free (Duty.Send (SendDuty.Fin q)) refl (λ x y t. (t.0, t.1, t.2, t.5)) h

        pub passes_update_a : is_update_due p.profile p.a ≡ false → Relation (Duty.Send (SendDuty.Update A) ∷ ds) → Relation ds
        passes_update_a none h =
            let t = h.treats in
            record {
              path = h.path;
              link = h.link;
              faces = update_passes ds h.faces (is_quiet plan.delay t0 u0 k_is j_is going going_back h.faces none (asked A ds h.stage_back.window h.stages_back.window t.4.0) t.0.0.owes);
              treats = plain_on keys _ _ ds t.0 t.1 t.2 t.5;
            }

        pub passes_update_b : is_update_due p.profile p.b ≡ false → Relation (Duty.Send (SendDuty.Update B) ∷ ds) → Relation ds
        passes_update_b none h =
            let t = h.treats in
            record {
              path = h.path;
              link = h.link;
              faces = from_b keys k j s v a b books (with_agenda ds p) (update_passes ds (from_a keys k j s v a b books (with_agenda (Duty.Send (SendDuty.Update B) ∷ ds) p) h.faces) (is_quiet plan.delay u0 t0 j_is k_is going_back going (from_a keys k j s v a b books (with_agenda (Duty.Send (SendDuty.Update B) ∷ ds) p) h.faces) none (asked B ds h.stage.window h.stages.window t.4.0) t.0.1.owes));
              treats = plain_on keys _ _ ds t.0 t.1 t.2 t.5;
            }

        pub passes_end_a : is_data_fin_due p.a ≡ false → Relation (Duty.Send (SendDuty.DataFin A) ∷ ds) → Relation ds
        passes_end_a none h =
            let t = h.treats in
            record {
              path = h.path;
              link = h.link;
              faces = end_passes ds h.faces (is_finished plan.delay t0 u0 k_is j_is going going_back h.faces none);
              treats = plain_on keys _ _ ds t.0 t.1 t.2 t.5;
            }

        pub passes_end_b : is_data_fin_due p.b ≡ false → Relation (Duty.Send (SendDuty.DataFin B) ∷ ds) → Relation ds
        passes_end_b none h =
            let t = h.treats in
            record {
              path = h.path;
              link = h.link;
              faces = from_b keys k j s v a b books (with_agenda ds p) (end_passes ds (from_a keys k j s v a b books (with_agenda (Duty.Send (SendDuty.DataFin B) ∷ ds) p) h.faces) (is_finished plan.delay u0 t0 j_is k_is going_back going (from_a keys k j s v a b books (with_agenda (Duty.Send (SendDuty.DataFin B) ∷ ds) p) h.faces) none));
              treats = plain_on keys _ _ ds t.0 t.1 t.2 t.5;
            }

        pub passes_data_a : data_stands p.profile A p.a (first_unsent p.a) ≡ false → Relation (Duty.Step (StepDuty.Data A) ∷ ds) → Relation ds
        passes_data_a none h =
            let t = h.treats in
            let is = has_emitted_all plan.delay t0 u0 k_is j_is going going_back h.faces none in
            record { path = h.path; link = h.link; faces = data_passes ds h.faces is.1; treats = plain_on keys _ _ ds t.0 is.0 t.1 t.4 }

        pub passes_data_b : data_stands p.profile B p.b (first_unsent p.b) ≡ false → Relation (Duty.Step (StepDuty.Data B) ∷ ds) → Relation ds
        passes_data_b none h =
            let t = h.treats in
            let back = from_a keys k j s v a b books (with_agenda (Duty.Step (StepDuty.Data B) ∷ ds) p) h.faces in
            let is = has_emitted_all plan.delay u0 t0 j_is k_is going_back going back none in
            record {
              path = h.path;
              link = h.link;
              faces = from_b keys k j s v a b books (with_agenda ds p) (data_passes ds back is.1);
              treats = plain_on keys _ _ ds t.0 t.1 is.0 t.4;
            }
