-- The step in which a copy's Data ACK is told to the send book.
use Rattle.clean_finish.proofs.Words.{◌≡◌, refl, sym, subst, ◌∙◌, ℕ, ◌-◌, min, nat_lt, Bool, true, false, if◌then◌else◌, Option, List, ◌∷◌, length, Some, A, B}
use Rattle.clean_finish.proofs.Words.{fin_after, acked_len, SendCall, window_told, Duty, StepDuty, AskDuty, heard_and, payload_came, Heard, Reply, SixBooks}
use Rattle.clean_finish.proofs.Words.{reply_of, after_ask, Ask, AppState, Carried, values, PathEnd, answered_ack, PathState, goes_on, with_agenda}
use Rattle.clean_finish.proofs.Words.{answered_item, item_ask, item_of, Setting, Lane, all_left, Going, PathPlan, Start, Keys, Brings, shows_keys, Beside}
use Rattle.clean_finish.proofs.Words.{Treats, TreatsCopy, count_in, heard_by, own_bench, other_bench, IsSetting, Runs, keys_in, AfterOne}
use Rattle.send_book.specs.declared.call.SendReply.TheVariants.{Acked, AckFuture}
use Rattle.clean_finish.proofs.AckTold.{ack_told, end_heard, not_ahead}
use Rattle.clean_finish.proofs.DutyMore.{duty_more}
use Rattle.clean_finish.proofs.HeardFirst.{no_third}
use Rattle.clean_finish.proofs.HeardNext.{ack_second, heard_emits, item_is, two_next}
use Rattle.clean_finish.proofs.Raised.{Emits}
use Rattle.clean_finish.proofs.Turned.{from_a, from_b}

module _ (start : Start) (plan : PathPlan) (k j : Setting) (s v : Lane) (t0 u0 : ℕ)
    (going : Going k s t0 all_left s) (going_back : Going j v u0 all_left v)
  where
    abbrev keys : Keys
    keys = keys_in start

    module _ (a b : AppState) (books : SixBooks) (p : PathState Carried)
        (k_is : IsSetting p.profile plan.delay k) (j_is : IsSetting p.profile plan.delay j)
      where
        abbrev Relation : SixBooks → PathState Carried → Type 0
        Relation six q = Runs start plan k j s v a b six q

        -- ---- at A

        module _ (ds : List Duty) (h : Relation books (with_agenda (Duty.Step (StepDuty.Heard A 1) ∷ ds) p)) (what : Brings)
            (f : TreatsCopy A keys AfterOne (shows_keys what) what (own_bench h.faces)) (none : shows_keys what ≡ false)
            (beside : Beside A (own_bench h.faces) (other_bench h.faces) ds (heard_and A 2 (count_in what - 2) (payload_came A)))
          where
            abbrev q_a : PathState Carried
            q_a = with_agenda (Duty.Step (StepDuty.Heard A 1) ∷ ds) p

            there_a : Emits A ds
            there_a = subst (λ (es : List Duty). Emits A es) (sym beside.2) (heard_emits A 2 (count_in what - 2))

            pub second_a : item_of 1 p.a ≡ Some (Heard.DataAck f.sent.telling.next (window_told false f.sent.window))
            second_a = item_is 1 p.a (heard_by keys f.sent.telling.next (window_told false f.sent.window) what) h.faces.own.modes.mapping.0 f.items
                ∙ ack_second keys f.sent.telling.next (window_told false f.sent.window) what f.kind none

            abbrev told_a : SixBooks
            told_a = after_ask (Ask.Send A (SendCall.AckIn f.sent.telling.next (window_told false f.sent.window))) books

            abbrev end_after_a : PathEnd
            end_after_a = end_heard plan.delay t0 u0 k_is j_is going going_back h.faces refl there_a f.sent

            -- what covers something is told to the control book next
            acked_a : (covers : Bool) → Relation told_a (goes_on A end_after_a (if covers then Duty.Ask (AskDuty.AckHeard A) ∷ ds else ds) q_a)
            acked_a true =
                let t = ack_told plan.delay t0 u0 k_is j_is going going_back h.faces refl there_a what f none beside.0 beside.1 in
                record {
                  path = record {
                    profile = h.path.profile;
                    delay = h.path.delay;
                    number = h.path.number;
                    unspoken = h.path.unspoken;
                    lines = h.path.lines;
                    joined = h.path.joined;
                  };
                  link = h.link;
                  faces = duty_more (Duty.Ask (AskDuty.AckHeard A)) ds t.0;
                  treats = (what, t.1, none, (t.2, t.3, beside.2));
                }
            acked_a false =
                let t = ack_told plan.delay t0 u0 k_is j_is going going_back h.faces refl there_a what f none beside.0 beside.1 in
                record {
                  path = record {
                    profile = h.path.profile;
                    delay = h.path.delay;
                    number = h.path.number;
                    unspoken = h.path.unspoken;
                    lines = h.path.lines;
                    joined = h.path.joined;
                  };
                  link = h.link;
                  faces = t.0;
                  treats = subst (λ (es : List Duty). Treats keys (own_bench t.0) (other_bench t.0) es) (sym beside.2) (two_next A keys (own_bench t.0) (other_bench t.0) t.2 t.3 what (no_third what none) t.1);
                }

            pub answers_ack_a : let o = item_of 1 p.a in Relation (after_ask (item_ask values A o q_a) books) (answered_item values A o (reply_of books (item_ask values A o q_a)) q_a)
            answers_ack_a =
                let next = f.sent.telling.next in
                subst (λ (o : Option Heard). Relation (after_ask (item_ask values A o q_a) books) (answered_item values A o (reply_of books (item_ask values A o q_a)) q_a)) (sym second_a)
                (subst (λ (ahead : Bool). Relation told_a (answered_ack A next (Reply.Send (if ahead then AckFuture (length books.send_a.written)
                else Acked (min next (length books.send_a.written) - acked_len books.send_a.marks) (fin_after next books.send_a))) q_a))
                (sym (not_ahead plan.delay t0 u0 k_is j_is going going_back h.faces refl there_a what f none)) (acked_a (nat_lt 0 next)))

        -- ---- at B

        module _ (ds : List Duty) (h : Relation books (with_agenda (Duty.Step (StepDuty.Heard B 1) ∷ ds) p)) (what : Brings)
            (f : TreatsCopy B keys AfterOne (shows_keys what) what (other_bench h.faces)) (none : shows_keys what ≡ false)
            (beside : Beside B (own_bench h.faces) (other_bench h.faces) ds (heard_and B 2 (count_in what - 2) (payload_came B)))
          where
            abbrev q_b : PathState Carried
            q_b = with_agenda (Duty.Step (StepDuty.Heard B 1) ∷ ds) p

            there_b : Emits B ds
            there_b = subst (λ (es : List Duty). Emits B es) (sym beside.2) (heard_emits B 2 (count_in what - 2))

            pub second_b : item_of 1 p.b ≡ Some (Heard.DataAck f.sent.telling.next (window_told false f.sent.window))
            second_b = item_is 1 p.b (heard_by keys f.sent.telling.next (window_told false f.sent.window) what) (from_a keys k j s v a b books q_b h.faces).own.modes.mapping.0 f.items
                ∙ ack_second keys f.sent.telling.next (window_told false f.sent.window) what f.kind none

            abbrev told_b : SixBooks
            told_b = after_ask (Ask.Send B (SendCall.AckIn f.sent.telling.next (window_told false f.sent.window))) books

            abbrev end_after_b : PathEnd
            end_after_b = end_heard plan.delay u0 t0 j_is k_is going_back going (from_a keys k j s v a b books q_b h.faces) refl there_b f.sent

            -- what covers something is told to the control book next
            acked_b : (covers : Bool) → Relation told_b (goes_on B end_after_b (if covers then Duty.Ask (AskDuty.AckHeard B) ∷ ds else ds) q_b)
            acked_b true =
                let t = ack_told plan.delay u0 t0 j_is k_is going_back going (from_a keys k j s v a b books q_b h.faces) refl there_b what f none beside.0 beside.1 in
                record {
                  path = record {
                    profile = h.path.profile;
                    delay = h.path.delay;
                    number = h.path.number;
                    unspoken = h.path.unspoken;
                    lines = h.path.lines;
                    joined = h.path.joined;
                  };
                  link = h.link;
                  faces = from_b keys k j s v a b told_b (goes_on B end_after_b (Duty.Ask (AskDuty.AckHeard B) ∷ ds) q_b) (duty_more (Duty.Ask (AskDuty.AckHeard B)) ds t.0);
                  treats = (what, t.1, none, (t.2, t.3, beside.2));
                }
            acked_b false =
                let t = ack_told plan.delay u0 t0 j_is k_is going_back going (from_a keys k j s v a b books q_b h.faces) refl there_b what f none beside.0 beside.1 in
                record {
                  path = record {
                    profile = h.path.profile;
                    delay = h.path.delay;
                    number = h.path.number;
                    unspoken = h.path.unspoken;
                    lines = h.path.lines;
                    joined = h.path.joined;
                  };
                  link = h.link;
                  faces = from_b keys k j s v a b told_b (goes_on B end_after_b ds q_b) (t.0);
                  treats = subst (λ (es : List Duty). Treats keys (other_bench t.0) (own_bench t.0) es) (sym beside.2) (two_next B keys (other_bench t.0) (own_bench t.0) t.2 t.3 what (no_third what none) t.1);
                }

            pub answers_ack_b : let o = item_of 1 p.b in Relation (after_ask (item_ask values B o q_b) books) (answered_item values B o (reply_of books (item_ask values B o q_b)) q_b)
            answers_ack_b =
                let next = f.sent.telling.next in
                subst (λ (o : Option Heard). Relation (after_ask (item_ask values B o q_b) books) (answered_item values B o (reply_of books (item_ask values B o q_b)) q_b)) (sym second_b)
                (subst (λ (ahead : Bool). Relation told_b (answered_ack B next (Reply.Send (if ahead then AckFuture (length books.send_b.written)
                else Acked (min next (length books.send_b.written) - acked_len books.send_b.marks) (fin_after next books.send_b))) q_b))
                (sym (not_ahead plan.delay u0 t0 j_is k_is going_back going (from_a keys k j s v a b books q_b h.faces) refl there_b what f none)) (acked_b (nat_lt 0 next)))
