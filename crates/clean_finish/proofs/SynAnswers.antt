-- The steps in which B treats A's SYN: its window is told, and the SYN/ACK goes.
use Rattle.clean_finish.proofs.Words.{◌≡◌, refl, sym, subst, ap, ℕ, ◌+◌, ◌<◌, ◌≤◌, min, max, nat_lt, Bool, true, false, inl, inr, ⊎_elim, List, [], ◌∷◌, arith, length, made}
use Rattle.clean_finish.proofs.Words.{le-ltb, Side, A, B, Record, syn_record, never_sent, Occasion, going_to, plain_flight, after_send, PlainSegment, Duty}
use Rattle.clean_finish.proofs.Words.{SendDuty, StepDuty, AskDuty, emission, SixBooks, after_ask, AppState, Carried, carried_by, stripped, altered, values}
use Rattle.clean_finish.proofs.Words.{PathEnd, PathState, with_agenda, having_sent, sent_on, syn_window_ask, answered_syn_ack, is_plain_syn, Setting, Telling}
use Rattle.clean_finish.proofs.Words.{Lane, all_left, Sender, Going, PathPlan, Start, Waits, WaitsSyn, WaitsNone, WaitsBytes, Keys, said, FliesAs, own_bench}
use Rattle.clean_finish.proofs.Words.{other_bench, IsSetting, Runs, keys_in, Has}
use Rattle.clean_finish.proofs.Acknowledged.{hears_on}
use Rattle.clean_finish.proofs.AnswerSent.{syn_ack_is, answer, end_by, first_test, syn_ack_sent}
use Rattle.clean_finish.proofs.Dropping.{differ}
use Rattle.clean_finish.proofs.Linking.{carried_is, last_from_b, others_of_b, link_after_b}
use Rattle.clean_finish.proofs.Passing.{free_drops}
use Rattle.clean_finish.proofs.Plainly.{plain_on}
use Rattle.clean_finish.proofs.Raised.{Emits}
use Rattle.clean_finish.proofs.SynTold.{told_own}
use Rattle.clean_finish.proofs.Templates.{emission_plain}
use Rattle.clean_finish.proofs.Turned.{from_a, from_b}

not_a : B ≡ A → ⊥
not_a e = cc

emits_behind : (d e : Duty) → Emits B (d ∷ e ∷ emission B)
emits_behind d e = record {
  bytes = inr (inr (inr (inr (inr (inl refl)))));
  end = inr (inr (inr (inr (inr (inr (inl refl))))));
  timer = inr (inr (inr (inr (inr (inr (inr (inr (inl refl))))))));
  events = inr (inr (inr (inr (inr (inr (inr (inr (inr (inl refl)))))))));
}

-- a SYN that wasn't sent waits
waits_syn : (k : Setting) (out : Sender) (rest : List Record) (waiting : ℕ) → Waits k out rest waiting → out.control_sent ≡ 0
    → rest ≡ syn_record never_sent ∷ []
waits_syn k out rest waiting (WaitsSyn unsent) none = refl
waits_syn k out rest waiting (WaitsNone sent) none = absurd (omega (arith, sent, none))
waits_syn k out rest waiting (WaitsBytes sent r kind pos unsent some most edge) none = absurd (omega (arith, sent, none))

module _ (start : Start) (plan : PathPlan) (k j : Setting) (s v : Lane) (t0 u0 : ℕ)
    (going : Going k s t0 all_left s) (going_back : Going j v u0 all_left v)
  where
    abbrev keys : Keys
    keys = keys_in start

    module _ (a b : AppState) (books : SixBooks) (p : PathState Carried) (ds : List Duty)
        (k_is : IsSetting p.profile plan.delay k) (j_is : IsSetting p.profile plan.delay j)
      where
        abbrev Relation : SixBooks → PathState Carried → Type 0
        Relation six q = Runs start plan k j s v a b six q

        abbrev syn_told : SixBooks
        syn_told = after_ask (syn_window_ask B p.b) books

        -- ---- its window

        hears_syn : Relation books (with_agenda (Duty.Ask (AskDuty.SynHeard B) ∷ Duty.Ask (AskDuty.PlainHandshake B) ∷ Duty.Send (SendDuty.SynAck B) ∷ emission B) p)
            → Relation syn_told (with_agenda (Duty.Ask (AskDuty.PlainHandshake B) ∷ Duty.Send (SendDuty.SynAck B) ∷ emission B) p)
        hears_syn h =
            let t = h.treats in
            let x = t.0.sent in
            let back = from_a keys k j s v a b books (with_agenda (Duty.Ask (AskDuty.SynHeard B) ∷ Duty.Ask (AskDuty.PlainHandshake B) ∷ Duty.Send (SendDuty.SynAck B) ∷ emission B) p) h.faces in
            let next : x.telling.next ≡ 0 = ap (λ (y : Telling). y.next) t.0.seen in
            let seen : x.telling.seen ≡ 0 = ap (λ (y : Telling). y.seen) t.0.seen in
            let dss : x.telling.dss ≡ 0 = ap (λ (y : Telling). y.dss) t.0.seen in
            let there = emits_behind (Duty.Ask (AskDuty.PlainHandshake B)) (Duty.Send (SendDuty.SynAck B)) in
            let faces = from_b keys k j s v a b syn_told (with_agenda (Duty.Ask (AskDuty.PlainHandshake B) ∷ Duty.Send (SendDuty.SynAck B) ∷ emission B) p)
            (hears_on back refl there x false t.0.hand 0 p.b.tcp.congestion.told.window (none_future (_)) (omega arith) next (plus t.0.edge)
            (λ less. absurd (never less seen)) p.b.sending p.b.modes p.b.treated refl
            (told_own back refl there x false t.0.hand next dss (few seen) (low p.b.tcp.send.una seen))) in
            record {
              path = record {
                profile = h.path.profile;
                delay = h.path.delay;
                number = h.path.number;
                unspoken = h.path.unspoken;
                lines = h.path.lines;
                joined = h.path.joined;
              };
              link = h.link;
              faces = faces;
              treats = (
                record {
                  side = refl;
                  sent = x;
                  hand = refl;
                  brings = t.0.brings;
                  edge = t.0.edge;
                  seen = t.0.seen;
                  idle = t.0.idle;
                  mapped = t.0.mapped;
                  full = t.0.full;
                  least = λ e. told_more h.back.edge t.0.full;
                  owes = t.0.owes;
                  came = t.0.came;
                  unsent = t.0.unsent;
                  waiting = t.0.waiting;
                },
                t.1,
                t.2,
                refl,
              );
            }
          where
            told_more : {low told : ℕ} (edge : ℕ) → low ≤ told → low ≤ max edge told
            told_more edge less = omega (arith, less)

            none_future : (n : ℕ) → nat_lt n 0 ≡ false
            none_future n = le-ltb n 0 (omega arith)

            plus : {x y : ℕ} → x ≡ y → x ≡ 0 + y
            plus is = omega (arith, is)

            never : {x y : ℕ} → x < y → y ≡ 0 → ⊥
            never less is = absurd (omega (arith, less, is))

            few : {x : ℕ} → x ≡ 0 → x ≤ 1
            few is = omega (arith, is)

            low : {x : ℕ} (y : ℕ) → x ≡ 0 → x ≤ y
            low y is = omega (arith, is)

        pub answers_syn_heard : Relation books (with_agenda (Duty.Ask (AskDuty.SynHeard B) ∷ ds) p) → Relation syn_told (with_agenda ds p)
        answers_syn_heard h =
            subst (λ (es : List Duty). Relation syn_told (with_agenda es p)) (sym h.treats.3)
            (hears_syn (subst (λ (es : List Duty). Relation books (with_agenda (Duty.Ask (AskDuty.SynHeard B) ∷ es) p)) h.treats.3 h))

        -- ---- it asks for Multipath TCP

        pub asks_capable : Relation books (with_agenda (Duty.Ask (AskDuty.PlainHandshake B) ∷ ds) p) → is_plain_syn p.b ≡ false
        asks_capable h = rw (h.other.modes.capable refl (one h.treats.0.came)) refl
          where
            one : {x : ℕ} → x ≡ 1 → 1 ≤ x
            one is = omega (arith, is)

        pub passes_handshake : Relation books (with_agenda (Duty.Ask (AskDuty.PlainHandshake B) ∷ ds) p) → Relation books (with_agenda ds p)
        passes_handshake h =
            subst (λ (es : List Duty). Relation books (with_agenda es p)) (sym h.treats.3)
            (on (subst (λ (es : List Duty). Relation books (with_agenda (Duty.Ask (AskDuty.PlainHandshake B) ∷ es) p)) h.treats.3 h))
          where
            on : Relation books (with_agenda (Duty.Ask (AskDuty.PlainHandshake B) ∷ Duty.Send (SendDuty.SynAck B) ∷ emission B) p)
                → Relation books (with_agenda (Duty.Send (SendDuty.SynAck B) ∷ emission B) p)
            on g = record {
              path = g.path;
              link = g.link;
              faces = free_drops (Duty.Ask (AskDuty.PlainHandshake B)) (Duty.Send (SendDuty.SynAck B) ∷ emission B) refl g.faces;
              treats = (g.treats.0, g.treats.1, g.treats.2, refl);
            }

        -- ---- the answer

        abbrev sends_off : PlainSegment → PathEnd → PathState Carried
        sends_off segment e = sent_on values B segment e (emission B) (with_agenda (Duty.Send (SendDuty.SynAck B) ∷ emission B) p)

        answer_goes : Relation books (with_agenda (Duty.Send (SendDuty.SynAck B) ∷ emission B) p)
            → Relation books (answered_syn_ack values B (with_agenda (Duty.Send (SendDuty.SynAck B) ∷ emission B) p))
        answer_goes h =
            let t = h.treats in
            let back = from_a keys k j s v a b books (with_agenda (Duty.Send (SendDuty.SynAck B) ∷ emission B) p) h.faces in
            let none = ⊎_elim (λ sent. absurd (not_both sent t.0.unsent)) (λ is. is) back.begins in
            let x = answer plan.delay u0 t0 j_is k_is going_back going back t.0.unsent t.0.came none in
            let segment = said p.profile keys B x in
            let carried = carried_by p.profile.spelling B segment in
            let size = length (made p.profile.spelling B segment) in
            let strip : Side → Carried → Carried = λ side sent. stripped sent in
            let alter : Side → Carried → Carried = λ side sent. altered sent in
            let rest = waits_syn j back.out.sender back.own.subflow.records.rest back.waiting back.own.subflow.records.waits t.0.unsent in
            let window = ⊎_elim (λ is. is) (λ there. absurd (no_window there)) none.window in
            let events : Has (Duty.Step StepDuty.Events) (emission B) = inr (inr (inr (inr (inr (inr (inr (inl refl))))))) in
            let last = last_from_b strip alter carried size p.clock p.link h.path.unspoken h.link in
            let others = others_of_b strip alter carried size p.clock p.link h.path.unspoken h.link in
            let fs = going_to A (after_send strip alter B carried size p.clock p.link).under_way in
            let gs = going_to B (after_send strip alter B carried size p.clock p.link).under_way in
            let flight = plain_flight strip alter B carried p.clock p.link in
            let flies : FliesAs p.profile keys B flight x = record { tick = ap (λ (n : ℕ). p.clock + n) h.path.delay; to = refl; carried = carried_is strip alter carried size p.clock p.link h.path.unspoken h.link B } in
            let e = end_by plan.delay u0 t0 j_is k_is going_back going back t.0.unsent t.0.came none in
            let faces = from_b keys k j s v a b books (sends_off segment (e true))
            (syn_ack_sent plan.delay u0 t0 j_is k_is going_back going back t.0.unsent t.0.came none t.0.sent t.0.hand rest t.0.waiting t.0.owes window events
            fs gs flight flies last others) in
            subst (λ (sg : PlainSegment). Relation books (sends_off sg (having_sent Occasion.SynAck p.clock sg p.b)))
            (sym (syn_ack_is p.profile keys j (p.clock + plan.delay) p.b k_is.path (back.own.modes.capable refl (one t.0.came)) back.own.modes.mapping.0 back.own.modes.own_key))
            (subst (λ (first : Bool). Relation books (sends_off segment (e first)))
            (sym (first_test plan.delay u0 t0 j_is k_is going_back going back t.0.unsent t.0.came none t.0.sent t.0.hand rest t.0.waiting t.0.owes window events
            fs gs flight flies last others))
            (record {
              path = record {
                profile = h.path.profile;
                delay = h.path.delay;
                number = h.path.number;
                unspoken = h.path.unspoken;
                lines = h.path.lines;
                joined = h.path.joined;
              };
              link = link_after_b strip alter carried size p.clock p.link h.path.unspoken h.link;
              faces = faces;
              treats = plain_on keys (own_bench faces) (other_bench faces) (emission B) (
                t.1,
                record {
                  none = refl;
                  idle = record { places = t.0.idle.places; incoming = t.0.idle.incoming; fin = t.0.idle.fin };
                  mapped = t.0.mapped;
                  least = λ is some. t.0.least refl;
                  owes = t.0.owes;
                  answered = one_sent back.out.control_sent t.0.came;
                  ready = λ is. absurd (not_a is);
                  shown = λ is. absurd (not_a is);
                },
              ) t.2 refl (emission_plain B);
            }))
          where
            not_both : {x : ℕ} → 1 ≤ x → x ≡ 0 → ⊥
            not_both one is = absurd (omega (arith, one, is))

            one : {x : ℕ} → x ≡ 1 → 1 ≤ x
            one is = omega (arith, is)

            one_sent : {y : ℕ} (x : ℕ) → y ≡ 1 → min 1 y ≤ max x 1
            one_sent x is = omega (arith, is)

            no_window : Has (Duty.Ask (AskDuty.Window B)) (Duty.Send (SendDuty.SynAck B) ∷ emission B) → ⊥
            no_window (inl same) = differ refl same
            no_window (inr (inl same)) = differ refl same
            no_window (inr (inr (inl same))) = differ refl same
            no_window (inr (inr (inr (inl same)))) = differ refl same
            no_window (inr (inr (inr (inr (inl same))))) = differ refl same
            no_window (inr (inr (inr (inr (inr (inl same)))))) = differ refl same
            no_window (inr (inr (inr (inr (inr (inr (inl same))))))) = differ refl same
            no_window (inr (inr (inr (inr (inr (inr (inr (inl same)))))))) = differ refl same
            no_window (inr (inr (inr (inr (inr (inr (inr (inr (inl same))))))))) = differ refl same
            no_window (inr (inr (inr (inr (inr (inr (inr (inr (inr (inl same)))))))))) = differ refl same
            no_window (inr (inr (inr (inr (inr (inr (inr (inr (inr (inr never)))))))))) = never

        pub answers_syn_ack : Relation books (with_agenda (Duty.Send (SendDuty.SynAck B) ∷ ds) p)
            → Relation books (answered_syn_ack values B (with_agenda (Duty.Send (SendDuty.SynAck B) ∷ ds) p))
        answers_syn_ack h =
            subst (λ (es : List Duty). Relation books (answered_syn_ack values B (with_agenda (Duty.Send (SendDuty.SynAck B) ∷ es) p))) (sym h.treats.3)
            (answer_goes (subst (λ (es : List Duty). Relation books (with_agenda (Duty.Send (SendDuty.SynAck B) ∷ es) p)) h.treats.3 h))
