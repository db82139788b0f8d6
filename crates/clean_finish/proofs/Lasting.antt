-- The last steps in which a copy is treated: what is acknowledged is asked, the congestion window grows, and an acknowledgement goes.
use Rattle.clean_finish.proofs.Words.{◌≡◌, refl, sym, subst, ap, ◌∙◌, ℕ, ◌+◌, ◌≤◌, max, Bool, true, false, ◌⊎◌, inl, inr, ⊎_elim, Option, None, List, [], ◌∷◌, length, made}
use Rattle.clean_finish.proofs.Words.{arith, Some, is_some, both_ways, Side, A, B, Due, Occasion, going_to, plain_flight, after_send, PlainSegment, Duty}
use Rattle.clean_finish.proofs.Words.{SendDuty, AskDuty, emission, SixBooks, reply_of, after_ask, AppState, Carried, carried_by, stripped, altered, values}
use Rattle.clean_finish.proofs.Words.{ack_out_ask, answered_ack_out, acknowledges, PathState, with_agenda, having_sent, sent_on, Setting, Lane, all_left, Going}
use Rattle.clean_finish.proofs.Words.{PathPlan, Start, brings_still, Keys, said, FliesAs, own_bench, other_bench, FacesOfB, IsSetting, Runs, keys_in, Has}
use Rattle.clean_finish.proofs.Words.{FacesOfA, TreatsTaken}
use Rattle.loss_recovery.specs.declared.windows.Pending.{Pending}
use Rattle.path_core.specs.Rate.{rate_ask, answered_rate}
use Rattle.clean_finish.proofs.AckSent.{ack, ack_sent, next_is}
use Rattle.clean_finish.proofs.AskedAfter.{asked_after, out_passes}
use Rattle.clean_finish.proofs.CopyDone.{copy_done}
use Rattle.clean_finish.proofs.Dropping.{differ}
use Rattle.clean_finish.proofs.Emitted.{is_clear}
use Rattle.clean_finish.proofs.Linking.{carried_is, last_from_a, last_from_b, others_of_a, others_of_b, link_after_a, link_after_b}
use Rattle.clean_finish.proofs.Passing.{free_drops}
use Rattle.clean_finish.proofs.Plainly.{plain_on}
use Rattle.clean_finish.proofs.Quiet.{open_when_ready, no_window}
use Rattle.clean_finish.proofs.Rated.{rated}
use Rattle.clean_finish.proofs.Templates.{emission_plain, emission_emits}
use Rattle.clean_finish.proofs.TellsAll.{sent_some}
use Rattle.clean_finish.proofs.ThirdSent.{third_answered}
use Rattle.clean_finish.proofs.Turned.{from_a, from_b}
use Rattle.clean_finish.proofs.UpdateSent.{ack_is}

up_max : {x y : ℕ} (z : ℕ) → x ≤ y → x ≤ max y z
up_max z less = omega (arith, less)

some_of : {x y : ℕ} → 1 ≤ x → x ≤ y → 1 ≤ y
some_of p q = omega (arith, p, q)

pub one_of : {x y : ℕ} → 1 ≤ x → x ≡ y → 1 ≤ y
one_of p q = omega (arith, p, q)

-- behind these duties the window isn't asked for
none_asked : (q : Side) (d : Duty) → (Duty.Ask (AskDuty.Window q) ≡ d → ⊥) → (b : Bool)
    → (b ≡ false) ⊎ Has (Duty.Ask (AskDuty.Window q)) (d ∷ Duty.Send (SendDuty.Again q) ∷ emission q) → b ≡ false
none_asked q d apart b (inl is) = is
none_asked q d apart b (inr (inl same)) = absurd (apart same)
none_asked q d apart b (inr (inr (inl same))) = absurd (differ refl same)
none_asked A d apart b (inr (inr (inr there))) = absurd (no_window A (emission A) refl there)
none_asked B d apart b (inr (inr (inr there))) = absurd (no_window B (emission B) refl there)

none_out : (q : Side) (ds : List Duty) → Has (Duty.Ask (AskDuty.AckOut q)) (emission q) → ⊥
none_out q ds (inl same) = differ refl same
none_out q ds (inr (inl same)) = differ refl same
none_out q ds (inr (inr (inl same))) = differ refl same
none_out q ds (inr (inr (inr (inl same)))) = differ refl same
none_out q ds (inr (inr (inr (inr (inl same))))) = differ refl same
none_out q ds (inr (inr (inr (inr (inr (inl same)))))) = differ refl same
none_out q ds (inr (inr (inr (inr (inr (inr (inl same))))))) = differ refl same
none_out q ds (inr (inr (inr (inr (inr (inr (inr (inl same)))))))) = differ refl same
none_out q ds (inr (inr (inr (inr (inr (inr (inr (inr (inl same))))))))) = differ refl same
none_out q ds (inr (inr (inr (inr (inr (inr (inr (inr (inr never))))))))) = never

-- nor is what is acknowledged
no_question : (q : Side) (asked b : Bool)
    → (b ≡ false) ⊎ (Has (Duty.Ask (AskDuty.Window q)) (Duty.Send (SendDuty.Acknowledge q) ∷ Duty.Send (SendDuty.Again q) ∷ emission q)
    ⊎ (Has (Duty.Ask (AskDuty.AckOut q)) (Duty.Send (SendDuty.Acknowledge q) ∷ Duty.Send (SendDuty.Again q) ∷ emission q) × (asked ≡ true)))
    → b ≡ false
no_question q asked b (inl is) = is
no_question q asked b (inr (inl there)) = none_asked q (Duty.Send (SendDuty.Acknowledge q)) (differ refl) b (inr there)
no_question q asked b (inr (inr (inl same, so))) = absurd (differ refl same)
no_question q asked b (inr (inr (inr (inl same), so))) = absurd (differ refl same)
no_question q asked b (inr (inr (inr (inr there), so))) = absurd (none_out q [] there)

module _ (start : Start) (plan : PathPlan) (k j : Setting) (s v : Lane) (t0 u0 : ℕ)
    (going : Going k s t0 all_left s) (going_back : Going j v u0 all_left v)
  where
    abbrev keys : Keys
    keys = keys_in start

    module _ (a b : AppState) (books : SixBooks) (p : PathState Carried)
        (k_is : IsSetting p.profile plan.delay k) (j_is : IsSetting p.profile plan.delay j)
      where
        abbrev Relation : SixBooks → PathState Carried → Type 0
        Relation six q = Runs start plan k j s v a b six q

        -- ---- at A

        una_a : (es : List Duty) (h : FacesOfA keys k j s v a b books (with_agenda es p)) → 1 ≤ h.out.clear → 1 ≤ p.a.tcp.send.una
        una_a es h clear = (open_when_ready plan.delay t0 u0 k_is j_is going going_back h (some_of clear h.own.modes.cleared)).0

        asks_out_a : Relation books (with_agenda (Duty.Ask (AskDuty.AckOut A) ∷ Duty.Ask (AskDuty.Rate A) ∷ Duty.Send (SendDuty.Acknowledge A) ∷ Duty.Send (SendDuty.Again A) ∷ emission A) p)
            → Relation books (answered_ack_out A (reply_of books (ack_out_ask A)) (Duty.Ask (AskDuty.Rate A) ∷ Duty.Send (SendDuty.Acknowledge A) ∷ Duty.Send (SendDuty.Again A) ∷ emission A) (with_agenda (Duty.Ask (AskDuty.AckOut A) ∷ Duty.Ask (AskDuty.Rate A) ∷ Duty.Send (SendDuty.Acknowledge A) ∷ Duty.Send (SendDuty.Again A) ∷ emission A) p))
        asks_out_a h =
            let t = h.treats in
            let view = h.faces in
            let some = sent_some plan.delay t0 u0 k_is j_is going going_back view (ap brings_still t.0.hand) (una_a (Duty.Ask (AskDuty.AckOut A) ∷ Duty.Ask (AskDuty.Rate A) ∷ Duty.Send (SendDuty.Acknowledge A) ∷ Duty.Send (SendDuty.Again A) ∷ emission A) view t.0.clear) t.0.answered in
            let faces = asked_after plan.delay t0 u0 k_is j_is going going_back view some in
            record {
              path = record {
                profile = h.path.profile;
                delay = h.path.delay;
                number = h.path.number;
                unspoken = h.path.unspoken;
                lines = h.path.lines;
                joined = h.path.joined;
              };
              link = h.link;
              faces = faces;
              treats = (
                record {
                  sent = t.0.sent;
                  hand = t.0.hand;
                  idle = record { places = t.0.idle.places; incoming = t.0.idle.incoming; fin = t.0.idle.fin };
                  mapped = t.0.mapped;
                  least = t.0.least;
                  waiting = t.0.waiting;
                  answered = t.0.answered;
                  ready = t.0.ready;
                  shown = t.0.shown;
                  clear = t.0.clear;
                },
                t.1,
                t.2,
                refl,
              );
            }

        pub answers_ack_out_a : (ds : List Duty) → Relation books (with_agenda (Duty.Ask (AskDuty.AckOut A) ∷ ds) p)
            → Relation books (answered_ack_out A (reply_of books (ack_out_ask A)) ds (with_agenda (Duty.Ask (AskDuty.AckOut A) ∷ ds) p))
        answers_ack_out_a ds h =
            subst (λ (es : List Duty). Relation books (answered_ack_out A (reply_of books (ack_out_ask A)) es (with_agenda (Duty.Ask (AskDuty.AckOut A) ∷ es) p)))
            (sym h.treats.3) (asks_out_a (subst (λ (es : List Duty). Relation books (with_agenda (Duty.Ask (AskDuty.AckOut A) ∷ es) p)) h.treats.3 h))

        passes_out_a : p.a.treated.asked ≡ false → Relation books (with_agenda (Duty.Ask (AskDuty.AckOut A) ∷ Duty.Ask (AskDuty.Rate A) ∷ Duty.Send (SendDuty.Acknowledge A) ∷ Duty.Send (SendDuty.Again A) ∷ emission A) p) → Relation books (with_agenda (Duty.Ask (AskDuty.Rate A) ∷ Duty.Send (SendDuty.Acknowledge A) ∷ Duty.Send (SendDuty.Again A) ∷ emission A) p)
        passes_out_a unasked h =
            let t = h.treats in
            let view = h.faces in
            let some = sent_some plan.delay t0 u0 k_is j_is going going_back view (ap brings_still t.0.hand) (una_a (Duty.Ask (AskDuty.AckOut A) ∷ Duty.Ask (AskDuty.Rate A) ∷ Duty.Send (SendDuty.Acknowledge A) ∷ Duty.Send (SendDuty.Again A) ∷ emission A) view t.0.clear) t.0.answered in
            let faces = out_passes plan.delay t0 u0 k_is j_is going going_back view some unasked in
            record {
              path = record {
                profile = h.path.profile;
                delay = h.path.delay;
                number = h.path.number;
                unspoken = h.path.unspoken;
                lines = h.path.lines;
                joined = h.path.joined;
              };
              link = h.link;
              faces = faces;
              treats = (
                record {
                  sent = t.0.sent;
                  hand = t.0.hand;
                  idle = record { places = t.0.idle.places; incoming = t.0.idle.incoming; fin = t.0.idle.fin };
                  mapped = t.0.mapped;
                  least = t.0.least;
                  waiting = t.0.waiting;
                  answered = t.0.answered;
                  ready = t.0.ready;
                  shown = t.0.shown;
                  clear = t.0.clear;
                },
                t.1,
                t.2,
                refl,
              );
            }

        pub passes_ack_out_a : (ds : List Duty) → p.a.treated.asked ≡ false → Relation books (with_agenda (Duty.Ask (AskDuty.AckOut A) ∷ ds) p)
            → Relation books (with_agenda ds p)
        passes_ack_out_a ds unasked h =
            subst (λ (es : List Duty). Relation books (with_agenda es p)) (sym h.treats.3)
            (passes_out_a unasked (subst (λ (es : List Duty). Relation books (with_agenda (Duty.Ask (AskDuty.AckOut A) ∷ es) p)) h.treats.3 h))

        -- the growth

        abbrev RatedA : List Duty → Option Pending → Type 0
        RatedA ds o =
            let q = with_agenda (Duty.Ask (AskDuty.Rate A) ∷ ds) p in let ask = rate_ask A o q in
            Relation (after_ask ask books) (answered_rate A (reply_of books ask) q)

        rates_a : (o : Option Pending) → is_some o ≡ true → Relation books (with_agenda (Duty.Ask (AskDuty.Rate A) ∷ Duty.Send (SendDuty.Acknowledge A) ∷ Duty.Send (SendDuty.Again A) ∷ emission A) p) → RatedA (Duty.Send (SendDuty.Acknowledge A) ∷ Duty.Send (SendDuty.Again A) ∷ emission A) o
        rates_a None stands h = absurd (both_ways _ refl stands)
        rates_a (Some pending) stands h =
            let t = h.treats in
            let q = with_agenda (Duty.Ask (AskDuty.Rate A) ∷ Duty.Send (SendDuty.Acknowledge A) ∷ Duty.Send (SendDuty.Again A) ∷ emission A) p in
            let ask = rate_ask A (Some pending) q in
            let view = h.faces in
            let some = sent_some plan.delay t0 u0 k_is j_is going going_back view (ap brings_still t.0.hand) (una_a (Duty.Ask (AskDuty.Rate A) ∷ Duty.Send (SendDuty.Acknowledge A) ∷ Duty.Send (SendDuty.Again A) ∷ emission A) view t.0.clear) t.0.answered in
            let faces = rated view _ t.0.waiting some p.link.path _ _ h.path.number in
            record {
              path = record {
                profile = h.path.profile;
                delay = h.path.delay;
                number = h.path.number;
                unspoken = h.path.unspoken;
                lines = h.path.lines;
                joined = h.path.joined;
              };
              link = h.link;
              faces = faces;
              treats = inr (
                record {
                  sent = t.0.sent;
                  hand = t.0.hand;
                  idle = record { places = t.0.idle.places; incoming = t.0.idle.incoming; fin = t.0.idle.fin };
                  mapped = t.0.mapped;
                  least = t.0.least;
                  waiting = t.0.waiting;
                  answered = t.0.answered;
                  ready = t.0.ready;
                  shown = t.0.shown;
                  clear = t.0.clear;
                },
                t.1,
                t.2,
                refl,
              );
            }

        pub answers_rate_a : (ds : List Duty) → is_some p.a.tcp.congestion.pending ≡ true → Relation books (with_agenda (Duty.Ask (AskDuty.Rate A) ∷ ds) p)
            → RatedA ds p.a.tcp.congestion.pending
        answers_rate_a ds stands h =
            subst (λ (es : List Duty). RatedA es p.a.tcp.congestion.pending) (sym h.treats.3)
            (rates_a p.a.tcp.congestion.pending stands (subst (λ (es : List Duty). Relation books (with_agenda (Duty.Ask (AskDuty.Rate A) ∷ es) p)) h.treats.3 h))

        passes_growth_a : Relation books (with_agenda (Duty.Ask (AskDuty.Rate A) ∷ Duty.Send (SendDuty.Acknowledge A) ∷ Duty.Send (SendDuty.Again A) ∷ emission A) p) → Relation books (with_agenda (Duty.Send (SendDuty.Acknowledge A) ∷ Duty.Send (SendDuty.Again A) ∷ emission A) p)
        passes_growth_a h =
            let t = h.treats in
            record {
              path = h.path;
              link = h.link;
              faces = free_drops (Duty.Ask (AskDuty.Rate A)) (Duty.Send (SendDuty.Acknowledge A) ∷ Duty.Send (SendDuty.Again A) ∷ emission A) refl h.faces;
              treats = inr (t.0, t.1, t.2, refl);
            }

        pub passes_rate_a : (ds : List Duty) → Relation books (with_agenda (Duty.Ask (AskDuty.Rate A) ∷ ds) p) → Relation books (with_agenda ds p)
        passes_rate_a ds h =
            subst (λ (es : List Duty). Relation books (with_agenda es p)) (sym h.treats.3)
            (passes_growth_a (subst (λ (es : List Duty). Relation books (with_agenda (Duty.Ask (AskDuty.Rate A) ∷ es) p)) h.treats.3 h))

        -- the acknowledgement

        abbrev acks_a : PlainSegment → PathState Carried
        acks_a segment = sent_on values A segment (having_sent Occasion.Ack p.clock segment p.a) (Duty.Send (SendDuty.Again A) ∷ emission A) (with_agenda (Duty.Send (SendDuty.Acknowledge A) ∷ Duty.Send (SendDuty.Again A) ∷ emission A) p)

        abbrev TakenA : (es : List Duty) → Relation books (with_agenda (Duty.Send (SendDuty.Acknowledge A) ∷ es) p) → Type 0
        TakenA es h = TreatsTaken A (own_bench h.faces) (other_bench h.faces) es (Duty.Send (SendDuty.Again A) ∷ emission A)

        ack_goes_a : p.a.tcp.due.ack ≡ true → (h : Relation books (with_agenda (Duty.Send (SendDuty.Acknowledge A) ∷ Duty.Send (SendDuty.Again A) ∷ emission A) p)) → TakenA (Duty.Send (SendDuty.Again A) ∷ emission A) h
            → Relation books (acknowledges values A (with_agenda (Duty.Send (SendDuty.Acknowledge A) ∷ Duty.Send (SendDuty.Again A) ∷ emission A) p))
        ack_goes_a stands h t =
            let view = h.faces in
            let una = una_a (Duty.Send (SendDuty.Acknowledge A) ∷ Duty.Send (SendDuty.Again A) ∷ emission A) view t.0.clear in
            let owes = sym (ap (λ (d : Due). d.ack) view.own.subflow.due) ∙ stands in
            let window = none_asked A (Duty.Send (SendDuty.Acknowledge A)) (differ refl) view.stage_back.window view.stages_back.window in
            let asks = no_question A p.a.treated.asked view.stage_back.ask view.stages_back.ask in
            let some = sent_some plan.delay t0 u0 k_is j_is going going_back view (ap brings_still t.0.hand) una t.0.answered in
            let x = ack plan.delay t0 u0 k_is j_is going going_back view in
            let segment = said p.profile keys A x in
            let carried = carried_by p.profile.spelling A segment in
            let size = length (made p.profile.spelling A segment) in
            let strip : Side → Carried → Carried = λ side sent. stripped sent in
            let alter : Side → Carried → Carried = λ side sent. altered sent in
            let flight = plain_flight strip alter A carried p.clock p.link in
            let flies : FliesAs p.profile keys A flight x =
            record { tick = ap (λ (n : ℕ). p.clock + n) h.path.delay; to = refl; carried = carried_is strip alter carried size p.clock p.link h.path.unspoken h.link A } in
            let faces = ack_sent plan.delay t0 u0 k_is j_is going going_back view t.0.sent t.0.hand owes t.0.waiting una t.0.answered t.0.ready t.0.shown window asks t.0.clear
            (inr (emission_emits A).events)
            (going_to B (after_send strip alter A carried size p.clock p.link).under_way)
            (going_to A (after_send strip alter A carried size p.clock p.link).under_way)
            flight flies
            (last_from_a strip alter carried size p.clock p.link h.path.unspoken h.link)
            (others_of_a strip alter carried size p.clock p.link h.path.unspoken h.link) in
            subst (λ (sg : PlainSegment). Relation books (acks_a sg))
            (sym (ack_is p.profile keys A x p.a refl view.own.modes.mapping (is_clear p.a.modes.clear (one_of t.0.clear view.own.modes.clear))
            (next_is plan.delay t0 u0 k_is j_is going going_back view t.0.sent t.0.hand owes t.0.waiting una t.0.answered t.0.ready t.0.shown window asks t.0.clear) refl refl refl))
            (record {
              path = record {
                profile = h.path.profile;
                delay = h.path.delay;
                number = h.path.number;
                unspoken = h.path.unspoken;
                lines = h.path.lines;
                joined = h.path.joined;
              };
              link = link_after_a strip alter carried size p.clock p.link h.path.unspoken h.link;
              faces = faces;
              treats = plain_on keys (own_bench faces) (other_bench faces) (Duty.Send (SendDuty.Again A) ∷ emission A) (
                record {
                  none = refl;
                  idle = record { places = t.0.idle.places; incoming = t.0.idle.incoming; fin = t.0.idle.fin };
                  mapped = t.0.mapped;
                  least = λ is some. t.0.least is;
                  owes = refl;
                  answered = up_max view.out.control_sent t.0.answered;
                  ready = t.0.ready;
                  shown = λ is. up_max view.out.keys_sent (t.0.shown is);
                },
                t.1,
              ) refl t.2
                  (refl, tt, emission_plain A);
            })

        pub ack_answered_a : (ds : List Duty) → p.a.tcp.due.ack ≡ true → (h : Relation books (with_agenda (Duty.Send (SendDuty.Acknowledge A) ∷ ds) p)) → TakenA ds h
            → Relation books (acknowledges values A (with_agenda (Duty.Send (SendDuty.Acknowledge A) ∷ ds) p))
        ack_answered_a ds stands h t =
            subst (λ (es : List Duty). (g : Relation books (with_agenda (Duty.Send (SendDuty.Acknowledge A) ∷ es) p)) → TakenA es g
            → Relation books (acknowledges values A (with_agenda (Duty.Send (SendDuty.Acknowledge A) ∷ es) p)))
            (sym t.3) (ack_goes_a stands) h t

        done_with_a : p.a.tcp.due.ack ≡ false → (h : Relation books (with_agenda (Duty.Send (SendDuty.Acknowledge A) ∷ Duty.Send (SendDuty.Again A) ∷ emission A) p)) → TakenA (Duty.Send (SendDuty.Again A) ∷ emission A) h → Relation books (with_agenda (Duty.Send (SendDuty.Again A) ∷ emission A) p)
        done_with_a off h t =
            let view = h.faces in
            let unowed = sym (ap (λ (d : Due). d.ack) view.own.subflow.due) ∙ off in
            let faces = copy_done view t.0.sent t.0.hand unowed in
            record {
              path = h.path;
              link = h.link;
              faces = faces;
              treats = plain_on keys (own_bench faces) (other_bench faces) (Duty.Send (SendDuty.Again A) ∷ emission A) (
                record {
                  none = refl;
                  idle = record { places = t.0.idle.places; incoming = t.0.idle.incoming; fin = t.0.idle.fin };
                  mapped = t.0.mapped;
                  least = λ is some. t.0.least is;
                  owes = unowed;
                  answered = t.0.answered;
                  ready = t.0.ready;
                  shown = t.0.shown;
                },
                t.1,
              ) t.0.waiting t.2 (refl, tt, emission_plain A);
            }

        pub ack_passed_a : (ds : List Duty) → p.a.tcp.due.ack ≡ false → (h : Relation books (with_agenda (Duty.Send (SendDuty.Acknowledge A) ∷ ds) p)) → TakenA ds h
            → Relation books (with_agenda ds p)
        ack_passed_a ds off h t =
            subst (λ (es : List Duty). (g : Relation books (with_agenda (Duty.Send (SendDuty.Acknowledge A) ∷ es) p)) → TakenA es g → Relation books (with_agenda es p))
            (sym t.3) (done_with_a off) h t

        -- ---- at B

        una_b : (es : List Duty) (h : FacesOfB keys k j s v a b books (with_agenda es p)) → 1 ≤ h.out.clear → 1 ≤ p.b.tcp.send.una
        una_b es h clear = (open_when_ready plan.delay u0 t0 j_is k_is going_back going h (some_of clear h.own.modes.cleared)).0

        asks_out_b : Relation books (with_agenda (Duty.Ask (AskDuty.AckOut B) ∷ Duty.Ask (AskDuty.Rate B) ∷ Duty.Send (SendDuty.Acknowledge B) ∷ Duty.Send (SendDuty.Again B) ∷ emission B) p)
            → Relation books (answered_ack_out B (reply_of books (ack_out_ask B)) (Duty.Ask (AskDuty.Rate B) ∷ Duty.Send (SendDuty.Acknowledge B) ∷ Duty.Send (SendDuty.Again B) ∷ emission B) (with_agenda (Duty.Ask (AskDuty.AckOut B) ∷ Duty.Ask (AskDuty.Rate B) ∷ Duty.Send (SendDuty.Acknowledge B) ∷ Duty.Send (SendDuty.Again B) ∷ emission B) p))
        asks_out_b h =
            let t = h.treats in
            let view = from_a keys k j s v a b books (with_agenda (Duty.Ask (AskDuty.AckOut B) ∷ Duty.Ask (AskDuty.Rate B) ∷ Duty.Send (SendDuty.Acknowledge B) ∷ Duty.Send (SendDuty.Again B) ∷ emission B) p) h.faces in
            let some = sent_some plan.delay u0 t0 j_is k_is going_back going view (ap brings_still t.0.hand) (una_b (Duty.Ask (AskDuty.AckOut B) ∷ Duty.Ask (AskDuty.Rate B) ∷ Duty.Send (SendDuty.Acknowledge B) ∷ Duty.Send (SendDuty.Again B) ∷ emission B) view t.0.clear) t.0.answered in
            let faces = from_b keys k j s v a b books (answered_ack_out B (reply_of books (ack_out_ask B)) (Duty.Ask (AskDuty.Rate B) ∷ Duty.Send (SendDuty.Acknowledge B) ∷ Duty.Send (SendDuty.Again B) ∷ emission B) (with_agenda (Duty.Ask (AskDuty.AckOut B) ∷ Duty.Ask (AskDuty.Rate B) ∷ Duty.Send (SendDuty.Acknowledge B) ∷ Duty.Send (SendDuty.Again B) ∷ emission B) p)) (asked_after plan.delay u0 t0 j_is k_is going_back going view some) in
            record {
              path = record {
                profile = h.path.profile;
                delay = h.path.delay;
                number = h.path.number;
                unspoken = h.path.unspoken;
                lines = h.path.lines;
                joined = h.path.joined;
              };
              link = h.link;
              faces = faces;
              treats = (
                record {
                  sent = t.0.sent;
                  hand = t.0.hand;
                  idle = record { places = t.0.idle.places; incoming = t.0.idle.incoming; fin = t.0.idle.fin };
                  mapped = t.0.mapped;
                  least = t.0.least;
                  waiting = t.0.waiting;
                  answered = t.0.answered;
                  ready = t.0.ready;
                  shown = t.0.shown;
                  clear = t.0.clear;
                },
                t.1,
                t.2,
                refl,
              );
            }

        pub answers_ack_out_b : (ds : List Duty) → Relation books (with_agenda (Duty.Ask (AskDuty.AckOut B) ∷ ds) p)
            → Relation books (answered_ack_out B (reply_of books (ack_out_ask B)) ds (with_agenda (Duty.Ask (AskDuty.AckOut B) ∷ ds) p))
        answers_ack_out_b ds h =
            subst (λ (es : List Duty). Relation books (answered_ack_out B (reply_of books (ack_out_ask B)) es (with_agenda (Duty.Ask (AskDuty.AckOut B) ∷ es) p)))
            (sym h.treats.3) (asks_out_b (subst (λ (es : List Duty). Relation books (with_agenda (Duty.Ask (AskDuty.AckOut B) ∷ es) p)) h.treats.3 h))

        passes_out_b : p.b.treated.asked ≡ false → Relation books (with_agenda (Duty.Ask (AskDuty.AckOut B) ∷ Duty.Ask (AskDuty.Rate B) ∷ Duty.Send (SendDuty.Acknowledge B) ∷ Duty.Send (SendDuty.Again B) ∷ emission B) p) → Relation books (with_agenda (Duty.Ask (AskDuty.Rate B) ∷ Duty.Send (SendDuty.Acknowledge B) ∷ Duty.Send (SendDuty.Again B) ∷ emission B) p)
        passes_out_b unasked h =
            let t = h.treats in
            let view = from_a keys k j s v a b books (with_agenda (Duty.Ask (AskDuty.AckOut B) ∷ Duty.Ask (AskDuty.Rate B) ∷ Duty.Send (SendDuty.Acknowledge B) ∷ Duty.Send (SendDuty.Again B) ∷ emission B) p) h.faces in
            let some = sent_some plan.delay u0 t0 j_is k_is going_back going view (ap brings_still t.0.hand) (una_b (Duty.Ask (AskDuty.AckOut B) ∷ Duty.Ask (AskDuty.Rate B) ∷ Duty.Send (SendDuty.Acknowledge B) ∷ Duty.Send (SendDuty.Again B) ∷ emission B) view t.0.clear) t.0.answered in
            let faces = from_b keys k j s v a b books (with_agenda (Duty.Ask (AskDuty.Rate B) ∷ Duty.Send (SendDuty.Acknowledge B) ∷ Duty.Send (SendDuty.Again B) ∷ emission B) p) (out_passes plan.delay u0 t0 j_is k_is going_back going view some unasked) in
            record {
              path = record {
                profile = h.path.profile;
                delay = h.path.delay;
                number = h.path.number;
                unspoken = h.path.unspoken;
                lines = h.path.lines;
                joined = h.path.joined;
              };
              link = h.link;
              faces = faces;
              treats = (
                record {
                  sent = t.0.sent;
                  hand = t.0.hand;
                  idle = record { places = t.0.idle.places; incoming = t.0.idle.incoming; fin = t.0.idle.fin };
                  mapped = t.0.mapped;
                  least = t.0.least;
                  waiting = t.0.waiting;
                  answered = t.0.answered;
                  ready = t.0.ready;
                  shown = t.0.shown;
                  clear = t.0.clear;
                },
                t.1,
                t.2,
                refl,
              );
            }

        pub passes_ack_out_b : (ds : List Duty) → p.b.treated.asked ≡ false → Relation books (with_agenda (Duty.Ask (AskDuty.AckOut B) ∷ ds) p)
            → Relation books (with_agenda ds p)
        passes_ack_out_b ds unasked h =
            subst (λ (es : List Duty). Relation books (with_agenda es p)) (sym h.treats.3)
            (passes_out_b unasked (subst (λ (es : List Duty). Relation books (with_agenda (Duty.Ask (AskDuty.AckOut B) ∷ es) p)) h.treats.3 h))

        -- the growth

        abbrev RatedB : List Duty → Option Pending → Type 0
        RatedB ds o =
            let q = with_agenda (Duty.Ask (AskDuty.Rate B) ∷ ds) p in let ask = rate_ask B o q in
            Relation (after_ask ask books) (answered_rate B (reply_of books ask) q)

        rates_b : (o : Option Pending) → is_some o ≡ true → Relation books (with_agenda (Duty.Ask (AskDuty.Rate B) ∷ Duty.Send (SendDuty.Acknowledge B) ∷ Duty.Send (SendDuty.Again B) ∷ emission B) p) → RatedB (Duty.Send (SendDuty.Acknowledge B) ∷ Duty.Send (SendDuty.Again B) ∷ emission B) o
        rates_b None stands h = absurd (both_ways _ refl stands)
        rates_b (Some pending) stands h =
            let t = h.treats in
            let q = with_agenda (Duty.Ask (AskDuty.Rate B) ∷ Duty.Send (SendDuty.Acknowledge B) ∷ Duty.Send (SendDuty.Again B) ∷ emission B) p in
            let ask = rate_ask B (Some pending) q in
            let view = from_a keys k j s v a b books (with_agenda (Duty.Ask (AskDuty.Rate B) ∷ Duty.Send (SendDuty.Acknowledge B) ∷ Duty.Send (SendDuty.Again B) ∷ emission B) p) h.faces in
            let some = sent_some plan.delay u0 t0 j_is k_is going_back going view (ap brings_still t.0.hand) (una_b (Duty.Ask (AskDuty.Rate B) ∷ Duty.Send (SendDuty.Acknowledge B) ∷ Duty.Send (SendDuty.Again B) ∷ emission B) view t.0.clear) t.0.answered in
            let faces = from_b keys k j s v a b (after_ask ask books) (answered_rate B (reply_of books ask) q) (rated view _ t.0.waiting some p.link.path _ _ h.path.number) in
            record {
              path = record {
                profile = h.path.profile;
                delay = h.path.delay;
                number = h.path.number;
                unspoken = h.path.unspoken;
                lines = h.path.lines;
                joined = h.path.joined;
              };
              link = h.link;
              faces = faces;
              treats = inr (
                record {
                  sent = t.0.sent;
                  hand = t.0.hand;
                  idle = record { places = t.0.idle.places; incoming = t.0.idle.incoming; fin = t.0.idle.fin };
                  mapped = t.0.mapped;
                  least = t.0.least;
                  waiting = t.0.waiting;
                  answered = t.0.answered;
                  ready = t.0.ready;
                  shown = t.0.shown;
                  clear = t.0.clear;
                },
                t.1,
                t.2,
                refl,
              );
            }

        pub answers_rate_b : (ds : List Duty) → is_some p.b.tcp.congestion.pending ≡ true → Relation books (with_agenda (Duty.Ask (AskDuty.Rate B) ∷ ds) p)
            → RatedB ds p.b.tcp.congestion.pending
        answers_rate_b ds stands h =
            subst (λ (es : List Duty). RatedB es p.b.tcp.congestion.pending) (sym h.treats.3)
            (rates_b p.b.tcp.congestion.pending stands (subst (λ (es : List Duty). Relation books (with_agenda (Duty.Ask (AskDuty.Rate B) ∷ es) p)) h.treats.3 h))

        passes_growth_b : Relation books (with_agenda (Duty.Ask (AskDuty.Rate B) ∷ Duty.Send (SendDuty.Acknowledge B) ∷ Duty.Send (SendDuty.Again B) ∷ emission B) p) → Relation books (with_agenda (Duty.Send (SendDuty.Acknowledge B) ∷ Duty.Send (SendDuty.Again B) ∷ emission B) p)
        passes_growth_b h =
            let t = h.treats in
            record {
              path = h.path;
              link = h.link;
              faces = free_drops (Duty.Ask (AskDuty.Rate B)) (Duty.Send (SendDuty.Acknowledge B) ∷ Duty.Send (SendDuty.Again B) ∷ emission B) refl h.faces;
              treats = inr (t.0, t.1, t.2, refl);
            }

        pub passes_rate_b : (ds : List Duty) → Relation books (with_agenda (Duty.Ask (AskDuty.Rate B) ∷ ds) p) → Relation books (with_agenda ds p)
        passes_rate_b ds h =
            subst (λ (es : List Duty). Relation books (with_agenda es p)) (sym h.treats.3)
            (passes_growth_b (subst (λ (es : List Duty). Relation books (with_agenda (Duty.Ask (AskDuty.Rate B) ∷ es) p)) h.treats.3 h))

        -- the acknowledgement

        abbrev acks_b : PlainSegment → PathState Carried
        acks_b segment = sent_on values B segment (having_sent Occasion.Ack p.clock segment p.b) (Duty.Send (SendDuty.Again B) ∷ emission B) (with_agenda (Duty.Send (SendDuty.Acknowledge B) ∷ Duty.Send (SendDuty.Again B) ∷ emission B) p)

        abbrev TakenB : (es : List Duty) → Relation books (with_agenda (Duty.Send (SendDuty.Acknowledge B) ∷ es) p) → Type 0
        TakenB es h = TreatsTaken B (own_bench h.faces) (other_bench h.faces) es (Duty.Send (SendDuty.Again B) ∷ emission B)

        ack_goes_b : p.b.tcp.due.ack ≡ true → (h : Relation books (with_agenda (Duty.Send (SendDuty.Acknowledge B) ∷ Duty.Send (SendDuty.Again B) ∷ emission B) p)) → TakenB (Duty.Send (SendDuty.Again B) ∷ emission B) h
            → Relation books (acknowledges values B (with_agenda (Duty.Send (SendDuty.Acknowledge B) ∷ Duty.Send (SendDuty.Again B) ∷ emission B) p))
        ack_goes_b stands h t =
            let view = from_a keys k j s v a b books (with_agenda (Duty.Send (SendDuty.Acknowledge B) ∷ Duty.Send (SendDuty.Again B) ∷ emission B) p) h.faces in
            let una = una_b (Duty.Send (SendDuty.Acknowledge B) ∷ Duty.Send (SendDuty.Again B) ∷ emission B) view t.0.clear in
            let owes = sym (ap (λ (d : Due). d.ack) view.own.subflow.due) ∙ stands in
            let window = none_asked B (Duty.Send (SendDuty.Acknowledge B)) (differ refl) view.stage_back.window view.stages_back.window in
            let asks = no_question B p.b.treated.asked view.stage_back.ask view.stages_back.ask in
            let some = sent_some plan.delay u0 t0 j_is k_is going_back going view (ap brings_still t.0.hand) una t.0.answered in
            let x = ack plan.delay u0 t0 j_is k_is going_back going view in
            let segment = said p.profile keys B x in
            let carried = carried_by p.profile.spelling B segment in
            let size = length (made p.profile.spelling B segment) in
            let strip : Side → Carried → Carried = λ side sent. stripped sent in
            let alter : Side → Carried → Carried = λ side sent. altered sent in
            let flight = plain_flight strip alter B carried p.clock p.link in
            let flies : FliesAs p.profile keys B flight x =
            record { tick = ap (λ (n : ℕ). p.clock + n) h.path.delay; to = refl; carried = carried_is strip alter carried size p.clock p.link h.path.unspoken h.link B } in
            let faces = from_b keys k j s v a b books (acks_b segment) (ack_sent plan.delay u0 t0 j_is k_is going_back going view t.0.sent t.0.hand owes t.0.waiting una t.0.answered t.0.ready t.0.shown window asks t.0.clear
            (inr (emission_emits B).events)
            (going_to A (after_send strip alter B carried size p.clock p.link).under_way)
            (going_to B (after_send strip alter B carried size p.clock p.link).under_way)
            flight flies
            (last_from_b strip alter carried size p.clock p.link h.path.unspoken h.link)
            (others_of_b strip alter carried size p.clock p.link h.path.unspoken h.link)) in
            subst (λ (sg : PlainSegment). Relation books (acks_b sg))
            (sym (ack_is p.profile keys B x p.b refl view.own.modes.mapping (is_clear p.b.modes.clear (one_of t.0.clear view.own.modes.clear))
            (next_is plan.delay u0 t0 j_is k_is going_back going view t.0.sent t.0.hand owes t.0.waiting una t.0.answered t.0.ready t.0.shown window asks t.0.clear) refl refl refl))
            (record {
              path = record {
                profile = h.path.profile;
                delay = h.path.delay;
                number = h.path.number;
                unspoken = h.path.unspoken;
                lines = h.path.lines;
                joined = h.path.joined;
              };
              link = link_after_b strip alter carried size p.clock p.link h.path.unspoken h.link;
              faces = faces;
              treats = plain_on keys (own_bench faces) (other_bench faces) (Duty.Send (SendDuty.Again B) ∷ emission B) (
                t.1,
                record {
                  none = refl;
                  idle = record { places = t.0.idle.places; incoming = t.0.idle.incoming; fin = t.0.idle.fin };
                  mapped = t.0.mapped;
                  least = λ is some. t.0.least is;
                  owes = refl;
                  answered = up_max view.out.control_sent t.0.answered;
                  ready = t.0.ready;
                  shown = λ is. up_max view.out.keys_sent (t.0.shown is);
                },
              ) t.2 refl
                  (refl, tt, emission_plain B);
            })

        pub ack_answered_b : (ds : List Duty) → p.b.tcp.due.ack ≡ true → (h : Relation books (with_agenda (Duty.Send (SendDuty.Acknowledge B) ∷ ds) p)) → TakenB ds h
            → Relation books (acknowledges values B (with_agenda (Duty.Send (SendDuty.Acknowledge B) ∷ ds) p))
        ack_answered_b ds stands h t =
            subst (λ (es : List Duty). (g : Relation books (with_agenda (Duty.Send (SendDuty.Acknowledge B) ∷ es) p)) → TakenB es g
            → Relation books (acknowledges values B (with_agenda (Duty.Send (SendDuty.Acknowledge B) ∷ es) p)))
            (sym t.3) (ack_goes_b stands) h t

        done_with_b : p.b.tcp.due.ack ≡ false → (h : Relation books (with_agenda (Duty.Send (SendDuty.Acknowledge B) ∷ Duty.Send (SendDuty.Again B) ∷ emission B) p)) → TakenB (Duty.Send (SendDuty.Again B) ∷ emission B) h → Relation books (with_agenda (Duty.Send (SendDuty.Again B) ∷ emission B) p)
        done_with_b off h t =
            let view = from_a keys k j s v a b books (with_agenda (Duty.Send (SendDuty.Acknowledge B) ∷ Duty.Send (SendDuty.Again B) ∷ emission B) p) h.faces in
            let unowed = sym (ap (λ (d : Due). d.ack) view.own.subflow.due) ∙ off in
            let faces = from_b keys k j s v a b books (with_agenda (Duty.Send (SendDuty.Again B) ∷ emission B) p) (copy_done view t.0.sent t.0.hand unowed) in
            record {
              path = h.path;
              link = h.link;
              faces = faces;
              treats = plain_on keys (own_bench faces) (other_bench faces) (Duty.Send (SendDuty.Again B) ∷ emission B) (
                t.1,
                record {
                  none = refl;
                  idle = record { places = t.0.idle.places; incoming = t.0.idle.incoming; fin = t.0.idle.fin };
                  mapped = t.0.mapped;
                  least = λ is some. t.0.least is;
                  owes = unowed;
                  answered = t.0.answered;
                  ready = t.0.ready;
                  shown = t.0.shown;
                },
              ) t.2 t.0.waiting (refl, tt, emission_plain B);
            }

        pub ack_passed_b : (ds : List Duty) → p.b.tcp.due.ack ≡ false → (h : Relation books (with_agenda (Duty.Send (SendDuty.Acknowledge B) ∷ ds) p)) → TakenB ds h
            → Relation books (with_agenda ds p)
        ack_passed_b ds off h t =
            subst (λ (es : List Duty). (g : Relation books (with_agenda (Duty.Send (SendDuty.Acknowledge B) ∷ es) p)) → TakenB es g → Relation books (with_agenda es p))
            (sym t.3) (done_with_b off) h t

        -- ---- the acknowledgement answers the SYN/ACK, or a copy

        pub answers_acknowledge_a : (ds : List Duty) → p.a.tcp.due.ack ≡ true → Relation books (with_agenda (Duty.Send (SendDuty.Acknowledge A) ∷ ds) p)
            → Relation books (acknowledges values A (with_agenda (Duty.Send (SendDuty.Acknowledge A) ∷ ds) p))
        answers_acknowledge_a ds stands h =
            ⊎_elim (λ third. third_answered start plan k j s v t0 u0 going going_back a b books p ds k_is j_is h third) (λ taken. ack_answered_a ds stands h taken) h.treats

        pub passes_acknowledge_a : (ds : List Duty) → p.a.tcp.due.ack ≡ false → Relation books (with_agenda (Duty.Send (SendDuty.Acknowledge A) ∷ ds) p)
            → Relation books (with_agenda ds p)
        passes_acknowledge_a ds off h =
            ⊎_elim (λ third. absurd (both_ways _ off (ap (λ (d : Due). d.ack) h.own.subflow.due ∙ third.0.owes))) (λ taken. ack_passed_a ds off h taken) h.treats

        pub answers_acknowledge_b : (ds : List Duty) → p.b.tcp.due.ack ≡ true → Relation books (with_agenda (Duty.Send (SendDuty.Acknowledge B) ∷ ds) p)
            → Relation books (acknowledges values B (with_agenda (Duty.Send (SendDuty.Acknowledge B) ∷ ds) p))
        answers_acknowledge_b ds stands h = ⊎_elim (λ third. absurd (not_a third.0.side)) (λ taken. ack_answered_b ds stands h taken) h.treats
          where
            not_a : B ≡ A → ⊥
            not_a e = cc

        pub passes_acknowledge_b : (ds : List Duty) → p.b.tcp.due.ack ≡ false → Relation books (with_agenda (Duty.Send (SendDuty.Acknowledge B) ∷ ds) p)
            → Relation books (with_agenda ds p)
        passes_acknowledge_b ds off h = ⊎_elim (λ third. absurd (not_a third.0.side)) (λ taken. ack_passed_b ds off h taken) h.treats
          where
            not_a : B ≡ A → ⊥
            not_a e = cc
