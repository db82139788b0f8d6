-- The steps in which an end sends its FIN.
use Rattle.clean_finish.proofs.Words.{◌≡◌, refl, sym, subst, ap, ℕ, ◌+◌, ◌≤◌, max, true, List, ◌∷◌, arith, Side, A, B, Occasion, after_finishing, after_sending, length, made}
use Rattle.clean_finish.proofs.Words.{going_to, plain_flight, after_send, PlainSegment, Duty, SendDuty, SixBooks, AppState, Carried, carried_by, stripped}
use Rattle.clean_finish.proofs.Words.{altered, values, is_fin_due, answered_fin, PathState, with_agenda, sent_on, with_told, Setting, Lane, all_left, Going}
use Rattle.clean_finish.proofs.Words.{PathPlan, Start, Keys, said, FliesAs, own_bench, other_bench, IsSetting, Runs, keys_in}
use Rattle.clean_finish.proofs.Dropping.{differ}
use Rattle.clean_finish.proofs.Linking.{carried_is, last_from_a, last_from_b, others_of_a, others_of_b, link_after_a, link_after_b}
use Rattle.clean_finish.proofs.Plainly.{plain_on}
use Rattle.clean_finish.proofs.Turned.{from_a, from_b}
use Rattle.clean_finish.proofs.FinSent.{fin_is, finishing, unfinished, next_is, fin_goes}
use Rattle.clean_finish.proofs.Unasked.{asked_before, asks_no_more}

-- a FIN is the second of SYN and FIN
up_two : {x y : ℕ} → x ≤ y → x ≤ max y 2
up_two less = omega (arith, less)

up_max : {x y : ℕ} (z : ℕ) → x ≤ y → x ≤ max y z
up_max z less = omega (arith, less)

module _ (start : Start) (plan : PathPlan) (k j : Setting) (s v : Lane) (t0 u0 : ℕ)
    (going : Going k s t0 all_left s) (going_back : Going j v u0 all_left v)
  where
    abbrev keys : Keys
    keys = keys_in start

    module _ (a b : AppState) (books : SixBooks) (p : PathState Carried) (ds : List Duty)
        (k_is : IsSetting p.profile plan.delay k) (j_is : IsSetting p.profile plan.delay j)
      where
        abbrev Relation : PathState Carried → Type 0
        Relation q = Runs start plan k j s v a b books q

        abbrev sends_a : PlainSegment → PathState Carried
        sends_a segment = sent_on values A segment (record (with_told segment p.a) { tcp = after_sending Occasion.Fin p.clock (after_finishing p.a.tcp) }) ds (with_agenda (Duty.Send (SendDuty.Fin A) ∷ ds) p)

        pub fin_a : is_fin_due p.a ≡ true → Relation (with_agenda (Duty.Send (SendDuty.Fin A) ∷ ds) p)
            → Relation (answered_fin values A (with_agenda (Duty.Send (SendDuty.Fin A) ∷ ds) p))
        fin_a due h =
            let t = h.treats in
            let view = h.faces in
            let window = asked_before A (Duty.Send (SendDuty.Fin A)) (differ refl) ds view.stage_back.window view.stages_back.window t.4.0 in
            let ask = asks_no_more A (Duty.Send (SendDuty.Fin A)) (differ refl) (differ refl) ds p.a.treated.asked view.stage_back.ask t.4.0 t.5 view.stages_back.ask in
            let x = finishing plan.delay t0 u0 k_is j_is going going_back view in
            let segment = said p.profile keys A x in
            let carried = carried_by p.profile.spelling A segment in
            let size = length (made p.profile.spelling A segment) in
            let strip : Side → Carried → Carried = λ side sent. stripped sent in
            let alter : Side → Carried → Carried = λ side sent. altered sent in
            let flight = plain_flight strip alter A carried p.clock p.link in
            let flies : FliesAs p.profile keys A flight x =
            record { tick = ap (λ (n : ℕ). p.clock + n) h.path.delay; to = refl; carried = carried_is strip alter carried size p.clock p.link h.path.unspoken h.link A } in
            let updated = fin_goes plan.delay t0 u0 k_is j_is going going_back view due t.0.0.none t.0.0.owes t.1 t.0.0.answered t.0.0.ready t.0.0.shown window ask t.4.1
            (going_to B (after_send strip alter A carried size p.clock p.link).under_way)
            (going_to A (after_send strip alter A carried size p.clock p.link).under_way)
            flight flies
            (last_from_a strip alter carried size p.clock p.link h.path.unspoken h.link)
            (others_of_a strip alter carried size p.clock p.link h.path.unspoken h.link) in
            let faces = updated in
            subst (λ (sg : PlainSegment). Relation (sends_a sg))
            (sym (fin_is p.profile keys A x p.a refl view.own.modes.mapping
            (unfinished plan.delay t0 u0 k_is j_is going going_back view due t.0.0.none t.0.0.owes t.1 t.0.0.answered t.0.0.ready t.0.0.shown window ask)
            (next_is plan.delay t0 u0 k_is j_is going going_back view due t.0.0.none t.0.0.owes t.1 t.0.0.answered t.0.0.ready t.0.0.shown window ask) refl refl refl))
            (record {
              path = record {
                profile = h.path.profile;
                delay = h.path.delay;
                number = h.path.number;
                unspoken = h.path.unspoken;
                lines = h.path.lines;
                joined = h.path.joined;
              };
              link = link_after_a strip alter carried size p.clock p.link h.path.unspoken h.link;
              faces = faces;
              treats = plain_on keys (own_bench faces) (other_bench faces) ds (
                record {
                  none = refl;
                  idle = record { places = t.0.0.idle.places; incoming = t.0.0.idle.incoming; fin = t.0.0.idle.fin };
                  mapped = t.0.0.mapped;
                  least = t.0.0.least;
                  owes = refl;
                  answered = up_two t.0.0.answered;
                  ready = λ is. t.0.0.ready is;
                  shown = λ is. up_max h.out.keys_sent (t.0.0.shown is);
                },
                t.0.1,
              ) refl t.2 t.5;
            })

        abbrev sends_b : PlainSegment → PathState Carried
        sends_b segment = sent_on values B segment (record (with_told segment p.b) { tcp = after_sending Occasion.Fin p.clock (after_finishing p.b.tcp) }) ds (with_agenda (Duty.Send (SendDuty.Fin B) ∷ ds) p)

        pub fin_b : is_fin_due p.b ≡ true → Relation (with_agenda (Duty.Send (SendDuty.Fin B) ∷ ds) p)
            → Relation (answered_fin values B (with_agenda (Duty.Send (SendDuty.Fin B) ∷ ds) p))
        fin_b due h =
            let t = h.treats in
            let view = from_a keys k j s v a b books (with_agenda (Duty.Send (SendDuty.Fin B) ∷ ds) p) h.faces in
            let window = asked_before B (Duty.Send (SendDuty.Fin B)) (differ refl) ds view.stage_back.window view.stages_back.window t.4.0 in
            let ask = asks_no_more B (Duty.Send (SendDuty.Fin B)) (differ refl) (differ refl) ds p.b.treated.asked view.stage_back.ask t.4.0 t.5 view.stages_back.ask in
            let x = finishing plan.delay u0 t0 j_is k_is going_back going view in
            let segment = said p.profile keys B x in
            let carried = carried_by p.profile.spelling B segment in
            let size = length (made p.profile.spelling B segment) in
            let strip : Side → Carried → Carried = λ side sent. stripped sent in
            let alter : Side → Carried → Carried = λ side sent. altered sent in
            let flight = plain_flight strip alter B carried p.clock p.link in
            let flies : FliesAs p.profile keys B flight x =
            record { tick = ap (λ (n : ℕ). p.clock + n) h.path.delay; to = refl; carried = carried_is strip alter carried size p.clock p.link h.path.unspoken h.link B } in
            let updated = fin_goes plan.delay u0 t0 j_is k_is going_back going view due t.0.1.none t.0.1.owes t.2 t.0.1.answered t.0.1.ready t.0.1.shown window ask t.4.1
            (going_to A (after_send strip alter B carried size p.clock p.link).under_way)
            (going_to B (after_send strip alter B carried size p.clock p.link).under_way)
            flight flies
            (last_from_b strip alter carried size p.clock p.link h.path.unspoken h.link)
            (others_of_b strip alter carried size p.clock p.link h.path.unspoken h.link) in
            let faces = from_b keys k j s v a b books (sends_b segment) updated in
            subst (λ (sg : PlainSegment). Relation (sends_b sg))
            (sym (fin_is p.profile keys B x p.b refl view.own.modes.mapping
            (unfinished plan.delay u0 t0 j_is k_is going_back going view due t.0.1.none t.0.1.owes t.2 t.0.1.answered t.0.1.ready t.0.1.shown window ask)
            (next_is plan.delay u0 t0 j_is k_is going_back going view due t.0.1.none t.0.1.owes t.2 t.0.1.answered t.0.1.ready t.0.1.shown window ask) refl refl refl))
            (record {
              path = record {
                profile = h.path.profile;
                delay = h.path.delay;
                number = h.path.number;
                unspoken = h.path.unspoken;
                lines = h.path.lines;
                joined = h.path.joined;
              };
              link = link_after_b strip alter carried size p.clock p.link h.path.unspoken h.link;
              faces = faces;
              treats = plain_on keys (own_bench faces) (other_bench faces) ds (
                t.0.0,
                record {
                  none = refl;
                  idle = record { places = t.0.1.idle.places; incoming = t.0.1.idle.incoming; fin = t.0.1.idle.fin };
                  mapped = t.0.1.mapped;
                  least = t.0.1.least;
                  owes = refl;
                  answered = up_two t.0.1.answered;
                  ready = λ is. t.0.1.ready is;
                  shown = λ is. up_max view.out.keys_sent (t.0.1.shown is);
                },
              ) t.1 refl t.5;
            })
