-- The first steps of a turn: how the side stands, and what is to be acknowledged.
use Rattle.clean_finish.proofs.Words.{sym, subst, ℕ, List, ◌∷◌, Side, A, B, ControlCall, Duty, StepDuty, AskDuty, SixBooks, reply_of, after_ask, Ask, AppState}
use Rattle.clean_finish.proofs.Words.{Carried, look_ask, answered_look, ack_out_ask, answered_ack_out, PathState, with_agenda, Setting, Lane, all_left, Going}
use Rattle.clean_finish.proofs.Words.{PathPlan, Start, Keys, own_bench, other_bench, IsSetting, Runs, keys_in}
use Rattle.clean_finish.proofs.Asked.{window_asked}
use Rattle.clean_finish.proofs.Looked.{looked}
use Rattle.clean_finish.proofs.Plainly.{plain_on}
use Rattle.clean_finish.proofs.Turned.{from_a, from_b}

module _ (start : Start) (plan : PathPlan) (k j : Setting) (s v : Lane) (t0 u0 : ℕ)
    (going : Going k s t0 all_left s) (going_back : Going j v u0 all_left v)
  where
    abbrev keys : Keys
    keys = keys_in start

    module _ (a b : AppState) (books : SixBooks) (p : PathState Carried) (ds : List Duty)
        (k_is : IsSetting p.profile plan.delay k) (j_is : IsSetting p.profile plan.delay j)
      where
        abbrev Relation : SixBooks → PathState Carried → Type 0
        Relation six q = Runs start plan k j s v a b six q

        abbrev look_goes : Side → ℕ → PathState Carried
        look_goes q number = answered_look q (reply_of books (Ask.Control q (ControlCall.Look number))) (with_agenda (Duty.Step (StepDuty.Look q) ∷ ds) p)

        abbrev window_goes : Side → PathState Carried
        window_goes q = answered_ack_out q (reply_of books (ack_out_ask q)) ds (with_agenda (Duty.Ask (AskDuty.Window q) ∷ ds) p)

        pub look_a : Relation books (with_agenda (Duty.Step (StepDuty.Look A) ∷ ds) p)
            → Relation (after_ask (look_ask A p) books) (answered_look A (reply_of books (look_ask A p)) (with_agenda (Duty.Step (StepDuty.Look A) ∷ ds) p))
        look_a h =
            let t = h.treats in
            let faces = looked h.faces in
            subst (λ (number : ℕ). Relation (after_ask (Ask.Control A (ControlCall.Look number)) books) (look_goes A number)) (sym h.path.number)
            (record {
              path = record {
                profile = h.path.profile;
                delay = h.path.delay;
                number = h.path.number;
                unspoken = h.path.unspoken;
                lines = h.path.lines;
                joined = h.path.joined;
              };
              link = h.link;
              faces = faces;
              treats = plain_on keys (own_bench faces) (other_bench faces) ds (
                record {
                  none = t.0.0.none;
                  mapped = t.0.0.mapped;
                  least = t.0.0.least;
                  idle = record { places = t.0.0.idle.places; incoming = t.0.0.idle.incoming; fin = t.0.0.idle.fin };
                  owes = t.0.0.owes;
                  answered = t.0.0.answered;
                  ready = t.0.0.ready;
                  shown = t.0.0.shown;
                },
                t.0.1,
              ) t.1 t.2 t.5;
            })

        pub look_b : Relation books (with_agenda (Duty.Step (StepDuty.Look B) ∷ ds) p)
            → Relation (after_ask (look_ask B p) books) (answered_look B (reply_of books (look_ask B p)) (with_agenda (Duty.Step (StepDuty.Look B) ∷ ds) p))
        look_b h =
            let t = h.treats in
            let faces = from_b keys k j s v a b (after_ask (Ask.Control B (ControlCall.Look 0)) books) (look_goes B 0) (looked (from_a keys k j s v a b books (with_agenda (Duty.Step (StepDuty.Look B) ∷ ds) p) h.faces)) in
            subst (λ (number : ℕ). Relation (after_ask (Ask.Control B (ControlCall.Look number)) books) (look_goes B number)) (sym h.path.number)
            (record {
              path = record {
                profile = h.path.profile;
                delay = h.path.delay;
                number = h.path.number;
                unspoken = h.path.unspoken;
                lines = h.path.lines;
                joined = h.path.joined;
              };
              link = h.link;
              faces = faces;
              treats = plain_on keys (own_bench faces) (other_bench faces) ds (
                t.0.0,
                record {
                  none = t.0.1.none;
                  mapped = t.0.1.mapped;
                  least = t.0.1.least;
                  idle = record { places = t.0.1.idle.places; incoming = t.0.1.idle.incoming; fin = t.0.1.idle.fin };
                  owes = t.0.1.owes;
                  answered = t.0.1.answered;
                  ready = t.0.1.ready;
                  shown = t.0.1.shown;
                },
              ) t.1 t.2 t.5;
            })

        pub window_a : Relation books (with_agenda (Duty.Ask (AskDuty.Window A) ∷ ds) p) → Relation books (window_goes A)
        window_a h =
            let t = h.treats in
            let faces = window_asked plan.delay t0 u0 k_is j_is going going_back h.faces in
            record {
              path = record {
                profile = h.path.profile;
                delay = h.path.delay;
                number = h.path.number;
                unspoken = h.path.unspoken;
                lines = h.path.lines;
                joined = h.path.joined;
              };
              link = h.link;
              faces = faces;
              treats = plain_on keys (own_bench faces) (other_bench faces) ds (
                record {
                  none = t.0.0.none;
                  mapped = t.0.0.mapped;
                  least = t.0.0.least;
                  idle = record { places = t.0.0.idle.places; incoming = t.0.0.idle.incoming; fin = t.0.0.idle.fin };
                  owes = t.0.0.owes;
                  answered = t.0.0.answered;
                  ready = t.0.0.ready;
                  shown = t.0.0.shown;
                },
                t.0.1,
              ) t.1 t.2 t.5;
            }

        pub window_b : Relation books (with_agenda (Duty.Ask (AskDuty.Window B) ∷ ds) p) → Relation books (window_goes B)
        window_b h =
            let t = h.treats in
            let faces = from_b keys k j s v a b books (window_goes B) (window_asked plan.delay u0 t0 j_is k_is going_back going (from_a keys k j s v a b books (with_agenda (Duty.Ask (AskDuty.Window B) ∷ ds) p) h.faces)) in
            record {
              path = record {
                profile = h.path.profile;
                delay = h.path.delay;
                number = h.path.number;
                unspoken = h.path.unspoken;
                lines = h.path.lines;
                joined = h.path.joined;
              };
              link = h.link;
              faces = faces;
              treats = plain_on keys (own_bench faces) (other_bench faces) ds (
                t.0.0,
                record {
                  none = t.0.1.none;
                  mapped = t.0.1.mapped;
                  least = t.0.1.least;
                  idle = record { places = t.0.1.idle.places; incoming = t.0.1.idle.incoming; fin = t.0.1.idle.fin };
                  owes = t.0.1.owes;
                  answered = t.0.1.answered;
                  ready = t.0.1.ready;
                  shown = t.0.1.shown;
                },
              ) t.1 t.2 t.5;
            }
