-- The timer of either end is settled.
use Rattle.clean_finish.proofs.Words.{ℕ, List, ◌∷◌, A, B, Duty, SilentDuty, SixBooks, AppState, Carried, PathState, with_agenda, with_end, with_timer_settled, Setting}
use Rattle.clean_finish.proofs.Words.{Lane, all_left, Going, PathPlan, Start, Keys, own_bench, other_bench, IsSetting, Runs, keys_in}
use Rattle.clean_finish.proofs.Plainly.{plain_on}
use Rattle.clean_finish.proofs.Settled.{settled_on}
use Rattle.clean_finish.proofs.Turned.{from_a, from_b}

module _ (start : Start) (plan : PathPlan) (k j : Setting) (s v : Lane) (t0 u0 : ℕ)
    (going : Going k s t0 all_left s) (going_back : Going j v u0 all_left v)
  where
    abbrev keys : Keys
    keys = keys_in start

    module _ (a b : AppState) (books : SixBooks) (p : PathState Carried) (ds : List Duty)
        (k_is : IsSetting p.profile plan.delay k) (j_is : IsSetting p.profile plan.delay j)
      where
        abbrev Relation : PathState Carried → Type 0
        Relation q = Runs start plan k j s v a b books q

        pub passes_timer_a : Relation (with_agenda (Duty.Silent (SilentDuty.Timer A) ∷ ds) p) → Relation (with_agenda ds (with_end A (with_timer_settled p.clock p.a) p))
        passes_timer_a h =
            let t = h.treats in
            let faces = settled_on plan.delay t0 u0 k_is j_is going going_back h.faces t.1 t.0.0.answered t.4 in
            record {
              path = record {
                profile = h.path.profile;
                delay = h.path.delay;
                number = h.path.number;
                unspoken = h.path.unspoken;
                lines = h.path.lines;
                joined = h.path.joined;
              };
              link = h.link;
              faces = faces;
              treats = plain_on keys (own_bench faces) (other_bench faces) ds (
                record {
                  none = t.0.0.none;
                  mapped = t.0.0.mapped;
                  least = t.0.0.least;
                  idle = record { places = t.0.0.idle.places; incoming = t.0.0.idle.incoming; fin = t.0.0.idle.fin };
                  owes = t.0.0.owes;
                  answered = t.0.0.answered;
                  ready = t.0.0.ready;
                  shown = t.0.0.shown;
                },
                t.0.1,
              ) t.1 t.2 t.5;
            }

        pub passes_timer_b : Relation (with_agenda (Duty.Silent (SilentDuty.Timer B) ∷ ds) p) → Relation (with_agenda ds (with_end B (with_timer_settled p.clock p.b) p))
        passes_timer_b h =
            let t = h.treats in
            let faces = from_b keys k j s v a b books (with_agenda ds (with_end B (with_timer_settled p.clock p.b) p)) (settled_on plan.delay u0 t0 j_is k_is going_back going (from_a keys k j s v a b books (with_agenda (Duty.Silent (SilentDuty.Timer B) ∷ ds) p) h.faces) t.2 t.0.1.answered t.4) in
            record {
              path = record {
                profile = h.path.profile;
                delay = h.path.delay;
                number = h.path.number;
                unspoken = h.path.unspoken;
                lines = h.path.lines;
                joined = h.path.joined;
              };
              link = h.link;
              faces = faces;
              treats = plain_on keys (own_bench faces) (other_bench faces) ds (
                t.0.0,
                record {
                  none = t.0.1.none;
                  mapped = t.0.1.mapped;
                  least = t.0.1.least;
                  idle = record { places = t.0.1.idle.places; incoming = t.0.1.idle.incoming; fin = t.0.1.idle.fin };
                  owes = t.0.1.owes;
                  answered = t.0.1.answered;
                  ready = t.0.1.ready;
                  shown = t.0.1.shown;
                },
              ) t.1 t.2 t.5;
            }
