-- The steps in which what a copy says is heard, up to its first thing.
use Rattle.clean_finish.proofs.Words.{◌≡◌, refl, sym, subst, ap, ◌∙◌, ℕ, ◌-◌, ◌≤◌, min, Bool, true, false, not, ◌&&◌, ◌||◌, inr, ⊎_elim, Option, List, ◌∷◌}
use Rattle.clean_finish.proofs.Words.{arith, is_some, both_ways, is_starting, Side, A, B, window_told, Duty, StepDuty, AskDuty, keys_heard, Heard, SixBooks}
use Rattle.clean_finish.proofs.Words.{after_ask, AppState, Carried, PathEnd, PathState, with_agenda, with_end, live_ask, is_opened_by_keys, is_opened_plainly}
use Rattle.clean_finish.proofs.Words.{item_of, item_passed, Setting, Lane, all_left, Going, PathPlan, Start, Keys, Brings, shows_keys, is_third, OpensSubflow}
use Rattle.clean_finish.proofs.Words.{ShowsKeys, FirstPiece, Piece, Acknowledges, EndsStream, EndsSubflow, Treats, TreatsCopy, count_in, heard_by, own_bench}
use Rattle.clean_finish.proofs.Words.{other_bench, IsSetting, Runs, keys_in, Bench, TreatsKeyed, AtFirst, AfterOne}
use Rattle.clean_finish.proofs.AnswerTreated.{lives_on}
use Rattle.clean_finish.proofs.Cleared.{cleared, dss_at_a, dss_at_b}
use Rattle.clean_finish.proofs.CopyKinds.{not_true, third_shows}
use Rattle.clean_finish.proofs.EndPassing.{sent_some}
use Rattle.clean_finish.proofs.Enlivened.{enlivened}
use Rattle.clean_finish.proofs.Hands.{in_hand}
use Rattle.clean_finish.proofs.HeardNext.{first_next, one_next, two_next, heard_emits, item_is, dss_first}
use Rattle.clean_finish.proofs.Passing.{free_drops}
use Rattle.clean_finish.proofs.Raised.{Emits}
use Rattle.clean_finish.proofs.Turned.{from_a, from_b}

not_b : A ≡ B → ⊥
not_b e = cc

not_a : B ≡ A → ⊥
not_a e = cc

-- A hears no keys with a copy
pub no_keys : (k : Brings) → (shows_keys k ≡ true → A ≡ B) → shows_keys k ≡ false
no_keys k key = not_true (shows_keys k) (λ e. not_b (key e))

pub no_third : (k : Brings) → shows_keys k ≡ false → is_third k ≡ false
no_third k none = not_true (is_third k) (λ e. both_ways _ none (third_shows k e))

pub third_only : (k : Brings) → is_third k ≡ true → k ≡ ShowsKeys
third_only ShowsKeys e = refl
third_only _ e = absurd (both_ways false refl e)

opened_third : (keys : Keys) (next window : ℕ) (e : PathEnd) → e.treated.opened ≡ true → e.treated.items ≡ heard_by keys next window ShowsKeys
    → (is_opened_by_keys e || is_opened_plainly e) ≡ true
opened_third keys next window e on items =
    ap (λ (b : Bool). (b && is_some (keys_heard e.treated.items)) || (b && (not e.treated.has_option && is_starting e.modes.mode))) on
    ∙ ap (λ (xs : List Heard). is_some (keys_heard xs) || (not e.treated.has_option && is_starting e.modes.mode)) items

-- the keys weren't told, and need not be
pub told_on : (q : Side) (keys : Keys) (k : Brings) (x : Bench) → is_third k ≡ false → TreatsCopy q keys AtFirst false k x → TreatsCopy q keys AtFirst (is_third k) k x
told_on q keys k x none f = subst (λ (b : Bool). TreatsCopy q keys AtFirst b k x) (sym none) f

one_clear : 1 ≤ 1
one_clear = omega arith

-- A copy with a Data ACK, once its DSS was heard: A may use the DSS.
cleared_copy : (keys : Keys) (k : Brings) (x : Bench) → shows_keys k ≡ false → TreatsCopy A keys AtFirst (is_third k) k x
    → TreatsCopy A keys AfterOne (shows_keys k) k (record x { out = record x.out { clear = 1 }; end = record x.end { modes = record x.end.modes { clear = true } } })
cleared_copy keys OpensSubflow x none f = absurd (both_ways _ f.kind refl)
cleared_copy keys ShowsKeys x none f = absurd (both_ways _ none refl)
cleared_copy keys (FirstPiece octets) x none f = absurd (both_ways _ none refl)
cleared_copy keys (Piece octets) x none f = record {
  sent = f.sent;
  brings = f.brings;
  hand = f.hand;
  kind = f.kind;
  some = f.some;
  keyed = f.keyed;
  items = f.items;
  opened = f.opened;
  keys_told = f.keys_told;
  has_option = f.has_option;
  fins = f.fins;
  asked = f.asked;
  plain_ack = f.plain_ack;
  held_edge = f.held_edge;
  owes = f.owes;
  came = f.came;
  una = f.una;
  high = f.high;
  rests = f.rests;
  waiting = f.waiting;
  answered = f.answered;
  ready = f.ready;
  shown = f.shown;
  least = f.least;
  clear = (λ is other. one_clear, λ e. absurd (both_ways false refl e), λ e. one_clear);
  unkeyed = λ third. absurd (both_ways false refl third);
  places = f.places;
  incoming = f.incoming;
  fin = f.fin;
  maps = f.maps;
}
cleared_copy keys Acknowledges x none f = record {
  sent = f.sent;
  brings = f.brings;
  hand = f.hand;
  kind = f.kind;
  some = f.some;
  keyed = f.keyed;
  items = f.items;
  opened = f.opened;
  keys_told = f.keys_told;
  has_option = f.has_option;
  fins = f.fins;
  asked = f.asked;
  plain_ack = f.plain_ack;
  held_edge = f.held_edge;
  owes = f.owes;
  came = f.came;
  una = f.una;
  high = f.high;
  rests = f.rests;
  waiting = f.waiting;
  answered = f.answered;
  ready = f.ready;
  shown = f.shown;
  least = f.least;
  clear = (λ is other. one_clear, λ e. absurd (both_ways false refl e), λ e. one_clear);
  unkeyed = λ third. absurd (both_ways false refl third);
  places = f.places;
  incoming = f.incoming;
  fin = f.fin;
  maps = f.maps;
}
cleared_copy keys (EndsStream place) x none f = record {
  sent = f.sent;
  brings = f.brings;
  hand = f.hand;
  kind = f.kind;
  some = f.some;
  keyed = f.keyed;
  items = f.items;
  opened = f.opened;
  keys_told = f.keys_told;
  has_option = f.has_option;
  fins = f.fins;
  asked = f.asked;
  plain_ack = f.plain_ack;
  held_edge = f.held_edge;
  owes = f.owes;
  came = f.came;
  una = f.una;
  high = f.high;
  rests = f.rests;
  waiting = f.waiting;
  answered = f.answered;
  ready = f.ready;
  shown = f.shown;
  least = f.least;
  clear = (λ is other. one_clear, λ e. absurd (both_ways false refl e), λ e. one_clear);
  unkeyed = λ third. absurd (both_ways false refl third);
  places = f.places;
  incoming = f.incoming;
  fin = f.fin;
  maps = f.maps;
}
cleared_copy keys EndsSubflow x none f = record {
  sent = f.sent;
  brings = f.brings;
  hand = f.hand;
  kind = f.kind;
  some = f.some;
  keyed = f.keyed;
  items = f.items;
  opened = f.opened;
  keys_told = f.keys_told;
  has_option = f.has_option;
  fins = f.fins;
  asked = f.asked;
  plain_ack = f.plain_ack;
  held_edge = f.held_edge;
  owes = f.owes;
  came = f.came;
  una = f.una;
  high = f.high;
  rests = f.rests;
  waiting = f.waiting;
  answered = f.answered;
  ready = f.ready;
  shown = f.shown;
  least = f.least;
  clear = (λ is other. one_clear, λ e. absurd (both_ways false refl e), λ e. one_clear);
  unkeyed = λ third. absurd (both_ways false refl third);
  places = f.places;
  incoming = f.incoming;
  fin = f.fin;
  maps = f.maps;
}

-- A copy is treated so also where its DSS changes nothing: the side may use it already.
begun_copy : (q : Side) (keys : Keys) (k : Brings) (x : Bench) → shows_keys k ≡ false → 1 ≤ x.out.clear → TreatsCopy q keys AtFirst (is_third k) k x
    → TreatsCopy q keys AfterOne (shows_keys k) k x
begun_copy q keys k x none clear f = record {
  sent = f.sent;
  brings = f.brings;
  hand = f.hand ∙ (ap (λ (y : Bool). in_hand f.sent (not y) true) (sym (no_third k none)) ∙ ap (λ (y : Bool). in_hand f.sent (not (is_third k)) (not y)) (sym none));
  kind = f.kind;
  some = f.some;
  keyed = f.keyed;
  items = f.items;
  opened = f.opened;
  keys_told = f.keys_told ∙ (no_third k none ∙ sym none);
  has_option = f.has_option;
  fins = f.fins;
  asked = f.asked;
  plain_ack = f.plain_ack;
  held_edge = f.held_edge;
  owes = f.owes;
  came = f.came;
  una = f.una;
  high = f.high;
  rests = f.rests;
  waiting = f.waiting;
  answered = f.answered;
  ready = f.ready;
  shown = f.shown;
  least = f.least;
  clear = (λ is other. clear, λ e. clear, λ e. clear);
  unkeyed = λ third e. absurd (both_ways _ (no_third k none) third);
  places = f.places;
  incoming = f.incoming;
  fin = f.fin;
  maps = f.maps;
}

module _ (start : Start) (plan : PathPlan) (k j : Setting) (s v : Lane) (t0 u0 : ℕ)
    (going : Going k s t0 all_left s) (going_back : Going j v u0 all_left v)
  where
    abbrev keys : Keys
    keys = keys_in start

    module _ (a b : AppState) (books : SixBooks) (p : PathState Carried)
        (k_is : IsSetting p.profile plan.delay k) (j_is : IsSetting p.profile plan.delay j)
      where
        abbrev Relation : SixBooks → PathState Carried → Type 0
        Relation six q = Runs start plan k j s v a b six q

        -- ---- at A

        pub passes_opened_a : (ds : List Duty) → (is_opened_by_keys p.a || is_opened_plainly p.a) ≡ false → Relation books (with_agenda (Duty.Ask (AskDuty.Opened A) ∷ ds) p)
            → Relation books (with_agenda ds p)
        passes_opened_a ds off h =
            let t = h.treats in
            let f = t.1 in
            let faces = free_drops (Duty.Ask (AskDuty.Opened A)) ds refl h.faces in
            record {
              path = h.path;
              link = h.link;
              faces = faces;
              treats = subst (λ (es : List Duty). Treats keys (own_bench faces) (other_bench faces) es) (sym t.2.2)
                  (inr (t.0, told_on A keys t.0 (own_bench faces) (not_true (is_third t.0) (λ third. absurd (not_b (f.keyed (third_shows t.0 third))))) f, (t.2.0, t.2.1, refl)));
            }

        live_copy_a : (ds : List Duty) (h : Relation books (with_agenda (Duty.Ask (AskDuty.Live A) ∷ ds) p)) → TreatsKeyed A keys (own_bench h.faces) (other_bench h.faces) ds
            → Relation (after_ask (live_ask A p) books) (with_agenda ds p)
        live_copy_a ds h t =
            let faces = enlivened (Duty.Ask (AskDuty.Live A)) ds refl p.link.path p.a.modes.backup_heard h.path.number h.faces in
            record {
              path = record {
                profile = h.path.profile;
                delay = h.path.delay;
                number = h.path.number;
                unspoken = h.path.unspoken;
                lines = h.path.lines;
                joined = h.path.joined;
              };
              link = h.link;
              faces = faces;
              treats = subst (λ (es : List Duty). Treats keys (own_bench faces) (other_bench faces) es) (sym t.2.2)
                  (first_next A keys (own_bench faces) (other_bench faces) t.2.0 t.2.1 t.0 t.1);
            }

        live_passed_a : (ds : List Duty) (h : Relation books (with_agenda (Duty.Ask (AskDuty.Live A) ∷ ds) p)) → TreatsKeyed A keys (own_bench h.faces) (other_bench h.faces) ds
            → Relation books (with_agenda ds p)
        live_passed_a ds h t =
            let faces = free_drops (Duty.Ask (AskDuty.Live A)) ds refl h.faces in
            record {
              path = h.path;
              link = h.link;
              faces = faces;
              treats = subst (λ (es : List Duty). Treats keys (own_bench faces) (other_bench faces) es) (sym t.2.2)
                  (first_next A keys (own_bench faces) (other_bench faces) t.2.0 t.2.1 t.0 t.1);
            }

        pub answers_live_a : (ds : List Duty) → Relation books (with_agenda (Duty.Ask (AskDuty.Live A) ∷ ds) p) → Relation (after_ask (live_ask A p) books) (with_agenda ds p)
        answers_live_a ds h = ⊎_elim
            (λ t. lives_on start plan k j s v t0 u0 going going_back a b books p ds k_is j_is h t)
            (λ t. live_copy_a ds h t)
            h.treats

        pub passes_live_a : (ds : List Duty) → p.a.treated.opened ≡ false → Relation books (with_agenda (Duty.Ask (AskDuty.Live A) ∷ ds) p) → Relation books (with_agenda ds p)
        passes_live_a ds off h = ⊎_elim
            (λ t. absurd (both_ways _ off t.0.opened))
            (λ t. live_passed_a ds h t)
            h.treats

        -- its first thing is a DSS
        pub passes_first_a : (ds : List Duty) → Relation books (with_agenda (Duty.Step (StepDuty.Heard A 0) ∷ ds) p) → Relation books (with_agenda ds (with_end A (item_passed A (item_of 0 p.a) p.a) p))
        passes_first_a ds h =
            let t = h.treats in
            let f = t.1 in
            let view = h.faces in
            let none = no_keys t.0 f.keyed in
            let ready = some_ready f.came (f.ready refl) in
            let there : Emits A ds = subst (λ (es : List Duty). Emits A es) (sym t.2.2) (heard_emits A 1 (count_in t.0 - 1)) in
            let faces = cleared plan.delay t0 u0 k_is j_is going going_back view refl there (sent_some f.came f.answered) ready in
            subst (λ (o : Option Heard). Relation books (with_agenda ds (with_end A (item_passed A o p.a) p)))
            (sym (item_is 0 p.a (heard_by keys f.sent.telling.next (window_told false f.sent.window) t.0) view.own.modes.mapping.0 f.items
            ∙ dss_first keys f.sent.telling.next (window_told false f.sent.window) t.0 f.kind none))
            (subst (λ (e : PathEnd). Relation books (with_agenda ds (with_end A e p))) (sym (dss_at_a p.a view.own.modes.owes_third)) (record {
              path = record {
                profile = h.path.profile;
                delay = h.path.delay;
                number = h.path.number;
                unspoken = h.path.unspoken;
                lines = h.path.lines;
                joined = h.path.joined;
              };
              link = h.link;
              faces = faces;
              treats = subst (λ (es : List Duty). Treats keys (own_bench faces) (other_bench faces) es) (sym t.2.2)
                  (one_next A keys (own_bench faces) (other_bench faces) t.2.0 t.2.1 t.0 (cleared_copy keys t.0 (own_bench view) none f));
            }))
          where
            some_ready : {c r : ℕ} → 1 ≤ c → min 1 c ≤ r → 1 ≤ r
            some_ready p q = omega (arith, p, q)

        -- the control book isn't told that a Data ACK was heard
        pub passes_ack_heard_a : (ds : List Duty) → Relation books (with_agenda (Duty.Ask (AskDuty.AckHeard A) ∷ ds) p) → Relation books (with_agenda ds p)
        passes_ack_heard_a ds h =
            let t = h.treats in
            let faces = free_drops (Duty.Ask (AskDuty.AckHeard A)) ds refl h.faces in
            record {
              path = h.path;
              link = h.link;
              faces = faces;
              treats = subst (λ (es : List Duty). Treats keys (own_bench faces) (other_bench faces) es) (sym t.3.2)
                  (two_next A keys (own_bench faces) (other_bench faces) t.3.0 t.3.1 t.0 (no_third t.0 t.2) t.1);
            }

        -- ---- at B

        pub passes_opened_b : (ds : List Duty) → (is_opened_by_keys p.b || is_opened_plainly p.b) ≡ false → Relation books (with_agenda (Duty.Ask (AskDuty.Opened B) ∷ ds) p)
            → Relation books (with_agenda ds p)
        passes_opened_b ds off h =
            let t = h.treats in
            let f = t.1 in
            let faces = free_drops (Duty.Ask (AskDuty.Opened B)) ds refl h.faces in
            record {
              path = h.path;
              link = h.link;
              faces = faces;
              treats = subst (λ (es : List Duty). Treats keys (own_bench faces) (other_bench faces) es) (sym t.2.2)
                  (inr (t.0, told_on B keys t.0 (other_bench faces) (not_true (is_third t.0) (λ third. absurd (both_ways _ off (opened_third keys f.sent.telling.next (window_told false f.sent.window) p.b (f.opened ∙ third) (f.items ∙ ap (λ (y : Brings). heard_by keys f.sent.telling.next (window_told false f.sent.window) y) (third_only t.0 third)))))) f, (t.2.0, t.2.1, refl)));
            }

        live_copy_b : (ds : List Duty) (h : Relation books (with_agenda (Duty.Ask (AskDuty.Live B) ∷ ds) p)) → TreatsKeyed B keys (own_bench h.faces) (other_bench h.faces) ds
            → Relation (after_ask (live_ask B p) books) (with_agenda ds p)
        live_copy_b ds h t =
            let faces = from_b keys k j s v a b (after_ask (live_ask B p) books) (with_agenda ds p) (enlivened (Duty.Ask (AskDuty.Live B)) ds refl p.link.path p.b.modes.backup_heard h.path.number (from_a keys k j s v a b books (with_agenda (Duty.Ask (AskDuty.Live B) ∷ ds) p) h.faces)) in
            record {
              path = record {
                profile = h.path.profile;
                delay = h.path.delay;
                number = h.path.number;
                unspoken = h.path.unspoken;
                lines = h.path.lines;
                joined = h.path.joined;
              };
              link = h.link;
              faces = faces;
              treats = subst (λ (es : List Duty). Treats keys (own_bench faces) (other_bench faces) es) (sym t.2.2)
                  (first_next B keys (own_bench faces) (other_bench faces) t.2.0 t.2.1 t.0 t.1);
            }

        live_passed_b : (ds : List Duty) (h : Relation books (with_agenda (Duty.Ask (AskDuty.Live B) ∷ ds) p)) → TreatsKeyed B keys (own_bench h.faces) (other_bench h.faces) ds
            → Relation books (with_agenda ds p)
        live_passed_b ds h t =
            let faces = free_drops (Duty.Ask (AskDuty.Live B)) ds refl h.faces in
            record {
              path = h.path;
              link = h.link;
              faces = faces;
              treats = subst (λ (es : List Duty). Treats keys (own_bench faces) (other_bench faces) es) (sym t.2.2)
                  (first_next B keys (own_bench faces) (other_bench faces) t.2.0 t.2.1 t.0 t.1);
            }

        pub answers_live_b : (ds : List Duty) → Relation books (with_agenda (Duty.Ask (AskDuty.Live B) ∷ ds) p) → Relation (after_ask (live_ask B p) books) (with_agenda ds p)
        answers_live_b ds h = ⊎_elim
            (λ t. absurd (not_a t.0.side))
            (λ t. live_copy_b ds h t)
            h.treats

        pub passes_live_b : (ds : List Duty) → p.b.treated.opened ≡ false → Relation books (with_agenda (Duty.Ask (AskDuty.Live B) ∷ ds) p) → Relation books (with_agenda ds p)
        passes_live_b ds off h = ⊎_elim
            (λ t. absurd (not_a t.0.side))
            (λ t. live_passed_b ds h t)
            h.treats

        -- a copy that shows no keys: its first thing is a DSS, which changes nothing at B
        pub passes_first_dss_b : (ds : List Duty) (h : Relation books (with_agenda (Duty.Step (StepDuty.Heard B 0) ∷ ds) p)) → shows_keys h.treats.0 ≡ false
            → Relation books (with_agenda ds (with_end B (item_passed B (item_of 0 p.b) p.b) p))
        passes_first_dss_b ds h none =
            let t = h.treats in
            let f = t.1 in
            let faces = free_drops (Duty.Step (StepDuty.Heard B 0)) ds refl h.faces in
            subst (λ (o : Option Heard). Relation books (with_agenda ds (with_end B (item_passed B o p.b) p)))
            (sym (item_is 0 p.b (heard_by keys f.sent.telling.next (window_told false f.sent.window) t.0) h.faces.other.modes.mapping.0 f.items
            ∙ dss_first keys f.sent.telling.next (window_told false f.sent.window) t.0 f.kind none))
            (subst (λ (e : PathEnd). Relation books (with_agenda ds (with_end B e p))) (sym (dss_at_b p.b h.faces.other.modes.owes_third)) (record {
              path = record {
                profile = h.path.profile;
                delay = h.path.delay;
                number = h.path.number;
                unspoken = h.path.unspoken;
                lines = h.path.lines;
                joined = h.path.joined;
              };
              link = h.link;
              faces = faces;
              treats = subst (λ (es : List Duty). Treats keys (own_bench faces) (other_bench faces) es) (sym t.2.2)
                  (one_next B keys (own_bench faces) (other_bench faces) t.2.0 t.2.1 t.0
                  (begun_copy B keys t.0 (other_bench faces) none (f.clear.0 refl (no_third t.0 none)) f));
            }))

        -- the control book isn't told that a Data ACK was heard
        pub passes_ack_heard_b : (ds : List Duty) → Relation books (with_agenda (Duty.Ask (AskDuty.AckHeard B) ∷ ds) p) → Relation books (with_agenda ds p)
        passes_ack_heard_b ds h =
            let t = h.treats in
            let faces = free_drops (Duty.Ask (AskDuty.AckHeard B)) ds refl h.faces in
            record {
              path = h.path;
              link = h.link;
              faces = faces;
              treats = subst (λ (es : List Duty). Treats keys (own_bench faces) (other_bench faces) es) (sym t.3.2)
                  (two_next B keys (own_bench faces) (other_bench faces) t.3.0 t.3.1 t.0 (no_third t.0 t.2) t.1);
            }
