-- The steps in which the receive edge moves over the peer's FIN, or stays.
use Rattle.clean_finish.proofs.Words.{◌≡◌, refl, sym, subst, ap, ◌∙◌, ℕ, ◌+◌, ◌-◌, ◌<◌, ◌≤◌, min, max, nat_lt, Bool, true, false, ◌&&◌, if◌then◌else◌, ◌⊎◌, inl}
use Rattle.clean_finish.proofs.Words.{inr, ⊎_elim, Option, None, List, ◌∷◌, arith, Some, ◌^◌, cases_lt, lt-ltb, le-ltb, eq-eqb, ne_eqb, A, B, EndState, is_at}
use Rattle.clean_finish.proofs.Words.{is_fin_next, after_passing_fin, Duty, AskDuty, SilentDuty, SixBooks, AppState, Carried, after_pass_fin, PathState}
use Rattle.clean_finish.proofs.Words.{with_agenda, with_end, Setting, Lane, all_left, Receiver, Going, PathPlan, Start, IsIdle, HasCome, Keys, own_bench}
use Rattle.clean_finish.proofs.Words.{other_bench, IsSetting, Runs, keys_in, TreatsLast, TreatsFin, last_duties}
use Rattle.clean_finish.proofs.Dropping.{apart, behind}
use Rattle.clean_finish.proofs.FinPassed.{counts, fin_passed, received}
use Rattle.clean_finish.proofs.Passing.{free_drops}
use Rattle.clean_finish.proofs.Quiet.{now_back, open_when_ready}
use Rattle.clean_finish.proofs.Templates.{emission_emits}
use Rattle.clean_finish.proofs.Turned.{from_a, from_b}

some_of : {x y : ℕ} → 1 ≤ x → x ≤ y → 1 ≤ y
some_of p q = omega (arith, p, q)

-- where nothing waits at the edge
not_there : (back : Receiver) (tcp : EndState) → HasCome back tcp → IsIdle back tcp → is_fin_next tcp ≡ false
not_there back tcp come idle =
    ap (λ (o : Option ℕ). is_at tcp.recv.edge o && nat_lt tcp.recv.edge (2 ^ 62)) idle.fin ∙ by (cases_lt 1 back.control_came)
  where
    beyond : {e d : ℕ} (r : ℕ) → e ≡ 1 + r + (d - 1) → 1 < d → e ≡ r + 1 → ⊥
    beyond r at two same = absurd (omega (arith, at, two, same))

    by : (1 < back.control_came) ⊎ (back.control_came ≤ 1)
        → (is_at tcp.recv.edge (if nat_lt 1 back.control_came then Some (back.received + 1) else None) && nat_lt tcp.recv.edge (2 ^ 62)) ≡ false
    by (inl two) =
        ap (λ (b : Bool). is_at tcp.recv.edge (if b then Some (back.received + 1) else None) && nat_lt tcp.recv.edge (2 ^ 62)) (lt-ltb 1 back.control_came two)
        ∙ ap (λ (b : Bool). b && nat_lt tcp.recv.edge (2 ^ 62)) (unequal two)
      where
        unequal : 1 < back.control_came → is_at tcp.recv.edge (Some (back.received + 1)) ≡ false
        unequal two = ne_at tcp.recv.edge (back.received + 1) (λ e. beyond back.received come.edge two e)
          where
            ne_at : (x y : ℕ) → (x ≡ y → ⊥) → is_at x (Some y) ≡ false
            ne_at x y differs = ne_eqb y x (λ e. differs (sym e))
    by (inr one) =
        ap (λ (b : Bool). is_at tcp.recv.edge (if b then Some (back.received + 1) else None) && nat_lt tcp.recv.edge (2 ^ 62)) (le-ltb 1 back.control_came one)

-- a FIN at the edge is passed
there : (tcp : EndState) → tcp.fin_at ≡ Some tcp.recv.edge → tcp.recv.edge < 2 ^ 62 → is_fin_next tcp ≡ true
there tcp fin few =
    ap (λ (o : Option ℕ). is_at tcp.recv.edge o && nat_lt tcp.recv.edge (2 ^ 62)) fin
    ∙ (ap (λ (b : Bool). b && nat_lt tcp.recv.edge (2 ^ 62)) (eq-eqb tcp.recv.edge tcp.recv.edge refl) ∙ lt-ltb tcp.recv.edge (2 ^ 62) few)

module _ (start : Start) (plan : PathPlan) (k j : Setting) (s v : Lane) (t0 u0 : ℕ)
    (going : Going k s t0 all_left s) (going_back : Going j v u0 all_left v)
  where
    abbrev keys : Keys
    keys = keys_in start

    module _ (a b : AppState) (books : SixBooks) (p : PathState Carried)
        (k_is : IsSetting p.profile plan.delay k) (j_is : IsSetting p.profile plan.delay j)
      where
        abbrev Relation : PathState Carried → Type 0
        Relation q = Runs start plan k j s v a b books q

        -- ---- at A

        passes_sub_a : Relation (with_agenda (Duty.Ask (AskDuty.SubflowFin A) ∷ last_duties A) p) → Relation (with_agenda (last_duties A) p)
        passes_sub_a h =
            let t = h.treats in
            record {
              path = h.path;
              link = h.link;
              faces = free_drops (Duty.Ask (AskDuty.SubflowFin A)) (last_duties A) refl h.faces;
              treats = (t.0, t.1, t.2, refl);
            }

        pub passes_subflow_fin_a : (ds : List Duty) → Relation (with_agenda (Duty.Ask (AskDuty.SubflowFin A) ∷ ds) p) → Relation (with_agenda ds p)
        passes_subflow_fin_a ds h =
            subst (λ (es : List Duty). Relation (with_agenda es p)) (sym h.treats.3)
            (passes_sub_a (subst (λ (es : List Duty). Relation (with_agenda (Duty.Ask (AskDuty.SubflowFin A) ∷ es) p)) h.treats.3 h))

        abbrev passed_a : Bool → PathState Carried
        passed_a next = with_agenda (Duty.Ask (AskDuty.SubflowFin A) ∷ last_duties A) (with_end A (record p.a { tcp = (if next then after_passing_fin p.a.tcp else p.a.tcp) }) p)

        stays_a : (h : Relation (with_agenda (Duty.Silent (SilentDuty.PassFin A) ∷ Duty.Ask (AskDuty.SubflowFin A) ∷ last_duties A) p)) → TreatsLast A (own_bench h.faces) → Relation (passed_a false)
        stays_a h last =
            let t = h.treats in
            record {
              path = h.path;
              link = h.link;
              faces = free_drops (Duty.Silent (SilentDuty.PassFin A)) (Duty.Ask (AskDuty.SubflowFin A) ∷ last_duties A) refl h.faces;
              treats = (last, t.1, t.2, refl);
            }

        moves_a : (h : Relation (with_agenda (Duty.Silent (SilentDuty.PassFin A) ∷ Duty.Ask (AskDuty.SubflowFin A) ∷ last_duties A) p)) → TreatsFin A (own_bench h.faces) → Relation (passed_a true)
        moves_a h f =
            let t = h.treats in
            let view = h.faces in
            let up = open_when_ready plan.delay t0 u0 k_is j_is going going_back view (some_of f.clear view.own.modes.cleared) in
            let come = counts view f.sent f.hand f.brings in
            let came = one come.0 in
            let some = sent_some came f.answered in
            let faces = fin_passed view f.sent f.hand f.brings up.0 came f.clear up.1 some f.owes
            (inr (inr (inr (inl refl)))) (inr (inr (inr (inr (inr (emission_emits A).events)))))
            (⊎_elim (λ none. inl none) (λ there. inr (⊎_elim (λ i. inl (behind (Duty.Ask (AskDuty.SubflowFin A) ∷ last_duties A) (apart refl refl) i)) (λ i. inr (behind (Duty.Ask (AskDuty.SubflowFin A) ∷ last_duties A) (apart refl refl) i.0, i.1)) there)) view.stages_back.ask) in
            record {
              path = record {
                profile = h.path.profile;
                delay = h.path.delay;
                number = h.path.number;
                unspoken = h.path.unspoken;
                lines = h.path.lines;
                joined = h.path.joined;
              };
              link = h.link;
              faces = faces;
              treats = (
                record {
                  sent = f.sent;
                  hand = refl;
                  idle = record {
                    places = refl;
                    incoming = refl;
                    fin = f.fin ∙ fin_is view.own.subflow.come.edge come.0 come.1 (received view f.sent f.hand f.brings);
                  };
                  waiting = f.waiting;
                  answered = up_to f.sent.control came f.answered;
                  ready = λ is. up_to f.sent.control came (f.ready is);
                  shown = f.shown;
                  clear = f.clear;
                  mapped = record { live = f.mapped.live; tail = f.mapped.tail; beyond = λ p less. f.mapped.beyond p (down less); no_fin = f.mapped.no_fin; forgotten = more f.mapped.forgotten };
                  least = f.least;
                },
                t.1,
                t.2,
                refl,
              );
            }
          where
            more : {x y : ℕ} → x ≤ y → x ≤ y + 1
            more less = omega (arith, less)

            down : {x y : ℕ} → x + 1 ≤ y → x ≤ y
            down less = omega (arith, less)

            one : {x : ℕ} → x ≡ 1 → 1 ≤ x
            one is = omega (arith, is)

            sent_some : {x y : ℕ} → 1 ≤ x → min 1 x ≤ y → 1 ≤ y
            sent_some p q = omega (arith, p, q)

            up_to : {x y : ℕ} (z : ℕ) → 1 ≤ x → min 1 x ≤ y → min 1 (max x z) ≤ y
            up_to z p q = omega (arith, p, q)

            fin_is : {e r d b now : ℕ} → e ≡ 1 + r + (d - 1) → d ≡ 1 → b ≡ 2 → now ≡ r
                → Some e ≡ (if nat_lt 1 (max d b) then Some (now + 1) else None)
            fin_is {e} {r} {d} {b} {now} at is two same =
                ap (λ (x : ℕ). Some x) (sum at is same) ∙ sym (ap (λ (y : Bool). if y then Some (now + 1) else None) (lt-ltb 1 (max d b) (less is two)))
              where
                sum : {e r d now : ℕ} → e ≡ 1 + r + (d - 1) → d ≡ 1 → now ≡ r → e ≡ now + 1
                sum p q r = omega (arith, p, q, r)

                less : {d b : ℕ} → d ≡ 1 → b ≡ 2 → 1 < max d b
                less p q = omega (arith, p, q)

        passes_a : Relation (with_agenda (Duty.Silent (SilentDuty.PassFin A) ∷ Duty.Ask (AskDuty.SubflowFin A) ∷ last_duties A) p) → Relation (with_agenda (Duty.Ask (AskDuty.SubflowFin A) ∷ last_duties A) (with_end A (after_pass_fin p.a) p))
        passes_a h =
            let view = h.faces in
            ⊎_elim
            (λ last. subst (λ (y : Bool). Relation (passed_a y)) (sym (not_there view.back.receiver p.a.tcp view.own.subflow.come last.idle)) (stays_a h last))
            (λ f. subst (λ (y : Bool). Relation (passed_a y))
            (sym (there p.a.tcp f.fin (few view.own.subflow.come.edge (now_back plan.delay t0 u0 k_is j_is going going_back view).numbers.received (now_back plan.delay t0 u0 k_is j_is going going_back view).numbers.granted
            (now_back plan.delay t0 u0 k_is j_is going going_back view).numbers.written j_is.small (counts view f.sent f.hand f.brings).0))) (moves_a h f))
            h.treats.0
          where
            few : {e r d g w total : ℕ} → e ≡ 1 + r + (d - 1) → r ≤ g → g ≤ w → w ≤ total → total ≤ 16777216 → d ≡ 1 → e < 2 ^ 62
            few at p q r z is = omega (arith, at, p, q, r, z, is)

        pub passes_pass_fin_a : (ds : List Duty) → Relation (with_agenda (Duty.Silent (SilentDuty.PassFin A) ∷ ds) p)
            → Relation (with_agenda ds (with_end A (after_pass_fin p.a) p))
        passes_pass_fin_a ds h =
            subst (λ (es : List Duty). Relation (with_agenda es (with_end A (after_pass_fin p.a) p))) (sym h.treats.3)
            (passes_a (subst (λ (es : List Duty). Relation (with_agenda (Duty.Silent (SilentDuty.PassFin A) ∷ es) p)) h.treats.3 h))

        -- ---- at B

        passes_sub_b : Relation (with_agenda (Duty.Ask (AskDuty.SubflowFin B) ∷ last_duties B) p) → Relation (with_agenda (last_duties B) p)
        passes_sub_b h =
            let t = h.treats in
            record {
              path = h.path;
              link = h.link;
              faces = free_drops (Duty.Ask (AskDuty.SubflowFin B)) (last_duties B) refl h.faces;
              treats = (t.0, t.1, t.2, refl);
            }

        pub passes_subflow_fin_b : (ds : List Duty) → Relation (with_agenda (Duty.Ask (AskDuty.SubflowFin B) ∷ ds) p) → Relation (with_agenda ds p)
        passes_subflow_fin_b ds h =
            subst (λ (es : List Duty). Relation (with_agenda es p)) (sym h.treats.3)
            (passes_sub_b (subst (λ (es : List Duty). Relation (with_agenda (Duty.Ask (AskDuty.SubflowFin B) ∷ es) p)) h.treats.3 h))

        abbrev passed_b : Bool → PathState Carried
        passed_b next = with_agenda (Duty.Ask (AskDuty.SubflowFin B) ∷ last_duties B) (with_end B (record p.b { tcp = (if next then after_passing_fin p.b.tcp else p.b.tcp) }) p)

        stays_b : (h : Relation (with_agenda (Duty.Silent (SilentDuty.PassFin B) ∷ Duty.Ask (AskDuty.SubflowFin B) ∷ last_duties B) p)) → TreatsLast B (other_bench h.faces) → Relation (passed_b false)
        stays_b h last =
            let t = h.treats in
            record {
              path = h.path;
              link = h.link;
              faces = free_drops (Duty.Silent (SilentDuty.PassFin B)) (Duty.Ask (AskDuty.SubflowFin B) ∷ last_duties B) refl h.faces;
              treats = (last, t.1, t.2, refl);
            }

        moves_b : (h : Relation (with_agenda (Duty.Silent (SilentDuty.PassFin B) ∷ Duty.Ask (AskDuty.SubflowFin B) ∷ last_duties B) p)) → TreatsFin B (other_bench h.faces) → Relation (passed_b true)
        moves_b h f =
            let t = h.treats in
            let view = from_a keys k j s v a b books (with_agenda (Duty.Silent (SilentDuty.PassFin B) ∷ Duty.Ask (AskDuty.SubflowFin B) ∷ last_duties B) p) h.faces in
            let up = open_when_ready plan.delay u0 t0 j_is k_is going_back going view (some_of f.clear view.own.modes.cleared) in
            let come = counts view f.sent f.hand f.brings in
            let came = one come.0 in
            let some = sent_some came f.answered in
            let faces = from_b keys k j s v a b books (passed_b true) (fin_passed view f.sent f.hand f.brings up.0 came f.clear up.1 some f.owes
            (inr (inr (inr (inl refl)))) (inr (inr (inr (inr (inr (emission_emits B).events)))))
            (⊎_elim (λ none. inl none) (λ there. inr (⊎_elim (λ i. inl (behind (Duty.Ask (AskDuty.SubflowFin B) ∷ last_duties B) (apart refl refl) i)) (λ i. inr (behind (Duty.Ask (AskDuty.SubflowFin B) ∷ last_duties B) (apart refl refl) i.0, i.1)) there)) view.stages_back.ask)) in
            record {
              path = record {
                profile = h.path.profile;
                delay = h.path.delay;
                number = h.path.number;
                unspoken = h.path.unspoken;
                lines = h.path.lines;
                joined = h.path.joined;
              };
              link = h.link;
              faces = faces;
              treats = (
                record {
                  sent = f.sent;
                  hand = refl;
                  idle = record {
                    places = refl;
                    incoming = refl;
                    fin = f.fin ∙ fin_is view.own.subflow.come.edge come.0 come.1 (received view f.sent f.hand f.brings);
                  };
                  waiting = f.waiting;
                  answered = up_to f.sent.control came f.answered;
                  ready = λ is. up_to f.sent.control came (f.ready is);
                  shown = f.shown;
                  clear = f.clear;
                  mapped = record { live = f.mapped.live; tail = f.mapped.tail; beyond = λ p less. f.mapped.beyond p (down less); no_fin = f.mapped.no_fin; forgotten = more f.mapped.forgotten };
                  least = f.least;
                },
                t.1,
                t.2,
                refl,
              );
            }
          where
            more : {x y : ℕ} → x ≤ y → x ≤ y + 1
            more less = omega (arith, less)

            down : {x y : ℕ} → x + 1 ≤ y → x ≤ y
            down less = omega (arith, less)

            one : {x : ℕ} → x ≡ 1 → 1 ≤ x
            one is = omega (arith, is)

            sent_some : {x y : ℕ} → 1 ≤ x → min 1 x ≤ y → 1 ≤ y
            sent_some p q = omega (arith, p, q)

            up_to : {x y : ℕ} (z : ℕ) → 1 ≤ x → min 1 x ≤ y → min 1 (max x z) ≤ y
            up_to z p q = omega (arith, p, q)

            fin_is : {e r d b now : ℕ} → e ≡ 1 + r + (d - 1) → d ≡ 1 → b ≡ 2 → now ≡ r
                → Some e ≡ (if nat_lt 1 (max d b) then Some (now + 1) else None)
            fin_is {e} {r} {d} {b} {now} at is two same =
                ap (λ (x : ℕ). Some x) (sum at is same) ∙ sym (ap (λ (y : Bool). if y then Some (now + 1) else None) (lt-ltb 1 (max d b) (less is two)))
              where
                sum : {e r d now : ℕ} → e ≡ 1 + r + (d - 1) → d ≡ 1 → now ≡ r → e ≡ now + 1
                sum p q r = omega (arith, p, q, r)

                less : {d b : ℕ} → d ≡ 1 → b ≡ 2 → 1 < max d b
                less p q = omega (arith, p, q)

        passes_b : Relation (with_agenda (Duty.Silent (SilentDuty.PassFin B) ∷ Duty.Ask (AskDuty.SubflowFin B) ∷ last_duties B) p) → Relation (with_agenda (Duty.Ask (AskDuty.SubflowFin B) ∷ last_duties B) (with_end B (after_pass_fin p.b) p))
        passes_b h =
            let view = from_a keys k j s v a b books (with_agenda (Duty.Silent (SilentDuty.PassFin B) ∷ Duty.Ask (AskDuty.SubflowFin B) ∷ last_duties B) p) h.faces in
            ⊎_elim
            (λ last. subst (λ (y : Bool). Relation (passed_b y)) (sym (not_there view.back.receiver p.b.tcp view.own.subflow.come last.idle)) (stays_b h last))
            (λ f. subst (λ (y : Bool). Relation (passed_b y))
            (sym (there p.b.tcp f.fin (few view.own.subflow.come.edge (now_back plan.delay u0 t0 j_is k_is going_back going view).numbers.received (now_back plan.delay u0 t0 j_is k_is going_back going view).numbers.granted
            (now_back plan.delay u0 t0 j_is k_is going_back going view).numbers.written k_is.small (counts view f.sent f.hand f.brings).0))) (moves_b h f))
            h.treats.0
          where
            few : {e r d g w total : ℕ} → e ≡ 1 + r + (d - 1) → r ≤ g → g ≤ w → w ≤ total → total ≤ 16777216 → d ≡ 1 → e < 2 ^ 62
            few at p q r z is = omega (arith, at, p, q, r, z, is)

        pub passes_pass_fin_b : (ds : List Duty) → Relation (with_agenda (Duty.Silent (SilentDuty.PassFin B) ∷ ds) p)
            → Relation (with_agenda ds (with_end B (after_pass_fin p.b) p))
        passes_pass_fin_b ds h =
            subst (λ (es : List Duty). Relation (with_agenda es (with_end B (after_pass_fin p.b) p))) (sym h.treats.3)
            (passes_b (subst (λ (es : List Duty). Relation (with_agenda (Duty.Silent (SilentDuty.PassFin B) ∷ es) p)) h.treats.3 h))
