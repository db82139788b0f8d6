-- The steps in which the third thing of a copy is heard: the mapping of its bytes, or its DATA_FIN.
use Rattle.clean_finish.proofs.Words.{◌≡◌, refl, sym, subst, ℕ, ◌≤◌, true, false, Option, List, ◌∷◌, length, arith, Some, both_ways, A, B, Mappings}
use Rattle.clean_finish.proofs.Words.{window_told, Duty, StepDuty, payload_came, Heard, SixBooks, reply_of, after_ask, AppState, Carried, values, Modes}
use Rattle.clean_finish.proofs.Words.{PathState, with_agenda, with_end, answered_item, item_ask, item_of, item_passed, item_stands, Setting, Lane, all_left}
use Rattle.clean_finish.proofs.Words.{Going, PathPlan, Start, Keys, Brings, shows_keys, octets_of, OpensSubflow, Piece, EndsStream, Beside, MapsAs, Treats}
use Rattle.clean_finish.proofs.Words.{TreatsCopy, count_in, heard_by, kept_in, own_bench, other_bench, FacesOfB, IsSetting, Runs, keys_in, AfterTwo}
use Rattle.clean_finish.proofs.EndPassing.{sent_some}
use Rattle.clean_finish.proofs.HeardMapping.{end_passed_a, end_passed_b, end_told_a, end_told_b, mapping_passed_a, mapping_passed_b, mapping_told_a, mapping_told_b}
use Rattle.clean_finish.proofs.HeardNext.{item_is}
use Rattle.clean_finish.proofs.MappingTold.{end_noted, ended_end, learned, learned_end, maps_learned, piece_learned}
use Rattle.clean_finish.proofs.Turned.{from_a}

module _ (start : Start) (plan : PathPlan) (k j : Setting) (s v : Lane) (t0 u0 : ℕ)
    (going : Going k s t0 all_left s) (going_back : Going j v u0 all_left v)
  where
    abbrev keys : Keys
    keys = keys_in start

    module _ (a b : AppState) (books : SixBooks) (p : PathState Carried)
        (k_is : IsSetting p.profile plan.delay k) (j_is : IsSetting p.profile plan.delay j)
      where
        abbrev Relation : SixBooks → PathState Carried → Type 0
        Relation six q = Runs start plan k j s v a b six q

        -- ---- at A

        module _ (ds : List Duty) (h : Relation books (with_agenda (Duty.Step (StepDuty.Heard A 2) ∷ ds) p)) where
          abbrev q_a : PathState Carried
          q_a = with_agenda (Duty.Step (StepDuty.Heard A 2) ∷ ds) p

          module _ (octets : List ℕ) (f : TreatsCopy A keys AfterTwo false (Piece octets) (own_bench h.faces)) (beside : Beside A (own_bench h.faces) (other_bench h.faces) ds (payload_came A)) where
            some_a : 1 ≤ length (octets_of f.sent.brings)
            some_a = subst (λ (y : Brings). 1 ≤ length (octets_of y)) (sym f.brings) (f.some refl)

            maps_a : MapsAs p.a.tcp.recv.edge false (kept_in p.profile A f.sent (octets_of f.sent.brings)) (length (octets_of f.sent.brings)) p.a.receiving.mappings p.a.receiving.mapped_data_fin
            maps_a = subst (λ (y : Brings). MapsAs p.a.tcp.recv.edge false (kept_in p.profile A f.sent (octets_of y)) (length (octets_of y)) p.a.receiving.mappings p.a.receiving.mapped_data_fin)
                (sym f.brings) f.maps

            abbrev learned_a : Mappings
            learned_a = learned plan.delay t0 u0 k_is j_is going going_back h.faces refl f.sent f.hand some_a maps_a

            on_a : (mo : Modes) → Treats keys (record (own_bench h.faces) { end = learned_end learned_a mo p.a }) (other_bench h.faces) ds
            on_a mo =
                let maps = subst (λ (y : Brings). MapsAs p.a.tcp.recv.edge true (kept_in p.profile A f.sent (octets_of y)) (length (octets_of y)) learned_a p.a.receiving.mapped_data_fin)
                f.brings (maps_learned plan.delay t0 u0 k_is j_is going going_back h.faces refl f.sent f.hand some_a maps_a) in
                subst (λ (es : List Duty). Treats keys (record (own_bench h.faces) { end = learned_end learned_a mo p.a }) (other_bench h.faces) es) (sym beside.2)
                (Piece octets, piece_learned A keys (own_bench h.faces) octets f learned_a mo maps, (beside.0, beside.1, refl))

            item_a : item_of 2 p.a ≡ Some (Heard.Mapping false)
            item_a = item_is 2 p.a (heard_by keys f.sent.telling.next (window_told false f.sent.window) (Piece octets)) h.faces.own.modes.mapping.0 f.items

            told_a : let o = item_of 2 p.a in Relation (after_ask (item_ask values A o q_a) books) (answered_item values A o (reply_of books (item_ask values A o q_a)) q_a)
            told_a =
                subst (λ (o : Option Heard). Relation (after_ask (item_ask values A o q_a) books) (answered_item values A o (reply_of books (item_ask values A o q_a)) q_a)) (sym item_a)
                (mapping_told_a start plan k j s v t0 u0 going going_back a b books p k_is j_is 2 ds h (sent_some f.came f.answered) f.sent f.hand some_a maps_a on_a)

            passed_a : Relation books (with_agenda ds (with_end A (item_passed A (item_of 2 p.a) p.a) p))
            passed_a =
                subst (λ (o : Option Heard). Relation books (with_agenda ds (with_end A (item_passed A o p.a) p))) (sym item_a)
                (mapping_passed_a start plan k j s v t0 u0 going going_back a b books p k_is j_is 2 ds h (sent_some f.came f.answered) f.sent f.hand some_a maps_a on_a (f.clear.2 refl))

          module _ (place : ℕ) (f : TreatsCopy A keys AfterTwo false (EndsStream place) (own_bench h.faces)) (beside : Beside A (own_bench h.faces) (other_bench h.faces) ds (payload_came A)) where
            behind_a : (mo : Modes) → Treats keys (record (own_bench h.faces) { end = ended_end place mo p.a }) (other_bench h.faces) ds
            behind_a mo = subst (λ (es : List Duty). Treats keys (record (own_bench h.faces) { end = ended_end place mo p.a }) (other_bench h.faces) es) (sym beside.2)
                (EndsStream place, end_noted A keys (own_bench h.faces) place f mo, (beside.0, beside.1, refl))

            end_item_a : item_of 2 p.a ≡ Some (Heard.DataFin place)
            end_item_a = item_is 2 p.a (heard_by keys f.sent.telling.next (window_told false f.sent.window) (EndsStream place)) h.faces.own.modes.mapping.0 f.items

            ends_a : let o = item_of 2 p.a in Relation (after_ask (item_ask values A o q_a) books) (answered_item values A o (reply_of books (item_ask values A o q_a)) q_a)
            ends_a =
                subst (λ (o : Option Heard). Relation (after_ask (item_ask values A o q_a) books) (answered_item values A o (reply_of books (item_ask values A o q_a)) q_a)) (sym end_item_a)
                (end_told_a start plan k j s v t0 u0 going going_back a b books p k_is j_is 2 ds h (sent_some f.came f.answered) place f.fins behind_a)

            end_passes_a : Relation books (with_agenda ds (with_end A (item_passed A (item_of 2 p.a) p.a) p))
            end_passes_a =
                subst (λ (o : Option Heard). Relation books (with_agenda ds (with_end A (item_passed A o p.a) p))) (sym end_item_a)
                (end_passed_a start plan k j s v t0 u0 going going_back a b books p k_is j_is 2 ds h (sent_some f.came f.answered) place f.fins behind_a (f.clear.2 refl))

          last_a : (what : Brings) → TreatsCopy A keys AfterTwo (shows_keys what) what (own_bench h.faces) → count_in what ≡ 3
              → Beside A (own_bench h.faces) (other_bench h.faces) ds (payload_came A) → let o = item_of 2 p.a in Relation (after_ask (item_ask values A o q_a) books) (answered_item values A o (reply_of books (item_ask values A o q_a)) q_a)
          last_a OpensSubflow f last beside = absurd (both_ways _ f.kind refl)
          last_a (Piece octets) f last beside = told_a octets f beside
          last_a (EndsStream place) f last beside = ends_a place f beside
          last_a _ f last beside = absurd (omega (arith, last))

          last_passed_a : (what : Brings) → TreatsCopy A keys AfterTwo (shows_keys what) what (own_bench h.faces) → count_in what ≡ 3
              → Beside A (own_bench h.faces) (other_bench h.faces) ds (payload_came A) → Relation books (with_agenda ds (with_end A (item_passed A (item_of 2 p.a) p.a) p))
          last_passed_a OpensSubflow f last beside = absurd (both_ways _ f.kind refl)
          last_passed_a (Piece octets) f last beside = passed_a octets f beside
          last_passed_a (EndsStream place) f last beside = end_passes_a place f beside
          last_passed_a _ f last beside = absurd (omega (arith, last))

        pub answers_last_a : (ds : List Duty) → item_stands (item_of 2 p.a) p.a ≡ true → Relation books (with_agenda (Duty.Step (StepDuty.Heard A 2) ∷ ds) p)
            → let q = with_agenda (Duty.Step (StepDuty.Heard A 2) ∷ ds) p in let o = item_of 2 p.a in let ask = item_ask values A o q in
            Relation (after_ask ask books) (answered_item values A o (reply_of books ask) q)
        answers_last_a ds on h = let t = h.treats in last_a ds h t.0 t.1 t.2 t.3

        pub passes_last_a : (ds : List Duty) → item_stands (item_of 2 p.a) p.a ≡ false → Relation books (with_agenda (Duty.Step (StepDuty.Heard A 2) ∷ ds) p)
            → Relation books (with_agenda ds (with_end A (item_passed A (item_of 2 p.a) p.a) p))
        passes_last_a ds off h = let t = h.treats in last_passed_a ds h t.0 t.1 t.2 t.3

        -- ---- at B

        module _ (ds : List Duty) (h : Relation books (with_agenda (Duty.Step (StepDuty.Heard B 2) ∷ ds) p)) where
          abbrev q_b : PathState Carried
          q_b = with_agenda (Duty.Step (StepDuty.Heard B 2) ∷ ds) p

          abbrev view_b : FacesOfB keys k j s v a b books q_b
          view_b = from_a keys k j s v a b books q_b h.faces

          module _ (octets : List ℕ) (f : TreatsCopy B keys AfterTwo false (Piece octets) (other_bench h.faces)) (beside : Beside B (own_bench h.faces) (other_bench h.faces) ds (payload_came B)) where
            some_b : 1 ≤ length (octets_of f.sent.brings)
            some_b = subst (λ (y : Brings). 1 ≤ length (octets_of y)) (sym f.brings) (f.some refl)

            maps_b : MapsAs p.b.tcp.recv.edge false (kept_in p.profile B f.sent (octets_of f.sent.brings)) (length (octets_of f.sent.brings)) p.b.receiving.mappings p.b.receiving.mapped_data_fin
            maps_b = subst (λ (y : Brings). MapsAs p.b.tcp.recv.edge false (kept_in p.profile B f.sent (octets_of y)) (length (octets_of y)) p.b.receiving.mappings p.b.receiving.mapped_data_fin)
                (sym f.brings) f.maps

            abbrev learned_b : Mappings
            learned_b = learned plan.delay u0 t0 j_is k_is going_back going view_b refl f.sent f.hand some_b maps_b

            on_b : (mo : Modes) → Treats keys (own_bench h.faces) (record (other_bench h.faces) { end = learned_end learned_b mo p.b }) ds
            on_b mo =
                let maps = subst (λ (y : Brings). MapsAs p.b.tcp.recv.edge true (kept_in p.profile B f.sent (octets_of y)) (length (octets_of y)) learned_b p.b.receiving.mapped_data_fin)
                f.brings (maps_learned plan.delay u0 t0 j_is k_is going_back going view_b refl f.sent f.hand some_b maps_b) in
                subst (λ (es : List Duty). Treats keys (own_bench h.faces) (record (other_bench h.faces) { end = learned_end learned_b mo p.b }) es) (sym beside.2)
                (Piece octets, piece_learned B keys (other_bench h.faces) octets f learned_b mo maps, (beside.0, beside.1, refl))

            item_b : item_of 2 p.b ≡ Some (Heard.Mapping false)
            item_b = item_is 2 p.b (heard_by keys f.sent.telling.next (window_told false f.sent.window) (Piece octets)) view_b.own.modes.mapping.0 f.items

            told_b : let o = item_of 2 p.b in Relation (after_ask (item_ask values B o q_b) books) (answered_item values B o (reply_of books (item_ask values B o q_b)) q_b)
            told_b =
                subst (λ (o : Option Heard). Relation (after_ask (item_ask values B o q_b) books) (answered_item values B o (reply_of books (item_ask values B o q_b)) q_b)) (sym item_b)
                (mapping_told_b start plan k j s v t0 u0 going going_back a b books p k_is j_is 2 ds h (sent_some f.came f.answered) f.sent f.hand some_b maps_b on_b)

            passed_b : Relation books (with_agenda ds (with_end B (item_passed B (item_of 2 p.b) p.b) p))
            passed_b =
                subst (λ (o : Option Heard). Relation books (with_agenda ds (with_end B (item_passed B o p.b) p))) (sym item_b)
                (mapping_passed_b start plan k j s v t0 u0 going going_back a b books p k_is j_is 2 ds h (sent_some f.came f.answered) f.sent f.hand some_b maps_b on_b (f.clear.2 refl))

          module _ (place : ℕ) (f : TreatsCopy B keys AfterTwo false (EndsStream place) (other_bench h.faces)) (beside : Beside B (own_bench h.faces) (other_bench h.faces) ds (payload_came B)) where
            behind_b : (mo : Modes) → Treats keys (own_bench h.faces) (record (other_bench h.faces) { end = ended_end place mo p.b }) ds
            behind_b mo = subst (λ (es : List Duty). Treats keys (own_bench h.faces) (record (other_bench h.faces) { end = ended_end place mo p.b }) es) (sym beside.2)
                (EndsStream place, end_noted B keys (other_bench h.faces) place f mo, (beside.0, beside.1, refl))

            end_item_b : item_of 2 p.b ≡ Some (Heard.DataFin place)
            end_item_b = item_is 2 p.b (heard_by keys f.sent.telling.next (window_told false f.sent.window) (EndsStream place)) view_b.own.modes.mapping.0 f.items

            ends_b : let o = item_of 2 p.b in Relation (after_ask (item_ask values B o q_b) books) (answered_item values B o (reply_of books (item_ask values B o q_b)) q_b)
            ends_b =
                subst (λ (o : Option Heard). Relation (after_ask (item_ask values B o q_b) books) (answered_item values B o (reply_of books (item_ask values B o q_b)) q_b)) (sym end_item_b)
                (end_told_b start plan k j s v t0 u0 going going_back a b books p k_is j_is 2 ds h (sent_some f.came f.answered) place f.fins behind_b)

            end_passes_b : Relation books (with_agenda ds (with_end B (item_passed B (item_of 2 p.b) p.b) p))
            end_passes_b =
                subst (λ (o : Option Heard). Relation books (with_agenda ds (with_end B (item_passed B o p.b) p))) (sym end_item_b)
                (end_passed_b start plan k j s v t0 u0 going going_back a b books p k_is j_is 2 ds h (sent_some f.came f.answered) place f.fins behind_b (f.clear.2 refl))

          last_b : (what : Brings) → TreatsCopy B keys AfterTwo (shows_keys what) what (other_bench h.faces) → count_in what ≡ 3
              → Beside B (own_bench h.faces) (other_bench h.faces) ds (payload_came B) → let o = item_of 2 p.b in Relation (after_ask (item_ask values B o q_b) books) (answered_item values B o (reply_of books (item_ask values B o q_b)) q_b)
          last_b OpensSubflow f last beside = absurd (both_ways _ f.kind refl)
          last_b (Piece octets) f last beside = told_b octets f beside
          last_b (EndsStream place) f last beside = ends_b place f beside
          last_b _ f last beside = absurd (omega (arith, last))

          last_passed_b : (what : Brings) → TreatsCopy B keys AfterTwo (shows_keys what) what (other_bench h.faces) → count_in what ≡ 3
              → Beside B (own_bench h.faces) (other_bench h.faces) ds (payload_came B) → Relation books (with_agenda ds (with_end B (item_passed B (item_of 2 p.b) p.b) p))
          last_passed_b OpensSubflow f last beside = absurd (both_ways _ f.kind refl)
          last_passed_b (Piece octets) f last beside = passed_b octets f beside
          last_passed_b (EndsStream place) f last beside = end_passes_b place f beside
          last_passed_b _ f last beside = absurd (omega (arith, last))

        pub answers_last_b : (ds : List Duty) → item_stands (item_of 2 p.b) p.b ≡ true → Relation books (with_agenda (Duty.Step (StepDuty.Heard B 2) ∷ ds) p)
            → let q = with_agenda (Duty.Step (StepDuty.Heard B 2) ∷ ds) p in let o = item_of 2 p.b in let ask = item_ask values B o q in
            Relation (after_ask ask books) (answered_item values B o (reply_of books ask) q)
        answers_last_b ds on h = let t = h.treats in last_b ds h t.0 t.1 t.2 t.3

        pub passes_last_b : (ds : List Duty) → item_stands (item_of 2 p.b) p.b ≡ false → Relation books (with_agenda (Duty.Step (StepDuty.Heard B 2) ∷ ds) p)
            → Relation books (with_agenda ds (with_end B (item_passed B (item_of 2 p.b) p.b) p))
        passes_last_b ds off h = let t = h.treats in last_passed_b ds h t.0 t.1 t.2 t.3
