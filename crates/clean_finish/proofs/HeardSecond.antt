-- The steps in which the second thing of a copy is heard: its Data ACK, or the mapping of the first bytes.
use Rattle.clean_finish.proofs.Words.{◌≡◌, refl, sym, subst, ap, ◌∙◌, ℕ, ◌-◌, ◌≤◌, true, false, Option, List, ◌∷◌, length, arith, Some, is_none, both_ways, A}
use Rattle.clean_finish.proofs.Words.{B, Mappings, window_told, InfiniteMapping, Duty, StepDuty, heard_and, payload_came, Heard, SixBooks, reply_of, after_ask}
use Rattle.clean_finish.proofs.Words.{AppState, Carried, values, Modes, PathState, with_agenda, with_end, answered_item, item_ask, item_of, item_passed}
use Rattle.clean_finish.proofs.Words.{item_stands, Setting, Lane, all_left, Going, PathPlan, Start, Keys, Brings, shows_keys, octets_of, OpensSubflow}
use Rattle.clean_finish.proofs.Words.{ShowsKeys, FirstPiece, Piece, Acknowledges, EndsStream, EndsSubflow, Beside, MapsAs, Treats, TreatsCopy, count_in}
use Rattle.clean_finish.proofs.Words.{heard_by, kept_in, own_bench, other_bench, FacesOfB, IsSetting, Runs, keys_in, AfterOne}
use Rattle.clean_finish.proofs.EndPassing.{sent_some}
use Rattle.clean_finish.proofs.HeardAck.{answers_ack_a, answers_ack_b, second_a, second_b}
use Rattle.clean_finish.proofs.HeardFirst.{no_keys}
use Rattle.clean_finish.proofs.HeardMapping.{mapping_passed_b, mapping_told_b}
use Rattle.clean_finish.proofs.HeardNext.{item_is, two_next}
use Rattle.clean_finish.proofs.MappingTold.{first_learned, learned, learned_end, maps_learned}
use Rattle.clean_finish.proofs.Turned.{from_a}

module _ (start : Start) (plan : PathPlan) (k j : Setting) (s v : Lane) (t0 u0 : ℕ)
    (going : Going k s t0 all_left s) (going_back : Going j v u0 all_left v)
  where
    abbrev keys : Keys
    keys = keys_in start

    module _ (a b : AppState) (books : SixBooks) (p : PathState Carried)
        (k_is : IsSetting p.profile plan.delay k) (j_is : IsSetting p.profile plan.delay j)
      where
        abbrev Relation : SixBooks → PathState Carried → Type 0
        Relation six q = Runs start plan k j s v a b six q

        -- ---- at A

        module _ (ds : List Duty) (h : Relation books (with_agenda (Duty.Step (StepDuty.Heard A 1) ∷ ds) p)) where
          abbrev q_a : PathState Carried
          q_a = with_agenda (Duty.Step (StepDuty.Heard A 1) ∷ ds) p

          second_acked : let o = item_of 1 p.a in Relation (after_ask (item_ask values A o q_a) books) (answered_item values A o (reply_of books (item_ask values A o q_a)) q_a)
          second_acked = let t = h.treats in answers_ack_a start plan k j s v t0 u0 going going_back a b books p k_is j_is ds h t.0 t.1 (no_keys t.0 t.1.keyed) t.3

          second_passed : item_stands (item_of 1 p.a) p.a ≡ false → Relation books (with_agenda ds (with_end A (item_passed A (item_of 1 p.a) p.a) p))
          second_passed off =
              let t = h.treats in
              absurd (both_ways _ off (ap (λ (o : Option Heard). item_stands o p.a) (second_a start plan k j s v t0 u0 going going_back a b books p k_is j_is ds h t.0 t.1 (no_keys t.0 t.1.keyed) t.3)
              ∙ ap (λ (o : Option InfiniteMapping). is_none o) h.faces.own.modes.mapping.1))

        -- ---- at B

        module _ (ds : List Duty) (h : Relation books (with_agenda (Duty.Step (StepDuty.Heard B 1) ∷ ds) p)) where
          abbrev q_b : PathState Carried
          q_b = with_agenda (Duty.Step (StepDuty.Heard B 1) ∷ ds) p

          abbrev view_b : FacesOfB keys k j s v a b books q_b
          view_b = from_a keys k j s v a b books q_b h.faces

          module _ (octets : List ℕ) (f : TreatsCopy B keys AfterOne true (FirstPiece octets) (other_bench h.faces)) (beside : Beside B (own_bench h.faces) (other_bench h.faces) ds (payload_came B)) where
            some_b : 1 ≤ length (octets_of f.sent.brings)
            some_b = subst (λ (y : Brings). 1 ≤ length (octets_of y)) (sym f.brings) (f.some refl)

            maps_b : MapsAs p.b.tcp.recv.edge false (kept_in p.profile B f.sent (octets_of f.sent.brings)) (length (octets_of f.sent.brings)) p.b.receiving.mappings p.b.receiving.mapped_data_fin
            maps_b = subst (λ (y : Brings). MapsAs p.b.tcp.recv.edge false (kept_in p.profile B f.sent (octets_of y)) (length (octets_of y)) p.b.receiving.mappings p.b.receiving.mapped_data_fin)
                (sym f.brings) f.maps

            abbrev learned_b : Mappings
            learned_b = learned plan.delay u0 t0 j_is k_is going_back going view_b refl f.sent f.hand some_b maps_b

            on_b : (mo : Modes) → Treats keys (own_bench h.faces) (record (other_bench h.faces) { end = learned_end learned_b mo p.b }) ds
            on_b mo =
                let maps = subst (λ (y : Brings). MapsAs p.b.tcp.recv.edge true (kept_in p.profile B f.sent (octets_of y)) (length (octets_of y)) learned_b p.b.receiving.mapped_data_fin)
                f.brings (maps_learned plan.delay u0 t0 j_is k_is going_back going view_b refl f.sent f.hand some_b maps_b) in
                subst (λ (es : List Duty). Treats keys (own_bench h.faces) (record (other_bench h.faces) { end = learned_end learned_b mo p.b }) es) (sym beside.2)
                (two_next B keys (own_bench h.faces) (record (other_bench h.faces) { end = learned_end learned_b mo p.b }) beside.0 beside.1 (FirstPiece octets) refl
                (first_learned B keys (other_bench h.faces) octets f learned_b mo maps))

            item_b : item_of 1 p.b ≡ Some (Heard.Mapping false)
            item_b = item_is 1 p.b (heard_by keys f.sent.telling.next (window_told false f.sent.window) (FirstPiece octets)) view_b.own.modes.mapping.0 f.items

            told_b : let o = item_of 1 p.b in Relation (after_ask (item_ask values B o q_b) books) (answered_item values B o (reply_of books (item_ask values B o q_b)) q_b)
            told_b =
                subst (λ (o : Option Heard). Relation (after_ask (item_ask values B o q_b) books) (answered_item values B o (reply_of books (item_ask values B o q_b)) q_b)) (sym item_b)
                (mapping_told_b start plan k j s v t0 u0 going going_back a b books p k_is j_is 1 ds h (sent_some f.came f.answered) f.sent f.hand some_b maps_b on_b)

            passed_b : Relation books (with_agenda ds (with_end B (item_passed B (item_of 1 p.b) p.b) p))
            passed_b =
                subst (λ (o : Option Heard). Relation books (with_agenda ds (with_end B (item_passed B o p.b) p))) (sym item_b)
                (mapping_passed_b start plan k j s v t0 u0 going going_back a b books p k_is j_is 1 ds h (sent_some f.came f.answered) f.sent f.hand some_b maps_b on_b (f.clear.2 refl))

          answers_by : (what : Brings) → TreatsCopy B keys AfterOne (shows_keys what) what (other_bench h.faces) → 2 ≤ count_in what
              → Beside B (own_bench h.faces) (other_bench h.faces) ds (heard_and B 2 (count_in what - 2) (payload_came B)) → let o = item_of 1 p.b in Relation (after_ask (item_ask values B o q_b) books) (answered_item values B o (reply_of books (item_ask values B o q_b)) q_b)
          answers_by OpensSubflow f some beside = absurd (both_ways _ f.kind refl)
          answers_by ShowsKeys f some beside = absurd (omega (arith, some))
          answers_by (FirstPiece octets) f some beside = told_b octets f beside
          answers_by what f some beside = answers_ack_b start plan k j s v t0 u0 going going_back a b books p k_is j_is ds h what f refl beside

          -- a Data ACK is always told
          acks_by : (what : Brings) (f : TreatsCopy B keys AfterOne (shows_keys what) what (other_bench h.faces)) (none : shows_keys what ≡ false)
              → Beside B (own_bench h.faces) (other_bench h.faces) ds (heard_and B 2 (count_in what - 2) (payload_came B)) → item_stands (item_of 1 p.b) p.b ≡ true
          acks_by what f none beside = ap (λ (o : Option Heard). item_stands o p.b) (second_b start plan k j s v t0 u0 going going_back a b books p k_is j_is ds h what f none beside)
              ∙ ap (λ (o : Option InfiniteMapping). is_none o) h.faces.other.modes.mapping.1

          passes_by : item_stands (item_of 1 p.b) p.b ≡ false → (what : Brings) → TreatsCopy B keys AfterOne (shows_keys what) what (other_bench h.faces) → 2 ≤ count_in what
              → Beside B (own_bench h.faces) (other_bench h.faces) ds (heard_and B 2 (count_in what - 2) (payload_came B)) → Relation books (with_agenda ds (with_end B (item_passed B (item_of 1 p.b) p.b) p))
          passes_by off OpensSubflow f some beside = absurd (both_ways _ f.kind refl)
          passes_by off ShowsKeys f some beside = absurd (omega (arith, some))
          passes_by off (FirstPiece octets) f some beside = passed_b octets f beside
          passes_by off (Piece octets) f some beside = absurd (both_ways _ off (acks_by (Piece octets) f refl beside))
          passes_by off Acknowledges f some beside = absurd (both_ways _ off (acks_by Acknowledges f refl beside))
          passes_by off (EndsStream place) f some beside = absurd (both_ways _ off (acks_by (EndsStream place) f refl beside))
          passes_by off EndsSubflow f some beside = absurd (both_ways _ off (acks_by EndsSubflow f refl beside))

        -- ---- both

        pub answers_second_a : (ds : List Duty) → item_stands (item_of 1 p.a) p.a ≡ true → Relation books (with_agenda (Duty.Step (StepDuty.Heard A 1) ∷ ds) p)
            → let q = with_agenda (Duty.Step (StepDuty.Heard A 1) ∷ ds) p in let o = item_of 1 p.a in let ask = item_ask values A o q in
            Relation (after_ask ask books) (answered_item values A o (reply_of books ask) q)
        answers_second_a ds on h = second_acked ds h

        pub passes_second_a : (ds : List Duty) → item_stands (item_of 1 p.a) p.a ≡ false → Relation books (with_agenda (Duty.Step (StepDuty.Heard A 1) ∷ ds) p)
            → Relation books (with_agenda ds (with_end A (item_passed A (item_of 1 p.a) p.a) p))
        passes_second_a ds off h = second_passed ds h off

        pub answers_second_b : (ds : List Duty) → item_stands (item_of 1 p.b) p.b ≡ true → Relation books (with_agenda (Duty.Step (StepDuty.Heard B 1) ∷ ds) p)
            → let q = with_agenda (Duty.Step (StepDuty.Heard B 1) ∷ ds) p in let o = item_of 1 p.b in let ask = item_ask values B o q in
            Relation (after_ask ask books) (answered_item values B o (reply_of books ask) q)
        answers_second_b ds on h = let t = h.treats in answers_by ds h t.0 t.1 t.2 t.3

        pub passes_second_b : (ds : List Duty) → item_stands (item_of 1 p.b) p.b ≡ false → Relation books (with_agenda (Duty.Step (StepDuty.Heard B 1) ∷ ds) p)
            → Relation books (with_agenda ds (with_end B (item_passed B (item_of 1 p.b) p.b) p))
        passes_second_b ds off h = let t = h.treats in passes_by ds h off t.0 t.1 t.2 t.3
