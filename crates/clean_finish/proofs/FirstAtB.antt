-- B treats the first thing that a copy says: a DSS, or A's keys.
--
-- The treatment of a copy is one record (`TreatsCopy`) with how far it is and what the copy brings as parameters:
-- functions of the two say what is still in a hand, learned, kept or to be told, so most fields of one stage are those
-- of the next. The kind of the copy is a variable until a duty needs it; then `subst` along 'it is this kind' makes all
-- of them compute (`proofs/FirstAtB`).
use Rattle.clean_finish.proofs.Words.{◌≡◌, refl, sym, subst, ap, ◌∙◌, ℕ, ◌-◌, Bool, true, false, not, ◌⊎◌, inl, inr, ⊎_elim, Option, List, ◌∷◌, Some, both_ways}
use Rattle.clean_finish.proofs.Words.{B, window_told, Duty, StepDuty, heard_and, payload_came, Heard, SixBooks, reply_of, after_ask, AppState, Carried, values}
use Rattle.clean_finish.proofs.Words.{PathState, with_agenda, with_end, answered_item, item_ask, item_of, item_passed, item_stands, Setting, Lane, all_left}
use Rattle.clean_finish.proofs.Words.{Going, PathPlan, Start, Keys, Brings, shows_keys, is_third, ShowsKeys, FirstPiece, Beside, TreatsCopy, count_in, heard_by}
use Rattle.clean_finish.proofs.Words.{own_bench, other_bench, IsSetting, Runs, keys_in, AtFirst}
use Rattle.clean_finish.proofs.HeardFirst.{passes_first_dss_b}
use Rattle.clean_finish.proofs.HeardNext.{dss_first, item_is}
use Rattle.clean_finish.proofs.KeysTold.{first_keys_told}
use Rattle.clean_finish.proofs.ThirdTaken.{passes_third_b}

abbrev IsFirst : Brings → Type 0
IsFirst b = (octets : List ℕ) × (b ≡ FirstPiece octets)

-- the keys are shown by the third segment, or with the first bytes
shown_by : (b : Brings) → shows_keys b ≡ true → (b ≡ ShowsKeys) ⊎ IsFirst b
shown_by ShowsKeys e = inl refl
shown_by (FirstPiece octets) e = inr (octets, refl)
shown_by _ e = absurd (both_ways false refl e)

module _ (start : Start) (plan : PathPlan) (k j : Setting) (s v : Lane) (t0 u0 : ℕ)
    (going : Going k s t0 all_left s) (going_back : Going j v u0 all_left v)
  where
    abbrev keys : Keys
    keys = keys_in start

    module _ (a b : AppState) (books : SixBooks) (p : PathState Carried)
        (k_is : IsSetting p.profile plan.delay k) (j_is : IsSetting p.profile plan.delay j)
      where
        abbrev Relation : SixBooks → PathState Carried → Type 0
        Relation six q = Runs start plan k j s v a b six q

        abbrev d : Duty
        d = Duty.Step (StepDuty.Heard B 0)

        module _ (ds : List Duty) (h : Relation books (with_agenda (d ∷ ds) p)) where
          abbrev items_of : Brings → List Heard
          items_of y = heard_by keys h.treats.1.sent.telling.next (window_told false h.treats.1.sent.window) y

          -- with both keys
          module _ (what : Brings) (is : h.treats.0 ≡ what) where
            copy_is : TreatsCopy B keys AtFirst (is_third what) what (other_bench h.faces)
            copy_is = subst (λ (y : Brings). TreatsCopy B keys AtFirst (is_third y) y (other_bench h.faces)) is h.treats.1

            beside_is : Beside B (own_bench h.faces) (other_bench h.faces) ds (heard_and B 1 (count_in what - 1) (payload_came B))
            beside_is = subst (λ (y : Brings). Beside B (own_bench h.faces) (other_bench h.faces) ds (heard_and B 1 (count_in y - 1) (payload_came B))) is h.treats.2

            items_are : p.b.treated.items ≡ items_of what
            items_are = h.treats.1.items ∙ ap items_of is

          third_item : h.treats.0 ≡ ShowsKeys → item_of 0 p.b ≡ Some (Heard.Keys keys.b keys.a)
          third_item is = item_is 0 p.b (items_of ShowsKeys) h.faces.other.modes.mapping.0 (items_are ShowsKeys is)

          first_item : (octets : List ℕ) → h.treats.0 ≡ FirstPiece octets → item_of 0 p.b ≡ Some (Heard.Keys keys.b keys.a)
          first_item octets is = item_is 0 p.b (items_of (FirstPiece octets)) h.faces.other.modes.mapping.0 (items_are (FirstPiece octets) is)

          -- whether they were told
          third_stays : h.treats.0 ≡ ShowsKeys → item_stands (item_of 0 p.b) p.b ≡ false
          third_stays is = ap (λ (o : Option Heard). item_stands o p.b) (third_item is) ∙ ap not (copy_is ShowsKeys is).keys_told

          first_stands : (octets : List ℕ) → h.treats.0 ≡ FirstPiece octets → item_stands (item_of 0 p.b) p.b ≡ true
          first_stands octets is = ap (λ (o : Option Heard). item_stands o p.b) (first_item octets is) ∙ ap not (copy_is (FirstPiece octets) is).keys_told

          dss_stays : shows_keys h.treats.0 ≡ false → item_stands (item_of 0 p.b) p.b ≡ false
          dss_stays none = ap (λ (o : Option Heard). item_stands o p.b)
              (item_is 0 p.b (items_of h.treats.0) h.faces.other.modes.mapping.0 h.treats.1.items
              ∙ dss_first keys h.treats.1.sent.telling.next (window_told false h.treats.1.sent.window) h.treats.0 h.treats.1.kind none)

          third_passes : h.treats.0 ≡ ShowsKeys → Relation books (with_agenda ds (with_end B (item_passed B (item_of 0 p.b) p.b) p))
          third_passes is = subst (λ (o : Option Heard). Relation books (with_agenda ds (with_end B (item_passed B o p.b) p))) (sym (third_item is))
              (passes_third_b start plan k j s v t0 u0 going going_back a b books p k_is j_is ds h (copy_is ShowsKeys is) (beside_is ShowsKeys is))

          abbrev Answered : Type 0
          Answered =
              let q = with_agenda (d ∷ ds) p in let o = item_of 0 p.b in let ask = item_ask values B o q in
              Relation (after_ask ask books) (answered_item values B o (reply_of books ask) q)

          first_answered : (octets : List ℕ) → h.treats.0 ≡ FirstPiece octets → Answered
          first_answered octets is = subst (λ (o : Option Heard). let q = with_agenda (d ∷ ds) p in let ask = item_ask values B o q in
              Relation (after_ask ask books) (answered_item values B o (reply_of books ask) q)) (sym (first_item octets is))
              (first_keys_told start plan k j s v t0 u0 going going_back a b books p k_is j_is ds h octets (copy_is (FirstPiece octets) is) (beside_is (FirstPiece octets) is))

        pub passes_first_b : (ds : List Duty) → item_stands (item_of 0 p.b) p.b ≡ false → Relation books (with_agenda (d ∷ ds) p)
            → Relation books (with_agenda ds (with_end B (item_passed B (item_of 0 p.b) p.b) p))
        passes_first_b ds off h = by (shows_keys h.treats.0) refl
          where
            by : (y : Bool) → shows_keys h.treats.0 ≡ y → Relation books (with_agenda ds (with_end B (item_passed B (item_of 0 p.b) p.b) p))
            by false none = passes_first_dss_b start plan k j s v t0 u0 going going_back a b books p k_is j_is ds h none
            by true shown = ⊎_elim (λ third. third_passes ds h third) (λ first. absurd (both_ways _ off (first_stands ds h first.0 first.1))) (shown_by h.treats.0 shown)

        pub answers_first_b : (ds : List Duty) → item_stands (item_of 0 p.b) p.b ≡ true → (h : Relation books (with_agenda (d ∷ ds) p)) → Answered ds h
        answers_first_b ds on h = by (shows_keys h.treats.0) refl
          where
            by : (y : Bool) → shows_keys h.treats.0 ≡ y → Answered ds h
            by false none = absurd (both_ways _ (dss_stays ds h none) on)
            by true shown = ⊎_elim (λ third. absurd (both_ways _ (third_stays ds h third) on)) (λ first. first_answered ds h first.0 first.1) (shown_by h.treats.0 shown)
