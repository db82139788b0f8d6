-- What a copy that is taken tells, as the subflow compares it with the one before.
use Rattle.clean_finish.proofs.Words.{◌≡◌, refl, sym, subst, ap, ◌∙◌, ℕ, ◌+◌, ◌-◌, ◌≤◌, nat_lt, Bool, true, false, not, ◌&&◌, if◌then◌else◌, ⊎_elim, Option}
use Rattle.clean_finish.proofs.Words.{None, List, [], ◌∷◌, ◌++◌, length, arith, Some, ◌==◌, ◌^◌, IfSome, both_ways, cases_lt, and_parts, eq-eqb, eqb-true, Side}
use Rattle.clean_finish.proofs.Words.{A, B, Duplicate, is_same_place, is_same_told, Told, EndState, has_records, is_duplicate, is_empty, SubflowCopy, meant}
use Rattle.clean_finish.proofs.Words.{window_told, place_in_first, Heard, Profile, is_mapping, items_of, Telling, Sender, is_same, Sent, Keys, Brings}
use Rattle.clean_finish.proofs.Words.{shows_keys, is_subflow_end, octets_of, TellsAs, said, dss_from, is_solid, OpensSubflow, ShowsKeys, FirstPiece, Piece}
use Rattle.clean_finish.proofs.Words.{Acknowledges, EndsStream, EndsSubflow}
use Rattle.clean_finish.specs.Segments.{is_opening}
use Rattle.clean_finish.proofs.CopyHeeded.{Repeated}

-- ---- what is empty and no FIN isn't solid

pub empty_nil : (octets : List ℕ) → is_empty octets ≡ true → octets ≡ []
empty_nil [] e = refl
empty_nil (octet ∷ octets) e = absurd (both_ways _ refl e)

not_solid : (b : Brings) → is_empty (octets_of b) ≡ true → not (is_subflow_end b) ≡ true → is_solid b ≡ false
not_solid (FirstPiece octets) e f = rw (empty_nil octets e) refl
not_solid (Piece octets) e f = rw (empty_nil octets e) refl
not_solid EndsSubflow e f = absurd (both_ways false refl f)
not_solid _ e f = refl

-- ---- what it tells, where it has a Data ACK

-- at this place, with this window
abbrev pub TellsPlace : Side → Option ℕ → ℕ → Telling → Type 0
TellsPlace from place window t =
    IfSome place (λ n. (t.next ≡ n) × (t.edge ≡ n + window) × (1 ≤ t.seen) × (t.dss ≡ dss_from from))

tells_data : (from s : Side) (window : ℕ) (t : Telling) (items : List Heard) → (t.edge ≡ t.next + window) × (1 ≤ t.seen) × (t.dss ≡ dss_from from)
    → place_in_first items ≡ Some t.next → TellsPlace from (place_in_first items) window t
tells_data from s window t items is place = subst (λ (o : Option ℕ). TellsPlace from o window t) (sym place) (refl, is.0, is.1, is.2)

tells_none : (from : Side) (window : ℕ) (t : Telling) (items : List Heard) → place_in_first items ≡ None → TellsPlace from (place_in_first items) window t
tells_none from window t items place = subst (λ (o : Option ℕ). TellsPlace from o window t) (sym place) tt

module _ (c : Profile) (keys : Keys) (s : Side) where
  abbrev items_by : Side → Sent → List Heard
  items_by q x = items_of false q (meant (said c keys s x))

  place_keys : (q : Side) (x : Sent) → place_in_first (items_by q (record x { brings = ShowsKeys })) ≡ None
  place_keys A x = refl
  place_keys B x = refl

  place_first : (q : Side) (x : Sent) (octets : List ℕ) → place_in_first (items_by q (record x { brings = FirstPiece octets })) ≡ None
  place_first A x octets = refl
  place_first B x octets = by (nat_lt 0 (length octets)) (is_mapping 0 1 (length octets))
    where
      by : (some b : Bool) → place_in_first (Heard.Keys keys.b keys.a ∷ ((if some then (if b then Heard.Mapping false ∷ [] else []) else []) ++ [])) ≡ None
      by true true = refl
      by true false = refl
      by false b = refl

  module _ (x : Sent) (small : nat_lt x.telling.next (2 ^ 62) ≡ true) where
    place_piece : (q : Side) (octets : List ℕ) → place_in_first (items_by q (record x { brings = Piece octets })) ≡ Some x.telling.next
    place_piece q octets = rw small refl

    place_ack : (q : Side) → place_in_first (items_by q (record x { brings = Acknowledges })) ≡ Some x.telling.next
    place_ack q = rw small refl

    place_end : (q : Side) (place : ℕ) → place_in_first (items_by q (record x { brings = EndsStream place })) ≡ Some x.telling.next
    place_end q place = rw small refl

    place_fin : (q : Side) → place_in_first (items_by q (record x { brings = EndsSubflow })) ≡ Some x.telling.next
    place_fin q = rw small refl

    -- a copy that is no SYN tells what its lane says
    pub tells_by : (q : Side) (least : ℕ) (b : Brings) → is_opening b ≡ false → TellsAs least s x.window x.telling b
        → TellsPlace s (place_in_first (items_by q (record x { brings = b }))) (window_told false x.window) x.telling
    tells_by q least OpensSubflow e is = absurd (both_ways _ e refl)
    tells_by q least ShowsKeys e is = tells_none s (window_told false x.window) x.telling (items_by q (record x { brings = ShowsKeys })) (place_keys q x)
    tells_by q least (FirstPiece octets) e is =
        tells_none s (window_told false x.window) x.telling (items_by q (record x { brings = FirstPiece octets })) (place_first q x octets)
    tells_by q least (Piece octets) e is =
        tells_data s q (window_told false x.window) x.telling (items_by q (record x { brings = Piece octets })) is (place_piece q octets)
    tells_by q least Acknowledges e is =
        tells_data s q (window_told false x.window) x.telling (items_by q (record x { brings = Acknowledges })) is (place_ack q)
    tells_by q least (EndsStream place) e is =
        tells_data s q (window_told false x.window) x.telling (items_by q (record x { brings = EndsStream place })) is (place_end q place)
    tells_by q least EndsSubflow e is =
        tells_data s q (window_told false x.window) x.telling (items_by q (record x { brings = EndsSubflow })) is (place_fin q)

    no_none : (o : Option ℕ) (n : ℕ) → o ≡ Some n → o ≡ None → ⊥
    no_none o n is none = cc

    pub placed : (q : Side) (b : Brings) → is_opening b ≡ false → shows_keys b ≡ false
        → place_in_first (items_by q (record x { brings = b })) ≡ None → ⊥
    placed q OpensSubflow e f none = absurd (both_ways _ e refl)
    placed q ShowsKeys e f none = absurd (both_ways _ f refl)
    placed q (FirstPiece octets) e f none = absurd (both_ways _ f refl)
    placed q (Piece octets) e f none = no_none _ x.telling.next (place_piece q octets) none
    placed q Acknowledges e f none = no_none _ x.telling.next (place_ack q) none
    placed q (EndsStream place) e f none = no_none _ x.telling.next (place_end q place) none
    placed q EndsSubflow e f none = no_none _ x.telling.next (place_fin q) none

-- ---- the same again

same_seen : {una edge : ℕ} (total a b : ℕ) → edge ≡ una → 1 ≤ a → 1 ≤ b → a ≤ 2 → b ≤ 2 → una ≤ 1 + total + (a - 1) → edge ≤ 1 + total + (b - 1)
    → (a ≡ 2 → total + 2 ≤ una) → (b ≡ 2 → total + 2 ≤ edge) → a ≡ b
same_seen total a b same some_a some_b few_a few_b most_a most_b end_a end_b = ⊎_elim
    (λ low. ⊎_elim (λ low_b. omega (arith, low, low_b, some_a, some_b))
    (λ two. absurd (omega (arith, low, same, most_a, end_b (omega (arith, two, few_b))))) (cases_lt b 2))
    (λ two. ⊎_elim (λ low_b. absurd (omega (arith, low_b, same, most_b, end_a (omega (arith, two, few_a)))))
    (λ two_b. omega (arith, two, two_b, few_a, few_b)) (cases_lt b 2))
    (cases_lt a 2)

same_by : (t u : Telling) → t.next ≡ u.next → t.edge ≡ u.edge → t.seen ≡ u.seen → t.dss ≡ u.dss → is_same t u ≡ true
same_by t u a b d e = rw (eq-eqb t.next u.next a, eq-eqb t.edge u.edge b, eq-eqb t.seen u.seen d, eq-eqb t.dss u.dss e) refl

same_places : (from : Side) (t u : Telling) (p q : Option ℕ) (w v : ℕ) → TellsPlace from p w t → TellsPlace from q v u → is_same_place p q ≡ true
    → w ≡ v → (q ≡ None → ⊥) → (1 ≤ t.seen → 1 ≤ u.seen → t.seen ≡ u.seen) → is_same t u ≡ true
same_places from t u None None w v is is_u same windows some seen = absurd (some refl)
same_places from t u None (Some m) w v is is_u same windows some seen = absurd (both_ways _ refl same)
same_places from t u (Some n) None w v is is_u same windows some seen = absurd (both_ways _ refl same)
same_places from t u (Some n) (Some m) w v is is_u same windows some seen =
    let one = eqb-true n m same in
    same_by t u (is.0 ∙ (one ∙ sym is_u.0)) (edges is.1 is_u.1 one windows) (seen is.2 is_u.2) (is.3 ∙ sym is_u.3)
  where
    edges : {a b : ℕ} → a ≡ n + w → b ≡ m + v → n ≡ m → w ≡ v → a ≡ b
    edges a b d e = omega (arith, a, b, d, e)

-- a duplicate for the subflow is one for the lane
pub repeats_lane : (out : Sender) (from : Side) (x : Sent) (row total una : ℕ) (told now : Told) (c : SubflowCopy) (s : EndState)
    → is_duplicate Duplicate now c s ≡ true → x.edge ≡ una → c.payload ≡ octets_of x.brings → c.fin ≡ is_subflow_end x.brings → s.congestion.told ≡ told
    → TellsPlace from told.place told.window out.heard → TellsPlace from now.place now.window x.telling → (now.place ≡ None → ⊥)
    → out.heard.seen ≤ 2 → x.telling.seen ≤ 2 → una ≤ 1 + total + (out.heard.seen - 1) → x.edge ≤ 1 + total + (x.telling.seen - 1)
    → (out.heard.seen ≡ 2 → total + 2 ≤ una) → (x.telling.seen ≡ 2 → total + 2 ≤ x.edge) → Repeated out x row
repeats_lane out from x row total una told now c s duplicate again payload fin was tells tells_now some few few_now most most_now end end_now =
    let parts = and_parts (is_empty c.payload) (not c.fin && (has_records s && is_same_told s.congestion.told now)) duplicate in
    let parts_fin = and_parts (not c.fin) (has_records s && is_same_told s.congestion.told now) parts.1 in
    let parts_told = and_parts (has_records s) (is_same_told s.congestion.told now) parts_fin.1 in
    let same = subst (λ (t : Told). is_same_told t now ≡ true) was parts_told.1 in
    let two = and_parts (is_same_place told.place now.place) (told.window == now.window) same in
    record {
      solid = not_solid x.brings (ap is_empty (sym payload) ∙ parts.0) (ap not (sym fin) ∙ parts_fin.0);
      same = same_places from out.heard x.telling told.place now.place told.window now.window tells tells_now two.0 (eqb-true told.window now.window two.1) some
          (λ a b. same_seen total out.heard.seen x.telling.seen again a b few few_now most most_now end end_now);
    }
