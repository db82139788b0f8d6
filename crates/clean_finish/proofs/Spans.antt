-- The spans of what was granted and isn't acknowledged.
use Rattle.clean_finish.proofs.Words.{◌≡◌, refl, sym, subst, ℕ, ◌+◌, ◌<◌, ◌≤◌, max, nat_lt, Bool, true, cond, ◌||◌, ◌⊎◌, inl, inr, List, [], ◌∷◌, ◌++◌, filter}
use Rattle.clean_finish.proofs.Words.{arith, cases_lt, lt-ltb, le-ltb, list_any, GrantedPiece, is_newly_heard, is_open, AreSpans}

up : {a b d : ℕ} → a ≤ b → b ≤ d → a ≤ d
up p q = omega (arith, p, q)

pub spans_to : (ps : List GrantedPiece) (from to low high : ℕ) → AreSpans from to ps → from ≤ low → high ≤ to → AreSpans low high ps
spans_to [] from to low high is less most = up most (up is less)
spans_to (p ∷ ps) from to low high is less most = (up is.0 less, spans_to ps p.to to p.to high is.1 (same p.to) most)
  where
    same : (x : ℕ) → x ≤ x
    same x = omega arith

-- where nothing waits
pub spans_for : (ps : List GrantedPiece) (acked granted waiting later : ℕ) → later ≡ granted → waiting ≡ 0 → AreSpans acked (granted + waiting) ps
    → AreSpans acked (later + 0) ps
spans_for ps acked granted waiting later same none is = spans_to ps acked (granted + waiting) acked (later + 0) is (omega arith) (omega (arith, same, none))

-- where what waited was sent
pub spans_moved : (ps : List GrantedPiece) (acked sum later : ℕ) → later ≡ sum → AreSpans acked sum ps → AreSpans acked (later + 0) ps
spans_moved ps acked sum later same is = spans_to ps acked sum acked (later + 0) is (omega arith) (omega (arith, same))

-- one more is granted
pub spans_more : (ps : List GrantedPiece) (from to : ℕ) (p : GrantedPiece) → p.from ≡ to → AreSpans from to ps → AreSpans from p.to (ps ++ p ∷ [])
spans_more [] from to p at is = (omega (arith, at, is), same p.to)
  where
    same : (x : ℕ) → x ≤ x
    same x = omega arith
spans_more (q ∷ ps) from to p at is = (is.0, spans_more ps q.to to p at is.1)

-- what is acknowledged is left out
pub spans_acked : (ps : List GrantedPiece) (from to next : ℕ) → AreSpans from to ps → AreSpans (max from next) to (filter (is_open next) ps)
spans_acked [] from to next is = omega (arith, is)
spans_acked (p ∷ ps) from to next is = by (spans_acked ps p.to to next is.1) (nat_lt next p.to) (cases_lt next p.to)
  where
    by : AreSpans (max p.to next) to (filter (is_open next) ps) → (b : Bool) → (next < p.to) ⊎ (p.to ≤ next) → AreSpans (max from next) to (cond (nat_lt next p.to) (p ∷ filter (is_open next) ps) (filter (is_open next) ps))
    by rest b (inl more) = subst (λ (x : Bool). AreSpans (max from next) to (cond x (p ∷ filter (is_open next) ps) (filter (is_open next) ps))) (sym (lt-ltb next p.to more))
        (high is.0, subst (λ (n : ℕ). AreSpans n to (filter (is_open next) ps)) (more_is more) rest)
      where
        high : {a f : ℕ} → a ≤ f → a ≤ max f next
        high less = omega (arith, less)

        more_is : {t : ℕ} → next < t → max t next ≡ t
        more_is less = omega (arith, less)
    by rest b (inr less) = subst (λ (x : Bool). AreSpans (max from next) to (cond x (p ∷ filter (is_open next) ps) (filter (is_open next) ps))) (sym (le-ltb next p.to less))
        (spans_to (filter (is_open next) ps) (max p.to next) to (max from next) to rest (high from less) (same to))
      where
        high : {t : ℕ} (f : ℕ) → t ≤ next → max t next ≤ max f next
        high f low = omega (arith, low)

        same : (x : ℕ) → x ≤ x
        same x = omega arith

-- what is acknowledged for the first time begins with the first of them
pub some_news : (ps : List GrantedPiece) (from to next : ℕ) → AreSpans from to ps → from < next → next ≤ to → list_any (is_newly_heard from next) ps ≡ true
some_news [] from to next is less most = absurd (omega (arith, is, less, most))
some_news (p ∷ ps) from to next is less most = subst (λ (x : Bool). (x || list_any (is_newly_heard from next) ps) ≡ true) (sym (lt-ltb (max p.from from) next (low is.0 less))) refl
  where
    low : {a f n : ℕ} → a ≤ f → f < n → max a f < n
    low a b = omega (arith, a, b)
