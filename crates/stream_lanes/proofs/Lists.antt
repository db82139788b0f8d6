-- The words on lists under map, append, put, take and drop.
use Rattle.stream_lanes.proofs.Words.{◌≡◌, refl, sym, ◌∙◌, ap, subst, ℕ, zero, suc, ◌+◌, ◌-◌, ◌<◌, ◌≤◌, ⊎_elim, List, [], ◌∷◌, ◌++◌, length, take, drop, map}
use Rattle.stream_lanes.proofs.Words.{replicate, Option, Some, None, arith, ◌⊎◌, inl, inr, set, cases_lt, cases_eq, slice_get, IfSome, slice_get_within}
use Rattle.stream_lanes.proofs.Words.{slice_get-append_left, slice_get-append_right, slice_get-drop, Every, From, Cells, Has}

-- an item of two lists together is one of the first or of the second
pub in_append : {X : Type 0} (xs ys : List X) (i : ℕ) (x : X) → slice_get (xs ++ ys) i ≡ Some x
    → (slice_get xs i ≡ Some x) ⊎ ((length xs ≤ i) × (slice_get ys (i - length xs) ≡ Some x))
in_append xs ys i x e = ⊎_elim
    (λ below. inl (sym (slice_get-append_left xs ys i below) ∙ e))
    (λ above. inr (above, sym (slice_get-append_right xs ys (i - length xs) i (omega (arith, above))) ∙ e))
    (cases_lt i (length xs))

-- an item of a list of one
pub in_one : {X : Type 0} (y x : X) (i : ℕ) → slice_get (y ∷ []) i ≡ Some x → (i ≡ 0) × (y ≡ x)
in_one y x zero e = (refl, cc)
in_one y x (suc i) e = cc

-- an item of a list stays in a longer one
pub in_more : {X : Type 0} (xs ys : List X) (i : ℕ) (x : X) → slice_get xs i ≡ Some x → slice_get (xs ++ ys) i ≡ Some x
in_more xs ys i x e = slice_get-append_left xs ys i (slice_get_within xs i x e) ∙ e

-- an item of what is left
pub in_drop : {X : Type 0} (n : ℕ) (xs : List X) (i k : ℕ) (x : X) → k ≡ n + i → slice_get (drop n xs) i ≡ Some x → slice_get xs k ≡ Some x
in_drop n xs i k x k_is e = sym (slice_get-drop n xs i k k_is) ∙ e

-- an item of a first part
pub in_take : {X : Type 0} (n : ℕ) (xs : List X) (i : ℕ) (x : X) → slice_get (take n xs) i ≡ Some x → (slice_get xs i ≡ Some x) × (i < n)
in_take zero xs i x e = cc
in_take (suc n) [] i x e = cc
in_take (suc n) (y ∷ xs) zero x e = (e, omega arith)
in_take (suc n) (y ∷ xs) (suc i) x e = let rest = in_take n xs i x e in (rest.0, omega (arith, rest.1))

-- what is written at a place is there, and the others stay
pub in_set : {X : Type 0} (xs : List X) (i : ℕ) (y : X) (k : ℕ) (x : X) → slice_get (set xs i y) k ≡ Some x
    → ((k ≡ i) × (y ≡ x)) ⊎ ((k ≡ i → ⊥) × (slice_get xs k ≡ Some x))
in_set [] i y k x e = cc
in_set (z ∷ xs) zero y zero x e = inl (refl, cc)
in_set (z ∷ xs) zero y (suc k) x e = inr ((λ same. omega (arith, same)), e)
in_set (z ∷ xs) (suc i) y zero x e = inr ((λ same. omega (arith, same)), e)
in_set (z ∷ xs) (suc i) y (suc k) x e = ⊎_elim
    (λ here. inl ((let same : k ≡ i = here.0 in omega (arith, same)), here.1))
    (λ other. inr ((λ same. other.0 (omega (arith, same))), other.1))
    (in_set xs i y k x e)

pub set_same : {X : Type 0} (xs : List X) (i : ℕ) (y z : X) → slice_get xs i ≡ Some z → slice_get (set xs i y) i ≡ Some y
set_same [] i y z e = cc
set_same (x ∷ xs) zero y z e = refl
set_same (x ∷ xs) (suc i) y z e = set_same xs i y z e

pub set_other : {X : Type 0} (xs : List X) (i : ℕ) (y : X) (k : ℕ) → (k ≡ i → ⊥) → slice_get (set xs i y) k ≡ slice_get xs k
set_other [] i y k apart = refl
set_other (x ∷ xs) zero y zero apart = absurd (apart refl)
set_other (x ∷ xs) zero y (suc k) apart = refl
set_other (x ∷ xs) (suc i) y zero apart = refl
set_other (x ∷ xs) (suc i) y (suc k) apart = set_other xs i y k (λ same. apart (omega (arith, same)))

-- an item of an image
pub in_map : {X Y : Type 0} (f : X → Y) (xs : List X) (i : ℕ) (y : Y) → slice_get (map f xs) i ≡ Some y
    → (x : X) × (slice_get xs i ≡ Some x) × (f x ≡ y)
in_map f [] i y e = cc
in_map f (x ∷ xs) zero y e = (x, refl, cc)
in_map f (x ∷ xs) (suc i) y e = in_map f xs i y e

pub in_replicate : {X : Type 0} (n : ℕ) (y : X) (i : ℕ) (x : X) → slice_get (replicate n y) i ≡ Some x → y ≡ x
in_replicate zero y i x e = cc
in_replicate (suc n) y zero x e = cc
in_replicate (suc n) y (suc i) x e = in_replicate n y i x e

-- a place within a list has an item
pub item_at : {X : Type 0} (xs : List X) (i : ℕ) → i < length xs → (x : X) × (slice_get xs i ≡ Some x)
item_at [] i within = absurd (omega (arith, within))
item_at (x ∷ xs) zero within = (x, refl)
item_at (x ∷ xs) (suc i) within = item_at xs i (omega (arith, within))

module _ {X : Type 0} where
  pub Every-nil : (P : X → Type 0) → Every P []
  Every-nil P = record { each = λ i x e. cc }

  pub Every-map : {P Q : X → Type 0} {xs : List X} → ((x : X) → P x → Q x) → Every P xs → Every Q xs
  Every-map f h = record { each = λ i x e. f x (h.each i x e) }

  pub Every-append : {P : X → Type 0} {xs ys : List X} → Every P xs → Every P ys → Every P (xs ++ ys)
  Every-append {P} {xs} {ys} h k = record { each = λ i x e. ⊎_elim (λ left. h.each i x left) (λ right. k.each (i - length xs) x right.1) (in_append xs ys i x e) }

  pub Every-push : {P : X → Type 0} {xs : List X} (y : X) → Every P xs → P y → Every P (xs ++ y ∷ [])
  Every-push {P} {xs} y h k = Every-append h (record { each = λ i x e. let one = in_one y x i e in subst P one.1 k })

  pub From-map : {P Q : ℕ → X → Type 0} {first : ℕ} {xs : List X} → ((n : ℕ) (x : X) → P n x → Q n x) → From P first xs → From Q first xs
  From-map f h = record { each = λ i n x n_is e. f n x (h.each i n x n_is e) }

  pub From-append : {P : ℕ → X → Type 0} {first : ℕ} {xs ys : List X} → From P first xs → From P (first + length xs) ys → From P first (xs ++ ys)
  From-append {P} {first} {xs} {ys} h k = record {
    each = λ i n x n_is e. ⊎_elim (λ left. h.each i n x n_is left)
        (λ right. let above : length xs ≤ i = right.0 in k.each (i - length xs) n x (omega (arith, above, n_is)) right.1) (in_append xs ys i x e);
  }

  pub From-put : {P Q : ℕ → X → Type 0} {xs : List X} (i : ℕ) (y : X) → ((n : ℕ) (x : X) → (n ≡ i → ⊥) → P n x → Q n x) → Q i y
      → From P 0 xs → From Q 0 (set xs i y)
  From-put {P} {Q} {xs} i y f here h = record {
    each = λ k n x n_is e. ⊎_elim
        (λ same. let k_is : k ≡ i = same.0 in let at : i ≡ n = omega (arith, k_is, n_is) in subst (Q n) same.1 (subst (λ m. Q m y) at here))
        (λ other. f n x (λ at. other.0 (omega (arith, at, n_is))) (h.each k n x n_is other.1))
        (in_set xs i y k x e);
  }

  pub Cells-map : {P Q : ℕ → X → Type 0} {first : ℕ} {xs : List (Option X)} → ((n : ℕ) (x : X) → P n x → Q n x) → Cells P first xs → Cells Q first xs
  Cells-map f h = record { each = λ i n x n_is e. f n x (h.each i n x n_is e) }

  pub Cells-drop : {P : ℕ → X → Type 0} {first : ℕ} {xs : List (Option X)} (count : ℕ) → Cells P first xs → Cells P (first + count) (drop count xs)
  Cells-drop {P} {first} {xs} count h = record { each = λ i n x n_is e. h.each (count + i) n x (omega (arith, n_is)) (in_drop count xs i (count + i) (Some x) refl e) }

  pub Has-map : {P Q : X → Type 0} {xs : List X} → ((x : X) → P x → Q x) → Has P xs → Has Q xs
  Has-map f h = record { at = h.at; item = h.item; there = h.there; holds = f h.item h.holds }

  pub Has-more : {P : X → Type 0} {xs : List X} (ys : List X) → Has P xs → Has P (xs ++ ys)
  Has-more {P} {xs} ys h = record { at = h.at; item = h.item; there = in_more xs ys h.at h.item h.there; holds = h.holds }

  -- a changed item still has what it had
  pub Has-put : {P : X → Type 0} {xs : List X} (i : ℕ) (x y : X) → slice_get xs i ≡ Some x → (P x → P y) → Has P xs → Has P (set xs i y)
  Has-put {P} {xs} i x y there f h = ⊎_elim
      (λ same. let old : Some x ≡ Some h.item = sym there ∙ ap (slice_get xs) (sym same) ∙ h.there in
      record { at = i; item = y; there = set_same xs i y x there; holds = f (subst P (sym (let s : x ≡ h.item = cc in s)) h.holds) })
      (λ apart. record { at = h.at; item = h.item; there = set_other xs i y h.at apart ∙ h.there; holds = h.holds })
      (cases_eq h.at i)

  pub IfSome-map : {P Q : X → Type 0} (o : Option X) → ((x : X) → P x → Q x) → IfSome o P → IfSome o Q
  IfSome-map None f h = h
  IfSome-map (Some x) f h = f x h
