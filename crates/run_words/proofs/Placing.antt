-- When parts find their places, and which rows they make.
--
-- A lookup in rows is compared with the list of parts; what may stand once is proved there (`proofs/Placing.antt`), not
-- in the walk.
use Rattle.std.proofs.Common.{◌≡◌, ◌∙◌, ◌<◌, ◌≤◌, ℕ, zero, suc, Bool, true, false, cond, not, ◌&&◌, ◌||◌, refl, sym, ap, List, [], ◌∷◌, ◌++◌, Option, Some, None, true≢false, codes, arith, append_assoc, append-nil}
use Rattle.std.specs.Prelude.{slice_get}
use Rattle.std.specs.Str.{bytes_eq}
use Rattle.std.proofs.lemmas.Slice.Eq.{bytes_eq-Decides}
use Rattle.std.proofs.lemmas.Bool.{and_parts}
use Rattle.std.proofs.Math.Bool.{or-true}
use Rattle.clap.specs.Words.{Row, Text}
use Rattle.clap.specs.Walk.{has_row}
use Rattle.run_words.specs.Parts.{Word, Choice, mode_option, rounds_option, order_option, number_option, label, Part, option, name}
use Rattle.run_words.specs.Lines.{◌>>=◌, values_of, names_of, at_most_once}
use Rattle.run_words.proofs.Rules.{name_id, some≢none, taken}
use Rattle.run_words.proofs.Uses.{row, new, place_name, place, or_nothing}

-- the id of a position, empty where there is none
abbrev pub id_at : ℕ → Text
id_at position = Rattle.std.specs.Option.unwrap_or (name_id position) []

-- ---- ids differ

abbrev no_label : Text → Bool
no_label id = not (bytes_eq id (codes "mode")) && (not (bytes_eq id (codes "rounds")) && (not (bytes_eq id (codes "order")) && not (bytes_eq id (codes "number"))))

ids_are_no_labels : (position : ℕ) → no_label (id_at position) ≡ true
ids_are_no_labels zero = refl
ids_are_no_labels (suc zero) = refl
ids_are_no_labels (suc (suc zero)) = refl
ids_are_no_labels (suc (suc (suc zero))) = refl
ids_are_no_labels (suc (suc (suc (suc zero)))) = refl
ids_are_no_labels (suc (suc (suc (suc (suc zero))))) = refl
ids_are_no_labels (suc (suc (suc (suc (suc (suc n)))))) = refl

is_false : (b : Bool) → not b ≡ true → b ≡ false
is_false = elim [ true ↦ λ e. absurd (true≢false (sym e)) | false ↦ λ e. refl ]

pub id_differs : (position : ℕ) (choice : Choice) → bytes_eq (id_at position) (label choice) ≡ false
id_differs position mode_option = is_false _ (and_parts (not (bytes_eq (id_at position) (codes "mode"))) _ (ids_are_no_labels position)).0
id_differs position rounds_option =
    let first = and_parts (not (bytes_eq (id_at position) (codes "mode"))) _ (ids_are_no_labels position) in
    is_false _ (and_parts (not (bytes_eq (id_at position) (codes "rounds"))) _ first.1).0
id_differs position order_option =
    let first = and_parts (not (bytes_eq (id_at position) (codes "mode"))) _ (ids_are_no_labels position) in
    let second = and_parts (not (bytes_eq (id_at position) (codes "rounds"))) _ first.1 in
    is_false _ (and_parts (not (bytes_eq (id_at position) (codes "order"))) _ second.1).0
id_differs position number_option =
    let first = and_parts (not (bytes_eq (id_at position) (codes "mode"))) _ (ids_are_no_labels position) in
    let second = and_parts (not (bytes_eq (id_at position) (codes "rounds"))) _ first.1 in
    is_false _ (and_parts (not (bytes_eq (id_at position) (codes "order"))) _ second.1).1

same_bytes : (xs ys : Text) → bytes_eq xs ys ≡ true → bytes_eq ys xs ≡ true
same_bytes xs ys e = (bytes_eq-Decides ys xs).1 (sym ((bytes_eq-Decides xs ys).0 e))

other_way : (xs ys : Text) → bytes_eq xs ys ≡ false → bytes_eq ys xs ≡ false
other_way xs ys e = (elim (bytes_eq ys xs) as (λ b. bytes_eq ys xs ≡ b → b ≡ false)
    [ true ↦ λ h. absurd (true≢false (sym (same_bytes ys xs h) ∙ e)) | false ↦ λ h. refl ]) refl

pub label_differs : (choice : Choice) (position : ℕ) → bytes_eq (label choice) (id_at position) ≡ false
label_differs choice position = other_way (id_at position) (label choice) (id_differs position choice)

-- the position of an id
abbrev position_of : Text → ℕ
position_of id = cond (bytes_eq id (codes "script")) 1 (cond (bytes_eq id (codes "file_a")) 2 (cond (bytes_eq id (codes "file_b")) 3
    (cond (bytes_eq id (codes "read_by_b")) 4 (cond (bytes_eq id (codes "read_by_a")) 5 0))))

position_again : (position : ℕ) (id : Text) → name_id position ≡ Some id → position_of (id_at position) ≡ position
position_again zero id e = absurd (some≢none id e)
position_again (suc zero) id e = refl
position_again (suc (suc zero)) id e = refl
position_again (suc (suc (suc zero))) id e = refl
position_again (suc (suc (suc (suc zero)))) id e = refl
position_again (suc (suc (suc (suc (suc zero))))) id e = refl
position_again (suc (suc (suc (suc (suc (suc n)))))) id e = absurd (some≢none id e)

-- another position has another id
pub ids_differ : (p q : ℕ) (id : Text) → name_id p ≡ Some id → p < q → bytes_eq (id_at p) (id_at q) ≡ false
ids_differ p q id known lt = (elim (bytes_eq (id_at p) (id_at q)) as (λ b. bytes_eq (id_at p) (id_at q) ≡ b → b ≡ false)
    [ true ↦ λ e. absurd (other (name_id q) refl ((bytes_eq-Decides (id_at p) (id_at q)).0 e)) | false ↦ λ e. refl ]) refl
  where
    other : (o : Option Text) → name_id q ≡ o → id_at p ≡ id_at q → ⊥
    other (Some j) e same =
        let equal : p ≡ q = sym (position_again p id known) ∙ ap position_of same ∙ position_again q j e in
        absurd (omega arith)
    other None e same =
        let nowhere : position_of (id_at q) ≡ 0 = ap (λ o. position_of (Rattle.std.specs.Option.unwrap_or o [])) e in
        let first : p ≡ 0 = sym (position_again p id known) ∙ ap position_of same ∙ nowhere in
        some≢none id (sym (ap name_id first) ∙ known)

-- ---- a row more

pub has_row-append : (id : Text) (rows : List Row) (r : Row) → has_row id (rows ++ r ∷ []) ≡ (has_row id rows || bytes_eq r.id id)
has_row-append id [] r = or_nothing (bytes_eq r.id id)
has_row-append id (x ∷ rows) r =
    (elim (bytes_eq x.id id) as (λ b. has_row id (rows ++ r ∷ []) ≡ (has_row id rows || bytes_eq r.id id) → (b || has_row id (rows ++ r ∷ [])) ≡ (b || has_row id rows || bytes_eq r.id id))
    [ true ↦ λ e. refl | false ↦ λ e. e ]) (has_row-append id rows r)

-- what a place that was found tells
pub new_found : (id v : Text) (rows : List Row) (f : List Row → Option (List Row)) (found : List Row) → (new id v rows >>= f) ≡ Some found
    → (has_row id rows ≡ false) × (f (rows ++ row id v ∷ []) ≡ Some found)
new_found id v rows f found =
    (elim (has_row id rows) as (λ b. has_row id rows ≡ b → (cond b None (Some (rows ++ row id v ∷ [])) >>= f) ≡ Some found → (has_row id rows ≡ false) × (f (rows ++ row id v ∷ []) ≡ Some found))
    [ true ↦ λ e h. absurd (some≢none found h) | false ↦ λ e h. (e, h) ]) refl

pub name_found : (o : Option Text) (v : Text) (rows : List Row) (f : List Row → Option (List Row)) (found : List Row) → place_name o v rows f ≡ Some found
    → (id : Text) × ((o ≡ Some id) × (has_row id rows ≡ false) × (f (rows ++ row id v ∷ []) ≡ Some found))
name_found None v rows f found h = absurd (some≢none found h)
name_found (Some id) v rows f found h = let p = new_found id v rows f found h in (id, (refl, p.0, p.1))

pub id_at_is : (position : ℕ) (id : Text) → name_id position ≡ Some id → id_at position ≡ id
id_at_is position id e = ap (λ o. Rattle.std.specs.Option.unwrap_or o []) e

-- ---- where each part has its place

-- the rows of parts, of which the next name stands at this position
abbrev pub rows_for : ℕ → List Part → List Row
rows_for position [] = []
rows_for position (option choice v ∷ parts) = row (label choice) v ∷ rows_for position parts
rows_for position (name v ∷ parts) = row (id_at position) v ∷ rows_for (suc position) parts

pub placed_rows : (position : ℕ) (rows : List Row) (parts : List Part) (found : List Row) → place position rows parts ≡ Some found → found ≡ rows ++ rows_for position parts
unfolding place
placed_rows position rows [] found e = sym (taken e) ∙ sym (append-nil rows)
placed_rows position rows (option choice v ∷ parts) found e =
    let p = new_found (label choice) v rows (λ r. place position r parts) found e in
    placed_rows position (rows ++ row (label choice) v ∷ []) parts found p.1 ∙ append_assoc rows (row (label choice) v ∷ []) (rows_for position parts)
placed_rows position rows (name v ∷ parts) found e =
    let p = name_found (name_id position) v rows (λ r. place (suc position) r parts) found e in
    placed_rows (suc position) (rows ++ row p.0 v ∷ []) parts found p.1.2 ∙ append_assoc rows (row p.0 v ∷ []) (rows_for (suc position) parts)
    ∙ ap (λ id. rows ++ row id v ∷ rows_for (suc position) parts) (sym (id_at_is position p.0 p.1.0))

-- each name has a position
abbrev pub Fits : ℕ → List Word → Type 0
Fits position [] = Unit
Fits position (word ∷ words) = ((id : Text) × (name_id position ≡ Some id)) × Fits (suc position) words

pub placed_fits : (position : ℕ) (rows : List Row) (parts : List Part) (found : List Row) → place position rows parts ≡ Some found → Fits position (names_of parts)
unfolding place
placed_fits position rows [] found e = tt
placed_fits position rows (option choice v ∷ parts) found e =
    let p = new_found (label choice) v rows (λ r. place position r parts) found e in
    placed_fits position (rows ++ row (label choice) v ∷ []) parts found p.1
placed_fits position rows (name v ∷ parts) found e =
    let p = name_found (name_id position) v rows (λ r. place (suc position) r parts) found e in
    ((p.0, p.1.0), placed_fits (suc position) (rows ++ row p.0 v ∷ []) parts found p.1.2)

-- a label that has a row stands no more
still_there : (id : Text) (rows : List Row) (r : Row) → has_row id rows ≡ true → has_row id (rows ++ r ∷ []) ≡ true
still_there id rows r e = has_row-append id rows r ∙ ap (λ b. b || bytes_eq r.id id) e

pub placed_no_more : (choice : Choice) (position : ℕ) (rows : List Row) (parts : List Part) (found : List Row) → place position rows parts ≡ Some found
    → has_row (label choice) rows ≡ true → values_of choice parts ≡ []
unfolding place
placed_no_more choice position rows [] found e h = refl
placed_no_more choice position rows (option other v ∷ parts) found e h =
    let p = new_found (label other) v rows (λ r. place position r parts) found e in
    go (bytes_eq (label other) (label choice)) refl p.0
    (placed_no_more choice position (rows ++ row (label other) v ∷ []) parts found p.1 (still_there (label choice) rows (row (label other) v) h))
  where
    go : (b : Bool) → bytes_eq (label other) (label choice) ≡ b → has_row (label other) rows ≡ false → values_of choice parts ≡ [] → cond b (v ∷ values_of choice parts) (values_of choice parts) ≡ []
    go true same gone later = absurd (true≢false (sym h ∙ ap (λ id. has_row id rows) (sym ((bytes_eq-Decides (label other) (label choice)).0 same)) ∙ gone))
    go false same gone later = later
placed_no_more choice position rows (name v ∷ parts) found e h =
    let p = name_found (name_id position) v rows (λ r. place (suc position) r parts) found e in
    placed_no_more choice (suc position) (rows ++ row p.0 v ∷ []) parts found p.1.2 (still_there (label choice) rows (row p.0 v) h)

pub placed_once : (choice : Choice) (position : ℕ) (rows : List Row) (parts : List Part) (found : List Row) → place position rows parts ≡ Some found
    → at_most_once (values_of choice parts) ≡ Some (slice_get (values_of choice parts) 0)
unfolding place
placed_once choice position rows [] found e = refl
placed_once choice position rows (option other v ∷ parts) found e =
    let p = new_found (label other) v rows (λ r. place position r parts) found e in
    go (bytes_eq (label other) (label choice)) refl
    (placed_no_more choice position (rows ++ row (label other) v ∷ []) parts found p.1)
    (placed_once choice position (rows ++ row (label other) v ∷ []) parts found p.1)
  where
    go : (b : Bool) → bytes_eq (label other) (label choice) ≡ b → (has_row (label choice) (rows ++ row (label other) v ∷ []) ≡ true → values_of choice parts ≡ [])
        → at_most_once (values_of choice parts) ≡ Some (slice_get (values_of choice parts) 0)
        → at_most_once (cond b (v ∷ values_of choice parts) (values_of choice parts)) ≡ Some (slice_get (cond b (v ∷ values_of choice parts) (values_of choice parts)) 0)
    go true same gone later =
        let none = gone (has_row-append (label choice) rows (row (label other) v) ∙ ap (λ b. has_row (label choice) rows || b) same ∙ or-true (has_row (label choice) rows)) in
        ap (λ vs. at_most_once (v ∷ vs)) none
    go false same gone later = later
placed_once choice position rows (name v ∷ parts) found e =
    let p = name_found (name_id position) v rows (λ r. place (suc position) r parts) found e in
    placed_once choice (suc position) (rows ++ row p.0 v ∷ []) parts found p.1.2

-- ---- parts in form find their places

-- no name from this position on has a row
abbrev pub Fresh : ℕ → List Row → Type 0
Fresh position rows = (q : ℕ) → position ≤ q → has_row (id_at q) rows ≡ false

-- what stands at most once
abbrev pub Once : List Part → Type 0
Once parts = (choice : Choice) → (o : Option Word) × (at_most_once (values_of choice parts) ≡ Some o)

abbrev pub NoMore : List Row → List Part → Type 0
NoMore rows parts = (choice : Choice) → has_row (label choice) rows ≡ true → values_of choice parts ≡ []

one_alone : (v : Word) (vs : List Word) (o : Option Word) → at_most_once (v ∷ vs) ≡ Some o → vs ≡ []
one_alone v [] o e = refl
one_alone v (x ∷ xs) o e = absurd (some≢none o e)

abbrev has_any : List Word → Bool
has_any [] = false
has_any (x ∷ xs) = true

cons_not_nil : (v : Word) (vs : List Word) → (v ∷ vs) ≡ [] → ⊥
cons_not_nil v vs e = true≢false (ap has_any e)

-- the values of an option, after one of its kind and after another
values_same : (other choice : Choice) (v : Word) (parts : List Part) → bytes_eq (label other) (label choice) ≡ true → values_of choice (option other v ∷ parts) ≡ v ∷ values_of choice parts
values_same other choice v parts e = rw e refl

values_other : (other choice : Choice) (v : Word) (parts : List Part) → bytes_eq (label other) (label choice) ≡ false → values_of choice (option other v ∷ parts) ≡ values_of choice parts
values_other other choice v parts e = rw e refl

module _ (other : Choice) (v : Word) (parts : List Part) (rows : List Row) (once : Once (option other v ∷ parts)) (no_more : NoMore rows (option other v ∷ parts)) where
  abbrev with_row : List Row
  with_row = rows ++ row (label other) v ∷ []

  alone : (choice : Choice) → bytes_eq (label other) (label choice) ≡ true → values_of choice parts ≡ []
  alone choice same =
      let p = once choice in
      one_alone v (values_of choice parts) p.0 (ap at_most_once (sym (values_same other choice v parts same)) ∙ p.1)

  pub first_time : has_row (label other) rows ≡ false
  first_time = (elim (has_row (label other) rows) as (λ b. has_row (label other) rows ≡ b → b ≡ false) [
    | true ↦ λ e. let same = (bytes_eq-Decides (label other) (label other)).1 refl in absurd (cons_not_nil v (values_of other parts) (sym (values_same other other v parts same) ∙ no_more other e))
    | false ↦ λ e. refl
  ]) refl

  pub once_behind : Once parts
  once_behind choice = (elim (bytes_eq (label other) (label choice)) as (λ b. bytes_eq (label other) (label choice) ≡ b → (o : Option Word) × (at_most_once (values_of choice parts) ≡ Some o))
      [ true ↦ λ same. (None, ap at_most_once (alone choice same)) | false ↦ λ same. let p = once choice in (p.0, ap at_most_once (sym (values_other other choice v parts same)) ∙ p.1) ]) refl

  pub no_more_behind : NoMore with_row parts
  no_more_behind choice there = go (bytes_eq (label other) (label choice)) refl
    where
      go : (b : Bool) → bytes_eq (label other) (label choice) ≡ b → values_of choice parts ≡ []
      go true same = alone choice same
      go false same =
          let before : has_row (label choice) rows ≡ true = sym (or_nothing (has_row (label choice) rows)) ∙ ap (λ b. has_row (label choice) rows || b) (sym same)
          ∙ sym (has_row-append (label choice) rows (row (label other) v)) ∙ there in
          sym (values_other other choice v parts same) ∙ no_more choice before

pub fresh_option : (position : ℕ) (rows : List Row) (choice : Choice) (v : Word) → Fresh position rows → Fresh position (rows ++ row (label choice) v ∷ [])
fresh_option position rows choice v fresh q le =
    has_row-append (id_at q) rows (row (label choice) v) ∙ ap (λ b. b || bytes_eq (label choice) (id_at q)) (fresh q le) ∙ label_differs choice q

pub fresh_name : (position : ℕ) (rows : List Row) (id : Text) (v : Word) → name_id position ≡ Some id → Fresh position rows → Fresh (suc position) (rows ++ row id v ∷ [])
fresh_name position rows id v known fresh q le =
    let same = id_at_is position id known in
    has_row-append (id_at q) rows (row id v) ∙ ap (λ b. b || bytes_eq id (id_at q)) (fresh q (omega arith))
    ∙ ap (λ i. bytes_eq i (id_at q)) (sym same) ∙ ids_differ position q id known (omega arith)

no_more_name : (position : ℕ) (rows : List Row) (id : Text) (v : Word) (parts : List Part) → name_id position ≡ Some id → NoMore rows parts → NoMore (rows ++ row id v ∷ []) parts
no_more_name position rows id v parts known no_more choice there =
    let apart : bytes_eq id (label choice) ≡ false = ap (λ i. bytes_eq i (label choice)) (sym (id_at_is position id known)) ∙ id_differs position choice in
    no_more choice (sym (or_nothing (has_row (label choice) rows)) ∙ ap (λ b. has_row (label choice) rows || b) (sym apart) ∙ sym (has_row-append (label choice) rows (row id v)) ∙ there)

new_is : (id v : Text) (rows : List Row) (f : List Row → Option (List Row)) → has_row id rows ≡ false → (new id v rows >>= f) ≡ f (rows ++ row id v ∷ [])
new_is id v rows f e = rw e refl

pub places : (position : ℕ) (rows : List Row) (parts : List Part) → NoMore rows parts → Once parts → Fits position (names_of parts) → Fresh position rows
    → (found : List Row) × (place position rows parts ≡ Some found)
unfolding place
places position rows [] no_more once fits fresh = (rows, refl)
places position rows (option choice v ∷ parts) no_more once fits fresh =
    let later = places position (rows ++ row (label choice) v ∷ []) parts (no_more_behind choice v parts rows once no_more) (once_behind choice v parts rows once no_more) fits
    (fresh_option position rows choice v fresh) in
    (later.0, new_is (label choice) v rows (λ r. place position r parts) (first_time choice v parts rows once no_more) ∙ later.1)
places position rows (name v ∷ parts) no_more once fits fresh =
    let id = fits.0.0 in
    let known = fits.0.1 in
    let later = places (suc position) (rows ++ row id v ∷ []) parts (no_more_name position rows id v parts known no_more) once fits.1 (fresh_name position rows id v known fresh) in
    let free : has_row id rows ≡ false = ap (λ i. has_row i rows) (sym (id_at_is position id known)) ∙ fresh position (omega arith) in
    (later.0, ap (λ o. place_name o v rows (λ r. place (suc position) r parts)) known ∙ new_is id v rows (λ r. place (suc position) r parts) free ∙ later.1)
