-- The order by stamp, then actor: it climbs, it has all notes of the lists above a stamp, and what of it is one actor's or one
-- book's is that actor's list or that book's journal.
use Rattle.world_laws.proofs.Words.{◌≡◌, refl, sym, ◌∙◌, ap, subst, ℕ, zero, suc, ◌+◌, ◌≤◌, ◌&&◌, ◌==◌, nat_lt, inl, inr, ◌⊎◌, ⊎_elim, Bool, true, false, cond}
use Rattle.world_laws.proofs.Words.{if◌then◌else◌, Some, List, [], ◌∷◌, ◌++◌, length, arith, ◌<◌, filter, cases_eq, cases_order, ltb-true, lt-ltb, le-ltb}
use Rattle.world_laws.proofs.Words.{eqb-true, eq-eqb, or_cases, or_parts, and_parts, and_from, both_ways, same_Some, slice_get, filter-append, Note, is_local}
use Rattle.world_laws.proofs.Words.{ArePaired, above, comes_first, with_note, with_notes, NotesRise}
use Rattle.actor_desk.specs.Journals.{in_order}
use Rattle.world_laws.proofs.Weaving.StampsChain.{stamps_above}
use Rattle.world_laws.proofs.Weaving.Occurring.{In, Occurs, occurs_from, occurs_where}

-- ---- before

abbrev pub Before : Note → Note → Type 0
Before x y = (x.stamp < y.stamp) ⊎ ((x.stamp ≡ y.stamp) × (x.actor < y.actor))

first_before : (x y : Note) → comes_first x y ≡ true → Before x y
first_before x y is = ⊎_elim
    (λ less. inl (ltb-true x.stamp y.stamp less))
    (λ same. let parts = and_parts (x.stamp == y.stamp) (nat_lt x.actor y.actor) same in inr (eqb-true x.stamp y.stamp parts.0, ltb-true x.actor y.actor parts.1))
    (or_cases (nat_lt x.stamp y.stamp) (x.stamp == y.stamp && nat_lt x.actor y.actor) is)

-- of two notes that aren't of one actor one is before the other
apart : (x y : Note) → (x.actor ≡ y.actor → ⊥) → Before x y ⊎ Before y x
apart x y other = by (cases_order x.stamp y.stamp) (cases_order x.actor y.actor)
  where
    by : (x.stamp ≡ y.stamp) ⊎ ((x.stamp < y.stamp) ⊎ (y.stamp < x.stamp)) → (x.actor ≡ y.actor) ⊎ ((x.actor < y.actor) ⊎ (y.actor < x.actor)) → Before x y ⊎ Before y x
    by (inr (inl less)) actors = inl (inl less)
    by (inr (inr more)) actors = inr (inl more)
    by (inl same) (inl one) = absurd (other one)
    by (inl same) (inr (inl less)) = inl (inr (same, less))
    by (inl same) (inr (inr more)) = inr (inr (sym same, more))

not_first : (x y : Note) → comes_first x y ≡ false → Before x y → ⊥
not_first x y is (inl less) =
    both_ways (nat_lt x.stamp y.stamp) (or_parts (nat_lt x.stamp y.stamp) (x.stamp == y.stamp && nat_lt x.actor y.actor) is).0 (lt-ltb x.stamp y.stamp less)
not_first x y is (inr later) =
    both_ways (x.stamp == y.stamp && nat_lt x.actor y.actor) (or_parts (nat_lt x.stamp y.stamp) (x.stamp == y.stamp && nat_lt x.actor y.actor) is).1
    (and_from (x.stamp == y.stamp) (nat_lt x.actor y.actor) (eq-eqb x.stamp y.stamp later.0) (lt-ltb x.actor y.actor later.1))

before_next : (x y z : Note) → Before x y → Before y z → Before x z
before_next x y z (inl a) (inl b) = inl (omega (arith, a, b))
before_next x y z (inl a) (inr b) = inl (omega (arith, a, b.0))
before_next x y z (inr a) (inl b) = inl (omega (arith, a.0, b))
before_next x y z (inr a) (inr b) = inr (omega (arith, a.0, b.0), omega (arith, a.1, b.1))

never_both : (x y : Note) → Before x y → Before y x → ⊥
never_both x y (inl a) (inl b) = omega (arith, a, b)
never_both x y (inl a) (inr b) = omega (arith, a, b.0)
never_both x y (inr a) (inl b) = omega (arith, a.0, b)
never_both x y (inr a) (inr b) = omega (arith, a.1, b.1)

-- the steps of one actor
abbrev pub ours : ℕ → List Note → List Note
ours actor notes = filter (λ n. n.actor == actor) notes

-- ---- lists that climb

abbrev pub Climbs : List Note → Type 0
Climbs [] = Unit {0}
Climbs (x ∷ xs) = ((y : Note) → In y xs → Before x y) × Climbs xs

-- by stamp alone
abbrev pub StampsClimb : List Note → Type 0
StampsClimb [] = Unit {0}
StampsClimb (x ∷ xs) = ((y : Note) → In y xs → x.stamp < y.stamp) × StampsClimb xs

pub rises_climb : (before : ℕ) (notes : List Note) → NotesRise before notes → StampsClimb notes
rises_climb before [] rise = tt
rises_climb before (x ∷ notes) rise = ((λ y there. stamps_above x.stamp notes y rise.1 there), rises_climb x.stamp notes rise.1)

pub stamps_climb : (notes : List Note) → StampsClimb notes → Climbs notes
stamps_climb [] h = tt
stamps_climb (x ∷ notes) h = ((λ y there. inl (h.0 y there)), stamps_climb notes h.1)

-- ---- filters

pub in_filter : (test : Note → Bool) (xs : List Note) (n : Note) → In n (filter test xs) → In n xs × (test n ≡ true)
in_filter test [] n none = absurd none
in_filter test (x ∷ xs) n there = by (test x) refl (λ later. in_filter test xs n later) there
  where
    by : (b : Bool) → test x ≡ b → (In n (filter test xs) → In n xs × (test n ≡ true)) → In n (cond b (x ∷ filter test xs) (filter test xs)) → ((x ≡ n) ⊎ In n xs) × (test n ≡ true)
    by true is rest (inl same) = (inl same, ap test (sym same) ∙ is)
    by true is rest (inr later) = (inr (rest later).0, (rest later).1)
    by false is rest later = (inr (rest later).0, (rest later).1)

pub filter_in : (test : Note → Bool) (xs : List Note) (n : Note) → In n xs → test n ≡ true → In n (filter test xs)
filter_in test [] n none passes = absurd none
filter_in test (x ∷ xs) n there passes = by (test x) refl (λ later. filter_in test xs n later passes) there
  where
    by : (b : Bool) → test x ≡ b → (In n xs → In n (filter test xs)) → (x ≡ n) ⊎ In n xs → In n (cond b (x ∷ filter test xs) (filter test xs))
    by true is rest (inl same) = inl same
    by true is rest (inr later) = inr (rest later)
    by false is rest (inl same) = absurd (both_ways (test n) (ap test (sym same) ∙ is) passes)
    by false is rest (inr later) = rest later

pub filter_climbs : (test : Note → Bool) (xs : List Note) → Climbs xs → Climbs (filter test xs)
filter_climbs test [] h = tt
filter_climbs test (x ∷ xs) h = (elim (test x) as (λ b. Climbs (filter test xs) → Climbs (cond b (x ∷ filter test xs) (filter test xs)))
    [ true ↦ λ rest. ((λ y there. h.0 y (in_filter test xs y there).0), rest) | false ↦ λ rest. rest ]) (filter_climbs test xs h.1)

filter_stamps : (test : Note → Bool) (xs : List Note) → StampsClimb xs → StampsClimb (filter test xs)
filter_stamps test [] h = tt
filter_stamps test (x ∷ xs) h = (elim (test x) as (λ b. StampsClimb (filter test xs) → StampsClimb (cond b (x ∷ filter test xs) (filter test xs)))
    [ true ↦ λ rest. ((λ y there. h.0 y (in_filter test xs y there).0), rest) | false ↦ λ rest. rest ]) (filter_stamps test xs h.1)

-- ---- two lists that climb and have the same notes are one

one_head : (x y : Note) (xs ys : List Note) → ((z : Note) → In z xs → Before x z) → ((z : Note) → In z ys → Before y z) → In x (y ∷ ys) → In y (x ∷ xs) → x ≡ y
one_head x y xs ys after_x after_y (inl same) there = sym same
one_head x y xs ys after_x after_y (inr later) (inl same) = same
one_head x y xs ys after_x after_y (inr later) (inr other) = absurd (never_both x y (after_x y other) (after_y x later))

same_tail : (x y n : Note) (xs ys : List Note) → x ≡ y → ((z : Note) → In z xs → Before x z) → In n xs → In n (y ∷ ys) → In n ys
same_tail x y n xs ys one after_x there (inr later) = later
same_tail x y n xs ys one after_x there (inl same) =
    let again = subst (λ z. Before x z) (sym (one ∙ same)) (after_x n there) in absurd (never_both x x again again)

pub same_notes : (xs ys : List Note) → Climbs xs → Climbs ys → ((n : Note) → In n xs → In n ys) → ((n : Note) → In n ys → In n xs) → xs ≡ ys
same_notes [] [] g h to back = refl
same_notes [] (y ∷ ys) g h to back = absurd (back y (inl refl))
same_notes (x ∷ xs) [] g h to back = absurd (to x (inl refl))
same_notes (x ∷ xs) (y ∷ ys) g h to back =
    let one : x ≡ y = one_head x y xs ys g.0 h.0 (to x (inl refl)) (back y (inl refl)) in
    let rest : xs ≡ ys = same_notes xs ys g.1 h.1
    (λ n there. same_tail x y n xs ys one g.0 there (to n (inr there)))
    (λ n there. same_tail y x n ys xs (sym one) h.0 there (back n (inr there))) in
    ap (λ z. z ∷ xs) one ∙ ap (λ zs. y ∷ zs) rest

-- ---- a note more

in_with : (x n : Note) (notes : List Note) → In n (with_note x notes) → (x ≡ n) ⊎ In n notes
in_with x n [] (inl same) = inl same
in_with x n [] (inr none) = absurd none
in_with x n (y ∷ notes) there = by (comes_first x y) (λ later. in_with x n notes later) there
  where
    onward : (x ≡ n) ⊎ In n notes → (x ≡ n) ⊎ In n (y ∷ notes)
    onward (inl same) = inl same
    onward (inr later) = inr (inr later)

    by : (b : Bool) → (In n (with_note x notes) → (x ≡ n) ⊎ In n notes) → In n (if b then x ∷ y ∷ notes else y ∷ with_note x notes) → (x ≡ n) ⊎ In n (y ∷ notes)
    by true rest (inl same) = inl same
    by true rest (inr there) = inr there
    by false rest (inl same) = inr (inl same)
    by false rest (inr there) = onward (rest there)

with_in : (x n : Note) (notes : List Note) → (x ≡ n) ⊎ In n notes → In n (with_note x notes)
with_in x n [] (inl same) = inl same
with_in x n [] (inr none) = absurd none
with_in x n (y ∷ notes) there = by (comes_first x y) (λ h. with_in x n notes h) there
  where
    by : (b : Bool) → ((x ≡ n) ⊎ In n notes → In n (with_note x notes)) → (x ≡ n) ⊎ In n (y ∷ notes) → In n (if b then x ∷ y ∷ notes else y ∷ with_note x notes)
    by true rest (inl same) = inl same
    by true rest (inr there) = inr there
    by false rest (inl same) = inr (rest (inl same))
    by false rest (inr (inl same)) = inl same
    by false rest (inr (inr later)) = inr (rest (inr later))

with_climbs : (x : Note) (notes : List Note) → Climbs notes → ((y : Note) → In y notes → Before x y ⊎ Before y x) → Climbs (with_note x notes)
with_climbs x [] h either = ((λ y none. absurd none), tt)
with_climbs x (y ∷ notes) h either = (elim (comes_first x y) as (λ b. comes_first x y ≡ b → Climbs (with_note x notes) → Climbs (if b then x ∷ y ∷ notes else y ∷ with_note x notes)) [
  | true ↦ λ is rest. (sooner (first_before x y is), h)
  | false ↦ λ is rest. ((λ z there. later (second_of is (either y (inl refl))) z (in_with x z notes there)), rest)
]) refl (with_climbs x notes h.1 (λ z there. either z (inr there)))
  where
    later : Before y x → (z : Note) → (x ≡ z) ⊎ In z notes → Before y z
    later first z (inl same) = subst (Before y) same first
    later first z (inr there) = h.0 z there

    sooner : Before x y → (z : Note) → (y ≡ z) ⊎ In z notes → Before x z
    sooner first z (inl same) = subst (Before x) same first
    sooner first z (inr there) = before_next x y z first (h.0 z there)

    second_of : comes_first x y ≡ false → Before x y ⊎ Before y x → Before y x
    second_of is (inl sooner_one) = absurd (not_first x y is sooner_one)
    second_of is (inr second) = second

-- ---- an actor's notes more

in_all : (n : Note) (notes order : List Note) → In n (with_notes notes order) → In n notes ⊎ In n order
in_all n [] order there = inr there
in_all n (x ∷ notes) order there = ⊎_elim
    (λ later. inl (inr later))
    (λ here. ⊎_elim (λ same. inl (inl same)) (λ old. inr old) (in_with x n order here))
    (in_all n notes (with_note x order) there)

all_in : (n : Note) (notes order : List Note) → In n notes ⊎ In n order → In n (with_notes notes order)
all_in n [] order (inl none) = absurd none
all_in n [] order (inr there) = there
all_in n (x ∷ notes) order (inl (inl same)) = all_in n notes (with_note x order) (inr (with_in x n order (inl same)))
all_in n (x ∷ notes) order (inl (inr later)) = all_in n notes (with_note x order) (inl later)
all_in n (x ∷ notes) order (inr there) = all_in n notes (with_note x order) (inr (with_in x n order (inr there)))

all_climb : (actor : ℕ) (notes order : List Note) → StampsClimb notes → ((x : Note) → In x notes → x.actor ≡ actor) → Climbs order
    → ((x y : Note) → In x notes → In y order → y.actor ≡ actor → y.stamp < x.stamp) → Climbs (with_notes notes order)
all_climb actor [] order rise ours h later = h
all_climb actor (x ∷ notes) order rise ours h later =
    all_climb actor notes (with_note x order) rise.1 (λ y there. ours y (inr there)) (with_climbs x order h either)
    (λ z y at there same. ⊎_elim
    (λ is. subst (λ m. m.stamp < z.stamp) is (rise.0 z at))
    (λ old. later z y (inr at) old same)
    (in_with x y order there))
  where
    either : (y : Note) → In y order → Before x y ⊎ Before y x
    either y there = ⊎_elim
        (λ same. inr (inl (later x y (inl refl) there same)))
        (λ other. apart x y (λ one. other (sym one ∙ ours x (inl refl))))
        (cases_eq y.actor actor)

-- ---- numbered lists

-- each note of the first list has this number, each of the second one more, and so on; and stamps climb in each
abbrev pub AreNumbered : (Note → ℕ) → ℕ → List (List Note) → Type 0
AreNumbered f first [] = Unit {0}
AreNumbered f first (list ∷ lists) = ((x : Note) → In x list → f x ≡ first) × StampsClimb list × AreNumbered f (suc first) lists

module _ (f : Note → ℕ) where
  numbered_from : (first : ℕ) (lists : List (List Note)) (n : Note) → AreNumbered f first lists → Occurs n lists → first ≤ f n
  numbered_from first [] n h none = absurd none
  numbered_from first (list ∷ lists) n h (inl here) = let is = h.0 n here in omega (arith, is)
  numbered_from first (list ∷ lists) n h (inr later) = let rest = numbered_from (suc first) lists n h.2 later in omega (arith, rest)

  pub numbered_below : (first : ℕ) (lists : List (List Note)) (n : Note) → AreNumbered f first lists → Occurs n lists → f n < first + length lists
  numbered_below first [] n h none = absurd none
  numbered_below first (list ∷ lists) n h (inl here) = let is = h.0 n here in omega (arith, is)
  numbered_below first (list ∷ lists) n h (inr later) = let rest = numbered_below (suc first) lists n h.2 later in omega (arith, rest)

  -- the list of this number
  pub record IsListOf (number : ℕ) (list : List Note) (lists : List (List Note)) : Type 0 where
    pub climbs : StampsClimb list
    pub numbered : (n : Note) → In n list → f n ≡ number
    pub there : (n : Note) → In n list → Occurs n lists
    pub own : (n : Note) → Occurs n lists → f n ≡ number → In n list

  pub list_of : (lists : List (List Note)) (first i number : ℕ) (list : List Note) → AreNumbered f first lists → number ≡ first + i → slice_get lists i ≡ Some list
      → IsListOf number list lists
  list_of [] first i number list h at there = cc
  list_of (x ∷ lists) first zero number list h at there = subst (λ y. IsListOf number y (x ∷ lists)) (same_Some x list there) (record {
    climbs = h.1;
    numbered = λ n here. let is = h.0 n here in omega (arith, is, at);
    there = λ n here. inl here;
    own = λ n somewhere is. ⊎_elim (λ here. here) (λ later. absurd (let most = numbered_from (suc first) lists n h.2 later in omega (arith, most, is, at))) somewhere;
  })
  list_of (x ∷ lists) first (suc i) number list h at there =
      let rest = list_of lists (suc first) i number list h.2 (omega (arith, at)) there in
      record {
        climbs = rest.climbs;
        numbered = rest.numbered;
        there = λ n here. inr (rest.there n here);
        own = λ n somewhere is. ⊎_elim (λ here. absurd (let own_is = h.0 n here in omega (arith, own_is, is, at))) (λ later. rest.own n later is) somewhere;
      }

-- ---- above a stamp

module _ (top : ℕ) where
  pub in_above : (list : List Note) (n : Note) → In n (above top list) → In n list × (top < n.stamp)
  in_above list n there = let found = in_filter (λ x. nat_lt top x.stamp) list n there in (found.0, ltb-true top n.stamp found.1)

  pub above_in : (list : List Note) (n : Note) → In n list → top < n.stamp → In n (above top list)
  above_in list n there later = filter_in (λ x. nat_lt top x.stamp) list n there (lt-ltb top n.stamp later)

  pub in_order_of : (lists : List (List Note)) (n : Note) → In n (in_order top lists) → Occurs n lists × (top < n.stamp)
  in_order_of [] n none = absurd none
  in_order_of (list ∷ lists) n there = ⊎_elim
      (λ here. let found = in_above list n here in (inl found.0, found.1))
      (λ later. let rest = in_order_of lists n later in (inr rest.0, rest.1))
      (in_all n (above top list) (in_order top lists) there)

  pub order_has : (lists : List (List Note)) (n : Note) → Occurs n lists → top < n.stamp → In n (in_order top lists)
  order_has [] n none later = absurd none
  order_has (list ∷ lists) n (inl here) later = all_in n (above top list) (in_order top lists) (inl (above_in list n here later))
  order_has (list ∷ lists) n (inr rest) later = all_in n (above top list) (in_order top lists) (inr (order_has lists n rest later))

  order_climbs : (first : ℕ) (lists : List (List Note)) → AreNumbered (λ n. n.actor) first lists → Climbs (in_order top lists)
  order_climbs first [] h = tt
  order_climbs first (list ∷ lists) h =
      all_climb first (above top list) (in_order top lists) (filter_stamps (λ x. nat_lt top x.stamp) list h.1)
      (λ x there. h.0 x (in_above list x there).0) (order_climbs (suc first) lists h.2)
      (λ x y at there same. absurd (let most = numbered_from (λ n. n.actor) (suc first) lists y h.2 (in_order_of lists y there).0 in omega (arith, most, same)))

  -- ---- what of the order is one actor's, or one book's

  -- those notes of the order that have a number are those of a list above the stamp, where they are the same
  of_number : (f : Note → ℕ) (number : ℕ) (lists : List (List Note)) (list : List Note) → AreNumbered (λ n. n.actor) 0 lists → StampsClimb list
      → ((n : Note) → Occurs n lists → top < n.stamp → f n ≡ number → In n list)
      → ((n : Note) → In n list → top < n.stamp → Occurs n lists × (f n ≡ number))
      → filter (λ n. f n == number) (in_order top lists) ≡ above top list
  of_number f number lists list h climbs to back =
      same_notes (filter (λ n. f n == number) (in_order top lists)) (above top list)
      (filter_climbs (λ n. f n == number) (in_order top lists) (order_climbs 0 lists h))
      (stamps_climb (above top list) (filter_stamps (λ n. nat_lt top n.stamp) list climbs))
      (λ n at.
      let own = in_filter (λ m. f m == number) (in_order top lists) n at in
      let where_is = in_order_of lists n own.0 in
      above_in list n (to n where_is.0 where_is.1 (eqb-true (f n) number own.1)) where_is.1)
      (λ n at.
      let own = in_above list n at in
      let is = back n own.0 own.1 in
      filter_in (λ m. f m == number) (in_order top lists) n (order_has lists n is.0 own.1) (eq-eqb (f n) number is.1))

  -- the steps of one actor
  pub ours_in_order : (lists : List (List Note)) (i : ℕ) (list : List Note) → AreNumbered (λ n. n.actor) 0 lists → slice_get lists i ≡ Some list
      → ours i (in_order top lists) ≡ above top list
  ours_in_order lists i list h there =
      let own = list_of (λ n. n.actor) lists 0 i i list h (omega arith) there in
      of_number (λ n. n.actor) i lists list h own.climbs (λ n at later is. own.own n at is) (λ n at later. (own.there n at, own.numbered n at))

  -- the calls at one book, whose journals are paired with the lists
  pub asked_in_order : (f : Note → ℕ) (lists journals : List (List Note)) (b : ℕ) (journal : List Note) → AreNumbered (λ n. n.actor) 0 lists → AreNumbered f 0 journals
      → slice_get journals b ≡ Some journal → ((n : Note) → f n ≡ b → is_local n.ask ≡ false) → ArePaired top lists journals
      → filter (λ n. f n == b) (in_order top lists) ≡ above top journal
  asked_in_order f lists journals b journal h j there asks paired =
      let own = list_of f journals 0 b b journal j (omega arith) there in
      of_number f b lists journal h own.climbs
      (λ n at later is.
      let where_is = occurs_where lists n at in
      let found = paired.notes where_is.0 n where_is.1 where_is.2 later (asks n is) in
      own.own n (occurs_from journals found.0 n found.1 found.2) is)
      (λ n at later.
      let where_is = occurs_where journals n (own.there n at) in
      let found = paired.entries where_is.0 n where_is.1 where_is.2 later in
      (occurs_from lists found.0 n found.1 found.2, own.numbered n at))

  -- ---- lists that grew

  pub nothing_above : (notes : List Note) → ((n : Note) → In n notes → n.stamp ≤ top) → above top notes ≡ []
  nothing_above [] below = refl
  nothing_above (x ∷ notes) below =
      ap (λ b. cond b (x ∷ above top notes) (above top notes)) (le-ltb top x.stamp (below x (inl refl))) ∙ nothing_above notes (λ n there. below n (inr there))

  pub all_above : (notes : List Note) → ((n : Note) → In n notes → top < n.stamp) → above top notes ≡ notes
  all_above [] later = refl
  all_above (x ∷ notes) later =
      ap (λ b. cond b (x ∷ above top notes) (above top notes)) (lt-ltb top x.stamp (later x (inl refl))) ∙ ap (λ xs. x ∷ xs) (all_above notes (λ n there. later n (inr there)))

  -- what a list gained above the stamp is what of it is above
  pub gained : (old notes : List Note) → ((n : Note) → In n old → n.stamp ≤ top) → ((n : Note) → In n notes → top < n.stamp) → above top (old ++ notes) ≡ notes
  gained old notes below later =
      filter-append (λ n. nat_lt top n.stamp) old notes ∙ ap (λ xs. xs ++ above top notes) (nothing_above old below) ∙ all_above notes later
