-- Notes in lists of lists, and lists and journals that have the same ones.
--
-- Pairing: `Contains` goes by index; turn it into `Occurs`, a recursion over lists of lists
-- (`proofs/Weaving/Occurring`), and say of a step that both sides are `Grown` by one note. `From-put` of `stream_lanes`
-- puts the actor that stepped back among the others.
use Rattle.world_laws.proofs.Words.{◌≡◌, refl, sym, subst, ℕ, zero, suc, inl, inr, ◌⊎◌, ⊎_elim, true, false, List, [], ◌∷◌, ◌++◌, length, arith, ◌<◌, both_ways}
use Rattle.world_laws.proofs.Words.{Contains, slice_index_or, Note, is_local, ArePaired}

-- an item is one of the list
abbrev pub In : {X : Type 0} → X → List X → Type 0
In x [] = ⊥
In x (y ∷ ys) = (y ≡ x) ⊎ In x ys

module _ {X : Type 0} where
  in_at : (xs : List X) (k : ℕ) (x : X) → k < length xs → slice_index_or xs k x ≡ x → In x xs
  in_at [] k x within is = absurd (omega (arith, within))
  in_at (y ∷ ys) zero x within is = inl is
  in_at (y ∷ ys) (suc k) x within is = inr (in_at ys k x (omega (arith, within)) is)

  pub contains_in : (xs : List X) (x : X) → Contains xs x → In x xs
  contains_in xs x c = in_at xs c.0 x c.1 c.2

  pub in_contains : (xs : List X) (x : X) → In x xs → Contains xs x
  in_contains [] x m = absurd m
  in_contains (y ∷ ys) x (inl is) = (0, omega arith, is)
  in_contains (y ∷ ys) x (inr m) = let c = in_contains ys x m in (suc c.0, omega (arith, c.1), c.2)

  pub in_grown : (xs : List X) (n m : X) → In m (xs ++ n ∷ []) → In m xs ⊎ (n ≡ m)
  in_grown [] n m (inl is) = inr is
  in_grown [] n m (inr none) = absurd none
  in_grown (x ∷ xs) n m (inl is) = inl (inl is)
  in_grown (x ∷ xs) n m (inr there) = ⊎_elim (λ old. inl (inr old)) (λ new. inr new) (in_grown xs n m there)

  pub in_old : (xs : List X) (n m : X) → In m xs → In m (xs ++ n ∷ [])
  in_old [] n m none = absurd none
  in_old (x ∷ xs) n m (inl is) = inl is
  in_old (x ∷ xs) n m (inr there) = inr (in_old xs n m there)

  pub in_new : (xs : List X) (n m : X) → n ≡ m → In m (xs ++ n ∷ [])
  in_new [] n m is = inl is
  in_new (x ∷ xs) n m is = inr (in_new xs n m is)

-- a note is one of the notes of one of the lists
abbrev pub Occurs : Note → List (List Note) → Type 0
Occurs n [] = ⊥
Occurs n (list ∷ lists) = In n list ⊎ Occurs n lists

occurs_in : (lists : List (List Note)) (list : List Note) (n : Note) → In list lists → In n list → Occurs n lists
occurs_in [] list n none there = absurd none
occurs_in (first ∷ lists) list n (inl is) there = inl (subst (In n) (sym is) there)
occurs_in (first ∷ lists) list n (inr more) there = inr (occurs_in lists list n more there)

pub occurs_from : (lists : List (List Note)) (list : List Note) (n : Note) → Contains lists list → Contains list n → Occurs n lists
occurs_from lists list n c there = occurs_in lists list n (contains_in lists list c) (contains_in list n there)

pub occurs_where : (lists : List (List Note)) (n : Note) → Occurs n lists → (list : List Note) × Contains lists list × Contains list n
occurs_where [] n none = absurd none
occurs_where (list ∷ lists) n (inl there) = (list, in_contains (list ∷ lists) list (inl refl), in_contains list n there)
occurs_where (list ∷ lists) n (inr more) =
    let rest = occurs_where lists n more in
    (rest.0, in_contains (list ∷ lists) rest.0 (inr (contains_in lists rest.0 rest.1)), rest.2)

-- each entry is a note, and each note at a book an entry
pub record Pairs (lists journals : List (List Note)) : Type 0 where
  pub notes : (n : Note) → Occurs n lists → is_local n.ask ≡ false → Occurs n journals
  pub entries : (n : Note) → Occurs n journals → Occurs n lists

pub paired_from : (after : ℕ) (lists journals : List (List Note)) → Pairs lists journals → ArePaired after lists journals
paired_from after lists journals h = record {
  notes = λ list note there is later asked. occurs_where journals note (h.notes note (occurs_from lists list note there is) asked);
  entries = λ journal note there is later. occurs_where lists note (h.entries note (occurs_from journals journal note there is));
}

-- where each has a stamp above 0
pub pairs_from : (lists journals : List (List Note)) → ((n : Note) → Occurs n lists → 0 < n.stamp) → ((n : Note) → Occurs n journals → 0 < n.stamp)
    → ArePaired 0 lists journals → Pairs lists journals
pairs_from lists journals stamped entered h = record {
  notes = λ n there asked.
      let where_is = occurs_where lists n there in
      let found = h.notes where_is.0 n where_is.1 where_is.2 (stamped n there) asked in
      occurs_from journals found.0 n found.1 found.2;
  entries = λ n there.
      let where_is = occurs_where journals n there in
      let found = h.entries where_is.0 n where_is.1 where_is.2 (entered n there) in
      occurs_from lists found.0 n found.1 found.2;
}

-- the lists with one note more
pub record Grown (n : Note) (lists after : List (List Note)) : Type 0 where
  pub old : (m : Note) → Occurs m lists → Occurs m after
  pub new : Occurs n after
  pub all : (m : Note) → Occurs m after → Occurs m lists ⊎ (n ≡ m)

pub pairs_grow : (n : Note) (lists lists_after journals journals_after : List (List Note)) → Grown n lists lists_after → Grown n journals journals_after
    → Pairs lists journals → Pairs lists_after journals_after
pairs_grow n lists lists_after journals journals_after l j h = record {
  notes = λ m there asked. ⊎_elim
      (λ before. j.old m (h.notes m before asked))
      (λ same. subst (λ x. Occurs x journals_after) same j.new)
      (l.all m there);
  entries = λ m there. ⊎_elim
      (λ before. l.old m (h.entries m before))
      (λ same. subst (λ x. Occurs x lists_after) same l.new)
      (j.all m there);
}

-- a local step is in no journal
pub pairs_local : (n : Note) (lists lists_after journals : List (List Note)) → is_local n.ask ≡ true → Grown n lists lists_after
    → Pairs lists journals → Pairs lists_after journals
pairs_local n lists lists_after journals local l h = record {
  notes = λ m there asked. ⊎_elim
      (λ before. h.notes m before asked)
      (λ same. absurd (both_ways (is_local m.ask) asked (subst (λ x. is_local x.ask ≡ true) same local)))
      (l.all m there);
  entries = λ m there. l.old m (h.entries m there);
}

-- the first list has one note more, or a later one
pub grown_here : (n : Note) (list after : List Note) (lists : List (List Note)) → after ≡ list ++ n ∷ [] → Grown n (list ∷ lists) (after ∷ lists)
grown_here n list after lists is = rw is record {
  old = λ m there. ⊎_elim (λ here. inl (in_old list n m here)) (λ later. inr later) there;
  new = inl (in_new list n n refl);
  all = λ m there. ⊎_elim (λ here. ⊎_elim (λ old. inl (inl old)) (λ new. inr new) (in_grown list n m here)) (λ later. inl (inr later)) there;
}

pub grown_later : (n : Note) (list : List Note) (lists after : List (List Note)) → Grown n lists after → Grown n (list ∷ lists) (list ∷ after)
grown_later n list lists after g = record {
  old = λ m there. ⊎_elim (λ here. inl here) (λ later. inr (g.old m later)) there;
  new = inr g.new;
  all = λ m there. ⊎_elim (λ here. inl (inl here)) (λ later. ⊎_elim (λ old. inl (inr old)) (λ new. inr new) (g.all m later)) there;
}
