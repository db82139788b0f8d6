-- Lists that weigh the same however their members are weighed have the same members; and what the closed table gives.
use Rattle.ruled_desk.proofs.Words.{◌≡◌, refl, sym, ◌∙◌, ap, subst, ℕ, zero, suc, ◌<◌, ◌≤◌, Bool, true, false, List, [], ◌∷◌, length, Option, Some, None, arith}
use Rattle.ruled_desk.proofs.Words.{eqb, ◌&&◌, nat_tests, slice_index_or, some, some-injective, get_elem?, TableId, Journaled, Entry, View, HasLastStamp, grown}
use Rattle.ruled_desk.proofs.Words.{GainsJust, Locked, Seated, locked, seated, weigh, bit}
use Rattle.std.specs.Prelude.{Contains}
use base.Stored.{Gv, gnil, gnum, gcons, Coded}
use Rattle.ruled_desk.proofs.RuleJoining.{Closes}
use Rattle.ruled_desk.proofs.RuleWords.{grown-none}

-- whether two codes are the same
same_code : Gv → Gv → Bool
same_code gnil gnil = true
same_code gnil (gnum n) = false
same_code gnil (gcons a b) = false
same_code (gnum n) gnil = false
same_code (gnum n) (gnum m) = eqb n m
same_code (gnum n) (gcons a b) = false
same_code (gcons a b) gnil = false
same_code (gcons a b) (gnum n) = false
same_code (gcons a b) (gcons c d) = same_code a c && same_code b d

both_true : (a b : Bool) → (a && b) ≡ true → (a ≡ true) × (b ≡ true)
both_true = elim [ true ↦ λ b e. (refl, e) | false ↦ λ b e. cc ]

code_itself : (g : Gv) → same_code g g ≡ true
unfolding same_code
code_itself gnil = refl
code_itself (gnum n) = (elim (eqb n n) as (λ b. eqb n n ≡ b → eqb n n ≡ true) [ true ↦ λ e. e | false ↦ λ e. absurd (grind (arith, nat_tests)) ]) refl
code_itself (gcons a b) = ap (λ t. t && same_code b b) (code_itself a) ∙ code_itself b

code_is : (g k : Gv) → same_code g k ≡ true → g ≡ k
unfolding same_code
code_is gnil gnil e = refl
code_is gnil (gnum n) e = cc
code_is gnil (gcons a b) e = cc
code_is (gnum n) gnil e = cc
code_is (gnum n) (gnum m) e = ap gnum (grind (arith, nat_tests))
code_is (gnum n) (gcons a b) e = cc
code_is (gcons a b) gnil e = cc
code_is (gcons a b) (gnum n) e = cc
code_is (gcons a b) (gcons c d) e =
    let two = both_true (same_code a c) (same_code b d) e in
    ap (λ x. gcons x b) (code_is a c two.0) ∙ ap (gcons c) (code_is b d two.1)

module _ {X : Type 0} (c : Coded X) where
  abbrev is_it : X → X → ℕ
  is_it e x = bit (same_code (c.code x) (c.code e))

  in_weighs : (xs : List X) (e : X) (k : ℕ) → k < length xs → slice_index_or xs k e ≡ e → 1 ≤ weigh (is_it e) xs
  in_weighs [] e k within at = absurd (omega (arith, within))
  in_weighs (x ∷ xs) e zero within at =
      let one : is_it e x ≡ 1 = ap (λ y. is_it e y) at ∙ ap bit (code_itself (c.code e)) in omega (arith, one)
  in_weighs (x ∷ xs) e (suc k) within at = let later = in_weighs xs e k (omega (arith, within)) at in omega (arith, later)

  weighs_in : (xs : List X) (e : X) → 1 ≤ weigh (is_it e) xs → Contains xs e
  weighs_in [] e some_one = absurd (omega (arith, some_one))
  weighs_in (x ∷ xs) e some_one = (elim (same_code (c.code x) (c.code e)) as (λ b. same_code (c.code x) (c.code e) ≡ b → (1 ≤ weigh (is_it e) xs → Contains xs e) → Contains (x ∷ xs) e) [
    | true ↦ λ test later. (0, omega arith, c.inj x e (code_is (c.code x) (c.code e) test))
    | false ↦ λ test later. let none : is_it e x ≡ 0 = ap bit test in let there = later (omega (arith, some_one, none)) in (suc there.0, omega (arith, there.1), there.2)
  ]) refl (weighs_in xs e)

  -- what weighs the same has the same members
  pub same_members : (xs ys : List X) → ((h : X → ℕ) → weigh h xs ≡ weigh h ys) → (e : X) → Contains xs e → Contains ys e
  same_members xs ys same e has =
      let one = in_weighs xs e has.0 has.1 has.2 in weighs_in ys e (omega (arith, one, same (is_it e)))

same_some : {X : Type 0} (x y : X) → Some x ≡ Some y → x ≡ y
same_some x y e = cc

module _ {O C R : Type 0} where
  -- the slot isn't empty
  pub is_home : (start : Journaled O C R) (v : View (Journaled O C R) (Entry C R)) (xs : List (Option (Journaled O C R))) (slot : Option (Journaled O C R))
      → Closes start v xs → get_elem? xs 0 ≡ some slot → slot ≡ None → ⊥
  is_home start v xs slot closes at none =
      let same : Some (grown start closes.log) ≡ slot = some-injective (Some (grown start closes.log)) slot (sym closes.home ∙ at) in
      let clash : Some (grown start closes.log) ≡ None = same ∙ none in cc

  -- the book in it gained the own entries of the seat that closed the table
  pub gains : Coded (Entry C R) → (start : Journaled O C R) (v : View (Journaled O C R) (Entry C R)) (xs : List (Option (Journaled O C R)))
      (slot : Option (Journaled O C R)) (book : Journaled O C R) → Closes start v xs → get_elem? xs 0 ≡ some slot → slot ≡ Some book → GainsJust start book v.own v.full
  gains c start v xs slot book closes at is =
      let same : Some (grown start closes.log) ≡ slot = some-injective (Some (grown start closes.log)) slot (sym closes.home ∙ at) in
      let whole : grown start closes.log ≡ book = same_some (grown start closes.log) book (same ∙ is) in
      record {
        gained = closes.log;
        new_is = sym whole;
        often = closes.same;
        known = same_members c v.own closes.log closes.same;
        others = same_members c closes.log v.own (λ h. sym (closes.same h));
        last = λ noted. subst (λ (b : Journaled O C R). HasLastStamp b.journal) whole (closes.full noted);
      }

  -- nothing was added
  pub gains_nothing : (start book : Journaled O C R) (full : Bool) → GainsJust start book [] full → book ≡ start
  gains_nothing start book full gains = gains.new_is ∙ ap (λ log. grown start log) (none gains.gained (gains.often (λ _. 1))) ∙ sym (grown-none start)
    where
      none : (log : List (Entry C R)) → 0 ≡ weigh (λ _. 1) log → log ≡ []
      none = elim [ [] ↦ λ e. refl | x ∷ log ↦ λ e. absurd (omega (arith, e)) ]

  abbrev IsLock : TableId → Journaled O C R → Locked O C R → Type 0
  IsLock table start lock = locked table start ≡ lock

  -- what a seat gained, as contracts see it
  pub gains_seen : (lock : Locked O C R) (table : TableId) (start book held : Journaled O C R) (seat : Seated C R) (at : TableId) (v : View (Journaled O C R) (Entry C R))
      → IsLock table start lock → seated at v.parts v.own v.full ≡ seat → book ≡ held → GainsJust start held v.own v.full
      → GainsJust lock.start book seat.own seat.full
  gains_seen lock table start book held seat at v lock_is seat_is same g =
      subst (λ (s : Seated C R). GainsJust lock.start book s.own s.full) seat_is
      (subst (λ (l : Locked O C R). GainsJust l.start book v.own v.full) lock_is
      (subst (λ b. GainsJust start b v.own v.full) (sym same) g))
