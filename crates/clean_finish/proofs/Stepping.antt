-- A step of the path, from what its duties come to: the first one is answered, and those that come to nothing are passed.
use Rattle.clean_finish.proofs.Words.{◌≡◌, refl, sym, subst, ap, ◌∙◌, ℕ, Bool, true, false, if◌then◌else◌, List, [], ◌∷◌, Some, suc, zero, slice_get, same_Some}
use Rattle.clean_finish.proofs.Words.{Duty, SixBooks, reply_of, after_ask, books_in, after_entry, AppState, Carried, values, PathState, with_agenda, stands}
use Rattle.clean_finish.proofs.Words.{ask_for, passed, answered, settled, answers, Setting, Lane, PathPlan, Start, answer_to, Walker, Cast, after_path, Runs}
use Rattle.clean_finish.proofs.Words.{Running}
use Rattle.path_core.specs.Turns.{FirstStands}
use Rattle.world_laws.proofs.Weaving.Journals.{books_after}

-- the one of a list
alone_is : {X : Type 0} (xs : List X) (y x : X) (n : ℕ) → xs ≡ y ∷ [] → slice_get xs n ≡ Some x → (n ≡ 0) × (y ≡ x)
alone_is xs y x n one there = by n (subst (λ (zs : List _). slice_get zs n ≡ Some x) one there)
  where
    by : (m : ℕ) → slice_get (y ∷ []) m ≡ Some x → (m ≡ 0) × (y ≡ x)
    by zero e = (refl, same_Some y x e)
    by (suc m) e = cc

module _ (start : Start) (plan : PathPlan) (k j : Setting) (s v : Lane) where
  abbrev pub Relation : AppState → AppState → SixBooks → PathState Carried → Type 0
  Relation = Runs start plan k j s v

  -- a duty that comes to nothing is passed
  abbrev pub Passes : Type 0
  Passes = (a b : AppState) (books : SixBooks) (p : PathState Carried) (d : Duty) (ds : List Duty) → stands d p ≡ false
      → Relation a b books (with_agenda (d ∷ ds) p) → Relation a b books (with_agenda ds (passed d p))

  -- the first one, which comes to something, is answered
  abbrev pub Answers : Type 0
  Answers = (a b : AppState) (books : SixBooks) (p : PathState Carried) (d : Duty) (ds : List Duty)
      → stands d (with_agenda (d ∷ ds) p) ≡ true → Relation a b books (with_agenda (d ∷ ds) p)
      → let ask = ask_for values d (with_agenda (d ∷ ds) p) in
      Relation a b (after_ask ask books) (answered values d (reply_of books ask) (with_agenda (d ∷ ds) p))

  pub settles : Passes → (a b : AppState) (books : SixBooks) (ds : List Duty) (p : PathState Carried)
      → Relation a b books (with_agenda ds p) → Relation a b books (settled ds p)
  settles passes a b books [] p h = h
  settles passes a b books (d ∷ ds) p h = by (λ rest. settles passes a b books ds (passed d p) rest) (stands d p) refl
    where
      by : (Relation a b books (with_agenda ds (passed d p)) → Relation a b books (settled ds (passed d p))) → (comes : Bool)
          → stands d p ≡ comes → Relation a b books (if comes then with_agenda (d ∷ ds) p else settled ds (passed d p))
      by on true e = h
      by on false e = on (passes a b books p d ds e h)

  -- what the path that answered comes to
  abbrev Onward : AppState → AppState → SixBooks → Duty → PathState Carried → Type 0
  Onward a b books d q =
      let ask = ask_for values d q in let next = answered values d (reply_of books ask) q in
      Relation a b (after_ask ask books) (settled next.agenda next)

  steps_on : Passes → Answers → (a b : AppState) (books : SixBooks) (p : PathState Carried) (d : Duty) (ds : List Duty)
      → p.agenda ≡ d ∷ ds → FirstStands p.agenda p → Relation a b books p → Onward a b books d p
  steps_on passes answering a b books p d ds at stood h =
      subst (λ (es : List Duty). Onward a b books d (with_agenda es p)) (sym at)
      (let q = with_agenda (d ∷ ds) p in let ask = ask_for values d q in let next = answered values d (reply_of books ask) q in
      settles passes a b (after_ask ask books) next.agenda next (answering a b books p d ds
      (subst (λ (es : List Duty). FirstStands es (with_agenda es p)) at stood)
      (subst (λ (es : List Duty). Relation a b books (with_agenda es p)) at h)))

  steps_alone : Passes → Answers → (t : Cast Carried) (x : Walker Carried) (d : Duty) (ds : List Duty) → x.path.agenda ≡ d ∷ ds
      → FirstStands x.path.agenda x.path → Relation t.a t.b (books_in t.books) x.path
      → Running start plan k j s v (after_path values 0 x (ask_for values d x.path) (record t { paths = x ∷ [] }))
  steps_alone passes answering t x d ds at stood h =
      let ask = ask_for values d x.path in
      let r = answer_to t.books ask in
      record {
        walker = record { path = settled (answers values x.path.agenda r x.path).agenda (answers values x.path.agenda r x.path); at = _ };
        alone = refl;
        runs = subst (λ (es : List Duty). Relation t.a t.b (books_in (after_entry ask x.at.pass t.books))
            (settled (answers values es r x.path).agenda (answers values es r x.path))) (sym at)
            (subst (λ (books : SixBooks). Relation t.a t.b books (settled (answered values d r x.path).agenda (answered values d r x.path)))
            (sym (books_after ask x.at.pass t.books))
            (steps_on passes answering t.a t.b (books_in t.books) x.path d ds at stood h));
      }

  -- the relation goes on with a step of the path, as a lemma over all steps asks (`Stepwise`)
  pub path_steps : Passes → Answers → (t : Cast Carried) (number : ℕ) (x : Walker Carried) → slice_get t.paths number ≡ Some x
      → (d : Duty) (ds : List Duty) → x.path.agenda ≡ d ∷ ds → FirstStands x.path.agenda x.path → Running start plan k j s v t
      → Running start plan k j s v (after_path values number x (ask_for values d x.path) t)
  path_steps passes answering t number x there d ds at stood h =
      let one = alone_is t.paths h.walker x number h.alone there in
      let same : t.paths ≡ x ∷ [] = h.alone ∙ ap (λ (y : Walker Carried). y ∷ []) one.1 in
      let ask = ask_for values d x.path in
      subst (λ (n : ℕ). Running start plan k j s v (after_path values n x ask t)) (sym one.0)
      (subst (λ (ps : List (Walker Carried)). Running start plan k j s v (after_path values 0 x ask (record t { paths = ps })))
      (sym same) (steps_alone passes answering t x d ds at stood
      (subst (λ (y : Walker Carried). Relation t.a t.b (books_in t.books) y.path) one.1 h.runs)))
