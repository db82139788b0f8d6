-- What the first duty of an agenda comes to.
--
-- `PathState` and an end lend parts of themselves (`end_mut`, `specs/Lending.antt` of `path_core`), so that a rule's
-- method on it is one to three lines and proves with no file. What holds between steps alone, as that the first duty
-- comes to something, is the invariant of a second struct over it (`Path`), whose methods are whole steps; rules ask
-- for it by `requires`. Of some 500 functions 42 have a file.
--
-- A condition of a lower call that no invariant gives belongs into the callee's clauses, into an invariant, or is made
-- weaker below: each test that answers want of memory in its place had such a way out (a count that stands still, a
-- bound that `hear` tells).
use Rattle.path_core.proofs.Words.{◌≡◌, refl, sym, ap, subst, ◌∙◌, true, false, if◌then◌else◌, Some, None, List, [], ◌∷◌, drop, is_none, first_of, Duty, Reply}
use Rattle.path_core.proofs.Words.{tail_of, PathState, with_agenda, Codec, stands, ask_for, passed, answered, settled, settles_down, asks_first, answers}
use Rattle.path_core.proofs.Words.{passable, passable_of}
use Rattle.path_core.specs.Replies.{asks_bytes, asks_bytes_first, needs_memory, needs_memory_first}
use Rattle.path_core.proofs.Settling.{passes_anyway, settles_anyway}

-- the agenda without it
pub rest_is : (ds : List Duty) → drop 1 ds ≡ tail_of ds
rest_is = elim [ [] ↦ refl | d ∷ ds ↦ refl ]

pub bytes_of_first : (ds : List Duty) (d : Duty) → first_of ds ≡ Some d → asks_bytes_first ds ≡ asks_bytes d
bytes_of_first [] d is = cc
bytes_of_first (x ∷ ds) d is = let same : x ≡ d = cc in ap asks_bytes same

pub memory_of_first : {C : Type 0} (ds : List Duty) (d : Duty) (r : Reply) (p : PathState C) → first_of ds ≡ Some d → needs_memory_first ds r p ≡ needs_memory d r p
memory_of_first [] d r p is = cc
memory_of_first (x ∷ ds) d r p is = let same : x ≡ d = cc in ap (λ y. needs_memory y r p) same

-- the first duty comes to something
pub stands_of_first : {C : Type 0} (ds : List Duty) (d : Duty) (p : PathState C) → first_of ds ≡ Some d → is_none (passable_of ds p) ≡ true → stands d p ≡ true
stands_of_first [] d p is none = cc
stands_of_first (x ∷ ds) d p is none = (elim (stands x p) as (λ b. stands x p ≡ b → is_none (if b then None else Some x) ≡ true → stands d p ≡ true)
    [ true ↦ λ comes none. let same : x ≡ d = cc in ap (λ y. stands y p) (sym same) ∙ comes | false ↦ λ comes none. cc ]) refl none

module _ {C : Type 0} (k : Codec C) where
  pub ask_of_first : (ds : List Duty) (d : Duty) (p : PathState C) → first_of ds ≡ Some d → asks_first k ds p ≡ Some (ask_for k d p)
  ask_of_first [] d p is = cc
  ask_of_first (x ∷ ds) d p is = let same : x ≡ d = cc in ap (λ y. Some (ask_for k y p)) same

  pub ask_of_none : (ds : List Duty) (p : PathState C) → first_of ds ≡ None → asks_first k ds p ≡ None
  ask_of_none = elim [ [] ↦ λ p is. refl | x ∷ ds ↦ λ p is. cc ]

  -- where nothing is asked nothing is left to be done
  pub none_asked : (ds : List Duty) (p : PathState C) → asks_first k ds p ≡ None → ds ≡ []
  none_asked = elim [ [] ↦ λ p is. refl | d ∷ ds ↦ λ p is. cc ]

  pub answer_of_first : (ds : List Duty) (d : Duty) (r : Reply) (p : PathState C) → first_of ds ≡ Some d → answers k ds r p ≡ answered k d r p
  answer_of_first [] d r p is = cc
  answer_of_first (x ∷ ds) d r p is = let same : x ≡ d = cc in ap (λ y. answered k y r p) same

  pub answer_of_none : (ds : List Duty) (r : Reply) (p : PathState C) → first_of ds ≡ None → answers k ds r p ≡ p
  answer_of_none = elim [ [] ↦ λ r p is. refl | x ∷ ds ↦ λ r p is. cc ]

module _ {C : Type 0} where
  -- a duty that comes to nothing is passed
  passes_first : (ds : List Duty) (d : Duty) (p : PathState C) → passable_of ds p ≡ Some d
      → settles_down (passed d (with_agenda (tail_of ds) p)) ≡ settled ds p
  passes_first [] d p is = cc
  passes_first (x ∷ ds) d p is = (elim (stands x p) as (λ b. (if b then None else Some x) ≡ Some d → settles_down (passed d (with_agenda ds p)) ≡ (if b then with_agenda (x ∷ ds) p else settled ds (passed x p))) [
    | true ↦ λ is. cc
    | false ↦ λ is. let same : x ≡ d = cc in subst (λ y. settles_down (passed y (with_agenda ds p)) ≡ settled ds (passed x p)) same (ap settles_down (passes_anyway x ds p) ∙ settles_anyway ds ds (passed x p))
  ]) is

  pub passes : (d : Duty) (p : PathState C) → passable p ≡ Some d → settles_down (passed d (with_agenda (tail_of p.agenda) p)) ≡ settles_down p
  passes d p is = passes_first p.agenda d p is

  stays : (ds : List Duty) (p : PathState C) → p.agenda ≡ ds → passable_of ds p ≡ None → settled ds p ≡ p
  stays [] p is none = subst (λ ds. with_agenda ds p ≡ p) is refl
  stays (d ∷ ds) p is none = (elim (stands d p) as (λ b. (if b then None else Some d) ≡ None → (if b then with_agenda (d ∷ ds) p else settled ds (passed d p)) ≡ p)
      [ true ↦ λ none. subst (λ ds. with_agenda ds p ≡ p) is refl | false ↦ λ none. cc ]) none

  -- where the first one comes to something nothing changes
  pub settled_stays : (p : PathState C) → passable p ≡ None → settles_down p ≡ p
  settled_stays p none = stays p.agenda p refl none
