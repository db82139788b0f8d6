-- What the outcome asks for, after a step of one actor and after a round's end.
use Rattle.std.proofs.Common.{◌≡◌, refl, sym, ◌∙◌, ap, ℕ, zero, suc, ◌&&◌, ◌||◌, false, Bool, true, Some, List, [], ◌∷◌, ◌++◌, map, set, take, drop}
use Rattle.std.proofs.lemmas.List.{length-set, take-append-drop}
use Rattle.std.proofs.lemmas.List.Folds.{list_any-append}
use Rattle.std.proofs.lemmas.Option.{same_Some}
use Rattle.std.specs.List.{slice_get}
use Rattle.sides.specs.declared.side.Side.TheVariants.{A, B}
use Rattle.actor_desk.specs.declared.ask.Note.{Note}
use Rattle.actor_desk.specs.declared.ask.Reply.{Reply}
use Rattle.world_laws.specs.Actors.{ActorCrew}
use Rattle.world_laws.specs.Fine.{lists_of}
use Rattle.world_laws.specs.Outcomes.{note_tells, was_told, tells_end, tells_abort, notes_at, notes_of, are_all_dead, is_no_live_path, outcome_by, outcome_of}
use Rattle.world_laws.specs.Worlds.{begins}
use Rattle.world_core.specs.declared.hearing.Told.{Told}
use Rattle.world_core.specs.Hearing.{told_by, told_more, with_told, heard_more, heard_by, ShowsTheSame}

-- ---- one note more

or_false : (b : Bool) → (b || false) ≡ b
or_false = elim [ true ↦ refl | false ↦ refl ]

told_once : (test : Reply → Bool) (notes : List Note) (n : Note) → was_told test (notes ++ n ∷ []) ≡ (was_told test notes || test n.reply)
told_once test notes n = list_any-append (note_tells test) notes (n ∷ []) ∙ ap (λ b. was_told test notes || b) (or_false (test n.reply))

told_again : (notes : List Note) (n : Note) → told_by (notes ++ n ∷ []) ≡ told_more n.reply (told_by notes)
told_again notes n = rw (told_once tells_end notes n, told_once tells_abort notes n) refl

-- ---- more notes

told_split : (test : Reply → Bool) (n : ℕ) (notes : List Note) → (was_told test (take n notes) || was_told test (drop n notes)) ≡ was_told test notes
told_split test n notes = sym (list_any-append (note_tells test) (take n notes) (drop n notes)) ∙ ap (was_told test) (take-append-drop n notes)

-- what the first ones told, and the others
pub told_both : (n : ℕ) (notes : List Note) (told : Told) → told ≡ told_by (take n notes) → with_told (told_by (drop n notes)) told ≡ told_by notes
told_both n notes told is =
    ap (with_told (told_by (drop n notes))) is
    ∙ by (was_told tells_end (take n notes) || was_told tells_end (drop n notes)) (was_told tells_abort (take n notes) || was_told tells_abort (drop n notes))
    (told_split tells_end n notes) (told_split tells_abort n notes)
  where
    by : (end abort : Bool) → end ≡ was_told tells_end notes → abort ≡ was_told tells_abort notes → record { end = end; abort = abort } ≡ told_by notes
    by end abort e f = rw (e, f) refl

module _ {C : Type 0} where
  -- ---- an actor in the place of another

  notes_other : (crew : List (ActorCrew C)) (i : ℕ) (c d : ActorCrew C) (n : ℕ) → slice_get crew i ≡ Some c → d.list ≡ c.list
      → notes_at n (set crew i d) ≡ notes_at n crew
  notes_other [] i c d n there same = refl
  notes_other (x ∷ crew) zero c d zero there same = same ∙ ap (λ y. y.list) (sym (same_Some x c there))
  notes_other (x ∷ crew) zero c d (suc n) there same = refl
  notes_other (x ∷ crew) (suc i) c d zero there same = refl
  notes_other (x ∷ crew) (suc i) c d (suc n) there same = notes_other crew i c d n there same

  lists_other : (crew : List (ActorCrew C)) (i : ℕ) (c d : ActorCrew C) → slice_get crew i ≡ Some c → d.list ≡ c.list → lists_of (set crew i d) ≡ lists_of crew
  lists_other [] i c d there same = refl
  lists_other (x ∷ crew) zero c d there same = ap (λ list. list ∷ lists_of crew) (same ∙ ap (λ y. y.list) (sym (same_Some x c there)))
  lists_other (x ∷ crew) (suc i) c d there same = ap (λ lists. x.list ∷ lists) (lists_other crew i c d there same)

  dead_other : (crew : List (ActorCrew C)) (i : ℕ) (c d : ActorCrew C) → slice_get crew i ≡ Some c → d.member ≡ c.member
      → are_all_dead (set crew i d) ≡ are_all_dead crew
  dead_other [] i c d there same = refl
  dead_other (x ∷ crew) zero c d there same =
      ap (λ m. is_no_live_path m && are_all_dead crew) (same ∙ ap (λ y. y.member) (sym (same_Some x c there)))
  dead_other (x ∷ crew) (suc i) c d there same = ap (λ b. is_no_live_path x.member && b) (dead_other crew i c d there same)

  -- with the same list, and the same actor
  pub shows_other : (crew : List (ActorCrew C)) (i : ℕ) (c d : ActorCrew C) → slice_get crew i ≡ Some c → d.member ≡ c.member → d.list ≡ c.list
      → ShowsTheSame crew (set crew i d)
  shows_other crew i c d there member list = record {
    lists = lists_other crew i c d there list;
    a = notes_other crew i c d 0 there list;
    b = notes_other crew i c d 1 there list;
    dead = dead_other crew i c d there member;
    many = length-set crew i d;
  }

  pub shows_itself : (crew : List (ActorCrew C)) → ShowsTheSame crew crew
  shows_itself crew = record { lists = refl; a = refl; b = refl; dead = refl; many = refl }

  -- lists that show the same have the same outcome
  pub outcome_same : (before after : List (ActorCrew C)) → ShowsTheSame before after → outcome_of after ≡ outcome_of before
  outcome_same before after s = by (notes_of A after) (notes_of B after) (are_all_dead after) s.a s.b s.dead
    where
      by : (a b : List Note) (dead : Bool) → a ≡ notes_of A before → b ≡ notes_of B before → dead ≡ are_all_dead before
          → outcome_by (was_told tells_abort a) (was_told tells_abort b) (was_told tells_end a && was_told tells_end b) dead ≡ outcome_of before
      by a b dead e f g = rw (e, f, g) refl

  pub heard_same : (before after : List (ActorCrew C)) → ShowsTheSame before after → heard_by after ≡ heard_by before
  heard_same before after s = by (notes_of A after) (notes_of B after) s.a s.b
    where
      by : (a b : List Note) → a ≡ notes_of A before → b ≡ notes_of B before → record { a = told_by a; b = told_by b } ≡ heard_by before
      by a b e f = rw (e, f) refl

  -- with one note more
  pub heard_again : (crew : List (ActorCrew C)) (i : ℕ) (c d : ActorCrew C) (n : Note) → slice_get crew i ≡ Some c → d.list ≡ c.list ++ n ∷ []
      → heard_by (set crew i d) ≡ heard_more i n.reply (heard_by crew)
  heard_again [] i c d n there is = cc
  heard_again (x ∷ crew) zero c d n there is =
      ap (λ notes. record { a = told_by notes; b = told_by (notes_at 1 (x ∷ crew)) }) (is ∙ ap (λ y. y.list ++ n ∷ []) (sym (same_Some x c there)))
      ∙ ap (λ t. record { a = t; b = told_by (notes_at 1 (x ∷ crew)) }) (told_again x.list n)
  heard_again (x ∷ []) (suc zero) c d n there is = cc
  heard_again (x ∷ y ∷ crew) (suc zero) c d n there is =
      ap (λ notes. record { a = told_by x.list; b = told_by notes }) (is ∙ ap (λ z. z.list ++ n ∷ []) (sym (same_Some y c there)))
      ∙ ap (λ t. record { a = told_by x.list; b = t }) (told_again y.list n)
  heard_again (x ∷ []) (suc (suc i)) c d n there is = cc
  heard_again (x ∷ y ∷ crew) (suc (suc i)) c d n there is = refl

  -- ---- a round's end

  same_notes : (stamp : ℕ) (crew : List (ActorCrew C)) (n : ℕ) → notes_at n (map (begins stamp) crew) ≡ notes_at n crew
  same_notes stamp [] n = refl
  same_notes stamp (c ∷ crew) zero = refl
  same_notes stamp (c ∷ crew) (suc n) = same_notes stamp crew n

  pub heard_begun : (stamp : ℕ) (crew : List (ActorCrew C)) → heard_by (map (begins stamp) crew) ≡ heard_by crew
  heard_begun stamp crew = by (notes_at 0 (map (begins stamp) crew)) (notes_at 1 (map (begins stamp) crew)) (same_notes stamp crew 0) (same_notes stamp crew 1)
    where
      by : (a b : List Note) → a ≡ notes_at 0 crew → b ≡ notes_at 1 crew → record { a = told_by a; b = told_by b } ≡ heard_by crew
      by a b e f = rw (e, f) refl
