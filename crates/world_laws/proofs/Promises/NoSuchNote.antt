-- An answer that no step is given is in no note.
use Rattle.world_laws.proofs.Words.{◌≡◌, refl, sym, ◌∙◌, ap, subst, ℕ, ⊎_elim, Bool, false, Some, None, List, [], ◌∷◌, ◌++◌, or_parts, or_from, slice_get, Ask}
use Rattle.world_laws.proofs.Words.{Note, Reply, Codec, in_map, in_set, ActorCrew, member_asks, Start, opened_world, WorldState, Turn, crew_after, asked}
use Rattle.world_laws.proofs.Words.{greatest, begins, after_turn, note_of, answer_to, notes_at, was_told, notes_or}
use Rattle.world_laws.proofs.Worlds.Turns.{turn_so}
use Rattle.world_laws.proofs.Worlds.Opened.{opened_actors}

module _ (test : Reply → Bool) where
  told_more : (notes : List Note) (n : Note) → was_told test notes ≡ false → test n.reply ≡ false → was_told test (notes ++ n ∷ []) ≡ false
  told_more [] n none untold = or_from (test n.reply) false untold refl
  told_more (m ∷ notes) n none untold =
      let parts = or_parts (test m.reply) (was_told test notes) none in
      or_from (test m.reply) (was_told test (notes ++ n ∷ [])) parts.0 (told_more notes n parts.1 untold)

  module _ {C : Type 0} (k : Codec C) where
    -- by actor
    abbrev pub NoneTold : WorldState C → Type 0
    NoneTold w = (i : ℕ) (c : ActorCrew C) → slice_get w.crew i ≡ Some c → was_told test c.list ≡ false

    pub from_each : (w : WorldState C) → NoneTold w → (actor : ℕ) → was_told test (notes_at actor w.crew) ≡ false
    from_each w h actor = (elim (slice_get w.crew actor) as (λ o. slice_get w.crew actor ≡ o → was_told test (notes_or o) ≡ false)
        [ None ↦ λ is. refl | Some c ↦ λ is. h actor c is ]) refl

    asked_none : (actor : ℕ) (w : WorldState C) (c : ActorCrew C) (x : Ask) → slice_get w.crew actor ≡ Some c → test (answer_to w.books x) ≡ false → NoneTold w
        → NoneTold (asked k actor (Some x) c w)
    asked_none actor w c x there untold h i d at = ⊎_elim
        (λ here. subst (λ y. was_told test y.list ≡ false) here.1 (told_more c.list (note_of w.books c.pass x) (h actor c there) untold))
        (λ other. h i d other.1)
        (in_set w.crew actor (crew_after k x w.books c) i d at)

    -- whatever an actor asks next is answered otherwise
    abbrev pub Untold : WorldState C → Type 0
    Untold w = (actor : ℕ) (c : ActorCrew C) (x : Ask) → slice_get w.crew actor ≡ Some c → member_asks k c.member ≡ Some x → test (answer_to w.books x) ≡ false

    pub turn_none : (turn : Turn) (w : WorldState C) → Untold w → NoneTold w → NoneTold (after_turn k turn w)
    turn_none turn w untold h =
        turn_so k NoneTold turn w h (λ actor c x there is. asked_none actor w c x there (untold actor c x there is) h)
        (λ over i d at. let found = in_map (begins (greatest 0 w.crew)) w.crew i d at in ap (λ y. was_told test y.list) (sym found.2) ∙ h i found.0 found.1)

    pub opened_none : (start : Start) → NoneTold (opened_world start)
    opened_none start = opened_actors (λ actor c. was_told test c.list ≡ false) start refl refl (λ number plan there. refl)
