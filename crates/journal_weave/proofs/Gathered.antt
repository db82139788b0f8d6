-- The lists of all actors, gathered one by one.
use Rattle.std.proofs.Common.{◌≡◌, refl, sym, ◌∙◌, ap, subst, ℕ, zero, suc, ◌<◌, ◌≤◌, List, [], ◌∷◌, length, drop, get_or, arith}
use Rattle.actor_desk.specs.declared.actor.Crew.{Crew}
use Rattle.actor_desk.specs.declared.ask.Note.{Note}
use Rattle.actor_desk.specs.Journals.{above, in_order, with_notes}
use Rattle.world_laws.specs.Fine.{NotesRise}
use Rattle.journal_weave.specs.Weaving.{AreOwn, lists_in}

own_at : (first : ℕ) (lists : List (List Note)) (i : ℕ) (d : List Note) → AreOwn first lists → i < length lists → NotesRise 0 (get_or lists i d)
own_at first [] i d own within = absurd (omega (arith, within))
own_at first (list ∷ lists) zero d own within = own.1
own_at first (list ∷ lists) (suc i) d own within = own_at (suc first) lists i d own.2 (omega (arith, within))

list_at : {A : Type 0} (crew : List (Crew A)) (i : ℕ) (c : Crew A) → i < length crew → get_or (lists_in crew) i [] ≡ (get_or crew i c).list
list_at [] i c within = absurd (omega (arith, within))
list_at (x ∷ crew) zero c within = refl
list_at (x ∷ crew) (suc i) c within = list_at crew i c (omega (arith, within))

many : {A : Type 0} (crew : List (Crew A)) → length (lists_in crew) ≡ length crew
many [] = refl
many (c ∷ crew) = ap suc (many crew)

-- the list of an actor rises
pub rises_at : {A : Type 0} (crew : List (Crew A)) (i : ℕ) (c : Crew A) → AreOwn 0 (lists_in crew) → i < length crew → NotesRise 0 (get_or crew i c).list
rises_at crew i c own within =
    subst (λ notes. NotesRise 0 notes) (list_at crew i c within) (own_at 0 (lists_in crew) i [] own (let e = many crew in omega (arith, e, within)))

order_at : (after : ℕ) (lists : List (List Note)) (i : ℕ) → i < length lists
    → in_order after (drop i lists) ≡ with_notes (above after (get_or lists i [])) (in_order after (drop (suc i) lists))
order_at after [] i within = absurd (omega (arith, within))
order_at after (list ∷ lists) zero within = refl
order_at after (list ∷ lists) (suc i) within = order_at after lists i (omega (arith, within))

-- an actor's notes more
pub order_more : {A : Type 0} (after : ℕ) (crew : List (Crew A)) (left i : ℕ) (c : Crew A) (added old new : List Note) → left ≡ suc i → left ≤ length crew
    → added ≡ above after (get_or crew i c).list → new ≡ with_notes added old → old ≡ in_order after (drop left (lists_in crew))
    → new ≡ in_order after (drop i (lists_in crew))
order_more after crew left i c added old new is within added_is new_is old_is =
    let low : i < length crew = omega (arith, is, within) in
    new_is ∙ ap (λ xs. with_notes xs old) (added_is ∙ ap (above after) (sym (list_at crew i c low)))
    ∙ ap (with_notes (above after (get_or (lists_in crew) i []))) (old_is ∙ ap (λ k. in_order after (drop k (lists_in crew))) is)
    ∙ sym (order_at after (lists_in crew) i (let e = many crew in omega (arith, e, low)))
