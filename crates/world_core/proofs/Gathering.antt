-- The order of a round, and how many notes each actor has, gathered list by list.
use Rattle.std.proofs.Common.{◌≡◌, refl, sym, ◌∙◌, ap, ℕ, zero, suc, ◌+◌, ◌<◌, ◌≤◌, List, [], ◌∷◌, ◌++◌, map, drop, take, length, get_or, arith}
use Rattle.std.proofs.lemmas.List.{length-map}
use Rattle.actor_desk.specs.declared.ask.Note.{Note}
use Rattle.actor_desk.specs.Journals.{with_notes}
use Rattle.world_laws.specs.Actors.{ActorCrew}
use Rattle.world_laws.specs.Fine.{lists_of}
use Rattle.world_laws.specs.Outcomes.{notes_at}
use Rattle.world_core.specs.Weaving.{since}
use Rattle.world_core.proofs.SinceRound.{notes_at-is}

since_at : (made : List ℕ) (lists : List (List Note)) (i d : ℕ) → i < length made → length made ≡ length lists
    → since (drop i made) (drop i lists) ≡ with_notes (drop (get_or made i d) (get_or lists i [])) (since (drop (suc i) made) (drop (suc i) lists))
since_at [] lists i d within same = absurd (omega (arith, within))
since_at (m ∷ made) [] i d within same = absurd (omega (arith, same))
since_at (m ∷ made) (list ∷ lists) zero d within same = refl
since_at (m ∷ made) (list ∷ lists) (suc i) d within same = since_at made lists i d (omega (arith, within)) (omega (arith, same))

-- the notes of one actor more
pub woven_more : (made : List ℕ) (crew : List (ActorCrew (List ℕ))) (actor i d from : ℕ) (notes added old new : List Note) → actor ≡ suc i → actor ≤ length crew
    → length made ≡ length crew → from ≡ get_or made i d → notes ≡ notes_at i crew → added ≡ drop from notes → new ≡ with_notes added old
    → old ≡ since (drop actor made) (drop actor (lists_of crew)) → new ≡ since (drop i made) (drop i (lists_of crew))
woven_more made crew actor i d from notes added old new is within many from_is notes_is added_is new_is old_is =
    new_is ∙ ap (λ xs. with_notes xs old) (added_is ∙ ap (λ n. drop n notes) from_is ∙ ap (drop (get_or made i d)) (notes_is ∙ notes_at-is i crew))
    ∙ ap (with_notes (drop (get_or made i d) (get_or (lists_of crew) i []))) (old_is ∙ ap (λ a. since (drop a made) (drop a (lists_of crew))) is)
    ∙ sym (since_at made (lists_of crew) i d (omega (arith, is, within, many)) (many ∙ sym (length-map crew (λ (c : ActorCrew (List ℕ)). c.list))))

-- ---- how many notes each actor has

get_or-more : {X : Type 0} (xs : List X) (i : ℕ) (d : X) → i < length xs → take (suc i) xs ≡ take i xs ++ get_or xs i d ∷ []
get_or-more [] i d within = absurd (omega (arith, within))
get_or-more (x ∷ xs) zero d within = refl
get_or-more (x ∷ xs) (suc i) d within = ap (λ ys. x ∷ ys) (get_or-more xs i d (omega (arith, within)))

map-append-one : (xs : List (List Note)) (y : List Note) → map length (xs ++ y ∷ []) ≡ map length xs ++ length y ∷ []
map-append-one [] y = refl
map-append-one (x ∷ xs) y = ap (λ ns. length x ∷ ns) (map-append-one xs y)

pub made_more : (crew : List (ActorCrew (List ℕ))) (i count : ℕ) (old new : List ℕ) → i < length crew → count ≡ length (notes_at i crew)
    → old ≡ map length (take i (lists_of crew)) → new ≡ old ++ count ∷ [] → new ≡ map length (take (i + 1) (lists_of crew))
made_more crew i count old new within count_is old_is new_is =
    new_is ∙ ap (λ ns. ns ++ count ∷ []) old_is ∙ ap (λ n. map length (take i (lists_of crew)) ++ n ∷ []) (count_is ∙ ap length (notes_at-is i crew))
    ∙ sym (map-append-one (take i (lists_of crew)) (get_or (lists_of crew) i []))
    ∙ sym (ap (map length) (ap (λ n. take n (lists_of crew)) (let e : i + 1 ≡ suc i = omega arith in e)
    ∙ get_or-more (lists_of crew) i [] (let many = length-map crew (λ (c : ActorCrew (List ℕ)). c.list) in omega (arith, within, many))))
