-- The texts and the order of a round, gathered part by part.
use Rattle.std.proofs.Common.{◌≡◌, refl, sym, ◌∙◌, ap, ℕ, ◌+◌, ◌<◌, List, [], ◌∷◌, ◌++◌, map, take, length, arith}
use Rattle.std.specs.List.{sum}
use Rattle.std.proofs.lemmas.List.Sums.{sum_by-append}
use Rattle.world_laws.specs.Actors.{ActorCrew}
use Rattle.world_laws.specs.Fine.{lists_of}
use Rattle.world_laws.specs.Outcomes.{notes_at}
use Rattle.world_core.proofs.Gathering.{made_more}

-- ---- how many notes all actors have

sum_push : (counts : List ℕ) (count : ℕ) → sum (counts ++ count ∷ []) ≡ sum counts + count
sum_push counts count = sum_by-append (λ n. n) counts (count ∷ []) ∙ ap (λ n. sum counts + n) (let e : 0 + count ≡ count = omega arith in e)

-- the notes of one actor more
pub steps_more : (crew : List (ActorCrew (List ℕ))) (i count old new : ℕ) → i < length crew → count ≡ length (notes_at i crew)
    → old ≡ sum (map length (take i (lists_of crew))) → new ≡ old + count → new ≡ sum (map length (take (i + 1) (lists_of crew)))
steps_more crew i count old new within count_is old_is new_is =
    let before = map length (take i (lists_of crew)) in
    new_is ∙ ap (λ n. n + count) old_is ∙ sym (sum_push before count) ∙ ap sum (made_more crew i count before (before ++ count ∷ []) within count_is refl refl)
