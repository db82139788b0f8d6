-- How the turns of a round ended.
use Rattle.std.proofs.Common.{◌≡◌, refl, zero, suc, Bool, true, false, ◌||◌, List, [], ◌∷◌, Option, Some, None, arith}
use Rattle.std.specs.List.{list_any, All}
use Rattle.stamped_book.specs.declared.stamped.Refusal.{Refusal}
use Rattle.stamped_book.specs.declared.stamped.Refusal.TheVariants.{Memory, Stamps}
use Rattle.actor_desk.specs.declared.actor.Crew.{Crew}
use Rattle.actor_turn.specs.Turns.{is_refused, refused_by}

first_of : (a b : Bool) → (a || b) ≡ false → a ≡ false
first_of false b e = refl
first_of true b e = e

rest_of : (a b : Bool) → (a || b) ≡ false → b ≡ false
rest_of false b e = e
rest_of true b e = cc

unrefused : (o : Option Refusal) → refused_by Memory o ≡ false → refused_by Stamps o ≡ false → o ≡ None
unrefused None memory stamps = refl
unrefused (Some Memory) memory stamps = cc
unrefused (Some Stamps) memory stamps = cc

pub none_refused : {A : Type 0} (crew : List (Crew A)) → list_any (is_refused Memory) crew ≡ false → list_any (is_refused Stamps) crew ≡ false
    → All (λ c. c.refused ≡ None) crew
none_refused [] memory stamps k d within = absurd (omega (arith, within))
none_refused (c ∷ crew) memory stamps zero d within =
    unrefused c.refused (first_of (is_refused Memory c) _ memory) (first_of (is_refused Stamps c) _ stamps)
none_refused (c ∷ crew) memory stamps (suc k) d within =
    none_refused crew (rest_of (is_refused Memory c) _ memory) (rest_of (is_refused Stamps c) _ stamps) k d (omega (arith, within))
