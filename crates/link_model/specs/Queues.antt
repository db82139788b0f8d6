-- Copies under way as two queues, one for each side that they go to.
use Rattle.std.specs.Prelude.{◌≡◌, if◌then◌else◌, List, [], ◌∷◌, Option, Some}
use Rattle.std.specs.List.{AllByRecursion}
use Rattle.sides.specs.declared.side.Side.{Side}
use Rattle.link_model.specs.declared.flight.Due.{Due}
use Rattle.link_model.specs.declared.flight.Flight.{Flight}
use Rattle.link_model.specs.Order.{AreInOrder}
use Rattle.link_model.specs.Steps.{comes_before, with_flight, due_of, next_due}

-- the copies that go to one side, in the order of their arrival
pub record IsQueue {C : Type 0} (to : Side) (flights : List (Flight C)) : Type 0 where
  pub order : AreInOrder flights
  pub all : AllByRecursion (λ f. f.to ≡ to) flights

-- the copies of both queues, in the order of their arrival
abbrev pub merged : {C : Type 0} → List (Flight C) → List (Flight C) → List (Flight C)
merged [] others = others
merged (f ∷ flights) others = merged flights (with_flight f others)

-- the earlier of the first arrivals of both
abbrev pub first_due : {C : Type 0} → List (Flight C) → List (Flight C) → Option Due
first_due [] others = next_due others
first_due (f ∷ flights) [] = Some (due_of f)
first_due (f ∷ flights) (g ∷ others) = if comes_before f g then Some (due_of f) else Some (due_of g)
