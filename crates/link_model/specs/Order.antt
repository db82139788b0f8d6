-- Copies in the order of their arrival.
use Rattle.std.specs.Prelude.{◌≡◌, false, List, [], ◌∷◌}
use Rattle.std.specs.List.{AllByRecursion}
use Rattle.link_model.specs.declared.flight.Flight.{Flight}
use Rattle.link_model.specs.Steps.{comes_before}

-- no copy of these arrives before this one
abbrev pub IsFirst : {C : Type 0} → Flight C → List (Flight C) → Type 0
IsFirst f flights = AllByRecursion (λ g. comes_before g f ≡ false) flights

-- copies in the order of their arrival
abbrev pub AreInOrder : {C : Type 0} → List (Flight C) → Type 0
AreInOrder [] = Unit {0}
AreInOrder (f ∷ flights) = IsFirst f flights × AreInOrder flights
