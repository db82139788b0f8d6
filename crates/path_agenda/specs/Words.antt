-- Words on the lists of an agenda.
use Rattle.std.specs.Prelude.{Option, Some, None, List, [], ◌∷◌}

-- the list with another first member
abbrev pub replaced : {X : Type 0} → X → List X → List X
replaced y [] = []
replaced y (x ∷ xs) = y ∷ xs

abbrev pub first_of : {X : Type 0} → List X → Option X
first_of [] = None
first_of (x ∷ xs) = Some x
