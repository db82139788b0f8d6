-- The written octets of a direction, in the parts in which they were written.
use Rattle.std.specs.Prelude.{ℕ, ◌≡◌, ◌+◌, List, [], ◌∷◌, ◌++◌, length}
use Rattle.send_book.specs.declared.written.Part.{Part}

-- the octets of all parts
abbrev pub joined : List Part → List ℕ
joined [] = []
joined (p ∷ ps) = p.octets ++ joined ps

-- each part ends so many octets after the one before it, and the first one begins at this place
abbrev pub Follow : ℕ → List Part → Type 0
Follow at [] = Unit {0}
Follow at (p ∷ ps) = (p.end ≡ at + length p.octets) × Follow p.end ps
