-- The octets that were sent for the first time are as many as the places that were carried.
use Rattle.std.specs.Prelude.{◌≡◌, ℕ, ◌+◌, ◌^◌, ◌<◌, ◌≤◌, ◌⊎◌, Some, List, [], ◌∷◌, length}
use Rattle.sides.specs.declared.side.Side.{Side}
use Rattle.link_trace.specs.declared.carried.Carried.{Carried}
use Rattle.link_trace.specs.declared.rows.Rates.{Rates}
use Rattle.link_trace.specs.Rows.{first_octets_from, rows_of}

-- a payload whose place is told, so that it ends at this place or before it
pub record EndsBy (n : ℕ) (c : Carried) : Type 0 where
  pub place : ℕ
  pub told : c.place ≡ Some place
  pub within : place + c.len ≤ n

-- Each segment of this side is on one of so many paths, and has such a payload or none.
abbrev pub EachEndsBy : ℕ → ℕ → Side → List Carried → Type 0
EachEndsBy paths n side [] = Unit {0}
EachEndsBy paths n side (c ∷ cs) = (c.from ≡ side → (c.path < paths) × ((c.len ≡ 0) ⊎ EndsBy n c)) × EachEndsBy paths n side cs

-- a payload of this side with the octet at this place
pub record HasOctet (side : Side) (at : ℕ) (c : Carried) : Type 0 where
  pub from : c.from ≡ side
  pub place : ℕ
  pub told : c.place ≡ Some place
  pub below : place ≤ at
  pub above : at < place + c.len

-- one of these segments has it
abbrev pub OneHasOctet : Side → ℕ → List Carried → Type 0
OneHasOctet side at [] = ⊥
OneHasOctet side at (c ∷ cs) = HasOctet side at c ⊎ OneHasOctet side at cs

-- Where a side's payloads stand at places below a number, and each of these is in one, as many octets are sent for the first time.
abbrev pub FirstOctetsAreThePlaces : Type 0
FirstOctetsAreThePlaces =
    (rates : List Rates) (cs : List Carried) (side : Side) (n : ℕ) → n < 2 ^ 64 → EachEndsBy (length rates) n side cs
    → ((at : ℕ) → at < n → OneHasOctet side at cs) → first_octets_from side (rows_of rates cs) ≡ n
