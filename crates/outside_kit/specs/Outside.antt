-- What an outside tells of itself, and what is said of it before and after a call.
use Rattle.std.specs.Prelude.{◌≡◌, ℕ, ◌-◌, ◌^◌, ◌<◌, ◌⊎◌, List, ◌++◌, take, Option, Some, IfSome}
use Rattle.outside_kit.specs.declared.port.Port.{Port}
use Rattle.outside_kit.specs.Calls.{Made}

-- what an outside tells
pub record Told : Type 0 where
  -- the content of a name, where it is told
  pub content : List ℕ → Option (List ℕ)
  -- the content of a name as it lies outside, where it is told; it may be given in another form
  pub source : List ℕ → Option (List ℕ)
  -- what a port holds, where it is told
  pub holds : Port → Option (List ℕ)
  -- how many loads have failed
  pub load_faults : ℕ
  -- how many binds and puts of a port have failed
  pub port_faults : Port → ℕ
  -- the calls that were made on it, in order, where it tells them; it may cease to tell them
  pub calls : Option (List Made)

-- a count has risen, or stands at the greatest number that it has
abbrev pub HasRisen : ℕ → ℕ → Type 0
HasRisen old new = (old < new) ⊎ ((old ≡ 2 ^ 64 - 1) × (new ≡ 2 ^ 64 - 1))

-- where a port told what it held, it tells that it holds this instead
abbrev pub HoldsAfter : Option (List ℕ) → Option (List ℕ) → (List ℕ → List ℕ) → Type 0
HoldsAfter old new change = IfSome old (λ held. new ≡ Some (change held))

-- where a port told what it held, it tells that it holds this and a prefix of the piece
abbrev pub HoldsPrefix : Option (List ℕ) → Option (List ℕ) → List ℕ → Type 0
HoldsPrefix old new piece = IfSome old (λ held. (count : ℕ) × (new ≡ Some (held ++ take count piece)))
