-- Infinite mappings: places rise with positions (RFC 8684, section 3.7).
use Rattle.std.specs.Prelude.{ℕ, ◌+◌, ◌-◌, ◌^◌, Bool, false, nat_lt, nat_le, if◌then◌else◌, Option, Some, None}
use Rattle.path_store.specs.declared.infinite_mapping.InfiniteMapping.{InfiniteMapping}

-- places are below 2^62
abbrev pub below_limit : ℕ → Option ℕ
below_limit place = if nat_lt place (2 ^ 62) then Some place else None

-- the place of a position; those before the mapping's own have its place
abbrev pub place_under : InfiniteMapping → ℕ → Option ℕ
place_under mapping position = below_limit (mapping.place + (position - mapping.position))

-- an infinite mapping is there, and begins at this position or before it
abbrev pub covers : Option InfiniteMapping → ℕ → Bool
covers None position = false
covers (Some mapping) position = nat_le mapping.position position

-- the end of the peer's stream that a FIN at this position stands for, by the peer's infinite mapping
abbrev pub fin_under : Option InfiniteMapping → ℕ → Option ℕ
fin_under None position = None
fin_under (Some mapping) position = if nat_le mapping.position position then place_under mapping position else None

-- in plain TCP the place of a position is one less, and with mappings of pieces a FIN stands for nothing
abbrev pub fin_place : Bool → Option InfiniteMapping → ℕ → Option ℕ
fin_place plain infinite position = if plain then Some (position - 1) else fin_under infinite position
