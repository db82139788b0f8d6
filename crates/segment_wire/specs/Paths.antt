-- Between which addresses and ports the segments of a path go.
use Rattle.std.specs.Prelude.{ℕ, ◌+◌, List, [], ◌∷◌}
use Rattle.sides.specs.declared.side.Side.{Side}
use Rattle.sides.specs.declared.side.Side.TheVariants.{A, B}
use Rattle.sides.specs.Side.{peer}
use Rattle.segment_wire.specs.declared.head.Addresses.{Addresses}

-- path i is between 10.0.i.1 and 10.0.i.2
abbrev pub address_of : ℕ → Side → List ℕ
address_of path A = 10 ∷ 0 ∷ path ∷ 1 ∷ []
address_of path B = 10 ∷ 0 ∷ path ∷ 2 ∷ []

-- the addresses of what a side sends
abbrev pub addresses_from : ℕ → Side → Addresses
addresses_from path from = record { source = address_of path from; destination = address_of path (peer from) }

-- port 40000 + i of A, and 5001 of B
abbrev pub port_of : ℕ → Side → ℕ
port_of path A = 40000 + path
port_of path B = 5001
