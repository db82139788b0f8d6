-- The stream that a side sent, as far as a capture shows it.
use Rattle.std.specs.Prelude.{ℕ, ◌≡◌, Option, None, List, length}
use Rattle.seen_octets.specs.declared.octet.Octet.{Octet}
use Rattle.seen_octets.specs.Octets.{IsPiece}

-- Octets that are those of the first places; the next place has none.
pub record IsSent (octet : ℕ → Option Octet) (octets : List ℕ) : Type 0 where
  pub held : IsPiece octet 0 octets
  pub ends : octet (length octets) ≡ None
