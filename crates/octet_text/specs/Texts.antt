-- Where the octets of a text are.
use Rattle.std.specs.Prelude.{ℕ, List}
use Rattle.octet_text.specs.declared.text.Octets.{Octets}
use Rattle.octet_text.specs.declared.text.Octets.TheVariants.{Owned, Shared}

-- the octets themselves
abbrev pub octets_of : Octets → List ℕ
octets_of (Owned octets) = octets.items
octets_of (Shared octets) = octets
