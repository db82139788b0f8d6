-- The octets of an announced address, in network order.
use Rattle.std.specs.Prelude.{ℕ, List}
use Rattle.key_material.specs.declared.address.Address.{Address}
use Rattle.key_material.specs.declared.address.Address.TheVariants.{V4, V6}

abbrev pub octets_of : Address → List ℕ
octets_of (V4 octets) = octets
octets_of (V6 octets) = octets
