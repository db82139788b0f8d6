-- Whether two addresses are of one family and have the same octets.
use Rattle.std.specs.Prelude.{Bool, false, ◌==◌}
use Rattle.std.specs.Cmp.Lexicographic.{pointwise}
use Rattle.key_material.specs.declared.address.Address.{Address}
use Rattle.key_material.specs.declared.address.Address.TheVariants.{V4, V6}

abbrev pub is_same : Address → Address → Bool
is_same (V4 one) (V4 other) = pointwise ◌==◌ one other
is_same (V6 one) (V6 other) = pointwise ◌==◌ one other
is_same (V4 one) (V6 other) = false
is_same (V6 one) (V4 other) = false
