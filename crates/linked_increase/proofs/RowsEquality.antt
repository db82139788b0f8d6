-- `==` decides whether two lists of rows are equal.
use Rattle.std.proofs.Common.{◌≡◌, true, List, rules}
use Rattle.std.specs.Cmp.Lexicographic.{pointwise, pointwise_decides}
use Rattle.linked_increase.specs.declared.rows.Row.{Row}
use Rattle.linked_increase.specs.contracts.rows.RowPartialEq.TheImpl.{eq-value}

row_decides : (a b : Row) → (eq-value.it a b ≡ true → a ≡ b) × (a ≡ b → eq-value.it a b ≡ true)
row_decides a b = search rules

pub rows_decides : (a b : List Row) → (pointwise eq-value.it a b ≡ true → a ≡ b) × (a ≡ b → pointwise eq-value.it a b ≡ true)
rows_decides = pointwise_decides row_decides
