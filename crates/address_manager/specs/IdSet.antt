-- A set of ids of one octet, as the list that says of each whether it is in.
use Rattle.std.specs.Prelude.{ℕ, Bool, false, List, Option, replicate, position, slice_index_or}

-- none of the 256 ids is in
unfoldable pub no_ids : List Bool
no_ids = replicate 256 false

abbrev pub is_member : List Bool → ℕ → Bool
is_member ids id = slice_index_or ids id false

-- the lowest id that is in
abbrev pub lowest : List Bool → Option ℕ
lowest ids = position (λ member. member) ids
