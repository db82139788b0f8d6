-- What stands in a list of octets, at places counted from 0. Numbers are in network order.
use Rattle.std.specs.Prelude.{ℕ, Bool, not, ◌==◌, List, take, drop, slice_index, bit_and}
use Rattle.std.specs.Int.{Width, byte_len, from_be_bytes}

-- the octet at a place
abbrev pub octet : List ℕ → ℕ → ℕ
octet octets place = slice_index octets place

-- the number that begins at a place, its highest octet first
abbrev pub number_at : Width → List ℕ → ℕ → ℕ
number_at w octets place = from_be_bytes w (take (byte_len w) (drop place octets))

-- an octet has a flag
abbrev pub is_set : ℕ → ℕ → Bool
is_set flags flag = not (bit_and flags flag == 0)
