-- A name is text: its octets are ASCII.
use Rattle.std.proofs.Common.{◌≡◌, ℕ, zero, suc, ◌<◌, true, nat_le, nat_lt, List, [], ◌∷◌, length, get_or, arith}
use Rattle.std.specs.List.{list_all}
use Rattle.std.specs.Str.{IsUtf8}
use Rattle.std.proofs.lemmas.Bool.{and_parts, leb-true}
use Rattle.std.proofs.lemmas.Str.{IsUtf8-from_ascii}
use Rattle.connection_table.specs.Lists.{is_name, is_name_octet}

octets_ascii : (word : List ℕ) → list_all is_name_octet word ≡ true → (i : ℕ) → get_or word i 0 < 128
octets_ascii [] passes i = omega arith
octets_ascii (octet ∷ octets) passes zero =
    let low = and_parts (nat_le 0x21 octet) (nat_le octet 0x7E) (and_parts (is_name_octet octet) (list_all is_name_octet octets) passes).0 in
    omega (arith, leb-true octet 0x7E low.1)
octets_ascii (octet ∷ octets) passes (suc i) = octets_ascii octets (and_parts (is_name_octet octet) (list_all is_name_octet octets) passes).1 i

pub name_is_text : (word : List ℕ) → is_name word ≡ true → IsUtf8 word
name_is_text word named = IsUtf8-from_ascii word (octets_ascii word (and_parts (nat_lt 0 (length word)) (list_all is_name_octet word) named).1)
