-- Numbers of a capture, in the order of octets that its head tells.
use Rattle.std.specs.Prelude.{ℕ, List, take, drop}
use Rattle.std.specs.Int.{w16, w32, from_le_bytes}
use Rattle.octet_text.specs.Octets.{number_at}
use Rattle.capture_reader.specs.declared.order.ByteOrder.{ByteOrder}
use Rattle.capture_reader.specs.declared.order.ByteOrder.TheVariants.{BigEndian, LittleEndian}

-- the number of 16 bits that begins at a place
unfoldable pub short_in : ByteOrder → List ℕ → ℕ → ℕ
short_in BigEndian octets place = number_at w16 octets place
short_in LittleEndian octets place = from_le_bytes w16 (take 2 (drop place octets))

-- the number of 32 bits that begins at a place
unfoldable pub word_in : ByteOrder → List ℕ → ℕ → ℕ
word_in BigEndian octets place = number_at w32 octets place
word_in LittleEndian octets place = from_le_bytes w32 (take 4 (drop place octets))
