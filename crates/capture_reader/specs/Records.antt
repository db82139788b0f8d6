-- The format pcap (the Internet draft draft-ietf-opsawg-pcap): a head of 24 octets, then a record for each packet.
use Rattle.std.specs.Prelude.{ℕ, zero, suc, ◌+◌, ◌%◌, ◌^◌, ◌||◌, ◌==◌, nat_lt, if◌then◌else◌, Option, Some, None, List, [], ◌∷◌, ◌++◌, length, drop, Result, Ok, Err}
use Rattle.capture_reader.specs.declared.order.ByteOrder.{ByteOrder}
use Rattle.capture_reader.specs.declared.order.ByteOrder.TheVariants.{BigEndian, LittleEndian}
use Rattle.capture_reader.specs.Order.{word_in}
use Rattle.capture_reader.specs.Captured.{Captured, captured_of}
use Rattle.capture_reader.specs.Steps.{◌>>=◌, or_fault}

-- The magic number tells the order of octets: a1b2c3d4 where times count microseconds, a1b23c4d where they count nanoseconds.
unfoldable pub order_of_magic : ℕ → Option ByteOrder
order_of_magic magic =
    if magic == 0xA1B2C3D4 || magic == 0xA1B23C4D then Some BigEndian
    else (if magic == 0xD4C3B2A1 || magic == 0x4D3CB2A1 then Some LittleEndian
    else None)

-- the order of octets of a capture that begins with such a number
unfoldable pub record_order : List ℕ → Option ByteOrder
record_order octets = if nat_lt (length octets) 4 then None else order_of_magic (word_in BigEndian octets 0)

-- The record that octets begin with, if it is whole: the seconds and their parts, how many octets are held, how many the packet
-- had, and those that are held.
unfoldable pub record_at : ByteOrder → ℕ → List ℕ → Option Captured
record_at order link octets =
    if nat_lt (length octets) 16 then None
    else captured_of link (word_in order octets 8) (word_in order octets 12) (drop 16 octets)

-- The packets of records, added to these, or the octet of the first record that isn't whole. The octets begin at this place,
-- and as many as `left` are still of the record before.
abbrev pub records_after : ByteOrder → ℕ → ℕ → ℕ → List Captured → List ℕ → Result (List Captured) ℕ
records_after order link place left packets [] = Ok packets
records_after order link place (suc left) packets (x ∷ rest) = records_after order link place left packets rest
records_after order link place zero packets (x ∷ rest) =
    or_fault place (record_at order link (x ∷ rest)) >>= λ packet.
    records_after order link (place + 16 + length packet.octets) (15 + length packet.octets) (packets ++ packet ∷ []) rest

-- The packets behind the head, whose last word has the link type in its low 16 bits.
unfoldable pub records_meaning : ByteOrder → List ℕ → Result (List Captured) ℕ
records_meaning order octets =
    if nat_lt (length octets) 24 then Err 0
    else records_after order (word_in order octets 20 % 2 ^ 16) 24 0 [] (drop 24 octets)
