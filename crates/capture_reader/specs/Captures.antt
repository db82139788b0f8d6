-- What octets mean as a capture: its packets, or the octet of the first record or block that has no form.
use Rattle.std.specs.Prelude.{ℕ, Option, Some, None, List, Result}
use Rattle.capture_reader.specs.declared.order.ByteOrder.{ByteOrder}
use Rattle.capture_reader.specs.Captured.{Captured}
use Rattle.capture_reader.specs.Records.{record_order, records_meaning}
use Rattle.capture_reader.specs.Blocks.{blocks_meaning}

-- a capture whose octets have this order, where they begin with a magic number of pcap, else blocks
abbrev pub meaning_by : Option ByteOrder → List ℕ → Result (List Captured) ℕ
meaning_by (Some order) octets = records_meaning order octets
meaning_by None octets = blocks_meaning octets

-- pcap where the octets begin with one of its magic numbers, else pcapng
unfoldable pub capture_meaning : List ℕ → Result (List Captured) ℕ
capture_meaning octets = meaning_by (record_order octets) octets
