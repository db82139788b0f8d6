-- The format pcapng (the Internet draft draft-ietf-opsawg-pcapng): blocks, in sections.
use Rattle.std.specs.Prelude.{ℕ, zero, suc, ◌+◌, ◌-◌, ◌%◌, Bool, ◌&&◌, ◌==◌, nat_lt, nat_le, min, if◌then◌else◌, Option, Some, None, option_map, option_and_then, List, [], ◌∷◌, ◌++◌, length, drop, slice_get, slice_range, Result, Ok, Err}
use Rattle.capture_reader.specs.declared.order.ByteOrder.{ByteOrder}
use Rattle.capture_reader.specs.declared.order.ByteOrder.TheVariants.{BigEndian, LittleEndian}
use Rattle.capture_reader.specs.declared.blocks.Interface.{Interface}
use Rattle.capture_reader.specs.Order.{short_in, word_in}
use Rattle.capture_reader.specs.Captured.{Captured, captured_of}
use Rattle.capture_reader.specs.Steps.{◌>>=◌, or_fault}

-- what is in a block, its length and type apart
pub record BlockValue : Type 0 where
  pub order : ByteOrder
  pub kind : ℕ
  pub body : List ℕ

-- what a block says
pub data Saying : Type 0 where
  -- a section begins
  Begins : Saying
  -- an interface of the section
  Names : Interface → Saying
  -- a packet
  Holds : Captured → Saying
  -- nothing that is read
  Else : Saying

-- what was read so far: the order of octets of the open section, if one is, its interfaces, and all packets
pub record ReadSoFar : Type 0 where
  pub order : Option ByteOrder
  pub interfaces : List Interface
  pub packets : List Captured

-- the order of octets of a section, by its magic number (section 4.1)
unfoldable pub order_of_section : ℕ → Option ByteOrder
order_of_section magic =
    if magic == 0x1A2B3C4D then Some BigEndian else (if magic == 0x4D3C2B1A then Some LittleEndian else None)

-- The order of octets of a block of at least 12 octets: a section header tells it, all others have that of the open section.
unfoldable pub order_of_block : Option ByteOrder → List ℕ → Option ByteOrder
order_of_block opened octets =
    if word_in BigEndian octets 0 == 0x0A0D0D0A then order_of_section (word_in BigEndian octets 8) else opened

-- Its length is at least 12, a multiple of 4, within the octets, and repeated at its end (section 3.1).
unfoldable pub is_framed : ByteOrder → List ℕ → Bool
is_framed order octets =
    let len = word_in order octets 4 in
    nat_le 12 len && (len % 4 == 0 && (nat_le len (length octets) && word_in order octets (len - 4) == len))

-- the block of this order that octets begin with, if it has its form
unfoldable pub block_of : List ℕ → ByteOrder → Option BlockValue
block_of octets order =
    if is_framed order octets
    then Some (record { order = order; kind = word_in order octets 0; body = slice_range octets 8 (word_in order octets 4 - 4) })
    else None

-- the block that octets begin with
unfoldable pub block_at : Option ByteOrder → List ℕ → Option BlockValue
block_at opened octets =
    if nat_lt (length octets) 12 then None else option_and_then (block_of octets) (order_of_block opened octets)

-- ---- what is in the blocks that are read

-- a section header: at least 16 octets, with a major version of 1 (section 4.1)
unfoldable pub section_in : BlockValue → Option Saying
section_in block =
    if nat_le 16 (length block.body) && short_in block.order block.body 4 == 1 then Some Begins else None

-- an interface: its link type, and the most octets that it holds of a packet, 0 where there is no limit (section 4.2)
unfoldable pub interface_in : BlockValue → Option Saying
interface_in block =
    if nat_lt (length block.body) 8 then None
    else Some (Names (record { link = short_in block.order block.body 0; snap_len = word_in block.order block.body 4 }))

-- a packet that this interface holds
unfoldable pub packet_by : BlockValue → Interface → Option Saying
packet_by block interface =
    option_map Holds (captured_of interface.link (word_in block.order block.body 12) (word_in block.order block.body 16) (drop 20 block.body))

-- a packet of the interface with this number (section 4.3)
unfoldable pub packet_in : List Interface → BlockValue → ℕ → Option Saying
packet_in interfaces block interface =
    if nat_lt (length block.body) 20 then None else option_and_then (packet_by block) (slice_get interfaces interface)

-- how many octets a simple packet block holds: those of the packet, up to the limit
abbrev pub held_by : ℕ → ℕ → ℕ
held_by snap_len len = if snap_len == 0 then len else min len snap_len

-- a simple packet that this interface holds
unfoldable pub simple_by : BlockValue → Interface → Option Saying
simple_by block interface =
    let len = word_in block.order block.body 0 in
    option_map Holds (captured_of interface.link (held_by interface.snap_len len) len (drop 4 block.body))

-- a simple packet, which is of the first interface (section 4.4)
unfoldable pub simple_in : List Interface → BlockValue → Option Saying
simple_in interfaces block =
    if nat_lt (length block.body) 4 then None else option_and_then (simple_by block) (slice_get interfaces 0)

-- What a block says by its type: 6 and the older 2 are packets, whose interface is told in 32 or in 16 bits. Any other type is
-- passed over.
unfoldable pub saying_of : List Interface → BlockValue → Option Saying
saying_of interfaces block =
    if block.kind == 0x0A0D0D0A then section_in block
    else (if block.kind == 1 then interface_in block
    else (if block.kind == 6 then packet_in interfaces block (word_in block.order block.body 0)
    else (if block.kind == 2 then packet_in interfaces block (short_in block.order block.body 0)
    else (if block.kind == 3 then simple_in interfaces block
    else Some Else))))

-- ---- all blocks

-- what was read with this too; a section begins with no interface
abbrev pub with_saying : ByteOrder → Saying → ReadSoFar → ReadSoFar
with_saying order Begins so_far = record { order = Some order; interfaces = []; packets = so_far.packets }
with_saying order (Names interface) so_far = record so_far { interfaces = so_far.interfaces ++ interface ∷ [] }
with_saying order (Holds packet) so_far = record so_far { packets = so_far.packets ++ packet ∷ [] }
with_saying order Else so_far = so_far

-- what was read with this block too, and how long it is: 12 octets around its body
unfoldable pub read_block : ReadSoFar → BlockValue → Option (ReadSoFar × ℕ)
read_block so_far block =
    option_map (λ saying. (with_saying block.order saying so_far, length block.body + 12)) (saying_of so_far.interfaces block)

-- what is read, with the block that octets begin with
unfoldable pub read_front : ReadSoFar → List ℕ → Option (ReadSoFar × ℕ)
read_front so_far octets = option_and_then (read_block so_far) (block_at so_far.order octets)

-- All that is read, or the octet of the first block that has no form. The octets begin at this place, and as many as `left`
-- are still of the block before.
abbrev pub blocks_after : ℕ → ℕ → ReadSoFar → List ℕ → Result ReadSoFar ℕ
blocks_after place left so_far [] = Ok so_far
blocks_after place (suc left) so_far (x ∷ rest) = blocks_after place left so_far rest
blocks_after place zero so_far (x ∷ rest) =
    or_fault place (read_front so_far (x ∷ rest)) >>= λ front. blocks_after (place + front.1) (front.1 - 1) front.0 rest

-- no block was read
abbrev pub nothing_read : ReadSoFar
nothing_read = record { order = None; interfaces = []; packets = [] }

-- the packets of all blocks, of which there is at least one
unfoldable pub blocks_meaning : List ℕ → Result (List Captured) ℕ
blocks_meaning octets =
    if length octets == 0 then Err 0 else blocks_after 0 0 nothing_read octets >>= λ so_far. Ok so_far.packets
