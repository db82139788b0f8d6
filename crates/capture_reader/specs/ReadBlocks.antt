-- What the code reads of blocks, as values.
use Rattle.std.specs.Prelude.{map}
use Rattle.capture_reader.specs.declared.blocks.Block.{Block}
use Rattle.capture_reader.specs.declared.blocks.Content.{Content}
use Rattle.capture_reader.specs.declared.blocks.Content.TheVariants.{Section, Named, Packet, Other}
use Rattle.capture_reader.specs.declared.blocks.Reading.{Reading}
use Rattle.capture_reader.specs.Captured.{as_captured}
use Rattle.capture_reader.specs.Blocks.{BlockValue, Saying, Begins, Names, Holds, Else, ReadSoFar}

-- a block wherever it lies
abbrev pub as_block : Block → BlockValue
as_block block = record { order = block.order; kind = block.kind; body = block.body.now }

-- what it says
abbrev pub as_saying : Content → Saying
as_saying Section = Begins
as_saying (Named interface) = Names interface
as_saying (Packet packet) = Holds (as_captured packet)
as_saying Other = Else

-- what was read so far
abbrev pub as_read : Reading → ReadSoFar
as_read reading = record { order = reading.order; interfaces = reading.interfaces.items; packets = map as_captured reading.packets.items }
