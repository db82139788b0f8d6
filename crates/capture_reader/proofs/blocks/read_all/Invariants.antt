use Rattle.std.proofs.Common.{◌≡◌, ◌-◌, length, drop}
use Rattle.capture_reader.specs.Blocks.{blocks_after, nothing_read}
use Rattle.capture_reader.specs.ReadBlocks.{as_read}
use Rattle.capture_reader.proofs.blocks.read_all.Given as goal

abbrev pub invariant-loop-place : goal.invariant-loop-place
invariant-loop-place l = blocks_after l.place 0 (as_read l.reading) (drop l.place l.octets) ≡ blocks_after 0 0 nothing_read l.octets

abbrev pub decreases-loop-place : goal.decreases-loop-place
decreases-loop-place l = length l.octets - l.place
