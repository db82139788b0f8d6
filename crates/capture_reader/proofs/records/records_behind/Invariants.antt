use Rattle.std.proofs.Common.{◌≡◌, ◌-◌, [], length, drop, map}
use Rattle.capture_reader.specs.Captured.{as_captured}
use Rattle.capture_reader.specs.Records.{records_after}
use Rattle.capture_reader.proofs.records.records_behind.Given as goal

abbrev pub invariant-loop-place : goal.invariant-loop-place
invariant-loop-place l =
    records_after l.order l.link l.place 0 (map as_captured l.packets.items) (drop l.place l.octets) ≡ records_after l.order l.link 24 0 [] (drop 24 l.octets)

abbrev pub decreases-loop-place : goal.decreases-loop-place
decreases-loop-place l = length l.octets - l.place
