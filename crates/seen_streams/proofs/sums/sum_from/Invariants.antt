use Rattle.std.proofs.Common.{◌≡◌, ◌-◌, ◌≤◌}
use Rattle.dss_checksum.specs.MappingSum.{sum_of}
use Rattle.seen_octets.specs.Octets.{octet_at}
use Rattle.seen_streams.specs.Sums.{held_octets}
use Rattle.seen_streams.proofs.sums.sum_from.Given as goal

abbrev pub invariant-loop-position : goal.invariant-loop-position
invariant-loop-position l = record {
  begun : l.from ≤ l.position;
  within : l.position ≤ l.to;
  sum : l.sum ≡ sum_of l.header (held_octets (octet_at l.octets) l.from (l.position - l.from));
}

abbrev pub decreases-loop-position : goal.decreases-loop-position
decreases-loop-position l = l.to - l.position
