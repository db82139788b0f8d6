use Rattle.std.proofs.Common.{◌≡◌, ◌-◌, ◌≤◌, true}
use Rattle.seen_octets.specs.Octets.{all_held, octet_at}
use Rattle.seen_streams.proofs.waits.first_gap.Given as goal

abbrev pub invariant-loop-position : goal.invariant-loop-position
invariant-loop-position l = record {
  begun : l.from ≤ l.position;
  within : l.position ≤ l.to;
  held : all_held (octet_at l.octets) l.from (l.position - l.from) ≡ true;
}

abbrev pub decreases-loop-position : goal.decreases-loop-position
decreases-loop-position l = l.to - l.position
