use Rattle.std.proofs.Common.{◌≡◌, ◌+◌, ◌-◌, ◌≤◌, drop, length}
use Rattle.seen_octets.specs.Octets.{octet_at}
use Rattle.seen_octets.specs.Others.{first_other}
use Rattle.seen_octets.proofs.octets.SeenOctets.first_other.Given as goal

abbrev pub invariant-loop-place : goal.invariant-loop-place
invariant-loop-place l = record {
  begun : l.from ≤ l.place;
  within : l.place ≤ l.from + length l.part;
  left : first_other (octet_at l.self) l.place (drop (l.place - l.from) l.part) ≡ first_other (octet_at l.self) l.from l.part;
}

abbrev pub decreases-loop-place : goal.decreases-loop-place
decreases-loop-place l = l.to - l.place
