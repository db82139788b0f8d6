use Rattle.std.proofs.Common.{◌≡◌, drop}
use Rattle.seen_octets.specs.Octets.{octet_at}
use Rattle.seen_streams.specs.Shows.{stream_of}
use Rattle.seen_streams.specs.Sums.{tried_sums}
use Rattle.seen_streams.proofs.sums.try_each.Given as goal

abbrev pub invariant-loop-one : goal.invariant-loop-one
invariant-loop-one l =
    tried_sums l.packet l.first (octet_at l.octets) (drop l.one-index l.waiting) (stream_of l.stream)
    ≡ tried_sums l.packet l.first (octet_at l.octets) l.waiting (stream_of l.fn.stream)
