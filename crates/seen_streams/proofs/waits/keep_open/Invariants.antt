use Rattle.std.proofs.Common.{◌≡◌, ◌++◌, drop}
use Rattle.seen_octets.specs.Octets.{octet_at}
use Rattle.seen_streams.specs.Waits.{HaveGaps, still_open}
use Rattle.seen_streams.proofs.waits.keep_open.Given as goal

abbrev pub invariant-loop-one : goal.invariant-loop-one
invariant-loop-one l = record {
  gaps : HaveGaps (octet_at l.octets) l.waits;
  fresh : l.waits.fresh.items ≡ l.fn.waits.fresh.items;
  tried : l.waits.tried.items ++ still_open (octet_at l.octets) (drop l.one-index l.fresh)
      ≡ l.fn.waits.tried.items ++ still_open (octet_at l.octets) l.fresh;
}
