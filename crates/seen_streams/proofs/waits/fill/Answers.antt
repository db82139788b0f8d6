use Rattle.seen_octets.specs.Octets.{octet_at}
use Rattle.seen_streams.proofs.Gaps.{gaps_filled}
use Rattle.seen_streams.proofs.waits.fill.Goals as goal

pub returns-clause-gaps : goal.returns-clause-gaps
returns-clause-gaps c = λ h.
    gaps_filled c.reach.new.waits (octet_at c.args.octets.now) (octet_at c.fill.new.self) c.args.from c.args.part.now
    c.reach.ensures.begun c.reach.ensures.ended c.fill.ensures.others (c.reach.ensures.gaps (octet_at c.args.octets.now) h)
