use Rattle.capture_reader.specs.Seen.{as_seen}
use Rattle.seen_connections.proofs.Last.{last_at_most}
use Rattle.call_vectors.proofs.flow_cases.take_one.Goals as goal

pub returns-in_ok-take : goal.returns-in_ok-take
returns-in_ok-take c =
    let segment = c.in-Some.segment in
    last_at_most c.args.seen.now c.take.new.self _ c.args.number (as_seen segment) segment.has_good_sum c.in_ok-take.ensures.ok
