use Rattle.std.proofs.Common.{◌≡◌, ◌∙◌, true, false, rules}
use Rattle.seen_streams.specs.Shows.{lane_of, stream_of}
use Rattle.seen_streams.specs.State.{place_of}
use Rattle.seen_streams.proofs.Walks.{all_seen, both_ok, not_mapped, not_seen}
use Rattle.seen_streams.proofs.content.show_next.Goals as goal

pub returns-then-not-mapped-clause-shown : goal.returns-then-not-mapped-clause-shown
returns-then-not-mapped-clause-shown c =
    let lane = lane_of c.args.lane.now in
    let none : c.mapped_from-mapped.result.marked ≡ false = search rules in
    not_mapped c.args.learnt.now.mappings.items c.args.learnt.now.has_line lane (place_of lane) c.args.shower.now.acknowledged c.args.shower.now.packet
    c.args.from c.args.to (stream_of c.args.stream.now) c.mapped_from-mapped.result c.mapped_from-mapped.ensures none

pub returns-then-not-seen-clause-shown : goal.returns-then-not-seen-clause-shown
returns-then-not-seen-clause-shown c =
    let lane = lane_of c.args.lane.now in
    let none : c.seen_from-seen.result.marked ≡ false = search rules in
    not_seen c.args.learnt.now.mappings.items c.args.learnt.now.has_line lane (place_of lane) c.args.shower.now.acknowledged c.args.shower.now.packet
    c.args.from c.mapped_from-mapped.result.end (stream_of c.args.stream.now) c.seen_from-seen.result c.seen_from-seen.ensures none

pub returns-clause-shown : goal.returns-clause-shown
returns-clause-shown c =
    let lane = lane_of c.args.lane.now in
    let all : c.mapped_from-mapped.result.marked ≡ true = search rules in
    let there : c.seen_from-seen.result.marked ≡ true = search rules in
    both_ok c.show_seen.result _ _ _
    (λ end within shown. shown
    ∙ all_seen c.args.learnt.now.mappings.items c.args.learnt.now.has_line lane (place_of lane) c.args.shower.now.acknowledged c.args.shower.now.packet
    c.args.from c.args.to (stream_of c.args.stream.now) c.mapped_from-mapped.result c.seen_from-seen.result end c.mapped_from-mapped.ensures all
    c.seen_from-seen.ensures there within)
    c.show_seen.ensures.within c.show_seen.ensures.shown
