use Rattle.std.proofs.Common.{◌≡◌, ◌∙◌, ℕ, ◌-◌, ap, arith}
use Rattle.seen_streams.specs.Content.{earlier, shown_from}
use Rattle.seen_streams.specs.Shows.{lane_of, stream_of}
use Rattle.seen_streams.specs.State.{place_of}
use Rattle.seen_streams.proofs.Walks.{nothing_yet, shown_on}
use Rattle.seen_streams.proofs.content.show_earlier.Goals as goal

pub loop-position-init : goal.loop-position-init
loop-position-init c =
    let lane = lane_of c.args.lane.now in
    record {
      begun = omega arith;
      within = omega arith;
      shown = nothing_yet (place_of lane) (earlier c.args.learnt.now.mappings.items c.args.learnt.now.has_line lane) c.args.shower.now.acknowledged
          c.args.shower.now.packet c.args.from (stream_of c.args.stream.now);
    }

pub loop-position-preserved : goal.loop-position-preserved
loop-position-preserved c =
    let lane = lane_of c.args.lane.now in
    let so_far = c.loop-position.invariant in
    let next = c.in_ok-position.ensures in
    record {
      begun = omega (arith, so_far.begun, next.further);
      within = omega (arith, next.within);
      shown = shown_on (place_of lane) (earlier c.args.learnt.now.mappings.items c.args.learnt.now.has_line lane) c.args.shower.now.acknowledged
          c.args.shower.now.packet c.args.from c.loop-position.position c.in_ok-position.position (stream_of c.args.stream.now) _ _ so_far.begun
          (omega (arith, next.further)) so_far.shown next.shown;
    }

pub returns : goal.returns
returns c =
    let lane = lane_of c.args.lane.now in
    let end : c.loop-position.position - c.args.from ≡ c.args.to - c.args.from =
    omega (arith, c.loop-position.invariant.begun, c.loop-position.invariant.within, c.loop-position-test.false) in
    c.loop-position.invariant.shown
    ∙ ap (λ (n : ℕ). shown_from (place_of lane) (earlier c.args.learnt.now.mappings.items c.args.learnt.now.has_line lane) c.args.shower.now.acknowledged
    c.args.shower.now.packet c.args.from n (stream_of c.args.stream.now)) end
