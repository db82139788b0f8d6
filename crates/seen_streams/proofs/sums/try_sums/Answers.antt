use Rattle.std.proofs.Common.{◌∙◌, List, ap}
use Rattle.std.proofs.lemmas.Result.{on_ok_weaker}
use Rattle.seen_streams.specs.declared.told.Waiting.{Waiting}
use Rattle.seen_streams.specs.Shows.{LaneKept, lane_of, stream_of}
use Rattle.seen_streams.specs.Sums.{still_waiting, tried_sums}
use Rattle.seen_streams.specs.Waits.{all_waiting}
use Rattle.seen_streams.proofs.sums.try_sums.Goals as goal

pub returns-clause-stream : goal.returns-clause-stream
returns-clause-stream c =
    on_ok_weaker c.try_waits.result
    (λ is. is ∙ ap (λ (lane : LaneKept). tried_sums c.args.packet c.args.first (lane_of lane).octet (lane_of lane).waiting (stream_of c.args.stream.now))
    c.lane.view_is)
    c.try_waits.ensures.stream

pub returns-clause-lane : goal.returns-clause-lane
returns-clause-lane c =
    let kept : LaneKept = record {
      octets = c.lane.inside.octets;
      seen = c.lane.inside.seen;
      places = c.lane.inside.places;
      line = c.lane.inside.line;
      top = c.lane.inside.top;
      fin = c.lane.inside.fin;
      acknowledged = c.lane.inside.acknowledged;
      summed = c.lane.inside.summed.items;
      waiting = all_waiting c.lane.inside.waits;
    } in
    on_ok_weaker c.try_waits.result
    (λ is. ap (λ (waiting : List Waiting). record (lane_of kept) { waiting = waiting }) is
    ∙ ap (λ (lane : LaneKept). still_waiting (lane_of lane)) c.lane.view_is)
    c.try_waits.ensures.waits
