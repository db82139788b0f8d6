use Rattle.seen_streams.specs.Shows.{lane_of, mapped_of, stream_of}
use Rattle.seen_streams.proofs.Learning.{line_kept}
use Rattle.seen_streams.proofs.line.keep_line.Goals as goal

pub returns : goal.returns
returns c =
    line_kept c.args.teller.now c.args.place c.args.line (mapped_of c.args.stream.now c.args.lane.now c.args.learnt.now) (stream_of c.start.new.stream)
    (stream_of c.keep_infinite.new.self) (lane_of c.keep_line.new.self) c.infinite.result c.infinite_after.result c.in_ok-start.ensures c.infinite.ensures
    c.infinite_after.ensures c.keep_infinite.ensures c.keep_line.ensures
