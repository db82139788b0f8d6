use Rattle.subflow_tcp.specs.Segments.{copy_of}
use Rattle.path_core.proofs.Judgements.{taken_for}
use Rattle.path_core.proofs.arrival.take_meant.Goals as goal

pub take_segment-requires : goal.take_segment-requires
take_segment-requires c = taken_for c.args.meaning (copy_of c.args.arriving.now) c.args.tcp.now c.requires.taken c.requires.some
