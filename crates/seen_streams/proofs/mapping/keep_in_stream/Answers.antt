use Rattle.std.proofs.Common.{◌∙◌, ap}
use Rattle.seen_streams.specs.Mapped.{mapped_to}
use Rattle.seen_streams.proofs.mapping.keep_in_stream.Goals as goal

pub returns : goal.returns
returns c = c.map_to.ensures ∙ ap (mapped_to c.args.packet c.args.mapping.now) c.in_ok-start.ensures
