use Rattle.std.proofs.Common.{ap, ◌∙◌}
use Rattle.std.specs.Ptr.{as_ptr}
use Rattle.segment_wire.specs.OptionFront.{octets_alone}
use Rattle.segment_wire.proofs.Iterating.{octets_alone-placed_options}
use Rattle.segment_wire.proofs.reading.SegmentRef.options.Goals as goal

pub returns-clause-octets : goal.returns-clause-octets
returns-clause-octets c = ap octets_alone c.of.ensures ∙ octets_alone-placed_options (as_ptr c.args.self.now.options) c.args.self.now.options.now
