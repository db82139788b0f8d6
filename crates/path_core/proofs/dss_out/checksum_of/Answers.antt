use Rattle.path_core.proofs.Words.{[]}
use Rattle.path_core.proofs.dss_out.checksum_of.Goals as goal

pub returns : goal.returns
returns c = c.make.ensures c.args.mapping.now c.args.octets.now (c.add.ensures c.args.mapping.now [] c.new-sum.ensures)
