use Rattle.link_script.proofs.ReadRanges.{is_read}
use Rattle.link_script.proofs.reading.parse.Goals as goal

pub returns-clause-ranges : goal.returns-clause-ranges
returns-clause-ranges c = is_read c.args.bytes.now c.read_script.result c.read_script.ensures
