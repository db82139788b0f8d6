use Rattle.std.proofs.Common.{ap, not}
use Rattle.judge_rules.proofs.SameBits.{same_bits}
use Rattle.judge_rules.proofs.mappings.differ.Goals as goal

pub returns : goal.returns
returns c = ap not (same_bits c.args.one c.args.other c.ranges.one c.ranges.other)
