use Rattle.std.proofs.Common.{◌∙◌}
use Rattle.world_core.proofs.Lists.{all_over_is}
use Rattle.world_core.proofs.round_end.all_over.Goals as goal

pub returns : goal.returns
returns c = c.each_is_over.ensures ∙ all_over_is c.args.crew.now
