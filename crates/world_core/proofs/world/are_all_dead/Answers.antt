use Rattle.std.proofs.Common.{◌∙◌}
use Rattle.world_core.proofs.Lists.{are_all_dead_is}
use Rattle.world_core.proofs.world.are_all_dead.Goals as goal

pub returns : goal.returns
returns c = c.none_is_live.ensures ∙ are_all_dead_is c.args.crew.now
