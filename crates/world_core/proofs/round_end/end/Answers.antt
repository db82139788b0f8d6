use Rattle.std.proofs.Common.{sym, ◌∙◌, ap}
use Rattle.world_laws.specs.Worlds.{all_over}
use Rattle.world_core.proofs.Ending.{all_ready}
use Rattle.world_core.proofs.round_end.end.Goals as goal

pub begin_all-requires : goal.begin_all-requires
begin_all-requires c =
    all_ready c.args.crew.now.items c.requires (ap all_over (sym c.deref.ensures.value) ∙ sym c.all_over.ensures ∙ c.if-not-all_over.false)
