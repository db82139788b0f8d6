-- The woven order makes what was made.
use Rattle.std.proofs.Common.{◌≡◌, sym, subst}
use Rattle.path_core.specs.Codec.{Codec}
use Rattle.world_laws.specs.Weaving.{steps_by}
use Rattle.world_laws.specs.Worlds.{AreLawful, world_run}
use Rattle.world_laws.proofs.Weaving.WholeRounds.{woven_does}
use Rattle.journal_weave.specs.Laws.{WovenOrderDoes}

pub order_does : {C : Type 0} (k : Codec C) → WovenOrderDoes k
order_does k top w v order begins stepped grew paired is =
    subst (λ actors. AreLawful k (steps_by actors) w × (world_run k (steps_by actors) w ≡ v)) (sym is)
    (woven_does k top w v begins (record { crew = stepped; books = grew; paired = paired }))
