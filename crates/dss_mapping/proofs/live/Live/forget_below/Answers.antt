use Rattle.std.proofs.Common.{List, sym, subst}
use Rattle.std.specs.List.Sorted.{IsNonDecreasingBy}
use Rattle.std.proofs.lemmas.List.Kept.{IsNonDecreasingBy-filter}
use Rattle.dss_mapping.specs.declared.kept.KeptMapping.{KeptMapping}
use Rattle.dss_mapping.specs.Live.{end_of, ends_after}
use Rattle.dss_mapping.proofs.live.Live.forget_below.Goals as goal

pub invariant_of-self : goal.invariant_of-self
invariant_of-self c =
    subst (λ (live : List KeptMapping). IsNonDecreasingBy end_of live) (sym c.let_first_go.ensures.items)
    (IsNonDecreasingBy-filter end_of (ends_after c.args.pos) c.self.inside.rising.items c.self.invariant)
