use Rattle.std.proofs.Common.{sym, subst, arith}
use Rattle.dss_mapping.specs.Kept.{ArePlaced}
use Rattle.dss_mapping.proofs.Placed.{placed_left}
use Rattle.dss_mapping.proofs.mappings.Mappings.forget_below.Goals as goal

pub invariant_of-self : goal.invariant_of-self
invariant_of-self c = (
  c.self.invariant.0,
  c.self.invariant.1,
  omega (arith, c.forget_below.ensures.ready, c.self.invariant.2),
  c.self.invariant.3,
  subst (λ live. ArePlaced c.self.inside.runs.items live) (sym c.forget_below.ensures.kept)
      (placed_left c.args.pos c.self.inside.runs.items c.self.inside.live.kept c.self.invariant.4),
)
