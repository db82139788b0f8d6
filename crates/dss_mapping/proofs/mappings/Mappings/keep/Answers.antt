use Rattle.std.proofs.Common.{ap, subst, sym, rules}
use Rattle.dss_mapping.specs.Kept.{AgreeAmong, ArePlaced}
use Rattle.dss_mapping.proofs.Placed.{placed_more}
use Rattle.dss_mapping.proofs.Shown.{agree-shown}
use Rattle.dss_mapping.proofs.mappings.Mappings.keep.Goals as goal

pub put_in-requires-clause-agree : goal.put_in-requires-clause-agree
put_in-requires-clause-agree c =
    subst (λ run. AgreeAmong run c.self.inside.runs.items) (sym c.run.ensures.value)
    (agree-shown c.self.inside.runs.items c.self.inside.tail c.self.inside.live.kept c.self.inside.forgotten c.self.inside.held.items c.args.self.now.mappings _ (ap (λ v. v.mappings) c.self.view_is) c.requires.agree)

pub invariant_of-self : goal.invariant_of-self
invariant_of-self c = (
  record { ordered = c.put_in.ensures.ordered; fewest = c.put_in.ensures.fewest; sound = c.self.invariant.0.sound },
  search rules,
  search rules,
  c.self.invariant.3,
  subst (λ live. ArePlaced c.put_in.new.runs.items live) (sym c.push.ensures.kept)
      (placed_more c.args.kept c.run.result c.self.inside.runs.items c.put_in.new.runs.items c.self.inside.live.kept c.run.ensures.value c.put_in.ensures.places c.self.invariant.4),
)
