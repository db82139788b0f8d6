use Rattle.std.proofs.Common.{sym, ◌∙◌, ap}
use Rattle.dss_mapping.proofs.Shown.{not-told}
use Rattle.dss_mapping.proofs.mappings.Mappings.mapping_at.Goals as goal

pub returns-in-None : goal.returns-in-None
returns-in-None c =
    not-told c.self.inside.runs.items c.self.inside.tail c.self.inside.live.kept c.self.inside.forgotten c.self.inside.held.items c.args.self.now.mappings c.args.pos (ap (λ v. v.mappings) c.self.view_is)
    c.self.invariant.4 (sym c.place_of.ensures ∙ c.in-None.is)
