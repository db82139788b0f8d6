use Rattle.std.proofs.Common.{ap, subst}
use Rattle.dss_mapping.specs.Kept.{place_by, IsStretch}
use Rattle.dss_mapping.proofs.Shown.{stretch-shown}
use Rattle.dss_mapping.proofs.mappings.Mappings.stretch_at.Goals as goal

pub returns : goal.returns
returns c =
    stretch-shown c.self.inside.runs.items c.self.inside.tail c.self.inside.live.kept c.self.inside.forgotten c.self.inside.held.items c.args.self.now.mappings c.args.at c.stretch_at.result (ap (λ v. v.mappings) c.self.view_is)
    (subst (λ runs. IsStretch (place_by runs c.self.inside.tail) c.args.at c.stretch_at.result) c.as_slice.ensures.value c.stretch_at.ensures)
