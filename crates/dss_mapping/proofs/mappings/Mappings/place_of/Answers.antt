use Rattle.std.proofs.Common.{ap, ◌∙◌}
use Rattle.dss_mapping.specs.Kept.{place_by}
use Rattle.dss_mapping.proofs.Shown.{place-shown}
use Rattle.dss_mapping.proofs.mappings.Mappings.place_of.Goals as goal

pub returns : goal.returns
returns c =
    c.place_at.ensures ∙ ap (λ runs. place_by runs c.self.inside.tail c.args.pos) c.as_slice.ensures.value
    ∙ place-shown c.self.inside.runs.items c.self.inside.tail c.self.inside.live.kept c.self.inside.forgotten c.self.inside.held.items c.args.self.now.mappings c.args.pos (ap (λ v. v.mappings) c.self.view_is)
