use Rattle.std.proofs.Common.{◌∙◌, ap, sym}
use Rattle.dss_mapping.specs.Learning.{learned}
use Rattle.dss_mapping.proofs.Answered.{learned-skipped}
use Rattle.dss_mapping.proofs.mappings.Mappings.learn_held.Goals as goal

pub returns-in-Some-clause-mappings : goal.returns-in-Some-clause-mappings
returns-in-Some-clause-mappings c =
    c.learn_kept.ensures.mappings
    ∙ ap (learned c.in-Some.kept) c.take_first.ensures.after
    ∙ learned-skipped c.in-Some.kept c.args.self.now.mappings (sym c.take_first.ensures.value ∙ c.in-Some.is)
