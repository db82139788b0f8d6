use Rattle.std.proofs.Common.{◌∙◌, ap, sym}
use Rattle.dss_mapping.specs.declared.learn.Learn.TheVariants.{New}
use Rattle.dss_mapping.specs.declared.run.Run.{Run}
use Rattle.dss_mapping.specs.Learning.{clash_of, answer_by}
use Rattle.dss_mapping.proofs.Answered.{learned-by}
use Rattle.dss_mapping.proofs.mappings.Mappings.learn_kept.Goals as goal

pub returns-in-New-clause-mappings : goal.returns-in-New-clause-mappings
returns-in-New-clause-mappings c =
    c.keep.ensures.mappings
    ∙ learned-by New c.args.kept c.args.self.now.mappings (sym c.in-New.is ∙ c.answer.ensures.value
    ∙ ap (λ (run : Run). answer_by (clash_of run c.args.self.now.mappings) run c.args.self.now.mappings) c.run.ensures.value)
