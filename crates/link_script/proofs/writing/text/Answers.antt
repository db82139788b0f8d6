use Rattle.std.proofs.Common.{◌∙◌, ap}
use Rattle.std.proofs.lemmas.Result.{IfOk-weaker}
use Rattle.link_script.specs.Reading.{reading}
use Rattle.link_script.proofs.RoundTrip.{text_again}
use Rattle.link_script.proofs.ReadRanges.{read_has_ranges}
use Rattle.link_script.proofs.writing.text.Goals as goal

pub returns-clause-again : goal.returns-clause-again
returns-clause-again c = λ said.
    IfOk-weaker c.write_script.result _ _ (λ text same. ap reading same ∙ text_again c.args.script.now (read_has_ranges said.0 c.args.script.now said.1)) c.write_script.ensures
