use Rattle.std.proofs.Common.{ap, ◌∙◌}
use Rattle.std.proofs.lemmas.Result.{IfOk-weaker}
use Rattle.run_words.specs.Form.{with_options, with_inputs, with_outputs}
use Rattle.run_words.proofs.form.line_form.Goals as goal

pub returns : goal.returns
returns c =
    let options = c.in_ok-form.ensures ∙ ap with_options c.plain_form.ensures in
    let inputs = c.in_ok-form-2.ensures ∙ ap with_inputs options in
    IfOk-weaker c.with_outputs.result _ _ (λ made e. e ∙ ap with_outputs inputs) c.with_outputs.ensures
