use Rattle.std.proofs.Common.{ap, ◌∙◌, codes}
use Rattle.std.proofs.lemmas.Result.{IfOk-weaker}
use Rattle.run_words.specs.Form.{with_name}
use Rattle.run_words.proofs.form.with_inputs.Goals as goal

pub returns : goal.returns
returns c =
    let file_a = c.in_ok-form-2.ensures ∙ ap (with_name (codes "file_a")) c.in_ok-form.ensures in
    IfOk-weaker c.with_name-3.result _ _ (λ made e. e ∙ ap (with_name (codes "file_b")) file_a) c.with_name-3.ensures
