use Rattle.std.proofs.Common.{ap, ◌∙◌, codes}
use Rattle.std.proofs.lemmas.Result.{IfOk-weaker}
use Rattle.run_words.specs.Form.{with_option}
use Rattle.run_words.proofs.form.with_options.Goals as goal

pub returns : goal.returns
returns c =
    let rounds = c.in_ok-form-2.ensures ∙ ap (with_option (codes "rounds")) c.in_ok-form.ensures in
    let order = c.in_ok-form-3.ensures ∙ ap (with_option (codes "order")) rounds in
    IfOk-weaker c.with_option-4.result _ _ (λ made e. e ∙ ap (with_option (codes "number")) order) c.with_option-4.ensures
