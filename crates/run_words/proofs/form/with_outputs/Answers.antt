use Rattle.std.proofs.Common.{ap, ◌∙◌, codes}
use Rattle.std.proofs.lemmas.Result.{IfOk-weaker}
use Rattle.run_words.specs.Form.{with_name}
use Rattle.run_words.proofs.form.with_outputs.Goals as goal

pub returns : goal.returns
returns c =
    IfOk-weaker c.with_name-2.result _ _ (λ made e. e ∙ ap (with_name (codes "read_by_a")) c.in_ok-form.ensures) c.with_name-2.ensures
