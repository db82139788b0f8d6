use Rattle.std.proofs.Common.{◌∙◌, ◌++◌, List, ℕ, ap}
use Rattle.std.specs.Prelude.{codes}
use Rattle.std.specs.Fmt.{decimal}
use Rattle.std.proofs.lemmas.List.{append_assoc}
use Rattle.std.proofs.lemmas.Result.{IfOk-weaker}
use Rattle.judge_call.specs.Streams.{stream_name}
use Rattle.judge_call.proofs.streams.stream_name.Goals as goal

pub returns : goal.returns
unfolding stream_name
returns c =
    let named = λ (word : List ℕ). c.args.prefix.now ++ (codes "-" ++ (decimal c.args.number ++ (codes "-" ++ word))) in
    IfOk-weaker c.format.result _ _ (λ name is. is ∙ ap named c.word-side.ensures ∙ simp append_assoc) c.format.ensures.ok
