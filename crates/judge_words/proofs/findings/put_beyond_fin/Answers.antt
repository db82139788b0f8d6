use Rattle.std.proofs.Common.{◌∙◌}
use Rattle.std.proofs.lemmas.List.{append_assoc}
use Rattle.std.proofs.lemmas.Result.{on_ok_weaker}
use Rattle.judge_words.specs.Words.{beyond_fin_words}
use Rattle.judge_words.proofs.findings.put_beyond_fin.Goals as goal

pub returns : goal.returns
unfolding beyond_fin_words
returns c = on_ok_weaker c.write.result (λ wrote. wrote ∙ simp append_assoc) c.write.ensures.bytes
