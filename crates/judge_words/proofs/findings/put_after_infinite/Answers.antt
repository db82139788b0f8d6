use Rattle.std.proofs.Common.{◌∙◌, w64}
use Rattle.std.proofs.lemmas.Int.{to_z-of_z}
use Rattle.std.proofs.lemmas.List.{append_assoc}
use Rattle.std.proofs.lemmas.Result.{on_ok_weaker}
use Rattle.judge_words.specs.Words.{after_infinite_words}
use Rattle.judge_words.proofs.findings.put_after_infinite.Goals as goal

pub returns : goal.returns
unfolding after_infinite_words
returns c = on_ok_weaker c.write.result (λ wrote. wrote ∙ rw (to_z-of_z w64 c.args.position c.ranges.position) (simp append_assoc)) c.write.ensures.bytes
