use Rattle.std.proofs.Common.{ℕ, ◌∙◌, ◌++◌, List, ap, codes, string_bytes}
use Rattle.std.proofs.lemmas.Result.{on_ok_weaker}
use Rattle.hex.specs.Hex.{encode_lower}
use Rattle.judge_words.specs.Words.{no_position_words}
use Rattle.judge_words.proofs.findings.put_no_position.Goals as goal

pub returns : goal.returns
unfolding no_position_words
returns c =
    on_ok_weaker c.write.result
    (λ wrote.
    wrote ∙ ap (λ (digits : List ℕ). string_bytes c.args.text.now ++ (codes "relative number " ++ digits ++ codes " is no position"))
    (c.in_ok-relative.ensures ∙ ap encode_lower c.to_be_bytes.ensures))
    c.write.ensures.bytes
