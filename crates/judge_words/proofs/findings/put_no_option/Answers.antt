use Rattle.std.proofs.Common.{ℕ, ◌∙◌, ◌++◌, List, ap, codes, string_bytes}
use Rattle.std.proofs.lemmas.Result.{on_ok_weaker}
use Rattle.judge_words.specs.Words.{no_option_words}
use Rattle.judge_words.proofs.findings.put_no_option.Goals as goal

pub returns : goal.returns
unfolding no_option_words
returns c =
    on_ok_weaker c.write.result
    (λ wrote. wrote ∙ ap (λ (digits : List ℕ). string_bytes c.args.text.now ++ (codes "no option reads " ++ digits)) c.in_ok-octets.ensures)
    c.write.ensures.bytes
