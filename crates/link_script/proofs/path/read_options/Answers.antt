use Rattle.std.proofs.Common.{refl, arith}
use Rattle.std.proofs.lemmas.Result.{err_from_is_err_and}
use Rattle.link_script.specs.Lines.{path_options}
use Rattle.link_script.proofs.Slices.{two_words, three_words}
use Rattle.link_script.proofs.path.read_options.Goals as goal

pub returns-in_err-expect_word-in-len2 : goal.returns-in_err-expect_word-in-len2
unfolding path_options
returns-in_err-expect_word-in-len2 c =
    let exit = c.from_residual-in_err-expect_word-in-len2 in
    let p = err_from_is_err_and exit.result exit.ensures.1 in
    rw (p.1, p.2, two_words c.args.options.now (omega arith), ← c.in_err-expect_word-in-len2.ensures) refl

pub returns-in_err-expect_word-in-len3 : goal.returns-in_err-expect_word-in-len3
unfolding path_options
returns-in_err-expect_word-in-len3 c =
    let exit = c.from_residual-in_err-expect_word-in-len3 in
    let p = err_from_is_err_and exit.result exit.ensures.1 in
    rw (p.1, p.2, three_words c.args.options.now (omega arith), ← c.in_err-expect_word-in-len3.ensures) refl
