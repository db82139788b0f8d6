use Rattle.run_log.proofs.Words.{ℕ, List, subst, ParsesUnsigned}
use Rattle.std.proofs.lemmas.Result.{MatchResult-at_ok}
use Rattle.run_log.proofs.Numerals.{text_of_number, parsed}
use Rattle.run_log.proofs.field.small_value.Goals as goal

pub unwrap-digits-requires : goal.unwrap-digits-requires
unwrap-digits-requires c = text_of_number _ c.args.number.now c.from_utf8.result c.requires c.from_utf8.ensures.cases

pub returns : goal.returns
returns c =
    let same = MatchResult-at_ok _ _ c.unwrap-digits.result c.unwrap-digits.ensures c.from_utf8.ensures.cases in
    let read = subst (λ (word : List ℕ). ParsesUnsigned 8 10 word c.parse.result) same.0 c.parse.ensures.value.0 in
    rw c.ok.ensures.value (parsed c.args.number.now c.parse.result c.requires read)
