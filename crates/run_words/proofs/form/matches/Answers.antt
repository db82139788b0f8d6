use Rattle.std.proofs.Common.{◌∙◌, ap, subst, map, [], string_bytes, ◌≡◌}
use Rattle.clap.specs.Words.{found_of}
use Rattle.clap.specs.Simple.{matches_of, is_simple}
use Rattle.clap.specs.Faults.{fault_of, is_simple_and_free}
use Rattle.run_words.proofs.Walks.{are_texts, form_is_simple}
use Rattle.run_words.proofs.Lookups.{line_taken, line_refused, usage_is_a_fault}
use Rattle.run_words.proofs.form.matches.Goals as goal

pub returns-in-Ok-try_get_matches_from-clause-ok :
    goal.returns-in-Ok-try_get_matches_from-clause-ok
returns-in-Ok-try_get_matches_from-clause-ok c =
    let form = c.in-Ok.ensures in
    let words = map string_bytes c.args.words.now in
    let answer = c.in-Ok-try_get_matches_from.ensures in
    let none = subst (λ a. fault_of a words ≡ []) form (answer.kinds (ap is_simple_and_free form ∙ form_is_simple)) in
    let same = (answer.matches (ap is_simple form)).0 ∙ ap (λ a. matches_of a words) form in
    line_taken words (found_of c.in-Ok-try_get_matches_from.matches) (are_texts c.args.words.now) none same

pub returns-in-Err-clause-usage : goal.returns-in-Err-clause-usage
returns-in-Err-clause-usage c usage =
    let form = c.in-Ok.ensures in
    let words = map string_bytes c.args.words.now in
    let kinds = c.in-Err.ensures.kinds (ap is_simple_and_free form ∙ form_is_simple) in
    let fault = usage_is_a_fault _ _ _ c.fault_by.ensures usage kinds in
    line_refused words (are_texts c.args.words.now) (λ none. fault (ap (λ a. fault_of a words) form ∙ none))
