use Rattle.std.proofs.Common.{List, map, option_map, ℕ, ◌∙◌, subst, [], ◌∷◌, Err}
use Rattle.std.proofs.lemmas.Result.{err_from_is_err_and}
use Rattle.outside_kit.specs.Calls as call
use Rattle.outside_kit.specs.declared.port.Port.TheVariants as port
use Rattle.rule_book.specs.State.{book_of, judged_of}
use Rattle.rule_book.specs.declared.book.Book.{Book}
use Rattle.capture_verdict.specs.Report.{report_words}
use Rattle.judge_call.specs.Plan.{AddsAll, Does, Follows, puts_of, steps_if}
use Rattle.judge_call.proofs.Planned.{follows_longer, follows_none, follows_then}
use Rattle.judge_call.proofs.judging.put_all.Goals as goal

pub returns-in_err-text : goal.returns-in_err-text
returns-in_err-text g c =
    let p = err_from_is_err_and c.from_residual.result c.from_residual.ensures.1 in
    rw (p.1, p.2) (follows_none (puts_of (option_map (λ text. text.now) c.args.prefix) (judged_of c.args.judged.now)) (g.O.Outside.told c.args.outside.now).calls)

pub returns-in_err-put : goal.returns-in_err-put
returns-in_err-put g c =
    let old = (g.O.Outside.told c.args.outside.now).calls in
    let new = (g.O.Outside.told c.put.new.outside).calls in
    let p = err_from_is_err_and c.from_residual-in_err-put.result c.from_residual-in_err-put.ensures.1 in
    rw (p.1, p.2) (follows_longer (Does (call.Put port.Log (report_words (judged_of c.args.judged.now))) ∷ []) (steps_if (option_map (λ text. text.now) c.args.prefix) (judged_of c.args.judged.now).books) old new c.in_err-put.field-0.0
    (subst (λ (piece : List ℕ). Follows (Does (call.Put port.Log piece) ∷ []) old new (Err c.in_err-put.field-0.0)) (c.as_bytes.ensures.value ∙ c.in_ok-text.ensures)
    c.in_err-put.ensures))

pub returns : goal.returns
returns g c =
    let old = (g.O.Outside.told c.args.outside.now).calls in
    let middle = (g.O.Outside.told c.put.new.outside).calls in
    let new = (g.O.Outside.told c.put_if_asked.new.outside).calls in
    let prefix = option_map (λ text. text.now) c.args.prefix in
    follows_then (Does (call.Put port.Log (report_words (judged_of c.args.judged.now))) ∷ []) (steps_if prefix (judged_of c.args.judged.now).books) old middle new c.put_if_asked.result
    (subst (λ (piece : List ℕ). AddsAll (Does (call.Put port.Log piece) ∷ []) old middle) (c.as_bytes.ensures.value ∙ c.in_ok-text.ensures) c.in_ok-put.ensures.done)
    (subst (λ (books : List Book). Follows (steps_if prefix (map book_of books)) middle new c.put_if_asked.result) c.deref.ensures.value c.put_if_asked.ensures)
