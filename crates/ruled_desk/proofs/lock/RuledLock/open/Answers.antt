use Rattle.ruled_desk.proofs.Words.{sym, ◌∙◌, ap, subst, [], ◌∷◌, ◌++◌, Some, opening, IsRuled, first_view}
use Rattle.ruled_desk.proofs.RuleSteps.{opens}
use Rattle.ruled_desk.proofs.lock.RuledLock.open.Goals as goal

pub new-requires : goal.new-requires
new-requires g c =
    subst (λ xs. IsRuled c.of-key.result.value (opening (0 ∷ 0 ∷ 0 ∷ []) xs first_view))
    (sym (c.push_reserved.ensures.items ∙ ap (λ xs. xs ++ Some c.new-held.result ∷ []) c.in-Ok.ensures.items ∙ ap (λ b. Some b ∷ []) (sym c.of-key.ensures)))
    (opens c.of-key.result.value)

pub taken_back-requires-after_bounds : goal.taken_back-requires-after_bounds
taken_back-requires-after_bounds g c = λ κs bounds.
    (c.new-held.result, c.in-Err-new.ensures.err ∙ (c.push_reserved.ensures.items ∙ ap (λ xs. xs ++ Some c.new-held.result ∷ []) c.in-Ok.ensures.items))
