use Rattle.path_core.proofs.Words.{◌≡◌, inl, inr, refl, sym, ap, subst, ◌∙◌, meaning_of, IsBelow, Copy, heard_value, copy_of, IsTakenAs, Judged, taken_as}
use Rattle.path_core.proofs.Words.{PathEnd}
use Rattle.path_core.proofs.Judgements.{judged_taken}
use Rattle.path_core.proofs.end.PathEnd.judge.Goals as goal

pub returns-clause-taken : goal.returns-clause-taken
returns-clause-taken c =
    let copy = copy_of (heard_value c.args.heard.now) in
    let means : c.meaning-meaning.result ≡ meaning_of copy c.args.self.now.tcp =
    c.meaning-meaning.ensures.value
    ∙ ap (λ (arrived : Copy). meaning_of arrived c.self.inside.tcp) c.arriving_of.ensures
    ∙ ap (λ (e : PathEnd). meaning_of copy e.tcp) c.self.view_is in
    subst (λ (verdict : Judged). IsTakenAs (taken_as verdict) copy c.args.self.now.tcp) (sym c.judged_of.ensures)
    (judged_taken c.args.heard.now.rst c.args.items.now c.args.self.now (λ m. IsTakenAs m copy c.args.self.now.tcp) (inl refl) c.args.joined c.meaning-meaning.result (inr means))

pub returns-clause-below : goal.returns-clause-below
returns-clause-below c =
    subst (λ (verdict : Judged). IsBelow (taken_as verdict)) (sym c.judged_of.ensures)
    (judged_taken c.args.heard.now.rst c.args.items.now c.args.self.now IsBelow tt c.args.joined c.meaning-meaning.result c.meaning-meaning.ensures.below)
