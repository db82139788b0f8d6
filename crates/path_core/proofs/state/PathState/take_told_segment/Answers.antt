use Rattle.path_core.proofs.Words.{◌≡◌, sym, ap, subst, ◌∙◌, OnOk, HeardSegment, heard_value, IsHeardShort, told_at, options_heard, PathEnd}
use Rattle.path_core.proofs.state.PathState.take_told_segment.Goals as goal

pub returns-clause-ok : goal.returns-clause-ok
returns-clause-ok c =
    let said = heard_value c.args.heard.now in
    subst (λ (h : HeardSegment). OnOk c.take_segment.result (c.take_segment.new.self ≡ told_at c.args.now c.args.side h c.args.self.now))
    (c.options_heard-heard.ensures ∙ ap (λ (e : PathEnd). options_heard e said) (c.behind-self.view_is ∙ c.end.ensures)) c.take_segment.ensures.ok

pub take_segment-requires-clause-short : goal.take_segment-requires-clause-short
take_segment-requires-clause-short c =
    subst (λ (h : HeardSegment). IsHeardShort h) (sym c.options_heard-heard.ensures)
    (record { payload = c.requires.short.payload; position = c.requires.short.position })
