use Rattle.std.proofs.Common.{◌∙◌, sym, ap, ℕ, ◌-◌}
use Rattle.key_material.specs.Drawing.{drawn_word}
use Rattle.key_material.proofs.Bounds.{drawn_word_below}
use Rattle.link_model.specs.Passage.{jitter_stream, ticks_drawn}
use Rattle.link_model.proofs.Plain.{none_waited}
use Rattle.link_model.proofs.passage.jitter_drawn.Goals as goal

pub returns-then-ticks-eq0-clause-value : goal.returns-then-ticks-eq0-clause-value
returns-then-ticks-eq0-clause-value c =
    let stream = jitter_stream c.args.path c.args.from in
    let word = drawn_word c.args.seed stream (c.args.number - 1) in
    sym (ap (λ (ticks : ℕ). ticks_drawn ticks word) c.if-ticks-eq0.true ∙ none_waited word (drawn_word_below c.args.seed stream (c.args.number - 1)))
