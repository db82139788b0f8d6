use Rattle.path_core.proofs.Words.{ap, ◌∙◌, ℕ, length}
use Rattle.link_model.specs.Steps.{segment_fate}
use Rattle.path_core.proofs.state.PathState.fate_now.Goals as goal

pub returns : goal.returns
returns c =
    c.segment_fate.ensures
    ∙ ap (λ (tick : ℕ). segment_fate c.args.from c.args.number (length c.args.octets.now) tick c.self.inside.link) c.now.ensures.value
    ∙ ap (λ p. segment_fate c.args.from c.args.number (length c.args.octets.now) p.clock p.link) c.self.view_is
