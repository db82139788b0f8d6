use Rattle.std.proofs.Common.{Option, sym, ap, ◌∙◌}
use Rattle.std.specs.Prelude.{find}
use Rattle.std.specs.Option.{option_or}
use Rattle.std.proofs.lemmas.List.Folds.{find-append}
use Rattle.dss_mapping.specs.declared.kept.KeptMapping.{KeptMapping}
use Rattle.dss_mapping.specs.Runs.{covers}
use Rattle.dss_mapping.specs.Mappings.{run_of}
use Rattle.dss_mapping.proofs.live.Live.first_at.Goals as goal

pub returns-in-Some : goal.returns-in-Some
returns-in-Some c =
    let covering = λ (kept : KeptMapping). covers c.args.pos (run_of kept) in
    rw (← c.self.view_is)
    (sym (find-append covering c.self.inside.rising.items c.self.inside.later.items
    ∙ ap (λ (first : Option KeptMapping). option_or first (find covering c.self.inside.later.items)) (sym c.first_of.ensures ∙ c.in-Some.is)))

pub returns-in-None : goal.returns-in-None
returns-in-None c =
    let covering = λ (kept : KeptMapping). covers c.args.pos (run_of kept) in
    rw (← c.self.view_is)
    (c.first_later.ensures ∙ ap (find covering) c.as_slice.ensures.value
    ∙ sym (find-append covering c.self.inside.rising.items c.self.inside.later.items
    ∙ ap (λ (first : Option KeptMapping). option_or first (find covering c.self.inside.later.items)) (sym c.first_of.ensures ∙ c.in-None.is)))
