use Rattle.std.proofs.Common.{◌∙◌, ap, ◌||◌, ◌++◌, ◌∷◌, [], Option}
use Rattle.std.specs.HashSet.{contains}
use Rattle.link_script.specs.declared.place.Subject.{Subject}
use Rattle.link_script.specs.Settled.{same_key, has_key}
use Rattle.link_script.proofs.SettledKeys.{paths_pushed, ended_pushed, settled_pushed}
use Rattle.link_script.proofs.seen.Seen.push.Goals as goal

pub invariant_of-self-2 : goal.invariant_of-self-2
invariant_of-self-2 c =
    let before = c.self.inside.lines.items in
    let more = c.in-Ok.ensures.items ∙ ap (λ lines. lines ++ c.args.line ∷ []) c.reserve.ensures.items in (
      paths_pushed before _ c.args.line _ _ c.paths_with-self-inside.ensures c.self.invariant.0 more,
      ended_pushed before _ c.args.line _ _ c.ended_with-self-inside.ensures c.self.invariant.1 more,
      λ key. settled_pushed key before _ c.args.line (contains same_key c.self.inside.settled key) _
          (c.in_ok-settle.ensures.ok key
          ∙ ap (λ (subject : Option Subject). contains same_key c.self.inside.settled key || has_key subject key) c.settled_by.ensures)
          (c.self.invariant.2 key) more,
    )
