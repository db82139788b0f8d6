use Rattle.std.proofs.Common.{◌∙◌, ap}
use Rattle.world_core.specs.Hearing.{told_by, with_told}
use Rattle.world_core.proofs.Showing.{told_both}
use Rattle.world_core.proofs.hearing.told_later.Goals as goal

pub returns : goal.returns
returns c =
    c.with.ensures ∙ ap (λ more. with_told more c.args.told) (c.told_by.ensures ∙ ap told_by c.notes_from.ensures)
    ∙ told_both c.args.steps c.args.notes.now c.args.told c.requires
