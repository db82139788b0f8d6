use Rattle.std.proofs.Common.{refl, ◌∙◌}
use Rattle.send_book.specs.State.{Tile}
use Rattle.send_book.proofs.KeptMarks.{tile}
use Rattle.send_book.proofs.Sums.{marks_add_up}
use Rattle.send_book.proofs.book.marks_tile.Goals as goal

pub returns : goal.returns
returns c =
    let tiled : Tile c.args.book.now = tile _ c.args.book.now _ c.book.inside.marks c.book.invariant c.book.view_is refl refl in
    record { tile = tiled; sum = marks_add_up _ ∙ tiled.whole }
