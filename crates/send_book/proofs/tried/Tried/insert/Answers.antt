use Rattle.std.proofs.Common.{◌<◌, length, arith}
use Rattle.send_book.proofs.PathSets.{insert-set_at}
use Rattle.send_book.proofs.tried.Tried.insert.Goals as goal

pub returns : goal.returns
returns c =
    let within : c.from.result < length c.self.inside.paths = grind (arith, c.from.ensures, c.requires) in
    insert-set_at _ _ _ _ c.from.ensures c.self.view_is within
