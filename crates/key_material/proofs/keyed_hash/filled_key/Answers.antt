use Rattle.std.proofs.Common.{◌++◌, length, ap}
use Rattle.std.proofs.lemmas.List.{drop-replicate}
use Rattle.key_material.proofs.keyed_hash.filled_key.Goals as goal

pub returns : goal.returns
returns c =
    let key = c.args.key.now in
    rw (c.copy_from_slice.ensures.after) (ap (λ rest. key ++ rest) (drop-replicate (length key) 64 0))
