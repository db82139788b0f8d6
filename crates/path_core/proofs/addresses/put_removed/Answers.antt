use Rattle.path_core.proofs.Words.{ap, length, map, drop, length-append, arith, length-map, length-drop, item_removed}
use Rattle.path_core.proofs.addresses.put_removed.Goals as goal

pub put_notice-requires : goal.put_notice-requires
put_notice-requires c =
    let ids = c.args.ids.now in let left = drop c.loop-id.id-index ids in
    let some = c.loop-id-test.true in let room = c.requires in
    omega (
      arith,
      some,
      room,
      ap length c.loop-id.invariant,
      length-append c.loop-id.items.items (map item_removed left),
      length-append c.args.items.now.items (map item_removed ids),
      length-map left item_removed,
      length-map ids item_removed,
      length-drop c.loop-id.id-index ids,
    )
